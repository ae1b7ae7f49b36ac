-- Names: a name is its bytes.
use Rattle.std.specs.Prelude.{◌≡◌, ℕ, ◌≤◌, false, List, length, take}
use Rattle.std.proofs.Common.{sym, ap, ◌∙◌, arith}
use mathlib.Core.HLevel.{is_prop→PathP}
use Rattle.std.proofs.Math.Bridge.{le_prop}
use base.Stored.{Coded-set, coded_list, coded_ℕ}
use Rattle.std.proofs.lemmas.List.{length-append, length-replicate, length-take}
use Rattle.keys.specs.declared.name.NameKey.{NameKey}
use Rattle.keys.specs.Bytes.{padded, bytes_first}
use Rattle.keys.specs.Names.{name_bytes}
use Rattle.keys.specs.Laws.{EqualNamesAreOne}
use Rattle.keys.specs.BytesLemmas.{bytes_total}

-- a string of at most 16 bytes is filled up to 16
pub length_padded : (a : List ℕ) → length a ≤ 16 → length (padded a) ≡ 16
length_padded a h = simp (length-append, length-replicate) (omega arith)

-- the kept bytes are 16
bytes_sixteen : (k : NameKey) → length k.bytes ≡ 16
bytes_sixteen k =
    ap length k.blank ∙ length_padded (name_bytes k) (simp length-take (omega arith))

-- a name's length is that of its bytes
pub name_length : (k : NameKey) → length (name_bytes k) ≡ k.length
name_length k = let n = bytes_sixteen k in simp length-take (omega arith)

pub equal_names_are_one : EqualNamesAreOne
equal_names_are_one a b e = λ i. record {
  length = size i;
  bytes = kept i;
  some = is_prop→PathP (λ i. 1 ≤ size i) (λ i. le_prop) a.some b.some i;
  few = is_prop→PathP (λ i. size i ≤ 16) (λ i. le_prop) a.few b.few i;
  blank = is_prop→PathP (λ i. kept i ≡ padded (take (size i) (kept i))) (λ i. Coded-set (coded_list coded_ℕ) (kept i) (padded (take (size i) (kept i)))) a.blank b.blank i;
}
  where
    size : a.length ≡ b.length
    size = sym (name_length a) ∙ ap length e ∙ name_length b

    kept : a.bytes ≡ b.bytes
    kept = a.blank ∙ ap padded e ∙ sym b.blank

-- where neither name goes first, they are one
pub names_total : (a b : NameKey) → bytes_first (name_bytes a) (name_bytes b) ≡ false → bytes_first (name_bytes b) (name_bytes a) ≡ false → a ≡ b
names_total a b p q = equal_names_are_one a b (bytes_total (name_bytes a) (name_bytes b) p q)
