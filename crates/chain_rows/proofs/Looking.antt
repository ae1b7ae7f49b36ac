-- Walks that read a field or look for an entry, over the entries of a chain.
use Rattle.std.proofs.Common.{◌≡◌, ℕ, ◌<◌, Bool, eqb, zero, suc, ◌&&◌, Option, Some, None, List, [], ◌∷◌, length, refl, ap, ◌∙◌, inl, inr, arith}
use Rattle.std.proofs.lemmas.Bool.{cases_eq}
use Rattle.std.specs.List.{list_any, slice_get}
use Rattle.std.specs.Option.{option_map, MatchOption}
use Rattle.entries.specs.Counts.{version_at}
use Rattle.order.specs.Items.{member, known, position}
use Rattle.chain_rows.specs.declared.row.EntryRow.{EntryRow}
use Rattle.fields.specs.declared.kinds.Field.{Field}
use Rattle.fields.specs.declared.kinds.Value.{Value}
use Rattle.fields.specs.Fields.{field_number}
use Rattle.entries.specs.Entries.{Entry, EachVersion, has}
use Rattle.chain_rows.specs.Chains.{entry_of}
use Rattle.chain_rows.proofs.Orders.{apart}

-- the test of an entry: it is one of the field f at the version v
abbrev pub is_at : Field → ℕ → Entry Value → Bool
is_at f v e = eqb e.version v && eqb e.field (field_number f)

-- among entries of known versions, one at the version is one at its position
pub any_has : (xs : List ℕ) → ((a : ℕ) → member xs a ≡ known xs a) → (f : Field) (v : ℕ) → v < length xs → (es : List (Entry Value)) → EachVersion (λ a. a < length xs) es
    → list_any (is_at f v) es ≡ has (position xs) (field_number f) (position xs v) es
any_has xs n f v lv [] k = refl
any_has xs n f v lv (e ∷ es) k =
    let h = any_has xs n f v lv es k.1 in
    elim (cases_eq e.version v) [
      | inl q ↦ let p : position xs e.version ≡ position xs v = ap (position xs) q in grind arith
      | inr q ↦ let p : position xs e.version ≡ position xs v → ⊥ = λ z. q (apart xs n e.version v k.0 lv z) in grind arith
    ]

-- the entry number k is there, and a number that is the version of its row is its version
pub nth_version : (es : List (Entry Value)) (k : ℕ) (r : Option EntryRow) (n : ℕ) (A : Type 0) (P : EntryRow → Type 0) → option_map entry_of r ≡ slice_get es k → k < length es
    → MatchOption r A P → ((row : EntryRow) → P row → n ≡ row.version) → n ≡ version_at es k
nth_version [] k r n A P e l m h = absurd (omega (arith, l))
nth_version (x ∷ es) zero None n A P e l m h = cc
nth_version (x ∷ es) zero (Some row) n A P e l m h = let q : entry_of row ≡ x = cc in h row m ∙ ap (λ (z : Entry Value). z.version) q
nth_version (x ∷ es) (suc k) r n A P e l m h = nth_version es k r n A P e (omega (arith, l)) m h
