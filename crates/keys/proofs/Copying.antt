-- A name's bytes copied over zeros, byte by byte: what is there after each, and that all of them are the name.
use Rattle.std.specs.Prelude.{◌≡◌, ℕ, ◌+◌, ◌-◌, ◌<◌, ◌≤◌, List, ◌++◌, length, take, drop, set, replicate, slice_index, slice_set, refl}
use Rattle.std.proofs.Common.{sym, ap, ◌∙◌, zero-add, arith}
use Rattle.std.proofs.Math.Seq.{paste}
use Rattle.std.proofs.lemmas.List.{take_at, drop-replicate}
use Rattle.std.proofs.lemmas.List.Edits.{paste_more, paste_all}
use Rattle.keys.specs.Bytes.{padded}

-- one byte more is copied over zeros
pub copied_more : (text bytes : List ℕ) (i : ℕ) → i < length text → length text ≤ 16 → bytes ≡ paste (replicate 16 0) 0 text i →
    slice_set bytes i (slice_index text i) ≡ paste (replicate 16 0) 0 text (i + 1)
copied_more text bytes i lt few h =
    ap (λ (l : List ℕ). set l i (slice_index text i)) h
    ∙ ap (λ (k : ℕ). set (paste (replicate 16 0) 0 text i) k (slice_index text i)) (sym (zero-add i))
    ∙ paste_more (replicate 16 0) 0 text i 0 (omega arith) lt

-- all of the text copied over zeros is the text, filled up
copied_all : (text : List ℕ) → paste (replicate 16 0) 0 text (length text) ≡ padded text
copied_all text = paste_all (replicate 16 0) 0 text (length text) refl ∙ ap (λ (l : List ℕ). text ++ l) (rest (length text))
  where
    zeros : ℕ → List ℕ
    zeros n = replicate n 0

    rest : (n : ℕ) → drop (0 + n) (zeros 16) ≡ zeros (16 - n)
    rest n = drop-replicate (0 + n) 16 0 ∙ ap (λ (m : ℕ). zeros (16 - m)) (omega arith)

-- the front of the filled up text is the text
front_padded : (text : List ℕ) → take (length text) (padded text) ≡ text
front_padded text = take_at text (replicate (16 - length text) 0) (length text) refl

whole_copy : (text bytes : List ℕ) (n : ℕ) → n ≡ length text → bytes ≡ paste (replicate 16 0) 0 text n → bytes ≡ padded text
whole_copy text bytes n e h = h ∙ ap (paste (replicate 16 0) 0 text) e ∙ copied_all text

-- copying ends with a name's bytes: those of the text, with zeros behind
pub copied_blank : (text bytes : List ℕ) (n : ℕ) → n ≡ length text → bytes ≡ paste (replicate 16 0) 0 text n → bytes ≡ padded (take (length text) bytes)
copied_blank text bytes n e h =
    let whole = whole_copy text bytes n e h in
    whole ∙ ap padded (sym (ap (take (length text)) whole ∙ front_padded text))

pub copied_name : (text bytes : List ℕ) (n : ℕ) → n ≡ length text → bytes ≡ paste (replicate 16 0) 0 text n → take (length text) bytes ≡ text
copied_name text bytes n e h = ap (take (length text)) (whole_copy text bytes n e h) ∙ front_padded text
