-- The lowest recorded piece of a file, as the least of its numbers.
use Rattle.std.proofs.Common.{◌≡◌, ℕ, ◌<◌, ◌≤◌, min, Bool, true, false, List, [], ◌∷◌, Some, None, Option, map, filter, unwrap_or, ap, refl, sym, subst, ◌∙◌, inl, inr, arith}
use Rattle.std.specs.Prelude.{◌==◌, ◌&&◌, nat_le}
use Rattle.std.specs.List.{fold, reduce}
use Rattle.std.proofs.lemmas.Bool.{cases_eq, cases_lt, and_left, ne_eqb, cond-true, cond-false}
use Rattle.std.proofs.lemmas.Bool.Decides.{nat_tests}
use Rattle.history.specs.declared.record.NotedPiece.{NotedPiece}
use Rattle.history.specs.Prints.{is_piece, print_at}
use Rattle.history.specs.Verdicts.{LowestFrom}
use Rattle.history.proofs.Lookups.{other_file, other_piece, own_piece, behind_first}

-- the piece is one of this file, with this number or a higher one
abbrev pub of_file_from : ℕ → ℕ → NotedPiece → Bool
of_file_from file from noted = (noted.key.file == file) && nat_le from noted.key.piece

-- the numbers of these pieces
abbrev pub numbers_from : ℕ → ℕ → List NotedPiece → List ℕ
numbers_from file from pieces = map (λ noted. noted.key.piece) (filter (of_file_from file from) pieces)

fold_min : (xs : List ℕ) (a b : ℕ) → fold min (min a b) xs ≡ min a (fold min b xs)
fold_min [] a b = refl
fold_min (x ∷ xs) a b = ap (λ n. fold min n xs) (omega arith) ∙ fold_min xs a (min b x)

-- the least of some numbers, with one more in front
least_more : (x : ℕ) (xs : List ℕ) → reduce min (x ∷ xs) ≡ Some (min x (unwrap_or (reduce min xs) x))
least_more x [] = ap Some (omega arith)
least_more x (y ∷ xs) = ap Some (fold_min xs x y)

-- the lowest stays the lowest behind a piece of no number from this one up to it
lowest_stays : (noted : NotedPiece) (pieces : List NotedPiece) (file from k : ℕ) → ((j : ℕ) → from ≤ j → j ≤ k → is_piece noted.key file j ≡ false) →
    LowestFrom (print_at pieces file) from (Some k) → LowestFrom (print_at (noted ∷ pieces) file) from (Some k)
lowest_stays noted pieces file from k other l = (
  l.0,
  (l.1.0, behind_first noted pieces file k (other k l.0 (omega arith)) ∙ l.1.1),
  λ j a b. behind_first noted pieces file j (other j a (omega arith)) ∙ l.2 j a b,
)

-- a piece of no number of the file from this one on changes nothing
other_first : (noted : NotedPiece) (pieces : List NotedPiece) (file from : ℕ) (o : Option ℕ) →
    ((j : ℕ) → from ≤ j → is_piece noted.key file j ≡ false) → LowestFrom (print_at pieces file) from o → LowestFrom (print_at (noted ∷ pieces) file) from o
other_first noted pieces file from None other l = λ j h. behind_first noted pieces file j (other j h) ∙ l j h
other_first noted pieces file from (Some k) other l = lowest_stays noted pieces file from k (λ j a b. other j a) l

-- the first piece is the lowest where none of the others is lower
first_lowest : (noted : NotedPiece) (pieces : List NotedPiece) (file from m : ℕ) → noted.key.file ≡ file → noted.key.piece ≡ m → from ≤ m →
    ((j : ℕ) → from ≤ j → j < m → print_at pieces file j ≡ None) → LowestFrom (print_at (noted ∷ pieces) file) from (Some m)
first_lowest noted pieces file from m e is h none = (
  h,
  (noted.print, own_piece noted pieces file m e is),
  λ j a b. behind_first noted pieces file j (other_piece noted.key file j (λ q. omega arith)) ∙ none j a b,
)

-- the lower one of the first piece and the lowest of the others
lower_first : (noted : NotedPiece) (pieces : List NotedPiece) (file from : ℕ) (o : Option ℕ) → noted.key.file ≡ file → from ≤ noted.key.piece →
    LowestFrom (print_at pieces file) from o → LowestFrom (print_at (noted ∷ pieces) file) from (Some (min noted.key.piece (unwrap_or o noted.key.piece)))
lower_first noted pieces file from None e h l = first_lowest noted pieces file from _ e (omega arith) (omega arith) (λ j a b. l j a)
lower_first noted pieces file from (Some k) e h l =
    elim (cases_lt k noted.key.piece) [
      | inl b ↦
          (let is : k ≡ min noted.key.piece k = omega arith in
          subst (λ m. LowestFrom (print_at (noted ∷ pieces) file) from (Some m)) is
          (lowest_stays noted pieces file from k (λ j a c. other_piece noted.key file j (λ q. omega arith)) l))
      | inr b ↦ first_lowest noted pieces file from (min noted.key.piece k) e (omega arith) (omega arith) (λ j a c. l.2 j a (omega arith))
    ]

-- the lowest, with one piece more in front
lowest_more : (noted : NotedPiece) (pieces : List NotedPiece) (file from : ℕ) → LowestFrom (print_at pieces file) from (reduce min (numbers_from file from pieces)) →
    LowestFrom (print_at (noted ∷ pieces) file) from (reduce min (numbers_from file from (noted ∷ pieces)))
lowest_more noted pieces file from l =
    elim (cases_eq noted.key.file file) [
      | inl is ↦ elim (cases_lt noted.key.piece from) [
        | inl low ↦ subst Lowest (sym (without_first (grind (arith, nat_tests)))) (other_first noted pieces file from _ (λ j h. other_piece noted.key file j (λ q. omega arith)) l)
        | inr high ↦ subst Lowest (sym (with_first (grind (arith, nat_tests)))) (lower_first noted pieces file from _ is high l)
      ]
      | inr not ↦ subst Lowest (sym (without_first (and_left _ _ (ne_eqb _ _ not)))) (other_first noted pieces file from _ (λ j h. other_file noted.key file j not) l)
    ]
  where
    Lowest : Option ℕ → Type 0
    Lowest o = LowestFrom (print_at (noted ∷ pieces) file) from o

    with_first : of_file_from file from noted ≡ true →
        reduce min (numbers_from file from (noted ∷ pieces)) ≡ Some (min noted.key.piece (unwrap_or (reduce min (numbers_from file from pieces)) noted.key.piece))
    with_first t = ap (λ xs. reduce min (map (λ noted. noted.key.piece) xs)) (cond-true _ _ _ t) ∙ least_more noted.key.piece (numbers_from file from pieces)

    without_first : of_file_from file from noted ≡ false → reduce min (numbers_from file from (noted ∷ pieces)) ≡ reduce min (numbers_from file from pieces)
    without_first t = ap (λ xs. reduce min (map (λ noted. noted.key.piece) xs)) (cond-false _ _ _ t)

-- the lowest recorded piece from a number on is the least of the file's numbers from there on
pub lowest_number : (file from : ℕ) (pieces : List NotedPiece) → LowestFrom (print_at pieces file) from (reduce min (numbers_from file from pieces))
lowest_number file from [] = λ j h. refl
lowest_number file from (noted ∷ pieces) = lowest_more noted pieces file from (lowest_number file from pieces)
