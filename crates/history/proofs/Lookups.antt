-- Looking up among the recorded pieces: whether any is of a file, and what one piece in front of the others changes.
use Rattle.std.proofs.Common.{◌≡◌, ℕ, Bool, true, false, List, [], ◌∷◌, Some, refl, sym, ap, ◌∙◌, inl, inr}
use Rattle.std.specs.Prelude.{◌==◌}
use Rattle.std.specs.List.{list_any}
use Rattle.std.specs.Option.{option_map}
use Rattle.std.proofs.lemmas.Bool.{cases_eq, eq-eqb, ne_eqb, and_from, and_left, and_right, or_parts, cond-true, cond-false, true≢false, false≢true}
use Rattle.keys.specs.declared.piece.PieceKey.{PieceKey}
use Rattle.history.specs.declared.record.NotedPiece.{NotedPiece}
use Rattle.history.specs.Prints.{is_piece, print_at}
use Rattle.history.specs.Same.{SomePiece, NoPiece}

-- the piece is one of this file
abbrev pub of_file : ℕ → NotedPiece → Bool
of_file file noted = noted.key.file == file

-- a key of another file, or of another piece
pub other_file : (key : PieceKey) (file piece : ℕ) → (key.file ≡ file → ⊥) → is_piece key file piece ≡ false
other_file key file piece other = and_left _ _ (ne_eqb key.file file other)

pub other_piece : (key : PieceKey) (file piece : ℕ) → (key.piece ≡ piece → ⊥) → is_piece key file piece ≡ false
other_piece key file piece other = and_right _ _ (ne_eqb key.piece piece other)

-- the first piece decides where it is the one
pub at_first : (noted : NotedPiece) (pieces : List NotedPiece) (file piece : ℕ) → is_piece noted.key file piece ≡ true → print_at (noted ∷ pieces) file piece ≡ Some noted.print
at_first noted pieces file piece is = ap (option_map (λ noted. noted.print)) (cond-true (is_piece noted.key file piece) _ _ is)

-- and the others do where it is not
pub behind_first : (noted : NotedPiece) (pieces : List NotedPiece) (file piece : ℕ) → is_piece noted.key file piece ≡ false → print_at (noted ∷ pieces) file piece ≡ print_at pieces file piece
behind_first noted pieces file piece other = ap (option_map (λ noted. noted.print)) (cond-false (is_piece noted.key file piece) _ _ other)

-- the piece of a key is found under its file and number
pub own_piece : (noted : NotedPiece) (pieces : List NotedPiece) (file piece : ℕ) → noted.key.file ≡ file → noted.key.piece ≡ piece → print_at (noted ∷ pieces) file piece ≡ Some noted.print
own_piece noted pieces file piece is same = at_first noted pieces file piece (and_from _ _ (eq-eqb noted.key.file file is) (eq-eqb noted.key.piece piece same))

-- whether any piece is of the file
pub some_of_file : (file : ℕ) (pieces : List NotedPiece) → list_any (of_file file) pieces ≡ true → SomePiece (print_at pieces file)
some_of_file file [] t = absurd (false≢true t)
some_of_file file (noted ∷ pieces) t =
    elim (cases_eq noted.key.file file) [
      | inl is ↦ (noted.key.piece, (noted.print, own_piece noted pieces file noted.key.piece is refl))
      | inr not ↦
          (let p = some_of_file file pieces (rw (ne_eqb noted.key.file file not) at t) in
          (p.0, (p.1.0, behind_first noted pieces file p.0 (other_file noted.key file p.0 not) ∙ p.1.1)))
    ]

pub none_of_file : (file : ℕ) (pieces : List NotedPiece) → list_any (of_file file) pieces ≡ false → NoPiece (print_at pieces file)
none_of_file file [] t = λ k. refl
none_of_file file (noted ∷ pieces) t =
    let parts = or_parts _ _ t in
    λ k. behind_first noted pieces file k (other_file noted.key file k (λ is. true≢false (sym (eq-eqb noted.key.file file is) ∙ parts.0))) ∙ none_of_file file pieces parts.1 k
