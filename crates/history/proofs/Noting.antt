-- Recording the pieces of a file one by one.
use Rattle.std.proofs.Common.{◌≡◌, ℕ, zero, suc, ◌+◌, ◌<◌, ◌≤◌, List, [], ◌∷◌, ◌++◌, length, get_or, take, Ok, Err, Result, sym, refl, ap, ◌∙◌, append_assoc, le_of_suc-le-suc, not-suc-le-zero, add-one, arith}
use Rattle.std.proofs.lemmas.List.{length-append, length-take-le}
use Rattle.history.specs.declared.record.NotedPiece.{NotedPiece}
use Rattle.std.proofs.lemmas.Bool.{lt-ltb}
use Rattle.refusals.specs.declared.kinds.BookRefusal.{BookRefusal}
use Rattle.books.specs.Books.{push_answer, keys_after}
use Rattle.history.specs.Files.{noted, file_pieces}

-- as many pieces as fingerprints
pub length_pieces : (file k : ℕ) (prints : List ℕ) → length (file_pieces file k prints) ≡ length prints
length_pieces file k [] = refl
length_pieces file k (p ∷ ps) = ap suc (length_pieces file (suc k) ps)

-- one fingerprint more is one piece more at the end
pieces_next : (file j k : ℕ) (prints : List ℕ) → k < length prints →
    file_pieces file j (take (suc k) prints) ≡ file_pieces file j (take k prints) ++ (noted file (j + k) (get_or prints k 0) ∷ [])
pieces_next file j k [] h = absurd (not-suc-le-zero h)
pieces_next file j zero (p ∷ ps) h = ap (λ (n : ℕ). noted file n p ∷ []) (omega arith)
pieces_next file j (suc k) (p ∷ ps) h =
    ap (λ (l : List NotedPiece). noted file j p ∷ l)
    (pieces_next file (suc j) k ps (le_of_suc-le-suc h) ∙ ap (λ (n : ℕ). file_pieces file (suc j) (take k ps) ++ (noted file n (get_or ps k 0) ∷ [])) (omega arith))

-- what was recorded, and the first k pieces of the file
pub record Noting (before now : List NotedPiece) (file : ℕ) (prints : List ℕ) (k : ℕ) : Type 0 where
  pub keys : now ≡ before ++ file_pieces file 0 (take k prints)

pub noting_more : (before now next : List NotedPiece) (file : ℕ) (prints : List ℕ) (k : ℕ) → Noting before now file prints k → k < length prints →
    next ≡ now ++ (noted file k (get_or prints k 0) ∷ []) → Noting before next file prints (k + 1)
noting_more before now next file prints k h lt e = record {
  keys =
      e ∙ ap (λ (l : List NotedPiece). l ++ (noted file k (get_or prints k 0) ∷ [])) h.keys
      ∙ append_assoc before (file_pieces file 0 (take k prints)) (noted file k (get_or prints k 0) ∷ [])
      ∙ ap (λ (l : List NotedPiece). before ++ l)
      (ap (λ (n : ℕ). file_pieces file 0 (take k prints) ++ (noted file n (get_or prints k 0) ∷ [])) (omega arith) ∙ sym (pieces_next file 0 k prints lt)
      ∙ ap (λ (n : ℕ). file_pieces file 0 (take n prints)) (sym (add-one k)));
}

-- before the last piece the book has room for one more
pub noting_room : (before now : List NotedPiece) (file : ℕ) (prints : List ℕ) (k room : ℕ) → Noting before now file prints k → k < length prints →
    length before + length prints ≤ room → length now < room
noting_room before now file prints k room h lt enough =
    let n = ap length h.keys ∙ length-append before (file_pieces file 0 (take k prints)) in
    let m = length_pieces file 0 (take k prints) ∙ length-take-le k prints (omega arith) in
    omega arith

-- a book with room takes a key
pub never_full : (ks : List NotedPiece) (room : ℕ) (r : Result ℕ BookRefusal) (e : BookRefusal) → length ks < room → r ≡ push_answer ks room → r ≡ Err e → ⊥
never_full ks room r e lt is err =
    let ok : push_answer ks room ≡ Ok (length ks) = simp (lt-ltb (length ks) room lt) in
    let z : ◌≡◌ {A = ℕ} 0 1 = cc in omega arith

pub keys_pushed : (ks next : List NotedPiece) (room : ℕ) (k : NotedPiece) → length ks < room → next ≡ keys_after ks room k → next ≡ ks ++ (k ∷ [])
keys_pushed ks next room k lt e = e ∙ simp (lt-ltb (length ks) room lt)
