-- A longer book.
use Rattle.std.proofs.Common.{◌≡◌, ℕ, zero, suc, ◌<◌, ◌≤◌, List, [], ◌∷◌, ◌++◌, length, refl, ap, ◌∙◌, arith}
use Rattle.trees.specs.Trees.{Entry, entry, entries}
use Rattle.places.specs.Places.{key_at, place_first}
use Rattle.places.proofs.Orders.{places_alike}
use Rattle.map_reading.specs.Reading.{keyed, InBook}
use Rattle.map_reading.proofs.Tells.{sorted_alike}
use Rattle.map_writing.specs.Growth.{BookGrows}

longer : {K : Type 0} (keys more : List K) → length keys ≤ length (keys ++ more)
longer [] more = omega arith
longer (x ∷ xs) more = let h = longer xs more in omega arith

in_longer : (n j : ℕ) → n ≤ j → (xs : List (Entry ℕ)) → InBook n xs → InBook j xs
in_longer n j h [] i = tt
in_longer n j h (x ∷ xs) i = (let l = i.0 in omega arith, in_longer n j h xs i.1)

at_longer : {K : Type 0} (keys more : List K) (key : K) (p : ℕ) → p < length keys → key_at (keys ++ more) key p ≡ key_at keys key p
at_longer [] more key p h = absurd (omega arith)
at_longer (x ∷ xs) more key zero h = refl
at_longer (x ∷ xs) more key (suc p) h = at_longer xs more key p (omega arith)

keyed_longer : {K : Type 0} (keys more : List K) (key : K) (xs : List (Entry ℕ)) → InBook (length keys) xs → keyed (keys ++ more) key xs ≡ keyed keys key xs
keyed_longer keys more key [] i = refl
keyed_longer {K = K} keys more key (x ∷ xs) i =
    ap (λ (y : K). entry y x.value ∷ keyed (keys ++ more) key xs) (at_longer keys more key x.key i.0)
    ∙ ap (λ (zs : List (Entry K)). entry (key_at keys key x.key) x.value ∷ zs) (keyed_longer keys more key xs i.1)

pub book_grows : (K : Type 0) → BookGrows K
book_grows K first keys more key sooner m map due held H B = record {
  standing = record {
    whole = H.whole;
    map_tree = record { red_black = H.map_tree.red_black; sorted = sorted_alike (length keys) (place_first first keys) (place_first first (keys ++ more)) (λ p q g h. (places_alike K first keys more key p q g h).1) (entries map) B H.map_tree.sorted };
    due_heap = H.due_heap;
    held_heap = H.held_heap;
  };
  in_book = in_longer (length keys) (length (keys ++ more)) (longer keys more) (entries map) B;
  list = keyed_longer keys more key (entries map) B;
}
