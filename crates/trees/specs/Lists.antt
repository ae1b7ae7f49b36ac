-- Sorted lists of entries, and what the calls of a map make of them and answer from them.
--
--   KeyOrder    what is asked of the order of keys
--   AllAfter    a key goes before every key of a list
--   Sorted      every key goes before the keys behind it
--   list_put    the list with a key's value set
--   list_drop   the list without a key
--   list_get    the value of a key, or nothing
--   list_next   the first entry above a key, or nothing
use Rattle.std.specs.Prelude.{◌≡◌, ℕ, Bool, true, false, cond, List, [], ◌∷◌, Some, None, Option}
use Rattle.trees.specs.Trees.{Entry, entry}

-- A strict order in which keys that do not go before one another compare alike with every key. Keys meet it; so do the places of
-- keys in a book, of which two may hold equal keys.
pub record KeyOrder {K : Type 0} (before : K → K → Bool) : Type 0 where
  pub irreflexive : (a : K) → before a a ≡ false
  pub transitive : (a b c : K) → before a b ≡ true → before b c ≡ true → before a c ≡ true
  pub alike : (a b : K) → before a b ≡ false → before b a ≡ false → (c : K) → (before c a ≡ before c b) × (before a c ≡ before b c)

module _ {K : Type 0} (before : K → K → Bool) where
  abbrev pub AllAfter : K → List (Entry K) → Type 0
  AllAfter k [] = Unit {0}
  AllAfter k (x ∷ xs) = (before k x.key ≡ true) × AllAfter k xs

  abbrev pub Sorted : List (Entry K) → Type 0
  Sorted [] = Unit {0}
  Sorted (x ∷ xs) = AllAfter x.key xs × Sorted xs

  -- an entry of an equal key keeps its key
  abbrev pub list_put : K → ℕ → List (Entry K) → List (Entry K)
  list_put k v [] = entry k v ∷ []
  list_put k v (x ∷ xs) = cond (before k x.key) (entry k v ∷ (x ∷ xs)) (cond (before x.key k) (x ∷ list_put k v xs) (entry x.key v ∷ xs))

  abbrev pub list_drop : K → List (Entry K) → List (Entry K)
  list_drop k [] = []
  list_drop k (x ∷ xs) = cond (before k x.key) (x ∷ xs) (cond (before x.key k) (x ∷ list_drop k xs) xs)

  abbrev pub list_get : K → List (Entry K) → Option ℕ
  list_get k [] = None
  list_get k (x ∷ xs) = cond (before k x.key) None (cond (before x.key k) (list_get k xs) (Some x.value))

  abbrev pub list_next : K → List (Entry K) → Option (Entry K)
  list_next k [] = None
  list_next k (x ∷ xs) = cond (before k x.key) (Some x) (list_next k xs)
