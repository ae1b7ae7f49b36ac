-- Keys through a book: a node holds the place of its key, and places are compared by the keys that stand there.
--
--   first_of        which of two keys goes first, where one may be missing
--   place_first     the key at one place goes before the key at another
--   key_at          the key at a place, and a given key where none is written
--   beside_first    places compared beside a given key, which stands wherever none is written
--   goes_left       a given key goes before the key at a place
--   way_from        on which side of a place a given key lies, or nothing where it is there
--   KeyLaws         what is asked of the order of keys
--   PlacesOrdered   both orders of places have the laws of an order of keys
--   PlacesAlike     they compare the written places alike, and go on doing so as the book grows
--   WaysToHold      the way to a given key is the way to a place that holds it, such as the first that is not written
use Rattle.std.specs.Prelude.{◌≡◌, ℕ, ◌<◌, Bool, true, false, cond, List, ◌++◌, length, Some, None, Option, slice_index_or}
use Rattle.std.specs.List.{slice_get}
use Rattle.trees.specs.Lists.{KeyOrder}

-- the key at a place of the book; where none is written, the given one
abbrev pub key_at : {K : Type 0} → List K → K → ℕ → K
key_at keys key p = slice_index_or keys p key

module _ {K : Type 0} (first : K → K → Bool) where
  -- a missing key goes last
  abbrev pub first_of : Option K → Option K → Bool
  first_of None y = false
  first_of (Some x) None = true
  first_of (Some x) (Some y) = first x y

  -- the key at p goes before the key at q
  unfoldable pub place_first : List K → ℕ → ℕ → Bool
  place_first keys p q = first_of (slice_get keys p) (slice_get keys q)

  -- the same, as if the given key stood at every place where none is written
  unfoldable pub beside_first : List K → K → ℕ → ℕ → Bool
  beside_first keys key p q = first (key_at keys key p) (key_at keys key q)

  -- the given key goes before the key at p
  unfoldable pub goes_left : List K → K → ℕ → Bool
  goes_left keys key p = first key (key_at keys key p)

  -- false is left, true is right
  unfoldable pub way_from : List K → K → ℕ → Option Bool
  way_from keys key p = cond (first key (key_at keys key p)) (Some false) (cond (first (key_at keys key p) key) (Some true) None)

-- the laws of keys: none goes before itself, the order is transitive, and where neither of two goes first they are one
pub record KeyLaws {K : Type 0} (first : K → K → Bool) : Type 0 where
  pub irreflexive : (a : K) → first a a ≡ false
  pub transitive : (a b c : K) → first a b ≡ true → first b c ≡ true → first a c ≡ true
  pub total : (a b : K) → first a b ≡ false → first b a ≡ false → a ≡ b

-- two places may hold one key: neither then goes first, and both compare alike with every other
abbrev pub PlacesOrdered : Type 0 → Type 0
PlacesOrdered K = (first : K → K → Bool) → KeyLaws first → (keys : List K) → KeyOrder (place_first first keys) × ((key : K) → KeyOrder (beside_first first keys key))

abbrev pub PlacesAlike : Type 0 → Type 0
PlacesAlike K = (first : K → K → Bool) (keys more : List K) (key : K) (p q : ℕ) → p < length keys → q < length keys
    → (beside_first first keys key p q ≡ place_first first keys p q) × (place_first first (keys ++ more) p q ≡ place_first first keys p q)

-- where the given key stands at k, or none does, its ways are those to the place k
pub record WaysTo {K : Type 0} (first : K → K → Bool) (keys : List K) (key : K) (k : ℕ) : Type 0 where
  pub left : goes_left first keys key ≡ beside_first first keys key k
  pub way : way_from first keys key ≡ (λ p. cond (beside_first first keys key k p) (Some false) (cond (beside_first first keys key p k) (Some true) None))

abbrev pub WaysToHold : Type 0 → Type 0
WaysToHold K = (first : K → K → Bool) (keys : List K) (key : K)
    → ((k : ℕ) → slice_get keys k ≡ Some key → WaysTo first keys key k) × WaysTo first keys key (length keys)
