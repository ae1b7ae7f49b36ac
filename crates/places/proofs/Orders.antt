-- The orders of places.
use Rattle.std.proofs.Common.{◌≡◌, ℕ, zero, suc, ◌<◌, Bool, true, false, cond, List, [], ◌∷◌, ◌++◌, length, Some, None, Option, sym, refl, ap, ◌∙◌, arith}
use mathlib.Core.Path.{fun_ext}
use Rattle.std.specs.List.{slice_get}
use Rattle.trees.specs.Lists.{KeyOrder}
use Rattle.places.specs.Places.{first_of, place_first, key_at, beside_first, goes_left, way_from, KeyLaws, PlacesOrdered, PlacesAlike, WaysTo, WaysToHold}

true_false : {A : Type 0} → true ≡ false → A
true_false h = let z : ◌≡◌ {A = ℕ} 0 1 = cc in absurd (omega arith)

none_some : {A : Type 0} {K : Type 0} {x : K} → ◌≡◌ {A = Option K} None (Some x) → A
none_some h = let z : ◌≡◌ {A = ℕ} 0 1 = cc in absurd (omega arith)

some_same : {K : Type 0} {x y : K} → ◌≡◌ {A = Option K} (Some x) (Some y) → x ≡ y
some_same h = cc

module _ {K : Type 0} (first : K → K → Bool) (L : KeyLaws first) where
  no_self : (x : Option K) → first_of first x x ≡ false
  no_self None = refl
  no_self (Some a) = L.irreflexive a

  chained : (x y z : Option K) → first_of first x y ≡ true → first_of first y z ≡ true → first_of first x z ≡ true
  chained None y z g h = true_false (sym g)
  chained (Some a) None z g h = true_false (sym h)
  chained (Some a) (Some b) None g h = refl
  chained (Some a) (Some b) (Some c) g h = L.transitive a b c g h

  alike : (x y : Option K) → first_of first x y ≡ false → first_of first y x ≡ false → (z : Option K) → (first_of first z x ≡ first_of first z y) × (first_of first x z ≡ first_of first y z)
  alike None None g h z = (refl, refl)
  alike None (Some b) g h z = true_false h
  alike (Some a) None g h z = true_false g
  alike (Some a) (Some b) g h z = let e = L.total a b g h in (ap (λ (q : K). first_of first z (Some q)) e, ap (λ (q : K). first_of first (Some q) z) e)

  place_order : (keys : List K) → KeyOrder (place_first first keys)
  unfolding place_first
  place_order keys = record { irreflexive = λ p. no_self (slice_get keys p); transitive = λ p q r g h. chained (slice_get keys p) (slice_get keys q) (slice_get keys r) g h; alike = λ p q g h r. alike (slice_get keys p) (slice_get keys q) g h (slice_get keys r) }

  beside_order : (keys : List K) (key : K) → KeyOrder (beside_first first keys key)
  unfolding beside_first
  beside_order keys key = record {
    irreflexive = λ p. L.irreflexive (key_at keys key p);
    transitive = λ p q r g h. L.transitive (key_at keys key p) (key_at keys key q) (key_at keys key r) g h;
    alike = λ p q g h r. let e = L.total (key_at keys key p) (key_at keys key q) g h in (ap (first (key_at keys key r)) e, ap (λ (x : K). first x (key_at keys key r)) e);
  }

pub places_ordered : (K : Type 0) → PlacesOrdered K
places_ordered K first L keys = (place_order first L keys, beside_order first L keys)

nth_more : {K : Type 0} (ks more : List K) (p : ℕ) → p < length ks → slice_get (ks ++ more) p ≡ slice_get ks p
nth_more [] more p h = absurd (omega arith)
nth_more (x ∷ xs) more zero h = refl
nth_more (x ∷ xs) more (suc p) h = nth_more xs more p (omega arith)

-- a written place holds the same key either way
nth_at : {K : Type 0} (ks : List K) (key : K) (p : ℕ) → p < length ks → slice_get ks p ≡ Some (key_at ks key p)
nth_at [] key p h = absurd (omega arith)
nth_at (x ∷ xs) key zero h = refl
nth_at (x ∷ xs) key (suc p) h = nth_at xs key p (omega arith)

-- the key that was read at a place
pub at_written : {K : Type 0} (ks : List K) (key x : K) (p : ℕ) → slice_get ks p ≡ Some x → key_at ks key p ≡ x
at_written [] key x p e = none_some e
at_written (y ∷ ys) key x zero e = some_same e
at_written (y ∷ ys) key x (suc p) e = at_written ys key x p e

-- where none was read
pub at_unwritten : {K : Type 0} (ks : List K) (key : K) (p : ℕ) → slice_get ks p ≡ None → key_at ks key p ≡ key
at_unwritten [] key p e = refl
at_unwritten (y ∷ ys) key zero e = none_some (sym e)
at_unwritten (y ∷ ys) key (suc p) e = at_unwritten ys key p e

nth_end : {K : Type 0} (ks : List K) → slice_get ks (length ks) ≡ None
nth_end [] = refl
nth_end (x ∷ xs) = nth_end xs

first_of_lem : {K : Type 0} (first : K → K → Bool) (x y : Option K) (a b : K) → x ≡ Some a → y ≡ Some b → first a b ≡ first_of first x y
first_of_lem first x y a b e f = sym (ap (λ z. first_of first z y) e ∙ ap (first_of first (Some a)) f)

pub places_alike : (K : Type 0) → PlacesAlike K
unfolding place_first beside_first
places_alike K first keys more key p q h g = (
  first_of_lem first (slice_get keys p) (slice_get keys q) (key_at keys key p) (key_at keys key q) (nth_at keys key p h) (nth_at keys key q g),
  (let a = nth_more keys more p h in let b = nth_more keys more q g in ap (λ z. first_of first z (slice_get (keys ++ more) q)) a ∙ ap (first_of first (slice_get keys p)) b),
)

-- the ways to a place where the given key is found
ways_at : {K : Type 0} (first : K → K → Bool) (keys : List K) (key : K) (k : ℕ) → key_at keys key k ≡ key → WaysTo first keys key k
unfolding goes_left beside_first way_from
ways_at {K = K} first keys key k e = record {
  left = fun_ext (λ p. ap (λ (x : K). first x (key_at keys key p)) (sym e));
  way = fun_ext (λ p. ap (λ (x : K). cond (first x (key_at keys key p)) (Some false) (cond (first (key_at keys key p) x) (Some true) None)) (sym e));
}

pub ways_to : (K : Type 0) → WaysToHold K
ways_to K first keys key = ((λ k e. ways_at first keys key k (at_written keys key key k e)), ways_at first keys key (length keys) (at_unwritten keys key (length keys) (nth_end keys)))

-- what the calls answer, from the key that was read
module _ {K : Type 0} (first : K → K → Bool) where
  pub left_some : (keys : List K) (key x : K) (p : ℕ) (r : Bool) → Some x ≡ slice_get keys p → r ≡ first key x → r ≡ goes_left first keys key p
  unfolding goes_left
  left_some keys key x p r e h = h ∙ ap (first key) (sym (at_written keys key x p (sym e)))

  pub left_none : ((a : K) → first a a ≡ false) → (keys : List K) (key : K) (p : ℕ) → None ≡ slice_get keys p → false ≡ goes_left first keys key p
  unfolding goes_left
  left_none irr keys key p e = sym (ap (first key) (at_unwritten keys key p (sym e)) ∙ irr key)

  way_is : (keys : List K) (key x : K) (p : ℕ) → key_at keys key p ≡ x → cond (first key x) (Some false) (cond (first x key) (Some true) None) ≡ way_from first keys key p
  unfolding way_from
  way_is keys key x p e = ap (λ (y : K). cond (first key y) (Some false) (cond (first y key) (Some true) None)) (sym e)

  pub way_none : ((a : K) → first a a ≡ false) → (keys : List K) (key : K) (p : ℕ) → None ≡ slice_get keys p → None ≡ way_from first keys key p
  way_none irr keys key p e = sym (ap (λ b. cond b (Some false) (cond b (Some true) None)) (irr key)) ∙ way_is keys key key p (at_unwritten keys key p (sym e))

  pub way_left : (keys : List K) (key x : K) (p : ℕ) → Some x ≡ slice_get keys p → first key x ≡ true → Some false ≡ way_from first keys key p
  way_left keys key x p e h = sym (ap (λ b. cond b (Some false) (cond (first x key) (Some true) None)) h) ∙ way_is keys key x p (at_written keys key x p (sym e))

  pub way_right : (keys : List K) (key x : K) (p : ℕ) → Some x ≡ slice_get keys p → first key x ≡ false → first x key ≡ true → Some true ≡ way_from first keys key p
  way_right keys key x p e h g = sym (ap (λ b. cond b (Some false) (cond (first x key) (Some true) None)) h ∙ ap (λ b. cond b (Some true) None) g) ∙ way_is keys key x p (at_written keys key x p (sym e))

  pub way_here : (keys : List K) (key x : K) (p : ℕ) → Some x ≡ slice_get keys p → first key x ≡ false → first x key ≡ false → None ≡ way_from first keys key p
  way_here keys key x p e h g = sym (ap (λ b. cond b (Some false) (cond (first x key) (Some true) None)) h ∙ ap (λ b. cond b (Some true) None) g) ∙ way_is keys key x p (at_written keys key x p (sym e))
