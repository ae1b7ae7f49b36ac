-- Put, drop and get on sorted lists.
use Rattle.std.proofs.Common.{◌≡◌, ℕ, Bool, true, false, cond, List, [], ◌∷◌, Some, None, sym, refl, ap, ◌∙◌, arith}
use Rattle.trees.specs.Trees.{Entry}
use Rattle.trees.specs.Lists.{KeyOrder, AllAfter, Sorted, list_put, list_drop, list_get}
use Rattle.trees.specs.Leftist.{same_key}
use Rattle.trees.specs.Theorems.{ListLawsHold}
use Rattle.trees.proofs.Sorting.{asymmetric, after_earlier, after_not_later}

module _ {K : Type 0} {before : K → K → Bool} (o : KeyOrder before) (k : K) where
  pub after_put : (v : ℕ) (a : K) (xs : List (Entry K)) → before a k ≡ true → AllAfter before a xs → AllAfter before a (list_put before k v xs)
  after_put v a [] x h = (x, tt)
  after_put v a (y ∷ ys) x h = go (before k y.key) (before y.key k) refl refl (after_put v a ys x h.1)
    where
      go : (p q : Bool) → before k y.key ≡ p → before y.key k ≡ q → AllAfter before a (list_put before k v ys) → AllAfter before a (list_put before k v (y ∷ ys))
      go true q e f rest = rw e (x, h)
      go false true e f rest = rw (e, f) (h.0, rest)
      go false false e f rest = rw (e, f) (h.0, h.1)

  pub put_sorted_lem : (v : ℕ) (xs : List (Entry K)) → Sorted before xs → Sorted before (list_put before k v xs)
  put_sorted_lem v [] h = (tt, tt)
  put_sorted_lem v (y ∷ ys) h = go (before k y.key) (before y.key k) refl refl (put_sorted_lem v ys h.1)
    where
      go : (p q : Bool) → before k y.key ≡ p → before y.key k ≡ q → Sorted before (list_put before k v ys) → Sorted before (list_put before k v (y ∷ ys))
      go true q e f rest = rw e ((e, after_earlier o k y.key ys e h.0), h)
      go false true e f rest = rw (e, f) (after_put v y.key ys f h.0, rest)
      go false false e f rest = rw (e, f) (h.0, h.1)

  pub after_drop : (a : K) (xs : List (Entry K)) → AllAfter before a xs → AllAfter before a (list_drop before k xs)
  after_drop a [] h = tt
  after_drop a (y ∷ ys) h = go (before k y.key) (before y.key k) refl refl (after_drop a ys h.1)
    where
      go : (p q : Bool) → before k y.key ≡ p → before y.key k ≡ q → AllAfter before a (list_drop before k ys) → AllAfter before a (list_drop before k (y ∷ ys))
      go true q e f rest = rw e h
      go false true e f rest = rw (e, f) (h.0, rest)
      go false false e f rest = rw (e, f) h.1

  pub drop_sorted_lem : (xs : List (Entry K)) → Sorted before xs → Sorted before (list_drop before k xs)
  drop_sorted_lem [] h = tt
  drop_sorted_lem (y ∷ ys) h = go (before k y.key) (before y.key k) refl refl (drop_sorted_lem ys h.1)
    where
      go : (p q : Bool) → before k y.key ≡ p → before y.key k ≡ q → Sorted before (list_drop before k ys) → Sorted before (list_drop before k (y ∷ ys))
      go true q e f rest = rw e h
      go false true e f rest = rw (e, f) (after_drop y.key ys h.0, rest)
      go false false e f rest = rw (e, f) h.1

  pub drop_absent : (xs : List (Entry K)) → list_get before k xs ≡ None → list_drop before k xs ≡ xs
  drop_absent [] h = refl
  drop_absent (y ∷ ys) h = go (before k y.key) (before y.key k) refl refl (drop_absent ys)
    where
      go : (p q : Bool) → before k y.key ≡ p → before y.key k ≡ q → (list_get before k ys ≡ None → list_drop before k ys ≡ ys) → list_drop before k (y ∷ ys) ≡ y ∷ ys
      go true q e f rest = rw e
      go false true e f rest = let g : list_get before k ys ≡ None = rw (e, f) at h in rw (e, f) (ap (λ zs. y ∷ zs) (rest g))
      go false false e f rest = let g : Some y.value ≡ None = rw (e, f) at h in cc

  -- a key in front of all others is not among them
  pub get_none : (xs : List (Entry K)) → AllAfter before k xs → list_get before k xs ≡ None
  get_none [] h = refl
  get_none (x ∷ xs) h = rw h.0

module _ {K : Type 0} {before : K → K → Bool} (o : KeyOrder before) (k : K) (v : ℕ) (j : K) where
  -- how j and k stand to one another
  pub data Stand : Type 0 where
    earlier : before j k ≡ true → before k j ≡ false → Stand
    later : before j k ≡ false → before k j ≡ true → Stand
    level : before j k ≡ false → before k j ≡ false → Stand

  pub stand : Stand
  stand = go (before j k) (before k j) refl refl
    where
      go : (p q : Bool) → before j k ≡ p → before k j ≡ q → Stand
      go true q e f = earlier e (asymmetric o j k e)
      go false true e f = later e f
      go false false e f = level e f

  pub get_put_lem : (xs : List (Entry K)) → Sorted before xs → list_get before j (list_put before k v xs) ≡ cond (same_key before j k) (Some v) (list_get before j xs)
  get_put_lem [] s = grind arith
  get_put_lem (x ∷ xs) s = go (before k x.key) (before x.key k) refl refl (get_put_lem xs s.1) stand
    where
      go : (p q : Bool) → before k x.key ≡ p → before x.key k ≡ q → list_get before j (list_put before k v xs) ≡ cond (same_key before j k) (Some v) (list_get before j xs) → Stand
          → list_get before j (list_put before k v (x ∷ xs)) ≡ cond (same_key before j k) (Some v) (list_get before j (x ∷ xs))
      go true q e f rest (earlier a b) = let z = o.transitive j k x.key a e in grind arith
      go true q e f rest (later a b) = grind arith
      go true q e f rest (level a b) = grind arith
      go false true e f rest (earlier a b) = grind arith
      go false true e f rest (later a b) = let z = o.transitive x.key k j f b in let y = asymmetric o x.key j z in grind arith
      go false true e f rest (level a b) = let z = o.alike j k a b x.key in grind arith
      go false false e f rest (earlier a b) = let z = (o.alike k x.key e f j).0 in grind arith
      go false false e f rest (later a b) = let z = o.alike k x.key e f j in grind arith
      go false false e f rest (level a b) = let z = o.alike k x.key e f j in grind arith

  pub get_drop : (xs : List (Entry K)) → Sorted before xs → list_get before j (list_drop before k xs) ≡ cond (same_key before j k) None (list_get before j xs)
  get_drop [] s = grind arith
  get_drop (x ∷ xs) s = go (before k x.key) (before x.key k) refl refl (get_drop xs s.1) stand
    where
      go : (p q : Bool) → before k x.key ≡ p → before x.key k ≡ q → list_get before j (list_drop before k xs) ≡ cond (same_key before j k) None (list_get before j xs) → Stand
          → list_get before j (list_drop before k (x ∷ xs)) ≡ cond (same_key before j k) None (list_get before j (x ∷ xs))
      go true q e f rest (earlier a b) = grind arith
      go true q e f rest (later a b) = grind arith
      go true q e f rest (level a b) = let z = o.alike j k a b x.key in grind arith
      go false true e f rest (earlier a b) = grind arith
      go false true e f rest (later a b) = let z = o.transitive x.key k j f b in let y = asymmetric o x.key j z in grind arith
      go false true e f rest (level a b) = let z = o.alike j k a b x.key in grind arith
      go false false e f rest (earlier a b) =
          let z = (o.alike k x.key e f j).0 in
          let y = get_none o j xs (after_earlier o j x.key xs (sym z ∙ a) s.0) in grind arith
      go false false e f rest (later a b) = let z = o.alike k x.key e f j in grind arith
      go false false e f rest (level a b) =
          let z = o.alike k x.key e f j in
          let y = get_none o j xs (after_not_later o j x.key xs (sym z.1 ∙ b) s.0) in grind arith

pub list_laws : (K : Type 0) → ListLawsHold K
list_laws K before o k v xs s = record {
  put_sorted = put_sorted_lem o k v xs s;
  drop_sorted = drop_sorted_lem o k xs s;
  get_put = λ j. get_put_lem o k v j xs s;
  get_drop = λ j. get_drop o k v j xs s;
  absent = drop_absent o k xs;
}
