-- Insertion keeps the rules of a red-black tree, and makes of its list what it should.
use Rattle.std.proofs.Common.{◌≡◌, ℕ, ◌+◌, Bool, true, false, cond, List, [], ◌∷◌, sym, refl, arith}
use Rattle.trees.specs.Trees.{Entry, entry, Tree, leaf, node, with_mark, node_on, entries_onto, sum_over, occurrences}
use Rattle.trees.specs.Lists.{KeyOrder, AllAfter, Sorted, list_put}
use Rattle.trees.specs.RedBlack.{red, black_height, Balanced, AlmostBalanced, holds, replaced, insert_fixed, inserted}
use Rattle.trees.proofs.Sorting.{AllBefore, asymmetric, after_earlier, sorted_rest, before_later, before_not_earlier, before_next}

pub by_test : {A : Type 0} (P : A → Type 0) (b : Bool) (t u : A) → (b ≡ true → P t) → (b ≡ false → P u) → P (cond b t u)
by_test P true t u x y = x refl
by_test P false t u x y = y refl

-- what insertion below makes of a balanced tree t
pub record Grows {K : Type 0} (t u : Tree Bool K) : Type 0 where
  pub almost : AlmostBalanced u
  pub balanced : red t ≡ false → Balanced u
  pub level : black_height u ≡ black_height t

module _ {K : Type 0} where
  pub fixed_grows : (s : Bool) (n : ℕ) (c : Bool) (e : Entry K) (a a' b : Tree Bool K) → Balanced (node_on s n c e a b) → Grows a a' → Grows (node_on s n c e a b) (insert_fixed s (node_on s n c e a' b))
  unfolding insert_fixed
  fixed_grows true n c e a a' b h g = grind arith
  fixed_grows false n c e a a' b h g = grind arith

  pub fixed_list : (s : Bool) (t : Tree Bool K) (xs : List (Entry K)) → entries_onto (insert_fixed s t) xs ≡ entries_onto t xs
  unfolding insert_fixed
  fixed_list s t xs = grind arith

  pub fixed_sum : (f : ℕ → Entry K → ℕ) (s : Bool) (t : Tree Bool K) → sum_over f (insert_fixed s t) ≡ sum_over f t
  unfolding insert_fixed
  fixed_sum f s t = grind arith

  pub black_balanced : (u : Tree Bool K) → AlmostBalanced u → Balanced (with_mark false u)
  black_balanced u h = grind arith

module _ {K : Type 0} (before : K → K → Bool) (k : K) (v : ℕ) where
  pub grows : (n : ℕ) (t : Tree Bool K) → Balanced t → Grows t (inserted before k v n t)
  grows n leaf h = grind arith
  grows n (node m c f l r) h =
      by_test (Grows (node m c f l r)) (before k f.key) _ _
      (λ _. fixed_grows false m c f l (inserted before k v n l) r h (grows n l h.0))
      (λ _. fixed_grows true m c f r (inserted before k v n r) l h (grows n r h.1))

  pub replaced_balanced : (t : Tree Bool K) → Balanced t → Balanced (replaced before k v t) × (red (replaced before k v t) ≡ red t) × (black_height (replaced before k v t) ≡ black_height t)
  replaced_balanced leaf h = grind arith
  replaced_balanced (node m c f l r) h =
      let left = replaced_balanced l h.0 in
      let right = replaced_balanced r h.1 in
      let P : Tree Bool K → Type 0 = λ u. Balanced u × (red u ≡ c) × (black_height u ≡ black_height (node m c f l r)) in
      by_test P (before k f.key) _ _ (λ _. grind arith) (λ _. by_test P (before f.key k) _ _ (λ _. grind arith) (λ _. grind arith))

  pub inserted_sum : (f : ℕ → Entry K → ℕ) (n : ℕ) (t : Tree Bool K) → sum_over f (inserted before k v n t) ≡ sum_over f t + f n (entry k v)
  inserted_sum f n leaf = omega arith
  inserted_sum f n (node m c g l r) =
      let left = inserted_sum f n l in
      let right = inserted_sum f n r in
      by_test (λ u. sum_over f u ≡ sum_over f (node m c g l r) + f n (entry k v)) (before k g.key) _ _
      (λ _. omega (arith, fixed_sum f false (node m c g (inserted before k v n l) r)))
      (λ _. omega (arith, fixed_sum f true (node m c g l (inserted before k v n r))))

  pub replaced_occurrences : (i : ℕ) (t : Tree Bool K) → occurrences i (replaced before k v t) ≡ occurrences i t
  replaced_occurrences i leaf = refl
  replaced_occurrences i (node m c g l r) =
      let left = replaced_occurrences i l in
      let right = replaced_occurrences i r in
      let P : Tree Bool K → Type 0 = λ u. occurrences i u ≡ occurrences i (node m c g l r) in
      by_test P (before k g.key) _ _ (λ _. omega arith) (λ _. by_test P (before g.key k) _ _ (λ _. omega arith) (λ _. omega arith))

module _ {K : Type 0} {before : K → K → Bool} (o : KeyOrder before) (k : K) (v : ℕ) where
  -- what goes before k stays where it is
  pub put_skips : (t : Tree Bool K) (xs : List (Entry K)) → AllBefore before k t → list_put before k v (entries_onto t xs) ≡ entries_onto t (list_put before k v xs)
  put_skips leaf xs u = refl
  put_skips (node m c f l r) xs u =
      let left = put_skips l (f ∷ entries_onto r xs) u.0 in
      let right = put_skips r xs u.2 in
      let x = asymmetric o f.key k u.1 in
      let y = u.1 in
      cc

  pub put_front : (xs : List (Entry K)) → AllAfter before k xs → list_put before k v xs ≡ entry k v ∷ xs
  put_front [] h = refl
  put_front (x ∷ xs) h = rw h.0

  pub inserted_list : (n : ℕ) (t : Tree Bool K) (xs : List (Entry K)) → Sorted before (entries_onto t xs) → AllAfter before k xs → holds before k t ≡ false
      → entries_onto (inserted before k v n t) xs ≡ list_put before k v (entries_onto t xs)
  inserted_list n leaf xs s a h = sym (put_front xs a)
  inserted_list n (node m c f l r) xs s a h =
      at_node_lem (before k f.key) (before f.key k) refl refl (inserted_list n l (f ∷ entries_onto r xs) s) (inserted_list n r xs (sorted_rest o l (f ∷ entries_onto r xs) s).1 a)
    where
      at_node_lem : (b d : Bool) → before k f.key ≡ b → before f.key k ≡ d
          → (AllAfter before k (f ∷ entries_onto r xs) → holds before k l ≡ false → entries_onto (inserted before k v n l) (f ∷ entries_onto r xs) ≡ list_put before k v (entries_onto l (f ∷ entries_onto r xs)))
          → (holds before k r ≡ false → entries_onto (inserted before k v n r) xs ≡ list_put before k v (entries_onto r xs))
          → entries_onto (inserted before k v n (node m c f l r)) xs ≡ list_put before k v (entries_onto l (f ∷ entries_onto r xs))
      at_node_lem true d e g left right =
          let x = left (e, after_earlier o k f.key (entries_onto r xs) e (sorted_rest o l (f ∷ entries_onto r xs) s).0) (rw e at h) in
          let y = fixed_list false (node m c f (inserted before k v n l) r) xs in
          cc
      at_node_lem false true e g left right =
          let x = right (rw (e, g) at h) in
          let y = fixed_list true (node m c f l (inserted before k v n r)) xs in
          let z = put_skips l (f ∷ entries_onto r xs) (before_later o f.key k l g (before_next o l f (entries_onto r xs) s)) in
          cc
      at_node_lem false false e g left right = cc (rw (e, g) at h)

  pub replaced_list : (t : Tree Bool K) (xs : List (Entry K)) → Sorted before (entries_onto t xs) → holds before k t ≡ true
      → entries_onto (replaced before k v t) xs ≡ list_put before k v (entries_onto t xs)
  replaced_list leaf xs s h = cc
  replaced_list (node m c f l r) xs s h =
      at_node_lem (before k f.key) (before f.key k) refl refl (replaced_list l (f ∷ entries_onto r xs) s) (replaced_list r xs (sorted_rest o l (f ∷ entries_onto r xs) s).1)
    where
      at_node_lem : (b d : Bool) → before k f.key ≡ b → before f.key k ≡ d
          → (holds before k l ≡ true → entries_onto (replaced before k v l) (f ∷ entries_onto r xs) ≡ list_put before k v (entries_onto l (f ∷ entries_onto r xs)))
          → (holds before k r ≡ true → entries_onto (replaced before k v r) xs ≡ list_put before k v (entries_onto r xs))
          → entries_onto (replaced before k v (node m c f l r)) xs ≡ list_put before k v (entries_onto l (f ∷ entries_onto r xs))
      at_node_lem true d e g left right =
          let x = left (rw e at h) in
          cc
      at_node_lem false true e g left right =
          let x = right (rw (e, g) at h) in
          let z = put_skips l (f ∷ entries_onto r xs) (before_later o f.key k l g (before_next o l f (entries_onto r xs) s)) in
          cc
      at_node_lem false false e g left right =
          let z = put_skips l (f ∷ entries_onto r xs) (before_not_earlier o f.key k l e (before_next o l f (entries_onto r xs) s)) in
          cc
