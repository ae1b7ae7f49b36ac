-- Removal keeps the rules of a red-black tree, its list and its nodes, but for what is removed.
use Rattle.std.proofs.Common.{◌≡◌, ℕ, suc, ◌+◌, Bool, true, false, cond, ◌&&◌, eqb, List, ◌∷◌, refl, ◌∙◌, arith}
use Rattle.trees.specs.Trees.{Entry, Tree, leaf, node, is_node, with_child, node_on, entries_onto, occurrences}
use Rattle.trees.specs.RedBlack.{red, black_height, Balanced}
use Rattle.trees.specs.Removal.{Shrunk, Shrinks, sibling_fixed, short_fixed, spliced, step_up, without_first, first_entry, first_serial, without_root, removed}
use Rattle.trees.proofs.Insertion.{by_test}

module _ {K : Type 0} where
  pub spliced_shrinks : (s : Bool) (n : ℕ) (c : Bool) (e : Entry K) (a : Tree Bool K) → Balanced (node_on s n c e a leaf) → Shrinks (node_on s n c e a leaf) (spliced c a)
  unfolding spliced
  spliced_shrinks true n c e a h = grind arith
  spliced_shrinks false n c e a h = grind arith

  -- The side s holds a, one black node short of b. The tree t is what stood there before.
  pub sibling_shrinks : (s : Bool) (n : ℕ) (c : Bool) (e : Entry K) (a b : Tree Bool K) → Balanced a → Balanced b → red a ≡ false → red b ≡ false → suc (black_height a) ≡ black_height b
      → (t : Tree Bool K) → black_height t ≡ cond c (black_height b) (suc (black_height b)) → red t ≡ c → Shrinks t (sibling_fixed s (node_on s n c e a b))
  unfolding sibling_fixed
  sibling_shrinks true n c e a leaf ha hb da db h t ht rt = grind arith
  sibling_shrinks true n c e a (node m d f p q) ha hb da db h t ht rt = grind arith
  sibling_shrinks false n c e a leaf ha hb da db h t ht rt = grind arith
  sibling_shrinks false n c e a (node m d f p q) ha hb da db h t ht rt = grind arith

  pub short_shrinks : (s : Bool) (n : ℕ) (c : Bool) (e : Entry K) (a b : Tree Bool K) → Balanced a → Balanced b → red a ≡ false → c && red b ≡ false → suc (black_height a) ≡ black_height b
      → (t : Tree Bool K) → black_height t ≡ cond c (black_height b) (suc (black_height b)) → red t ≡ c → Shrinks t (short_fixed s (node_on s n c e a b))
  unfolding short_fixed
  short_shrinks true n c e a leaf ha hb da db h t ht rt = grind arith
  short_shrinks false n c e a leaf ha hb da db h t ht rt = grind arith
  short_shrinks true n c e a (node m false f p q) ha hb da db h t ht rt = sibling_shrinks true n c e a (node m false f p q) ha hb da refl h t ht rt
  short_shrinks false n c e a (node m false f p q) ha hb da db h t ht rt = sibling_shrinks false n c e a (node m false f p q) ha hb da refl h t ht rt
  short_shrinks true n c e a (node m true f p q) ha hb da db h t ht rt =
      let inner = sibling_shrinks true n true e a q ha hb.1 da hb.4 (h ∙ hb.2) (node n true e q q) refl refl in
      grind arith
  short_shrinks false n c e a (node m true f p q) ha hb da db h t ht rt =
      let inner = sibling_shrinks false n true e a p ha hb.0 da hb.3 h (node n true e p p) refl refl in
      grind arith

  -- the node may be another one, of the same colour
  pub step_shrinks : (s : Bool) (n n' : ℕ) (c : Bool) (e e' : Entry K) (a b : Tree Bool K) (x : Shrunk K) → Balanced (node_on s n c e a b) → Shrinks a x → Shrinks (node_on s n c e a b) (step_up s (node_on s n' c e' a b) x)
  unfolding step_up
  step_shrinks s n n' c e e' a b x h g = go s x.short refl h
    where
      go : (s : Bool) (z : Bool) → x.short ≡ z → Balanced (node_on s n c e a b) → Shrinks (node_on s n c e a b) (step_up s (node_on s n' c e' a b) x)
      go true true p h =
          let f = short_shrinks true n' c e' x.tree b g.balanced h.0 (g.short_is_black p) h.3 (grind arith) (node n c e b a) (grind arith) refl in
          rw p f
      go false true p h =
          let f = short_shrinks false n' c e' x.tree b g.balanced h.1 (g.short_is_black p) h.4 (grind arith) (node n c e a b) (grind arith) refl in
          rw p f
      go true false p h = grind arith
      go false false p h = grind arith

  pub first_shrinks : (t : Tree Bool K) → Balanced t → Shrinks t (without_first t)
  first_shrinks leaf h = grind arith
  first_shrinks (node n c e leaf r) h = spliced_shrinks true n c e r h
  first_shrinks (node n c e (node m d f p q) r) h =
      step_shrinks false n n c e e (node m d f p q) r (without_first (node m d f p q)) h (first_shrinks (node m d f p q) h.0)

  pub root_shrinks : (t : Tree Bool K) → Balanced t → Shrinks t (without_root t)
  unfolding without_root
  root_shrinks leaf h = grind arith
  root_shrinks (node n c e leaf leaf) h = spliced_shrinks false n c e leaf h
  root_shrinks (node n c e (node m d f p q) leaf) h = spliced_shrinks false n c e (node m d f p q) h
  root_shrinks (node n c e leaf (node m d f p q)) h = spliced_shrinks true n c e (node m d f p q) h
  root_shrinks (node n c e (node m d f p q) (node m' d' f' p' q')) h =
      step_shrinks true n (first_serial p' m') c e (first_entry p' f') (node m' d' f' p' q') (node m d f p q) (without_first (node m' d' f' p' q')) h (first_shrinks (node m' d' f' p' q') h.1)

  pub removed_shrinks : (before : K → K → Bool) (k : K) (t : Tree Bool K) → Balanced t → Shrinks t (removed before k t)
  removed_shrinks before k leaf h = grind arith
  removed_shrinks before k (node n c f l r) h =
      by_test (Shrinks (node n c f l r)) (before k f.key) _ _ (λ _. step_shrinks false n n c f f l r (removed before k l) h (removed_shrinks before k l h.0))
      (λ _. by_test (Shrinks (node n c f l r)) (before f.key k) _ _ (λ _. step_shrinks true n n c f f r l (removed before k r) h (removed_shrinks before k r h.1))
      (λ _. root_shrinks (node n c f l r) h))

  -- the list in order
  pub sibling_list : (s : Bool) (t : Tree Bool K) (xs : List (Entry K)) → entries_onto (sibling_fixed s t).tree xs ≡ entries_onto t xs
  unfolding sibling_fixed
  sibling_list s t xs = grind arith

  pub short_list : (s : Bool) (t : Tree Bool K) (xs : List (Entry K)) → entries_onto (short_fixed s t).tree xs ≡ entries_onto t xs
  unfolding short_fixed
  short_list s t xs = grind (arith, sibling_list)

  pub step_list : (s : Bool) (t : Tree Bool K) (x : Shrunk K) (xs : List (Entry K)) → entries_onto (step_up s t x).tree xs ≡ entries_onto (with_child s t x.tree) xs
  unfolding step_up
  step_list s t x xs = grind (arith, short_list)

  pub first_list : (t : Tree Bool K) (d : Entry K) (xs : List (Entry K)) → is_node t ≡ true → first_entry t d ∷ entries_onto (without_first t).tree xs ≡ entries_onto t xs
  unfolding spliced
  first_list leaf d xs h = cc
  first_list (node n c e leaf r) d xs h = grind arith
  first_list (node n c e (node m b f p q) r) d xs h =
      let below = first_list (node m b f p q) e (e ∷ entries_onto r xs) refl in
      let here = step_list false (node n c e (node m b f p q) r) (without_first (node m b f p q)) xs in
      cc

  pub root_list : (n : ℕ) (c : Bool) (e : Entry K) (l r : Tree Bool K) (xs : List (Entry K)) → entries_onto (without_root (node n c e l r)).tree xs ≡ entries_onto l (entries_onto r xs)
  unfolding without_root spliced
  root_list n c e leaf leaf xs = grind arith
  root_list n c e (node m d f p q) leaf xs = grind arith
  root_list n c e leaf (node m d f p q) xs = grind arith
  root_list n c e (node m d f p q) (node m' d' f' p' q') xs =
      let below = first_list (node m' d' f' p' q') e xs refl in
      let here = step_list true (node (first_serial p' m') c (first_entry p' f') (node m d f p q) (node m' d' f' p' q')) (without_first (node m' d' f' p' q')) xs in
      cc

  -- the nodes by their serial numbers
  pub sibling_occurrences : (s : Bool) (t : Tree Bool K) (i : ℕ) → occurrences i (sibling_fixed s t).tree ≡ occurrences i t
  unfolding sibling_fixed
  sibling_occurrences s t i = grind arith

  pub short_occurrences : (s : Bool) (t : Tree Bool K) (i : ℕ) → occurrences i (short_fixed s t).tree ≡ occurrences i t
  unfolding short_fixed
  short_occurrences s t i = grind (arith, sibling_occurrences)

  pub step_occurrences : (s : Bool) (t : Tree Bool K) (x : Shrunk K) (i : ℕ) → occurrences i (step_up s t x).tree ≡ occurrences i (with_child s t x.tree)
  unfolding step_up
  step_occurrences s t x i = grind (arith, short_occurrences)

  pub first_occurrences : (t : Tree Bool K) (d i : ℕ) → is_node t ≡ true → occurrences i (without_first t).tree + cond (eqb i (first_serial t d)) 1 0 ≡ occurrences i t
  unfolding spliced
  first_occurrences leaf d i h = grind arith
  first_occurrences (node n c e leaf r) d i h = grind arith
  first_occurrences (node n c e (node m b f p q) r) d i h =
      let below = first_occurrences (node m b f p q) n i refl in
      let here = step_occurrences false (node n c e (node m b f p q) r) (without_first (node m b f p q)) i in
      omega arith

  pub root_occurrences : (n : ℕ) (c : Bool) (e : Entry K) (l r : Tree Bool K) (i : ℕ) → occurrences i (without_root (node n c e l r)).tree ≡ occurrences i l + occurrences i r
  unfolding without_root spliced
  root_occurrences n c e leaf leaf i = grind arith
  root_occurrences n c e (node m d f p q) leaf i = grind arith
  root_occurrences n c e leaf (node m d f p q) i = grind arith
  root_occurrences n c e (node m d f p q) (node m' d' f' p' q') i =
      let below = first_occurrences (node m' d' f' p' q') n i refl in
      let here = step_occurrences true (node (first_serial p' m') c (first_entry p' f') (node m d f p q) (node m' d' f' p' q')) (without_first (node m' d' f' p' q')) i in
      omega arith
