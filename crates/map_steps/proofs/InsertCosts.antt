-- What an insertion takes, by the height of the tree.
use Rattle.std.proofs.Common.{◌≡◌, ℕ, suc, ◌+◌, ◌*◌, ◌≤◌, Bool, true, false, cond, ◌&&◌, ◌||◌, refl, arith}
use Rattle.trees.specs.Trees.{Entry, Tree, leaf, node, child, node_on, height}
use Rattle.trees.specs.RedBlack.{red, Balanced, insert_fixed, inserted}
use Rattle.trees.proofs.Insertion.{Grows, grows}
use Rattle.stored.specs.Becomes.{Cost, cost, plus}
use Rattle.map_steps.proofs.InsertFixes.{fix_cost}

pub by_test2 : {X Y : Type 0} (P : X → Y → Type 0) (b : Bool) (t u : X) (p q : Y) → (b ≡ true → P t p) → (b ≡ false → P u q) → P (cond b t u) (cond b p q)
by_test2 P true t u p q x y = x refl
by_test2 P false t u p q x y = y refl

module _ {K : Type 0} where
  -- a red root with a red child, which the level above has to put right
  abbrev pub red_top : Tree Bool K → Bool
  red_top t = red t && (red (child false t) || red (child true t))

  -- at most 4 links and 2 numbers a level, and 3 and 2 more where nothing is left to be put right
  pub record Cheap (h : ℕ) (u : Tree Bool K) (c : Cost) : Type 0 where
    pub links : c.links ≤ 4 * h + cond (red_top u) 0 3
    pub numbers : c.numbers ≤ 2 * h + cond (red_top u) 0 2
    pub nodes : c.nodes ≡ 1

  pub cheap_step : (s : Bool) (n : ℕ) (c : Bool) (e : Entry K) (a a' b : Tree Bool K) (x : Cost) (h : ℕ) → Balanced (node_on s n c e a b) → Grows a a' → Cheap h a' x
      → Cheap (suc h) (insert_fixed s (node_on s n c e a' b)) (plus (plus x (cost 1 0 0)) (fix_cost s (node_on s n c e a' b)))
  unfolding insert_fixed fix_cost
  cheap_step true n c e a a' b x h balanced g w = let p = w.links in let q = w.numbers in let o = w.nodes in grind arith
  cheap_step false n c e a a' b x h balanced g w = let p = w.links in let q = w.numbers in let o = w.nodes in grind arith

  pub cheap_more : (g h : ℕ) (u : Tree Bool K) (c : Cost) → g ≤ h → Cheap g u c → Cheap h u c
  cheap_more g h u c l w = record { links = omega (arith, w.links); numbers = omega (arith, w.numbers); nodes = w.nodes }

small : (b : Bool) (n : ℕ) → cond {A = ℕ} b 0 n ≤ n
small true n = omega arith
small false n = omega arith

module _ {K : Type 0} (before : K → K → Bool) (k : K) (v n : ℕ) where
  abbrev pub insert_cost : Tree Bool K → Cost
  insert_cost leaf = cost 0 0 1
  insert_cost (node m c f l r) =
      cond (before k f.key) (plus (plus (insert_cost l) (cost 1 0 0)) (fix_cost false (node m c f (inserted before k v n l) r)))
      (plus (plus (insert_cost r) (cost 1 0 0)) (fix_cost true (node m c f l (inserted before k v n r))))

  pub insert_cheap : (t : Tree Bool K) → Balanced t → Cheap (height t) (inserted before k v n t) (insert_cost t)
  insert_cheap leaf h = record { links = omega arith; numbers = omega arith; nodes = refl }
  insert_cheap (node m c f l r) h =
      by_test2 (λ u x. Cheap (height (node m c f l r)) u x) (before k f.key) _ _ _ _
      (λ _. cheap_more (suc (height l)) _ _ _ (omega arith) (cheap_step false m c f l (inserted before k v n l) r (insert_cost l) (height l) h (grows before k v n l h.0) (insert_cheap l h.0)))
      (λ _. cheap_more (suc (height r)) _ _ _ (omega arith) (cheap_step true m c f r (inserted before k v n r) l (insert_cost r) (height r) h (grows before k v n r h.1) (insert_cheap r h.1)))

  pub insert_links : (t : Tree Bool K) → Balanced t → (insert_cost t).links ≤ 4 * height t + 3
  insert_links t h = omega (arith, (insert_cheap t h).links, small (red_top (inserted before k v n t)) 3)

  pub insert_numbers : (t : Tree Bool K) → Balanced t → (insert_cost t).numbers ≤ 2 * height t + 2
  insert_numbers t h = omega (arith, (insert_cheap t h).numbers, small (red_top (inserted before k v n t)) 2)

  pub insert_node : (t : Tree Bool K) → Balanced t → (insert_cost t).nodes ≡ 1
  insert_node t h = (insert_cheap t h).nodes
