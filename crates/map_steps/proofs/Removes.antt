-- The node with a key is taken out of the tree under a register.
use Rattle.std.proofs.Common.{◌≡◌, ℕ, zero, suc, ◌+◌, ◌*◌, ◌<◌, ◌≤◌, Bool, true, false, cond, eqb, Some, None, sym, refl, ◌∙◌, subst, arith}
use Rattle.trees.specs.Trees.{Entry, Tree, leaf, node, root_of, child, with_child, occurrences, height}
use Rattle.trees.specs.RedBlack.{Balanced, holds}
use Rattle.trees.specs.Removal.{Shrunk, Shrinks, step_up, without_first, first_entry, first_serial, without_root, removed, removed_serial}
use Rattle.trees.proofs.Removals.{removed_shrinks}
use Rattle.memory.specs.Memory.{Memory, changed}
use Rattle.memory.specs.Steps.{Done, with_reg}
use Rattle.memory.specs.Effects.{Ends}
use Rattle.memory.proofs.Numbers.{put_same, put_other}
use Rattle.memory.proofs.By.{ends_then, ends_all, by_key}
use Rattle.stored.specs.Stored.{colour, NamedOnce}
use Rattle.stored.specs.Becomes.{Cost, cost, nothing, plus, writes, Ready}
use Rattle.stored.proofs.Parts.{self, no_test, of_children, of-with_child, is_node_lem}
use Rattle.stored.proofs.Changes.{ready_child, ready_scratch, once_child}
use Rattle.map_steps.specs.Remove.{step_up_of, root_out_of, below_of, on_way, way_to, remove_of}
use Rattle.map_steps.proofs.Reds.{by_child}
use Rattle.map_steps.proofs.StepsUp.{step_cost, as_step, step_ends}
use Rattle.map_steps.proofs.Firsts.{Thrifty, thrifty_more, thrifty_all, thrifty_short, thrifty_step, take_low, first_cost, first_thrifty, over, ready_over}
use Rattle.map_steps.proofs.Roots.{bare_same, Removed, replaced_by, swap_cost, root_cost, root_out_ends}
use Rattle.trees.specs.Lists.{KeyOrder}
use Rattle.trees.proofs.RemovedLists.{removed_occurrences}
use Rattle.map_steps.proofs.InsertCosts.{by_test2}

root_thrifty : (n : ℕ) (c : Bool) (e : Entry ℕ) (l r : Tree Bool ℕ) → Thrifty (height (node n c e l r)) 4 1 (without_root (node n c e l r)) (root_cost (node n c e l r))
unfolding without_root
root_thrifty n c e l leaf = let z = take_low true false (node n c e l leaf) in record { links = omega (arith, z.0); numbers = omega (arith, z.1); nodes = z.2 }
root_thrifty n c e leaf (node n₂ c₂ e₂ l₂ r₂) = let z = take_low true true (node n c e leaf (node n₂ c₂ e₂ l₂ r₂)) in record { links = omega (arith, z.0); numbers = omega (arith, z.1); nodes = z.2 }
root_thrifty n c e (node n₁ c₁ e₁ l₁ r₁) (node n₂ c₂ e₂ l₂ r₂) =
    let l = node n₁ c₁ e₁ l₁ r₁ in
    let r = node n₂ c₂ e₂ l₂ r₂ in
    let T = first_thrifty r in
    thrifty_more (suc (height r)) _ 4 1 _ _ (omega arith)
    (subst (λ (y : Shrunk ℕ). Thrifty (suc (height r)) 4 1 y (swap_cost n c e l r)) (sym (as_step true (node (first_serial r n) c (first_entry r e) l r) (without_first r) (without_first r).short refl))
    (thrifty_short (height r) 4 1 true (replaced_by n c e l r) (without_first r).short (plus (first_cost r) (cost 4 1 0)) (omega (arith, T.links)) (omega (arith, T.numbers)) (omega (arith, T.nodes))))

-- one level, whichever the side
below_ends : (below : ℕ → Memory → Done Bool) (m : Memory) (d : ℕ) (s : Bool) (t : Tree Bool ℕ) (n : ℕ) (x : Shrunk ℕ) (gone : ℕ) (c : Cost) → root_of t ≡ Some n → Ready colour m d t → NamedOnce m t → m.regs 35 ≡ None → suc d < 26 → Balanced t → Shrinks (child s t) x
    → ((i : ℕ) → occurrences i x.tree + cond (eqb i gone) 1 0 ≡ occurrences i (child s t)) → changed m + (writes c + 17) ≤ m.change_limit
    → Ends (below (suc d) (with_reg m (suc d) (root_of (child s t)))) (λ short m₂. Removed (with_reg m (suc d) (root_of (child s t))) m₂ (suc d) (child s t) x gone c short)
    → Ends (below_of below d s m) (λ short m'. Removed m m' d t (step_up s t x) gone (plus c (step_cost s t x)) short)
unfolding below_of
below_ends below m d s t n x gone c e R L nil l balanced thin fewer sp go =
    let y = root_of (child s t) in
    let ft = is_node_lem t n e in
    let one = self gone in
    let zg : occurrences gone (with_child s t x.tree) ≡ 0 = omega (arith, of-with_child gone s t x.tree ft, of_children gone s t, fewer gone, R.distinct gone) in
    let wg : gone < m.made = R.within gone (omega (arith, of_children gone s t, fewer gone)) in
    by_child _ _ colour m d (suc d) s t (omega arith) (omega arith) ft R.reg R.stored
    (ends_then (below (suc d) (with_reg m (suc d) y)) _ (λ short m₂. Removed (with_reg m (suc d) y) m₂ (suc d) (child s t) x gone c short) _ go
    (λ short m₂ B.
    let f = B.start in
    subst (λ (b : Bool). Ends (step_up_of d s b m₂) (λ short' m'. Removed m m' d t (step_up s t x) gone (plus c (step_cost s t x)) short')) (sym B.flag)
    (ends_all (step_up_of d s x.short m₂) _ _
    (step_ends (over m f) m₂ d s t x c (ready_over m f d t (B.below d (omega arith) ∙ put_other m.regs (suc d) d y (omega arith) ∙ R.reg) R) L (B.nil ∙ put_other m.regs (suc d) 35 y (omega arith) ∙ nil) l ft balanced thin (λ i. omega (arith, fewer i)) sp B.becomes)
    (λ short' m' S. record {
      flag = S.0;
      start = f;
      below = λ j p. B.below j (omega arith) ∙ put_other m.regs (suc d) j y (omega arith);
      nil = B.nil ∙ put_other m.regs (suc d) 35 y (omega arith);
      becomes = S.1;
      bare = bare_same m₂ m' gone (S.2 gone zg wg) B.bare;
    }))))

module _ (before : ℕ → ℕ → Bool) (k : ℕ) where
  abbrev pub remove_cost : Tree Bool ℕ → Cost
  remove_cost leaf = nothing
  remove_cost (node n c f l r) =
      cond (before k f.key) (plus (remove_cost l) (step_cost false (node n c f l r) (removed before k l)))
      (cond (before f.key k) (plus (remove_cost r) (step_cost true (node n c f l r) (removed before k r))) (root_cost (node n c f l r)))

  pub remove_thrifty : (t : Tree Bool ℕ) → Thrifty (height t) 4 1 (removed before k t) (remove_cost t)
  remove_thrifty leaf = record { links = omega arith; numbers = omega arith; nodes = refl }
  remove_thrifty (node n c f l r) =
      by_test2 (λ x y. Thrifty (height (node n c f l r)) 4 1 x y) (before k f.key) _ _ _ _
      (λ _. thrifty_more (suc (height l)) _ 4 1 _ _ (omega arith) (thrifty_step (height l) 4 1 false (node n c f l r) (removed before k l) (remove_cost l) (remove_thrifty l)))
      (λ _. by_test2 (λ x y. Thrifty (height (node n c f l r)) 4 1 x y) (before f.key k) _ _ _ _
      (λ _. thrifty_more (suc (height r)) _ 4 1 _ _ (omega arith) (thrifty_step (height r) 4 1 true (node n c f l r) (removed before k r) (remove_cost r) (remove_thrifty r)))
      (λ _. root_thrifty n c f l r))

  -- what the key decides at a node
  at_node_lem : (g : ℕ) (below : ℕ → Memory → Done Bool) (m : Memory) (d n : ℕ) (c : Bool) (f : Entry ℕ) (l r : Tree Bool ℕ) (p q : Bool) → before k f.key ≡ p → before f.key k ≡ q
      → (p ≡ true → Ends (below_of below d false m) (λ short m'. Removed m m' d (node n c f l r) (step_up false (node n c f l r) (removed before k l)) (removed_serial before k l) (plus (remove_cost l) (step_cost false (node n c f l r) (removed before k l))) short))
      → (p ≡ false → q ≡ true → Ends (below_of below d true m) (λ short m'. Removed m m' d (node n c f l r) (step_up true (node n c f l r) (removed before k r)) (removed_serial before k r) (plus (remove_cost r) (step_cost true (node n c f l r) (removed before k r))) short))
      → Ends (root_out_of g d m) (λ short m'. Removed m m' d (node n c f l r) (without_root (node n c f l r)) n (root_cost (node n c f l r)) short)
      → Ends (on_way (way_to before k f.key) (root_out_of g d m) (λ s. below_of below d s m)) (λ short m'. Removed m m' d (node n c f l r) (removed before k (node n c f l r)) (removed_serial before k (node n c f l r)) (remove_cost (node n c f l r)) short)
  at_node_lem g below m d n c f l r true q e e' x y z = rw e (x refl)
  at_node_lem g below m d n c f l r false true e e' x y z = rw (e, e') (y refl refl)
  at_node_lem g below m d n c f l r false false e e' x y z = rw (e, e') z

  pub remove_ends : KeyOrder before → (g : ℕ) (m : Memory) (d : ℕ) (t : Tree Bool ℕ) → holds before k t ≡ true → Ready colour m d t → NamedOnce m t → m.regs 35 ≡ None → Balanced t → height t ≤ g → height t + d ≤ 24 → changed m + (3 * height t + 45) ≤ m.change_limit
      → Ends (remove_of (way_to before k) g d m) (λ short m'. Removed m m' d t (removed before k t) (removed_serial before k t) (remove_cost t) short)
  unfolding remove_of
  remove_ends o g m d leaf h R L nil balanced hg hd q = no_test h
  remove_ends o zero m d (node n c f l r) h R L nil balanced hg hd q = absurd (omega arith)
  remove_ends o (suc g) m d (node n c f l r) h R L nil balanced hg hd q =
      let t = node n c f l r in
      let N = R.stored.0 in
      let al = thrifty_all (height l) 4 1 (removed before k l) (remove_cost l) (remove_thrifty l) in
      let ar = thrifty_all (height r) 4 1 (removed before k r) (remove_cost r) (remove_thrifty r) in
      let way = way_to before k in
      by_key _ _ d n N.it m (record { low = omega arith; names = R.reg; node = N.there })
      (subst (λ (p : ℕ). Ends (on_way (way p) (root_out_of g d m) (λ s. below_of (remove_of way g) d s m)) (λ short m'. Removed m m' d t (removed before k t) (removed_serial before k t) (remove_cost t) short)) (sym N.key)
      (at_node_lem g (remove_of way g) m d n c f l r (before k f.key) (before f.key k) refl refl
      (λ e.
      let hl : holds before k l ≡ true = rw e at h in
      below_ends (remove_of way g) m d false t n (removed before k l) (removed_serial before k l) (remove_cost l) refl R L nil (omega arith) balanced (removed_shrinks before k l balanced.0) (λ i. removed_occurrences o k l i hl) (omega (arith, al.0, al.1))
      (remove_ends o g (with_reg m (suc d) (root_of l)) (suc d) l hl (ready_child colour (with_reg m (suc d) (root_of l)) d (suc d) false t (put_same m.regs (suc d) (root_of l)) (ready_scratch colour m d (suc d) (root_of l) t (omega arith) R)) (once_child colour m false t L) (put_other m.regs (suc d) 35 (root_of l) (omega arith) ∙ nil) balanced.0 (omega arith) (omega arith) (omega arith)))
      (λ e e'.
      let hr : holds before k r ≡ true = rw (e, e') at h in
      below_ends (remove_of way g) m d true t n (removed before k r) (removed_serial before k r) (remove_cost r) refl R L nil (omega arith) balanced (removed_shrinks before k r balanced.1) (λ i. removed_occurrences o k r i hr) (omega (arith, ar.0, ar.1))
      (remove_ends o g (with_reg m (suc d) (root_of r)) (suc d) r hr (ready_child colour (with_reg m (suc d) (root_of r)) d (suc d) true t (put_same m.regs (suc d) (root_of r)) (ready_scratch colour m d (suc d) (root_of r) t (omega arith) R)) (once_child colour m true t L) (put_other m.regs (suc d) 35 (root_of r) (omega arith) ∙ nil) balanced.1 (omega arith) (omega arith) (omega arith)))
      (root_out_ends g m d n c f l r R L nil balanced (omega arith) (omega arith) (omega arith) (omega arith))))
