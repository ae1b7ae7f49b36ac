-- The steps of `insert_fix_of` make `insert_fixed` of the tree under their register.
use Rattle.std.proofs.Common.{◌≡◌, ℕ, suc, ◌+◌, ◌<◌, ◌≤◌, Bool, true, false, cond, not, ◌&&◌, ◌||◌, sym, refl, ap, ◌∙◌, subst, arith}
use Rattle.trees.specs.Trees.{Tree, is_node, root_of, child, with_child, with_mark, rotated, occurrences}
use Rattle.trees.specs.RedBlack.{red, insert_fixed}
use Rattle.memory.specs.Memory.{Memory, changed}
use Rattle.memory.specs.Steps.{with_reg}
use Rattle.memory.specs.Effects.{Ends}
use Rattle.memory.proofs.Numbers.{put_same, put_other, hits_some}
use Rattle.memory.proofs.By.{ends_then, ends_all, ends_cond, ends_last}
use Rattle.stored.specs.Stored.{colour, NamedOnce}
use Rattle.stored.specs.Writes.{relink_of, renumber_of, rotate_of}
use Rattle.stored.specs.Becomes.{Cost, cost, nothing, plus, writes, Ready, Becomes}
use Rattle.stored.proofs.Parts.{of_children, of-with_child, root-with_child, node-with_child, child-with_child, other-with_child, root-with_mark, of-with_mark, child-with_mark, root_of_lem, parent_node, of_rotated, node_rotated, stored_child}
use Rattle.stored.proofs.Changes.{ready_child, stay, ready_scratch, from_scratch, both, ready_next, once_next, once_child, by_relink, by_mark, by_mark_child}
use Rattle.stored.proofs.Turns.{turn}
use Rattle.map_steps.specs.Insert.{recolour_of, straighten_of, raise_of, rotations_of, red_pair_of, insert_fix_of}
use Rattle.map_steps.proofs.Reds.{red_node, by_red, by_child}

module _ {K : Type 0} where
  -- a black root with a red child on the side s that has a red child
  abbrev pub red_pair : Bool → Tree Bool K → Bool
  red_pair s t = not (red t) && red (child s t) && (red (child s (child s t)) || red (child (not s) (child s t)))

  -- what it takes to put it right
  unfoldable pub fix_cost : Bool → Tree Bool K → Cost
  fix_cost s t = cond (red_pair s t) (cond (red (child (not s) t)) (cost 0 3 0) (cond (red (child (not s) (child s t))) (cost 5 2 0) (cost 2 2 0))) nothing

  -- what `insert_fixed` and its cost come to
  pub fixed_none : (s : Bool) (t : Tree Bool K) → red_pair s t ≡ false → (insert_fixed s t ≡ t) × (fix_cost s t ≡ nothing)
  unfolding insert_fixed fix_cost
  fixed_none s t h = (grind arith, grind arith)

  pub fixed_recolours : (s : Bool) (t : Tree Bool K) → red_pair s t ≡ true → red (child (not s) t) ≡ true
      → (insert_fixed s t ≡ with_mark true (with_child (not s) (with_child s t (with_mark false (child s t))) (with_mark false (child (not s) t)))) × (fix_cost s t ≡ cost 0 3 0)
  unfolding insert_fixed fix_cost
  fixed_recolours s t a b = (grind arith, grind arith)

  pub fixed_rotates : (s : Bool) (t : Tree Bool K) → red_pair s t ≡ true → red (child (not s) t) ≡ false
      → (insert_fixed s t ≡ with_mark false (rotated s (with_mark true (cond (red (child (not s) (child s t))) (with_child s t (rotated (not s) (child s t))) t)))) × (fix_cost s t ≡ cond (red (child (not s) (child s t))) (cost 5 2 0) (cost 2 2 0))
  unfolding insert_fixed fix_cost
  fixed_rotates s t a b = (grind arith, grind arith)

pub re_tree : (m m' : Memory) (d : ℕ) (t u v : Tree Bool ℕ) (p q : Cost) → (v ≡ u) × (q ≡ p) → Becomes colour m m' d t u p → Becomes colour m m' d t v q
re_tree m m' d t u v p q h V = subst (λ (c : Cost). Becomes colour m m' d t v c) (sym h.1) (subst (λ (x : Tree Bool ℕ). Becomes colour m m' d t x p) (sym h.0) V)

pub recolour_ends : (m : Memory) (d : ℕ) (s : Bool) (t : Tree Bool ℕ) → Ready colour m d t → m.regs (suc d) ≡ root_of (child s t) → m.regs 28 ≡ root_of (child (not s) t) → is_node (child s t) ≡ true → is_node (child (not s) t) ≡ true → suc d < 26 → changed m + 3 ≤ m.change_limit
    → Ends (recolour_of d m) (λ _ m'. Becomes colour m m' d t (with_mark true (with_child (not s) (with_child s t (with_mark false (child s t))) (with_mark false (child (not s) t)))) (cost 0 3 0))
unfolding recolour_of
recolour_ends m d s t R e f a b l q =
    let ft = parent_node s t a in
    let t₁ = with_child s t (with_mark false (child s t)) in
    let t₂ = with_child (not s) t₁ (with_mark false (child (not s) t₁)) in
    let k₁ : child (not s) t₁ ≡ child (not s) t = other-with_child s t (with_mark false (child s t)) in
    let f₁ : is_node t₁ ≡ true = node-with_child s t (with_mark false (child s t)) ∙ ft in
    let s₁ : (i : ℕ) → occurrences i t₁ ≡ occurrences i t = λ i. omega (arith, of_children i s t, of-with_child i s t (with_mark false (child s t)) ft, of-with_mark i false (child s t)) in
    let s₂ : (i : ℕ) → occurrences i t₂ ≡ occurrences i t = λ i. omega (arith, s₁ i, of_children i (not s) t₁, of-with_child i (not s) t₁ (with_mark false (child (not s) t₁)) f₁, of-with_mark i false (child (not s) t₁)) in
    by_mark_child colour _ _ m d (suc d) (omega arith) s false t (omega arith) a ft e R (omega arith) (λ m₁ G₁ V₁.
    let R₁ = ready_next colour m m₁ d t t₁ (cost 0 1 0) s₁ R V₁ in
    by_mark_child colour _ _ m₁ d 28 (omega arith) (not s) false t₁ (omega arith) (ap is_node k₁ ∙ b) f₁ (G₁ 28 (omega arith) ∙ f ∙ ap root_of (sym k₁)) R₁ (omega (arith, V₁.linked, V₁.numbered, V₁.change_limit)) (λ m₂ G₂ V₂.
    let V = both colour m m₁ m₂ d t t₁ t₂ (cost 0 1 0) (cost 0 1 0) s₁ V₁ V₂ in
    let R₂ = ready_next colour m m₂ d t t₂ (cost 0 2 0) s₂ R V in
    ends_last (renumber_of 1 d 1 m₂) _ (by_mark colour _ _ m₂ d (omega arith) true t₂ (node-with_child (not s) t₁ _ ∙ f₁) R₂ (omega (arith, V.linked, V.numbered, V.change_limit)) (λ m₃ G₃ V₃.
    subst (λ (u : Tree Bool ℕ). Becomes colour m m₃ d t (with_mark true (with_child (not s) t₁ (with_mark false u))) (cost 0 3 0)) k₁ (both colour m m₂ m₃ d t t₂ (with_mark true t₂) (cost 0 2 0) (cost 0 1 0) s₂ V V₃)))))

pub straighten_ends : (m : Memory) (d : ℕ) (s : Bool) (t : Tree Bool ℕ) → Ready colour m d t → NamedOnce m t → m.regs (suc d) ≡ root_of (child s t) → is_node (child (not s) (child s t)) ≡ true → suc d < 26 → changed m + 3 ≤ m.change_limit
    → Ends (straighten_of d s m) (λ _ m'. Becomes colour m m' d t (with_child s t (rotated (not s) (child s t))) (cost 3 0 0))
unfolding straighten_of
straighten_ends m d s t R L e f l q =
    let nr = root_of_lem t (parent_node s t (parent_node (not s) (child s t) f)) in
    let n = nr.0 in
    let same : (i : ℕ) → occurrences i (rotated (not s) (child s t)) ≡ occurrences i (child s t) = λ i. of_rotated i (not s) (child s t) f in
    ends_then (rotate_of (suc d) (not s) m) _ (λ _ m₁. Becomes colour m m₁ (suc d) (child s t) (rotated (not s) (child s t)) (cost 2 0 0)) _
    (turn colour m (suc d) (not s) (child s t) f (ready_child colour m d (suc d) s t e R) (once_child colour m s t L) (omega arith) (omega arith))
    (λ _ m₁ V. ends_last (relink_of d s (suc d) m₁) _ (by_relink colour _ _ m m₁ d (suc d) (omega arith) s t (rotated (not s) (child s t)) n (cost 2 0 0) (omega arith) nr.1 R
    (omega (arith, R.distinct n, of_children n s t, hits_some n (root_of t) nr.1, same n))
    (λ i. omega (arith, R.distinct i, of_children i s t, same i))
    (λ i p. L i (omega (arith, of_children i s t, same i)))
    (omega arith) V (λ m₂ W _ _ _. W)))

pub raise_ends : (m m₁ : Memory) (d : ℕ) (s : Bool) (t t₁ : Tree Bool ℕ) → Ready colour m d t → NamedOnce m t → ((i : ℕ) → occurrences i t₁ ≡ occurrences i t) → root_of t₁ ≡ root_of t → is_node (child s t₁) ≡ true → d < 26 → changed m + 7 ≤ m.change_limit
    → (p : Cost) → writes p ≤ 3 → Becomes colour m m₁ d t t₁ p → Ends (raise_of d s m₁) (λ _ m'. Becomes colour m m' d t (with_mark false (rotated s (with_mark true t₁))) (plus (plus (plus p (cost 0 1 0)) (cost 2 0 0)) (cost 0 1 0)))
unfolding raise_of
raise_ends m m₁ d s t t₁ R L same e f l q c small V₁ =
    let p = with_mark true t₁ in
    let fp : is_node (child s p) ≡ true = ap is_node (child-with_mark s true t₁) ∙ f in
    let s₂ : (i : ℕ) → occurrences i p ≡ occurrences i t = λ i. of-with_mark i true t₁ ∙ same i in
    let s₃ : (i : ℕ) → occurrences i (rotated s p) ≡ occurrences i t = λ i. of_rotated i s p fp ∙ s₂ i in
    by_mark colour _ _ m₁ d (omega arith) true t₁ (parent_node s t₁ f) (ready_next colour m m₁ d t t₁ c same R V₁) (omega (arith, V₁.linked, V₁.numbered, V₁.change_limit)) (λ m₂ G₂ W₂.
    let V₂ = both colour m m₁ m₂ d t t₁ p c (cost 0 1 0) same V₁ W₂ in
    ends_then (rotate_of d s m₂) _ (λ _ m₃. Becomes colour m₂ m₃ d p (rotated s p) (cost 2 0 0)) _
    (turn colour m₂ d s p fp (ready_next colour m m₂ d t p (plus c (cost 0 1 0)) s₂ R V₂) (once_next colour m m₂ d t p (plus c (cost 0 1 0)) s₂ (root-with_mark true t₁ ∙ e) L V₂) (omega arith) (omega (arith, V₂.linked, V₂.numbered, V₂.change_limit)))
    (λ _ m₃ W₃.
    let V₃ = both colour m m₂ m₃ d t p (rotated s p) (plus c (cost 0 1 0)) (cost 2 0 0) s₂ V₂ W₃ in
    ends_last (renumber_of 1 d 0 m₃) _ (by_mark colour _ _ m₃ d (omega arith) false (rotated s p) (node_rotated s p fp) (ready_next colour m m₃ d t (rotated s p) (plus (plus c (cost 0 1 0)) (cost 2 0 0)) s₃ R V₃) (omega (arith, V₃.linked, V₃.numbered, V₃.change_limit)) (λ m₄ G₄ W₄.
    both colour m m₃ m₄ d t (rotated s p) (with_mark false (rotated s p)) (plus (plus c (cost 0 1 0)) (cost 2 0 0)) (cost 0 1 0) s₃ V₃ W₄))))

pub rotations_ends : (m : Memory) (d : ℕ) (s inner : Bool) (t : Tree Bool ℕ) → Ready colour m d t → NamedOnce m t → m.regs (suc d) ≡ root_of (child s t) → is_node (child s t) ≡ true → (inner ≡ true → is_node (child (not s) (child s t)) ≡ true) → suc d < 26 → changed m + 7 ≤ m.change_limit
    → Ends (rotations_of d s inner m) (λ _ m'. Becomes colour m m' d t (with_mark false (rotated s (with_mark true (cond inner (with_child s t (rotated (not s) (child s t))) t)))) (cond inner (cost 5 2 0) (cost 2 2 0)))
unfolding rotations_of
rotations_ends m d s true t R L e a f l q =
    let u = rotated (not s) (child s t) in
    let ft = parent_node s t a in
    ends_then (straighten_of d s m) _ (λ _ m₁. Becomes colour m m₁ d t (with_child s t u) (cost 3 0 0)) _ (straighten_ends m d s t R L e (f refl) l (omega arith))
    (λ _ m₁ V. raise_ends m m₁ d s t (with_child s t u) R L (λ i. omega (arith, of_children i s t, of-with_child i s t u ft, of_rotated i (not s) (child s t) (f refl)))
    (root-with_child s t u) (ap is_node (child-with_child s t u ft) ∙ node_rotated (not s) (child s t) (f refl)) (omega arith) q (cost 3 0 0) (omega arith) V)
rotations_ends m d s false t R L e a f l q = raise_ends m m d s t t R L (λ i. refl) refl a (omega arith) q nothing (omega arith) (stay colour m d t t R refl)

pair_parts : (x y z : Bool) → not x && y && z ≡ true → (x ≡ false) × (y ≡ true) × (z ≡ true)
pair_parts x y z h = (grind arith, grind arith, grind arith)

pair_none : (x y z : Bool) → (x ≡ true) → not x && y && z ≡ false
pair_none x y z h = grind arith

pair_black : (x y z : Bool) → (y ≡ false) → not x && y && z ≡ false
pair_black x y z h = grind arith

pair_fine : (x y z : Bool) → (z ≡ false) → not x && y && z ≡ false
pair_fine x y z h = grind arith

pair_all : (x y z : Bool) → x ≡ false → y ≡ true → z ≡ true → not x && y && z ≡ true
pair_all x y z a b c = grind arith

pub pair_ends : (m : Memory) (d : ℕ) (s : Bool) (t : Tree Bool ℕ) → Ready colour m d t → NamedOnce m t → m.regs (suc d) ≡ root_of (child s t) → red_pair s t ≡ true → suc d < 26 → changed m + 7 ≤ m.change_limit
    → Ends (red_pair_of d s (red (child (not s) (child s t))) m) (λ _ m'. Becomes colour m m' d t (insert_fixed s t) (fix_cost s t))
unfolding red_pair_of
pair_ends m d s t R L e pair l q =
    let parts = pair_parts (red t) (red (child s t)) _ pair in
    let fk = red_node (child s t) parts.1 in
    let x = root_of (child (not s) t) in
    let m₁ = with_reg m 28 x in
    let R₁ = ready_scratch colour m d 28 x t (omega arith) R in
    let e₁ : m₁.regs (suc d) ≡ root_of (child s t) = put_other m.regs 28 (suc d) x (omega arith) ∙ e in
    by_child _ _ colour m d 28 (not s) t (omega arith) (omega arith) (parent_node s t fk) R.reg R.stored
    (by_red _ _ 28 (omega arith) m₁ (child (not s) t) (put_same m.regs 28 x) (stored_child colour m.state.nodes (not s) t R.stored)
    (ends_cond (red (child (not s) t)) _ _ _
    (λ h. ends_all (recolour_of d m₁) _ _ (recolour_ends m₁ d s t R₁ e₁ (put_same m.regs 28 x) fk (red_node (child (not s) t) h) l (omega arith))
    (λ _ m' V. re_tree m m' d t _ (insert_fixed s t) (cost 0 3 0) (fix_cost s t) (fixed_recolours s t pair h) (from_scratch colour m m' d 28 x t _ (cost 0 3 0) (omega arith) (omega arith) V)))
    (λ h. ends_all (rotations_of d s (red (child (not s) (child s t))) m₁) _ _ (rotations_ends m₁ d s (red (child (not s) (child s t))) t R₁ L e₁ fk (red_node (child (not s) (child s t))) l q)
    (λ _ m' V. re_tree m m' d t _ (insert_fixed s t) _ (fix_cost s t) (fixed_rotates s t pair h) (from_scratch colour m m' d 28 x t _ _ (omega arith) (omega arith) V)))))

pub insert_fix_ends : (m : Memory) (d : ℕ) (s : Bool) (t : Tree Bool ℕ) → Ready colour m d t → NamedOnce m t → m.regs (suc d) ≡ root_of (child s t) → suc d < 26 → changed m + 7 ≤ m.change_limit
    → Ends (insert_fix_of d s m) (λ _ m'. Becomes colour m m' d t (insert_fixed s t) (fix_cost s t))
unfolding insert_fix_of
insert_fix_ends m d s t R L e l q =
    let k = child s t in
    let x₁ = root_of (child s k) in
    let x₂ = root_of (child (not s) k) in
    let reds = red (child s k) || red (child (not s) k) in
    let m₁ = with_reg m 26 x₁ in
    let m₂ = with_reg m₁ 27 x₂ in
    let R₂ = ready_scratch colour m₁ d 27 x₂ t (omega arith) (ready_scratch colour m d 26 x₁ t (omega arith) R) in
    let e₁ : m₁.regs (suc d) ≡ root_of k = put_other m.regs 26 (suc d) x₁ (omega arith) ∙ e in
    let e₂ : m₂.regs (suc d) ≡ root_of k = put_other m₁.regs 27 (suc d) x₂ (omega arith) ∙ e₁ in
    let hk = stored_child colour m.state.nodes s t R.stored in
    let back : (m' : Memory) → Becomes colour m₂ m' d t (insert_fixed s t) (fix_cost s t) → Becomes colour m m' d t (insert_fixed s t) (fix_cost s t) = λ m' V. from_scratch colour m m' d 26 x₁ t (insert_fixed s t) _ (omega arith) (omega arith) (from_scratch colour m₁ m' d 27 x₂ t (insert_fixed s t) _ (omega arith) (omega arith) V) in
    by_red _ _ d (omega arith) m t R.reg R.stored (ends_cond (red t) _ _ _
    (λ a. re_tree m m d t t (insert_fixed s t) nothing (fix_cost s t) (fixed_none s t (pair_none (red t) (red k) reds a)) (stay colour m d t t R refl))
    (λ a. by_red _ _ (suc d) (omega arith) m k e hk (ends_cond (red k) _ _ _
    (λ b.
    by_child _ _ colour m (suc d) 26 s k (omega arith) (omega arith) (red_node k b) e hk
    (by_child _ _ colour m₁ (suc d) 27 (not s) k (omega arith) (omega arith) (red_node k b) e₁ hk
    (by_red _ _ 26 (omega arith) m₂ (child s k) (put_other m₁.regs 27 26 x₂ (omega arith) ∙ put_same m.regs 26 x₁) (stored_child colour m.state.nodes s k hk)
    (by_red _ _ 27 (omega arith) m₂ (child (not s) k) (put_same m₁.regs 27 x₂) (stored_child colour m.state.nodes (not s) k hk)
    (ends_cond reds _ _ _
    (λ c. ends_all (red_pair_of d s (red (child (not s) k)) m₂) _ _ (pair_ends m₂ d s t R₂ L e₂ (pair_all (red t) (red k) reds a b c) l q) (λ _ m' V. back m' V))
    (λ c. back m₂ (re_tree m₂ m₂ d t t (insert_fixed s t) nothing (fix_cost s t) (fixed_none s t (pair_fine (red t) (red k) reds c)) (stay colour m₂ d t t R₂ refl))))))))
    (λ b. re_tree m m d t t (insert_fixed s t) nothing (fix_cost s t) (fixed_none s t (pair_black (red t) (red k) reds b)) (stay colour m d t t R refl)))))
