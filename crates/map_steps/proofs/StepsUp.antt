-- One level of a removal: the child that was changed is linked again, and its side put right.
use Rattle.std.proofs.Common.{◌≡◌, ℕ, suc, ◌+◌, ◌<◌, ◌≤◌, Bool, true, false, cond, not, Some, None, sym, refl, ap, ◌∙◌, subst, subst₂, arith}
use Rattle.trees.specs.Trees.{Tree, leaf, node, is_node, root_of, child, with_child, occurrences}
use Rattle.trees.specs.RedBlack.{red, black_height, Balanced}
use Rattle.trees.specs.Removal.{Shrunk, Shrinks, short_fixed, step_up}
use Rattle.memory.specs.Memory.{Memory, changed}
use Rattle.memory.specs.Steps.{done}
use Rattle.memory.specs.Effects.{Ends}
use Rattle.memory.proofs.Numbers.{hits_some}
use Rattle.memory.proofs.By.{ends_all}
use Rattle.stored.specs.Stored.{colour, NamedOnce}
use Rattle.stored.specs.Becomes.{Cost, cost, nothing, plus, writes, Ready, Becomes}
use Rattle.stored.proofs.Parts.{no_test, of_children, of-with_child, root-with_child, other-with_child, root_of_lem}
use Rattle.stored.proofs.Changes.{in_turn, ready_after, once_after, by_relink}
use Rattle.map_steps.specs.Remove.{short_fix_of, step_up_of}
use Rattle.map_steps.proofs.Shorts.{cost_eq, recost, short_cost, short_ends}

-- what one level takes
abbrev pub step_cost : Bool → Tree Bool ℕ → Shrunk ℕ → Cost
step_cost s t x = plus (cost 1 0 0) (cond x.short (short_cost s (with_child s t x.tree)) nothing)

module _ {K : Type 0} where
  on_each : (a b : Tree Bool K) → is_node a ≡ true → is_node b ≡ true → (s : Bool) → is_node (cond s b a) ≡ true
  on_each a b p q true = q
  on_each a b p q false = p

  -- beside a side that is short there is a sibling, and a red one has two children
  pub sibling_there : (a b : Tree Bool K) (x : Shrunk K) → black_height a ≡ black_height b → Balanced b → Shrinks a x → x.short ≡ true → (is_node b ≡ true) × (red b ≡ true → (s : Bool) → is_node (child s b) ≡ true)
  sibling_there a leaf x level h g short = let z = g.level in absurd (grind arith)
  sibling_there a (node p true e leaf r) x level h g short = let z = g.level in absurd (grind arith)
  sibling_there a (node p true e (node p₂ c₂ e₂ l₂ r₂) leaf) x level h g short = let z = g.level in let y = h.2 in absurd (grind arith)
  sibling_there a (node p true e (node p₂ c₂ e₂ l₂ r₂) (node p₃ c₃ e₃ l₃ r₃)) x level h g short = (refl, λ _ s. on_each (node p₂ c₂ e₂ l₂ r₂) (node p₃ c₃ e₃ l₃ r₃) refl refl s)
  sibling_there a (node p false e l r) x level h g short = (refl, λ z. no_test z)

  pub balanced_parts : (s : Bool) (t : Tree Bool K) → Balanced t → Balanced (child s t) × Balanced (child (not s) t) × (black_height (child s t) ≡ black_height (child (not s) t))
  balanced_parts s leaf h = (tt, tt, refl)
  balanced_parts true (node n c e l r) h = (h.1, h.0, sym h.2)
  balanced_parts false (node n c e l r) h = (h.0, h.1, h.2)

  step_short : (s : Bool) (t : Tree Bool K) (x : Shrunk K) → x.short ≡ true → step_up s t x ≡ short_fixed s (with_child s t x.tree)
  unfolding step_up
  step_short s t x h = rw h

  step_long : (s : Bool) (t : Tree Bool K) (x : Shrunk K) → x.short ≡ false → step_up s t x ≡ record { tree = with_child s t x.tree; short = false }
  unfolding step_up
  step_long s t x h = rw h

  pub as_step : (s : Bool) (t : Tree Bool K) (x : Shrunk K) (b : Bool) → x.short ≡ b → step_up s t x ≡ cond x.short (short_fixed s (with_child s t x.tree)) (record { tree = with_child s t x.tree; short = false })
  as_step s t x true e = step_short s t x e ∙ (rw e)
  as_step s t x false e = step_long s t x e ∙ (rw e)

-- what can be said of the other side v of a tree
abbrev pub Siblings : Bool → Bool → Tree Bool ℕ → Type 0
Siblings short s v = short ≡ true → (is_node (child (not s) v) ≡ true) × (red (child (not s) v) ≡ true → is_node (child s (child (not s) v)) ≡ true)

-- the side is put right where it is short
pub short_after : (m m₃ : Memory) (d : ℕ) (s : Bool) (t v : Tree Bool ℕ) (short : Bool) (c : Cost) → Ready colour m₃ d v → NamedOnce m₃ v → m₃.regs 35 ≡ None → suc d < 26 → Siblings short s v → changed m₃ + 16 ≤ m₃.change_limit
    → ((i : ℕ) → occurrences i v ≤ occurrences i t) → Becomes colour m m₃ d t v c
    → Ends (cond short (short_fix_of d s m₃) (done false m₃)) (λ short' m'. (short' ≡ (cond short (short_fixed s v) (record { tree = v; short = false })).short) × Becomes colour m m' d t (cond short (short_fixed s v) (record { tree = v; short = false })).tree (plus c (cond short (short_cost s v) nothing)) × ((i : ℕ) → occurrences i v ≡ 0 → i < m₃.made → m'.state.nodes i ≡ m₃.state.nodes i))
short_after m m₃ d s t v true c R L nil l b q fewer V =
    let z = b refl in
    ends_all (short_fix_of d s m₃) _ _ (short_ends m₃ d s v R L nil l z.0 z.1 q)
    (λ short' m' F. (F.0, in_turn colour m m₃ m' d t v (short_fixed s v).tree c (short_cost s v) (λ i w e. omega (arith, fewer i)) V F.1, F.1.others))
short_after m m₃ d s t v false c R L nil l b q fewer V = (refl, recost m m₃ d t v c (plus c nothing) (cost_eq _ _ (omega arith) (omega arith) (omega arith)) V, λ i z w. refl)

pub step_ends : (m m₁ : Memory) (d : ℕ) (s : Bool) (t : Tree Bool ℕ) (x : Shrunk ℕ) (c : Cost) → Ready colour m d t → NamedOnce m t → m.regs 35 ≡ None → suc d < 26 → is_node t ≡ true → Balanced t → Shrinks (child s t) x
    → ((i : ℕ) → occurrences i x.tree ≤ occurrences i (child s t)) → changed m + (writes c + 17) ≤ m.change_limit
    → Becomes colour m m₁ (suc d) (child s t) x.tree c
    → Ends (step_up_of d s x.short m₁) (λ short m'. (short ≡ (step_up s t x).short) × Becomes colour m m' d t (step_up s t x).tree (plus c (step_cost s t x)) × ((i : ℕ) → occurrences i (with_child s t x.tree) ≡ 0 → i < m.made → m'.state.nodes i ≡ m₁.state.nodes i))
unfolding step_up_of
step_ends m m₁ d s t x c R L nil l ft balanced thin fewer sp V =
    let u = x.tree in
    let nt = root_of_lem t ft in
    let n = nt.0 in
    let v = with_child s t u in
    by_relink colour _ _ m m₁ d (suc d) (omega arith) s t u n c (omega arith) nt.1 R
    (omega (arith, R.distinct n, of_children n s t, hits_some n (root_of t) nt.1, fewer n))
    (λ i. omega (arith, R.distinct i, of_children i s t, fewer i))
    (λ i p. L i (omega (arith, of_children i s t, fewer i)))
    (omega arith) V (λ m₃ V₃ G₃ N₃ E₃.
    let tv : (i : ℕ) → occurrences i v ≤ occurrences i t = λ i. omega (arith, of-with_child i s t u ft, of_children i s t, fewer i) in
    let R₃ = ready_after colour m m₃ d t v (plus c (cost 1 0 0)) tv R V₃ in
    let L₃ = once_after colour m m₃ d t v (plus c (cost 1 0 0)) tv (root-with_child s t u) L V₃ in
    let parts = balanced_parts s t balanced in
    let there : Siblings x.short s v = λ h.
    let w = sibling_there (child s t) (child (not s) t) x parts.2 parts.1 thin h in
    subst (λ (k : Tree Bool ℕ). (is_node k ≡ true) × (red k ≡ true → is_node (child s k) ≡ true)) (sym (other-with_child s t u)) (w.0, λ r. w.1 r s) in
    ends_all (cond x.short (short_fix_of d s m₃) (done false m₃)) _ _
    (short_after m m₃ d s t v x.short (plus c (cost 1 0 0)) R₃ L₃ (V₃.still 35 (omega arith) (omega arith) ∙ nil) l there (omega (arith, V₃.linked, V₃.numbered, V₃.change_limit)) tv V₃)
    (λ short m' F. (
      F.0 ∙ ap (λ (y : Shrunk ℕ). y.short) (sym (as_step s t x x.short refl)),
      subst₂ (λ (y : Shrunk ℕ) (z : Cost). Becomes colour m m' d t y.tree z) (sym (as_step s t x x.short refl)) (cost_eq _ _ (omega arith) (omega arith) (omega arith)) F.1,
      λ i z w. F.2 i z (omega (arith, V₃.made)) ∙ E₃ i (λ g. let y : root_of t ≡ Some i = nt.1 ∙ ap Some g in omega (arith, hits_some i (root_of t) y, of-with_child i s t u ft)),
    )))
