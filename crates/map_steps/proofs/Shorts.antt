-- The steps of `short_fix_of` make `short_fixed` of the tree under their register.
use Rattle.std.proofs.Common.{◌≡◌, ℕ, suc, ◌+◌, ◌<◌, ◌≤◌, Bool, true, false, cond, not, Some, None, sym, refl, ap, ◌∙◌, subst, arith}
use Rattle.trees.specs.Trees.{Tree, is_node, root_of, child, with_child, with_mark, rotated, occurrences}
use Rattle.trees.specs.RedBlack.{red}
use Rattle.trees.specs.Removal.{Shrunk, sibling_fixed, short_fixed}
use Rattle.trees.proofs.Removals.{sibling_occurrences}
use Rattle.memory.specs.Memory.{Memory, changed, hits}
use Rattle.memory.specs.Steps.{with_reg}
use Rattle.memory.specs.Effects.{Ends}
use Rattle.memory.proofs.Numbers.{put_same, put_other, hits_some}
use Rattle.memory.proofs.By.{ends_then, ends_all, ends_cond, by_link}
use Rattle.stored.specs.Stored.{side, colour, NamedOnce}
use Rattle.stored.specs.Writes.{rotate_of}
use Rattle.stored.specs.Becomes.{Cost, cost, plus, writes, Ready, Becomes}
use Rattle.stored.proofs.Parts.{side_low, no_node, hits_root, of_children, inside_children, of-with_child, root-with_child, node-with_child, child-with_child, root-with_mark, of-with_mark, node-with_mark, child-with_mark, root_of_lem, parent_node, of_rotated, node_rotated, stored_child, stored_root, keep_else}
use Rattle.stored.proofs.Nodes.{link_stored}
use Rattle.stored.proofs.Writing.{from_linked}
use Rattle.stored.proofs.Changes.{ready_scratch, from_scratch, both, ready_next, once_next, by_mark, by_mark_child}
use Rattle.stored.proofs.Turns.{turn}
use Rattle.map_steps.specs.Remove.{sibling_fix_of, regraft_of, red_sibling_of, short_fix_of}
use Rattle.map_steps.proofs.Reds.{by_red, by_child}
use Rattle.map_steps.proofs.Siblings.{sibling_cost, SiblingFixed, sibling_ends}

pub cost_eq : (a b : Cost) → a.links ≡ b.links → a.numbers ≡ b.numbers → a.nodes ≡ b.nodes → a ≡ b
cost_eq a b x y z = by_parts a.links a.numbers a.nodes b.links b.numbers b.nodes x y z
  where
    by_parts : (p q r p' q' r' : ℕ) → p ≡ p' → q ≡ q' → r ≡ r' → cost p q r ≡ cost p' q' r'
    by_parts p q r p' q' r' x y z = cc

cost_swap : (c : Cost) → plus (cost 2 2 0) (plus c (cost 2 0 0)) ≡ plus (cost 4 2 0) c
cost_swap c = cost_eq _ _ (omega arith) (omega arith) (omega arith)

pub recost : (m m' : Memory) (d : ℕ) (t u : Tree Bool ℕ) (p q : Cost) → p ≡ q → Becomes colour m m' d t u p → Becomes colour m m' d t u q
recost m m' d t u p q h V = subst (λ (c : Cost). Becomes colour m m' d t u c) h V

cost_ten : (s : Bool) (t : Tree Bool ℕ) → writes (sibling_cost s t) ≤ 10
cost_ten s t = grind arith

cost_none : (s : Bool) (t : Tree Bool ℕ) → (sibling_cost s t).nodes ≡ 0
cost_none s t = grind arith

pub regraft_ends : (m : Memory) (d : ℕ) (s : Bool) (t : Tree Bool ℕ) → Ready colour m d t → m.regs 35 ≡ None → ((i : ℕ) → 1 ≤ occurrences i (child s t) → m.state.names i ≤ 1 + hits i (root_of (child s t)))
    → suc d < 26 → is_node t ≡ true → is_node (child (not s) (child s t)) ≡ true → changed m + 12 ≤ m.change_limit
    → Ends (regraft_of d s m) (λ short m'. (short ≡ false) × Becomes colour m m' d t (with_child s t (sibling_fixed s (child s t)).tree) (plus (sibling_cost s (child s t)) (cost 2 0 0)))
unfolding regraft_of
regraft_ends m d s t R nil low l ft fk q =
    let k = child s t in
    let u = (sibling_fixed s k).tree in
    let nt = root_of_lem t ft in
    let n = nt.0 in
    let e = nt.1 in
    let x = root_of k in
    let m₁ = with_reg m (suc d) x in
    let N = stored_root colour m.state.nodes s t n e R.stored in
    let y = N.0 in
    let old : (i : ℕ) → hits i (y.links (side s)) ≡ hits i x = λ i. ap (hits i) N.2 in
    let zk : occurrences n k ≡ 0 = omega (arith, R.distinct n, of_children n s t, hits_some n (root_of t) e) in
    let zu : occurrences n u ≡ 0 = sibling_occurrences s k n ∙ zk in
    let wn : n < m.made = R.within n (omega (arith, hits_root n t, hits_some n (root_of t) e)) in
    let rd : m₁.regs d ≡ Some n = put_other m.regs (suc d) d x (omega arith) ∙ R.reg ∙ e in
    by_child _ _ colour m d (suc d) s t (omega arith) (omega arith) ft R.reg R.stored
    (by_link _ _ d (side s) 35 n y m₁ None (record { low = omega arith; names = rd; node = N.1 }) (side_low s) (omega arith) (record { writable = R.may; left = omega arith }) (put_other m.regs (suc d) 35 x (omega arith) ∙ nil)
    (λ i. omega (arith, old i, R.counted i, inside_children i s t, hits_root i k)) (λ i g. no_node g) (λ m₂ L₂.
    let C₂ = L₂.change in
    let E₂ = from_linked m₁ m₂ n y s None L₂ in
    let n₂ : (i : ℕ) → m₂.state.names i + hits i x ≡ m.state.names i = λ i. omega (arith, L₂.named i, old i) in
    let R₂ : Ready colour m₂ (suc d) k = record {
      reg = C₂.regs (suc d) ∙ put_same m.regs (suc d) x;
      stored = keep_else colour m.state.nodes m₂.state.nodes n k L₂.wrote.else zk (stored_child colour m.state.nodes s t R.stored);
      distinct = λ i. omega (arith, R.distinct i, of_children i s t);
      within = λ i p. let w = R.within i (omega (arith, of_children i s t)) in omega (arith, C₂.made);
      counted = λ i. omega (arith, n₂ i, R.counted i, inside_children i s t, hits_root i k);
      may = C₂.writable ∙ R.may;
    } in
    let low₂ : NamedOnce m₂ k = λ i p. let w = low i p in omega (arith, n₂ i) in
    ends_then (sibling_fix_of (suc d) s m₂) _ (SiblingFixed m₂ (suc d) s k) _ (sibling_ends m₂ (suc d) s k R₂ low₂ l fk (omega (arith, C₂.linked, C₂.numbered, C₂.change_limit))) (λ _ m₃ F.
    let V = F.1 in
    let here : m₃.state.nodes n ≡ Some E₂.y = V.others n zk (omega (arith, C₂.made)) ∙ E₂.edited.here in
    let gone : (i : ℕ) → hits i (E₂.y.links (side s)) ≡ 0 = λ i. ap (hits i) E₂.near in
    by_link _ _ d (side s) (suc d) n E₂.y m₃ (root_of u) (record { low = omega arith; names = V.kept d (omega arith) ∙ C₂.regs d ∙ rd; node = here }) (side_low s) (omega arith)
    (record { writable = V.writable ∙ C₂.writable ∙ R.may; left = omega (arith, V.linked, V.numbered, V.change_limit, C₂.linked, C₂.numbered, C₂.change_limit, cost_ten s k) }) V.reg
    (λ i. omega (arith, gone i))
    (λ i g. let w = low₂ i (omega (arith, hits_some i (root_of u) g, hits_root i u, sibling_occurrences s k i)) in omega (arith, hits_some i (root_of u) g, V.named i, hits_root i u, hits_root i k, sibling_occurrences s k i, R₂.distinct i)) (λ m₄ L₄.
    let C₄ = L₄.change in
    let E₄ = from_linked m₃ m₄ n E₂.y s (root_of u) L₄ in (
      refl,
      record {
        reg = C₄.regs d ∙ V.kept d (omega arith) ∙ C₂.regs d ∙ rd ∙ sym e ∙ sym (root-with_child s t u);
        stored = link_stored colour m.state.nodes m₃.state.nodes m₄.state.nodes s t u n y E₄.y e R.distinct
            (λ i ne z p. V.others i z (let w = R.within i p in omega (arith, C₂.made)) ∙ L₂.wrote.else i ne) N.1 E₄.edited.here E₄.edited.else (E₄.key ∙ E₂.key) (λ i. E₄.numbers i ∙ E₂.numbers i) E₄.near (E₄.far ∙ E₂.far) zu R.stored V.stored;
        others = λ i z w. let ne : n ≡ i → ⊥ = λ g. (let v : root_of t ≡ Some i = e ∙ ap Some g in omega (arith, hits_some i (root_of t) v, hits_root i t)) in L₄.wrote.else i ne ∙ V.others i (omega (arith, of_children i s t)) (omega (arith, C₂.made)) ∙ L₂.wrote.else i ne;
        kept = λ j p. C₄.regs j ∙ V.kept j (omega arith) ∙ C₂.regs j ∙ put_other m.regs (suc d) j x (omega arith);
        still = λ w w₁ w₂. C₄.regs w ∙ V.still w w₁ w₂ ∙ C₂.regs w ∙ put_other m.regs (suc d) w x (omega arith);
        named = λ i.
            let v : hits i (root_of (with_child s t u)) ≡ hits i (root_of t) = ap (hits i) (root-with_child s t u) in
            omega (arith, L₄.named i, gone i, V.named i, n₂ i, inside_children i s t, hits_root i k, hits_root i u, of-with_child i s t u ft, hits_root i (with_child s t u));
        roots = λ i. L₄.wrote.roots i ∙ V.roots i ∙ L₂.wrote.roots i;
        linked = omega (arith, C₄.linked, V.linked, C₂.linked);
        numbered = omega (arith, C₄.numbered, V.numbered, C₂.numbered);
        made = omega (arith, C₄.made, V.made, C₂.made);
        node_limit = C₄.node_limit ∙ V.node_limit ∙ C₂.node_limit;
        change_limit = C₄.change_limit ∙ V.change_limit ∙ C₂.change_limit;
        writable = C₄.writable ∙ V.writable ∙ C₂.writable;
        rest = C₄.rest ∙ V.rest ∙ C₂.rest;
      },
    )))))

abbrev top : Bool → Tree Bool ℕ → Tree Bool ℕ
top s t = rotated (not s) (with_mark true (with_child (not s) t (with_mark false (child (not s) t))))

short_far : (s : Bool) (t : Tree Bool ℕ) → red (child (not s) t) ≡ true → short_fixed s t ≡ record { tree = with_child s (top s t) (sibling_fixed s (child s (top s t))).tree; short = false }
unfolding short_fixed
short_far s t h = rw h

short_near : (s : Bool) (t : Tree Bool ℕ) → red (child (not s) t) ≡ false → short_fixed s t ≡ sibling_fixed s t
unfolding short_fixed
short_near s t h = rw h

top_root : (s : Bool) (t : Tree Bool ℕ) → is_node (child (not s) t) ≡ true → root_of (child s (top s t)) ≡ root_of t
top_root s t h = grind arith

top_inner : (s : Bool) (t : Tree Bool ℕ) → is_node (child s (child (not s) t)) ≡ true → is_node (child (not s) (child s (top s t))) ≡ true
top_inner s t h = grind arith

abbrev pub short_cost : Bool → Tree Bool ℕ → Cost
short_cost s t = cond (red (child (not s) t)) (plus (cost 4 2 0) (sibling_cost s (child s (top s t)))) (sibling_cost s t)

pub short_ends : (m : Memory) (d : ℕ) (s : Bool) (t : Tree Bool ℕ) → Ready colour m d t → NamedOnce m t → m.regs 35 ≡ None → suc d < 26 → is_node (child (not s) t) ≡ true → (red (child (not s) t) ≡ true → is_node (child s (child (not s) t)) ≡ true) → changed m + 16 ≤ m.change_limit
    → Ends (short_fix_of d s m) (λ short m'. (short ≡ (short_fixed s t).short) × Becomes colour m m' d t (short_fixed s t).tree (short_cost s t))
unfolding short_fix_of red_sibling_of
short_ends m d s t R L nil l fb inner q =
    let n = not s in
    let b = child n t in
    let ft = parent_node n t fb in
    let m₁ = with_reg m 26 (root_of b) in
    let R₁ = ready_scratch colour m d 26 (root_of b) t (omega arith) R in
    let t₁ = with_child n t (with_mark false b) in
    let p = with_mark true t₁ in
    let s₁ : (i : ℕ) → occurrences i t₁ ≡ occurrences i t = λ i. omega (arith, of_children i n t, of-with_child i n t (with_mark false b) ft, of-with_mark i false b) in
    let s₂ : (i : ℕ) → occurrences i p ≡ occurrences i t = λ i. of-with_mark i true t₁ ∙ s₁ i in
    let fp : is_node (child n p) ≡ true = ap is_node (child-with_mark n true t₁ ∙ child-with_child n t (with_mark false b) ft) ∙ node-with_mark false b ∙ fb in
    let s₃ : (i : ℕ) → occurrences i (top s t) ≡ occurrences i t = λ i. of_rotated i n p fp ∙ s₂ i in
    by_child _ _ colour m d 26 n t (omega arith) (omega arith) ft R.reg R.stored
    (by_red _ _ 26 (omega arith) m₁ b (put_same m.regs 26 (root_of b)) (stored_child colour m.state.nodes n t R.stored)
    (ends_cond (red b) _ _ _
    (λ h.
    by_mark_child colour _ _ m₁ d 26 (omega arith) n false t (omega arith) fb ft (put_same m.regs 26 (root_of b)) R₁ (omega arith) (λ m₂ G₂ V₂.
    by_mark colour _ _ m₂ d (omega arith) true t₁ (node-with_child n t _ ∙ ft) (ready_next colour m₁ m₂ d t t₁ (cost 0 1 0) s₁ R₁ V₂) (omega arith) (λ m₃ G₃ W₃.
    let V₃ = both colour m₁ m₂ m₃ d t t₁ p (cost 0 1 0) (cost 0 1 0) s₁ V₂ W₃ in
    ends_then (rotate_of d n m₃) _ (λ _ m₄. Becomes colour m₃ m₄ d p (top s t) (cost 2 0 0)) _
    (turn colour m₃ d n p fp (ready_next colour m₁ m₃ d t p (cost 0 2 0) s₂ R₁ V₃) (once_next colour m₁ m₃ d t p (cost 0 2 0) s₂ (root-with_mark true t₁ ∙ root-with_child n t _) L V₃) (omega arith) (omega arith))
    (λ _ m₄ W₄.
    let V₄ = both colour m₁ m₃ m₄ d t p (top s t) (cost 0 2 0) (cost 2 0 0) s₂ V₃ W₄ in
    let tr = top_root s t fb in
    ends_all (regraft_of d s m₄) _ _
    (regraft_ends m₄ d s (top s t) (ready_next colour m₁ m₄ d t (top s t) (cost 2 2 0) s₃ R₁ V₄) (V₄.still 35 (omega arith) (omega arith) ∙ nil)
    (λ i y. let w = L i (omega (arith, of_children i s (top s t), s₃ i)) in let z : hits i (root_of (child s (top s t))) ≡ hits i (root_of t) = ap (hits i) tr in omega (arith, V₄.named i, hits_root i t, hits_root i (top s t), s₃ i))
    l (node_rotated n p fp) (top_inner s t (inner h)) (omega arith))
    (λ short m₅ F. (
      F.0 ∙ sym (ap (λ (y : Shrunk ℕ). y.short) (short_far s t h)),
      rw h (subst (λ (y : Shrunk ℕ). Becomes colour m m₅ d t y.tree (plus (cost 4 2 0) (sibling_cost s (child s (top s t))))) (sym (short_far s t h))
          (from_scratch colour m m₅ d 26 (root_of b) t _ _ (omega arith) (omega arith)
          (recost m₁ m₅ d t _ (plus (cost 2 2 0) (plus (sibling_cost s (child s (top s t))) (cost 2 0 0))) (plus (cost 4 2 0) (sibling_cost s (child s (top s t)))) (cost_swap (sibling_cost s (child s (top s t))))
          (both colour m₁ m₄ m₅ d t (top s t) (with_child s (top s t) (sibling_fixed s (child s (top s t))).tree) (cost 2 2 0) (plus (sibling_cost s (child s (top s t))) (cost 2 0 0)) s₃ V₄ F.1)))),
    ))))))
    (λ h. ends_all (sibling_fix_of d s m₁) _ _ (sibling_ends m₁ d s t R₁ L (omega arith) fb (omega arith))
    (λ short m₂ F. (
      F.0 ∙ sym (ap (λ (y : Shrunk ℕ). y.short) (short_near s t h)),
      rw h (subst (λ (y : Shrunk ℕ). Becomes colour m m₂ d t y.tree (sibling_cost s t)) (sym (short_near s t h)) (from_scratch colour m m₂ d 26 (root_of b) t _ _ (omega arith) (omega arith) F.1)),
    )))))
