-- The steps of `sibling_fix_of` make `sibling_fixed` of the tree under their register.
use Rattle.std.proofs.Common.{◌≡◌, ℕ, ◌+◌, ◌<◌, ◌≤◌, Bool, true, false, cond, not, ◌||◌, sym, refl, ap, ◌∙◌, subst, subst₂, arith}
use Rattle.trees.specs.Trees.{Tree, is_node, root_of, child, with_child, with_mark, rotated, occurrences}
use Rattle.trees.specs.RedBlack.{red}
use Rattle.trees.specs.Removal.{Shrunk, sibling_fixed}
use Rattle.memory.specs.Memory.{Memory, changed}
use Rattle.memory.specs.Steps.{done, then, with_reg, follow_of}
use Rattle.memory.specs.Effects.{Ends}
use Rattle.memory.proofs.Numbers.{put_same, put_other, hits_some}
use Rattle.memory.proofs.By.{ends_then, ends_all, ends_cond, ends_last}
use Rattle.stored.specs.Stored.{side, colour, Stored, NamedOnce}
use Rattle.stored.specs.Writes.{rotate_of}
use Rattle.stored.specs.Becomes.{Cost, cost, nothing, plus, writes, Ready, Becomes}
use Rattle.stored.proofs.Parts.{of_children, of-with_child, root-with_child, node-with_child, child-with_child, root-with_mark, of-with_mark, node-with_mark, child-with_mark, root_of_lem, parent_node, of_rotated, node_rotated, stored_child}
use Rattle.stored.proofs.Changes.{ready_child, stay, ready_scratch, from_scratch, both, under, ready_next, once_next, once_child, by_relink, by_mark, by_mark_child}
use Rattle.stored.proofs.Turns.{turn}
use Rattle.map_steps.specs.Remove.{tilt_of, spin_of, pass_up_of, sibling_fix_of}
use Rattle.map_steps.proofs.Reds.{red_node, by_red, by_child}

pub tilt_ends : (m : Memory) (d : ℕ) (s : Bool) (t : Tree Bool ℕ) → Ready colour m d t → NamedOnce m t → d < 26 → m.regs 26 ≡ root_of (child (not s) t) → m.regs 28 ≡ root_of (child s (child (not s) t)) → is_node (child s (child (not s) t)) ≡ true → changed m + 5 ≤ m.change_limit
    → Ends (tilt_of d s m) (λ _ m'. Becomes colour m m' d t (with_child (not s) t (rotated s (with_mark true (with_child s (child (not s) t) (with_mark false (child s (child (not s) t))))))) (cost 3 2 0)
    × (m'.regs 26 ≡ root_of (rotated s (with_mark true (with_child s (child (not s) t) (with_mark false (child s (child (not s) t)))))))
    × (m'.regs 27 ≡ root_of (child (not s) (rotated s (with_mark true (with_child s (child (not s) t) (with_mark false (child s (child (not s) t)))))))))
unfolding tilt_of
tilt_ends m d s t R L l e f g q =
    let b = child (not s) t in
    let fb = parent_node s b g in
    let ft = parent_node (not s) t fb in
    let nt = root_of_lem t ft in
    let b₁ = with_child s b (with_mark false (child s b)) in
    let b₂ = with_mark true b₁ in
    let h = rotated s b₂ in
    let R₀ = ready_child colour m d 26 (not s) t e R in
    let s₁ : (i : ℕ) → occurrences i b₁ ≡ occurrences i b = λ i. omega (arith, of_children i s b, of-with_child i s b (with_mark false (child s b)) fb, of-with_mark i false (child s b)) in
    let s₂ : (i : ℕ) → occurrences i b₂ ≡ occurrences i b = λ i. of-with_mark i true b₁ ∙ s₁ i in
    let f₂ : is_node (child s b₂) ≡ true = ap is_node (child-with_mark s true b₁ ∙ child-with_child s b (with_mark false (child s b)) fb) ∙ node-with_mark false (child s b) ∙ g in
    let s₃ : (i : ℕ) → occurrences i h ≡ occurrences i b = λ i. of_rotated i s b₂ f₂ ∙ s₂ i in
    by_mark_child colour _ _ m 26 28 (omega arith) s false b (omega arith) g fb f R₀ (omega arith) (λ m₁ G₁ V₁.
    by_mark colour _ _ m₁ 26 (omega arith) true b₁ (node-with_child s b _ ∙ fb) (ready_next colour m m₁ 26 b b₁ (cost 0 1 0) s₁ R₀ V₁) (omega arith) (λ m₂ G₂ W₂.
    let V₂ = both colour m m₁ m₂ 26 b b₁ b₂ (cost 0 1 0) (cost 0 1 0) s₁ V₁ W₂ in
    ends_then (rotate_of 26 s m₂) _ (λ _ m₃. Becomes colour m₂ m₃ 26 b₂ h (cost 2 0 0)) _
    (turn colour m₂ 26 s b₂ f₂ (ready_next colour m m₂ 26 b b₂ (cost 0 2 0) s₂ R₀ V₂) (once_next colour m m₂ 26 b b₂ (cost 0 2 0) s₂ (root-with_mark true b₁ ∙ root-with_child s b _) (once_child colour m (not s) t L) V₂) (omega arith) (omega arith))
    (λ _ m₃ W₃.
    let V₃ = both colour m m₂ m₃ 26 b b₂ h (cost 0 2 0) (cost 2 0 0) s₂ V₂ W₃ in
    by_relink colour _ _ m m₃ d 26 (omega arith) (not s) t h nt.0 (cost 2 2 0) l nt.1 R
    (omega (arith, R.distinct nt.0, of_children nt.0 (not s) t, hits_some nt.0 (root_of t) nt.1, s₃ nt.0))
    (λ i. omega (arith, R.distinct i, of_children i (not s) t, s₃ i))
    (λ i p. L i (omega (arith, of_children i (not s) t, s₃ i)))
    (omega arith) V₃ (λ m₄ V₄ G₄ N₄ E₄.
    let hh : Stored colour m₄.state.nodes h = subst (Stored colour m₄.state.nodes) (child-with_child (not s) t h ft) (stored_child colour m₄.state.nodes (not s) (with_child (not s) t h) V₄.stored) in
    let x = root_of (child (not s) h) in
    ends_last (follow_of 26 (side (not s)) 27 m₄) _ (by_child _ _ colour m₄ 26 27 (not s) h (omega arith) (omega arith) (node_rotated s b₂ f₂) (G₄ 26 (omega arith) ∙ V₃.reg) hh (
      record {
        reg = put_other m₄.regs 27 d x (omega arith) ∙ V₄.reg;
        stored = V₄.stored;
        others = V₄.others;
        kept = λ j p. put_other m₄.regs 27 j x (omega arith) ∙ V₄.kept j p;
        still = λ w w₁ w₂. put_other m₄.regs 27 w x (omega arith) ∙ V₄.still w w₁ w₂;
        named = V₄.named;
        roots = V₄.roots;
        linked = V₄.linked;
        numbered = V₄.numbered;
        made = V₄.made;
        node_limit = V₄.node_limit;
        change_limit = V₄.change_limit;
        writable = V₄.writable;
        rest = V₄.rest;
      },
      put_other m₄.regs 27 26 x (omega arith) ∙ G₄ 26 (omega arith) ∙ V₃.reg,
      put_same m₄.regs 27 x,
    ))))))

pub sibling_none : (s : Bool) (t : Tree Bool ℕ) → red (child (not s) (child (not s) t)) || red (child s (child (not s) t)) ≡ false
    → sibling_fixed s t ≡ record { tree = with_mark false (with_child (not s) t (with_mark true (child (not s) t))); short = not (red t) }
unfolding sibling_fixed
sibling_none s t h = rw h

-- both children of the black brother are known, and the far one is red
abbrev risen : Bool → Bool → Tree Bool ℕ → Tree Bool ℕ
risen s c u = with_mark c (rotated (not s) (with_mark false (with_child (not s) u (with_child (not s) (child (not s) u) (with_mark false (child (not s) (child (not s) u)))))))

abbrev tilted : Bool → Tree Bool ℕ → Tree Bool ℕ
tilted s t = with_child (not s) t (rotated s (with_mark true (with_child s (child (not s) t) (with_mark false (child s (child (not s) t))))))

pub sibling_far : (s : Bool) (t : Tree Bool ℕ) → red (child (not s) (child (not s) t)) ≡ true → sibling_fixed s t ≡ record { tree = risen s (red t) t; short = false }
unfolding sibling_fixed
sibling_far s t h = rw h

pub sibling_near : (s : Bool) (t : Tree Bool ℕ) → red (child (not s) (child (not s) t)) ≡ false → red (child s (child (not s) t)) ≡ true → sibling_fixed s t ≡ record { tree = risen s (red t) (tilted s t); short = false }
unfolding sibling_fixed
sibling_near s t h g = rw (h, g)

pub spin_ends : (m m₁ : Memory) (d : ℕ) (s c : Bool) (t u : Tree Bool ℕ) (q : Cost) → Ready colour m d t → NamedOnce m t → d < 26 → ((i : ℕ) → occurrences i u ≡ occurrences i t) → root_of u ≡ root_of t
    → m₁.regs 26 ≡ root_of (child (not s) u) → m₁.regs 27 ≡ root_of (child (not s) (child (not s) u)) → is_node (child (not s) (child (not s) u)) ≡ true → changed m + (writes q + 5) ≤ m.change_limit
    → Becomes colour m m₁ d t u q → Ends (spin_of d s c m₁) (λ short m'. (short ≡ false) × Becomes colour m m' d t (risen s c u) (plus (plus (plus (plus q (cost 0 1 0)) (cost 0 1 0)) (cost 2 0 0)) (cost 0 1 0)))
unfolding spin_of
spin_ends m m₁ d s c t u q R L l same e g₂ g₃ ff sp V₁ =
    let n = not s in
    let b = child n u in
    let a = child n b in
    let fb = parent_node n b ff in
    let fu = parent_node n u fb in
    let b₁ = with_child n b (with_mark false a) in
    let u₁ = with_child n u b₁ in
    let p = with_mark false u₁ in
    let R₁ = ready_next colour m m₁ d t u q same R V₁ in
    let s₁ : (i : ℕ) → occurrences i b₁ ≡ occurrences i b = λ i. omega (arith, of_children i n b, of-with_child i n b (with_mark false a) fb, of-with_mark i false a) in
    let s₂ : (i : ℕ) → occurrences i u₁ ≡ occurrences i t = λ i. omega (arith, of_children i n u, of-with_child i n u b₁ fu, s₁ i, same i) in
    let s₃ : (i : ℕ) → occurrences i p ≡ occurrences i t = λ i. of-with_mark i false u₁ ∙ s₂ i in
    let fp : is_node (child n p) ≡ true = ap is_node (child-with_mark n false u₁ ∙ child-with_child n u b₁ fu) ∙ node-with_child n b (with_mark false a) ∙ fb in
    let s₄ : (i : ℕ) → occurrences i (rotated n p) ≡ occurrences i t = λ i. of_rotated i n p fp ∙ s₃ i in
    by_mark_child colour _ _ m₁ 26 27 (omega arith) n false b (omega arith) ff fb g₃ (ready_child colour m₁ d 26 n u g₂ R₁) (omega arith) (λ m₂ G₂ W₂.
    let V₂ = both colour m m₁ m₂ d t u u₁ q (cost 0 1 0) same V₁ (under colour m₁ m₂ d 26 n u b₁ (cost 0 1 0) (omega arith) fu (root-with_child n b _) R₁ W₂) in
    by_mark colour _ _ m₂ d (omega arith) false u₁ (node-with_child n u b₁ ∙ fu) (ready_next colour m m₂ d t u₁ (plus q (cost 0 1 0)) s₂ R V₂) (omega arith) (λ m₃ G₃ W₃.
    let V₃ = both colour m m₂ m₃ d t u₁ p (plus q (cost 0 1 0)) (cost 0 1 0) s₂ V₂ W₃ in
    ends_then (rotate_of d n m₃) _ (λ _ m₄. Becomes colour m₃ m₄ d p (rotated n p) (cost 2 0 0)) _
    (turn colour m₃ d n p fp (ready_next colour m m₃ d t p (plus (plus q (cost 0 1 0)) (cost 0 1 0)) s₃ R V₃) (once_next colour m m₃ d t p (plus (plus q (cost 0 1 0)) (cost 0 1 0)) s₃ (root-with_mark false u₁ ∙ root-with_child n u b₁ ∙ e) L V₃) (omega arith) (omega arith))
    (λ _ m₄ W₄.
    let V₄ = both colour m m₃ m₄ d t p (rotated n p) (plus (plus q (cost 0 1 0)) (cost 0 1 0)) (cost 2 0 0) s₃ V₃ W₄ in
    by_mark colour _ _ m₄ d (omega arith) c (rotated n p) (node_rotated n p fp) (ready_next colour m m₄ d t (rotated n p) (plus (plus (plus q (cost 0 1 0)) (cost 0 1 0)) (cost 2 0 0)) s₄ R V₄) (omega arith) (λ m₅ G₅ W₅.
    (refl, both colour m m₄ m₅ d t (rotated n p) (with_mark c (rotated n p)) (plus (plus (plus q (cost 0 1 0)) (cost 0 1 0)) (cost 2 0 0)) (cost 0 1 0) s₄ V₄ W₅)))))

abbrev pub sibling_cost : Bool → Tree Bool ℕ → Cost
sibling_cost s t = cond (red (child (not s) (child (not s) t)) || red (child s (child (not s) t))) (cond (red (child (not s) (child (not s) t))) (cost 2 3 0) (cost 5 5 0)) (cost 0 2 0)

-- what sibling_fix_of leaves
abbrev pub SiblingFixed : Memory → ℕ → Bool → Tree Bool ℕ → Bool → Memory → Type 0
SiblingFixed m d s t short m' = (short ≡ (sibling_fixed s t).short) × Becomes colour m m' d t (sibling_fixed s t).tree (sibling_cost s t)

pub as_sibling : (m m' : Memory) (d : ℕ) (s : Bool) (t : Tree Bool ℕ) (x : Shrunk ℕ) (q : Cost) (short : Bool) → sibling_fixed s t ≡ x → sibling_cost s t ≡ q → short ≡ x.short → Becomes colour m m' d t x.tree q → SiblingFixed m d s t short m'
as_sibling m m' d s t x q short e c h V = (h ∙ sym (ap (λ (y : Shrunk ℕ). y.short) e), subst₂ (λ (y : Shrunk ℕ) (p : Cost). Becomes colour m m' d t y.tree p) (sym e) (sym c) V)

pub of_tilted : (s : Bool) (t : Tree Bool ℕ) (i : ℕ) → is_node (child s (child (not s) t)) ≡ true → occurrences i (tilted s t) ≡ occurrences i t
of_tilted s t i g =
    let b = child (not s) t in
    let fb = parent_node s b g in
    let ft = parent_node (not s) t fb in
    let b₁ = with_child s b (with_mark false (child s b)) in
    let f₂ : is_node (child s (with_mark true b₁)) ≡ true = ap is_node (child-with_mark s true b₁ ∙ child-with_child s b (with_mark false (child s b)) fb) ∙ node-with_mark false (child s b) ∙ g in
    omega (arith, of_children i (not s) t, of-with_child i (not s) t (rotated s (with_mark true b₁)) ft, of_rotated i s (with_mark true b₁) f₂, of-with_mark i true b₁, of-with_child i s b (with_mark false (child s b)) fb, of_children i s b, of-with_mark i false (child s b))

pub node_tilted : (s : Bool) (t : Tree Bool ℕ) → is_node (child s (child (not s) t)) ≡ true → is_node (child (not s) (child (not s) (tilted s t))) ≡ true
node_tilted s t h = grind arith

pub pass_up_ends : (m : Memory) (d : ℕ) (s : Bool) (t : Tree Bool ℕ) → Ready colour m d t → m.regs 26 ≡ root_of (child (not s) t) → d < 26 → is_node (child (not s) t) ≡ true → changed m + 2 ≤ m.change_limit
    → Ends (pass_up_of d (red t) m) (λ short m'. (short ≡ not (red t)) × Becomes colour m m' d t (with_mark false (with_child (not s) t (with_mark true (child (not s) t)))) (cost 0 2 0))
unfolding pass_up_of
pass_up_ends m d s t R e l fb q =
    let b = child (not s) t in
    let ft = parent_node (not s) t fb in
    let u = with_child (not s) t (with_mark true b) in
    let su : (i : ℕ) → occurrences i u ≡ occurrences i t = λ i. omega (arith, of_children i (not s) t, of-with_child i (not s) t (with_mark true b) ft, of-with_mark i true b) in
    by_mark_child colour _ _ m d 26 (omega arith) (not s) true t (omega arith) fb ft e R (omega arith) (λ m₁ G₁ V₁.
    by_mark colour _ _ m₁ d (omega arith) false u (node-with_child (not s) t _ ∙ ft) (ready_next colour m m₁ d t u (cost 0 1 0) su R V₁) (omega arith) (λ m₂ G₂ V₂.
    (refl, both colour m m₁ m₂ d t u (with_mark false u) (cost 0 1 0) (cost 0 1 0) su V₁ V₂)))

pub sibling_ends : (m : Memory) (d : ℕ) (s : Bool) (t : Tree Bool ℕ) → Ready colour m d t → NamedOnce m t → d < 26 → is_node (child (not s) t) ≡ true → changed m + 10 ≤ m.change_limit → Ends (sibling_fix_of d s m) (SiblingFixed m d s t)
unfolding sibling_fix_of
sibling_ends m d s t R L l fb q =
    let hb = stored_child colour m.state.nodes (not s) t R.stored in
    by_child _ _ colour m d 26 (not s) t (omega arith) (omega arith) (parent_node (not s) t fb) R.reg R.stored
    (by_child _ _ colour m₁ 26 27 (not s) b (omega arith) (omega arith) fb (put_same m.regs 26 (root_of b)) hb
    (by_child _ _ colour m₂ 26 28 s b (omega arith) (omega arith) fb (put_other m₁.regs 27 26 (root_of a) (omega arith) ∙ put_same m.regs 26 (root_of b)) hb
    (by_red _ _ d (omega arith) m₃ t R₃.reg R.stored
    (by_red _ _ 27 (omega arith) m₃ a r27 (stored_child colour m.state.nodes (not s) b hb)
    (by_red _ _ 28 (omega arith) m₃ c (put_same m₂.regs 28 (root_of c)) (stored_child colour m.state.nodes s b hb)
    (ends_cond (red a || red c) _ _ _ (λ h. go (red a) refl h)
    (λ h. ends_all (pass_up_of d (red t) m₃) _ _ (pass_up_ends m₃ d s t R₃ r26 l fb (omega arith))
    (λ short m' V. as_sibling m m' d s t _ (cost 0 2 0) short (sibling_none s t h) (rw h) V.0 (back m' _ (cost 0 2 0) V.1)))))))))
  where
    b : Tree Bool ℕ
    b = child (not s) t

    a : Tree Bool ℕ
    a = child (not s) b

    c : Tree Bool ℕ
    c = child s b

    m₁ : Memory
    m₁ = with_reg m 26 (root_of b)

    m₂ : Memory
    m₂ = with_reg m₁ 27 (root_of a)

    m₃ : Memory
    m₃ = with_reg m₂ 28 (root_of c)

    r26 : m₃.regs 26 ≡ root_of b
    r26 = put_other m₂.regs 28 26 (root_of c) (omega arith) ∙ put_other m₁.regs 27 26 (root_of a) (omega arith) ∙ put_same m.regs 26 (root_of b)

    r27 : m₃.regs 27 ≡ root_of a
    r27 = put_other m₂.regs 28 27 (root_of c) (omega arith) ∙ put_same m₁.regs 27 (root_of a)

    R₃ : Ready colour m₃ d t
    R₃ = ready_scratch colour m₂ d 28 (root_of c) t (omega arith) (ready_scratch colour m₁ d 27 (root_of a) t (omega arith) (ready_scratch colour m d 26 (root_of b) t (omega arith) R))

    back : (m' : Memory) (u : Tree Bool ℕ) (p : Cost) → Becomes colour m₃ m' d t u p → Becomes colour m m' d t u p
    back m' u p V = from_scratch colour m m' d 26 (root_of b) t u p (omega arith) (omega arith) (from_scratch colour m₁ m' d 27 (root_of a) t u p (omega arith) (omega arith) (from_scratch colour m₂ m' d 28 (root_of c) t u p (omega arith) (omega arith) V))

    go : (x : Bool) → red a ≡ x → red a || red c ≡ true → Ends (then (cond x (done tt m₃) (tilt_of d s m₃)) (λ _ m7. spin_of d s (red t) m7)) (SiblingFixed m d s t)
    go true e h = ends_all (spin_of d s (red t) m₃) _ _ (spin_ends m₃ m₃ d s (red t) t t nothing R₃ L l (λ i. refl) refl r26 r27 (red_node a e) (omega arith) (stay colour m₃ d t t R₃ refl))
        (λ short m' V. as_sibling m m' d s t _ (cost 2 3 0) short (sibling_far s t e) (rw e) V.0 (back m' _ (cost 2 3 0) V.1))
    go false e h =
        let near : red c ≡ true = rw e at h in
        let fc = red_node c near in
        let ft = parent_node (not s) t fb in
        let hh = rotated s (with_mark true (with_child s b (with_mark false c))) in
        let kh = child-with_child (not s) t hh ft in
        ends_then (tilt_of d s m₃) _ _ _ (tilt_ends m₃ d s t R₃ L l r26 (put_same m₂.regs 28 (root_of c)) fc (omega arith)) (λ _ m₄ T.
        ends_all (spin_of d s (red t) m₄) _ _ (spin_ends m₃ m₄ d s (red t) t (tilted s t) (cost 3 2 0) R₃ L l (λ i. of_tilted s t i fc) (root-with_child (not s) t _)
        (T.1 ∙ ap root_of (sym kh)) (T.2 ∙ ap (λ (y : Tree Bool ℕ). root_of (child (not s) y)) (sym kh)) (node_tilted s t fc) (omega arith) T.0)
        (λ short m' V. as_sibling m m' d s t _ (cost 5 5 0) short (sibling_near s t e near) (rw (e, near)) V.0 (back m' _ (cost 5 5 0) V.1)))
