-- The root of a tree is taken out.
use Rattle.std.proofs.Common.{◌≡◌, ℕ, suc, ◌+◌, ◌*◌, ◌<◌, ◌≤◌, Bool, true, false, cond, eqb, Some, None, Option, sym, refl, ap, ◌∙◌, subst, arith}
use Rattle.trees.specs.Trees.{Entry, Tree, leaf, node, is_node, root_of, child, occurrences, height}
use Rattle.trees.specs.RedBlack.{red, Balanced}
use Rattle.trees.specs.Removal.{Shrunk, spliced, step_up, without_first, first_entry, first_serial, without_root}
use Rattle.trees.proofs.Removals.{first_occurrences, first_shrinks}
use Rattle.memory.specs.Memory.{Node, Memory, changed, put, hits}
use Rattle.memory.specs.Steps.{done, with_reg, move_of}
use Rattle.memory.specs.Effects.{Ends}
use Rattle.memory.proofs.Numbers.{put_same, put_other, hits_some}
use Rattle.memory.proofs.By.{ends_then, ends_all, ends_last, by_move, by_nil}
use Rattle.stored.specs.Stored.{side, colour, NamedOnce}
use Rattle.stored.specs.Writes.{relink_of, renumber_of, blank_of, Relinked, Renumbered, Cleared}
use Rattle.stored.proofs.Blanks.{blank_ends}
use Rattle.stored.specs.Becomes.{Cost, cost, nothing, plus, writes, Ready, Becomes}
use Rattle.stored.proofs.Parts.{self, no_test, hits_root, keep}
use Rattle.stored.proofs.Writing.{relink_ends, renumber_ends}
use Rattle.stored.proofs.Changes.{ready_child, ready_scratch, ready_after, once_child}
use Rattle.map_steps.specs.Remove.{short_fix_of, take_of, first_of, replace_of, swap_out_of, root_out_of}
use Rattle.map_steps.proofs.Reds.{by_red, by_child}
use Rattle.map_steps.proofs.Shorts.{short_cost}
use Rattle.map_steps.proofs.Takes.{take_cost, Taken, take_ends}
use Rattle.map_steps.proofs.StepsUp.{as_step, Siblings, sibling_there, short_after}
use Rattle.map_steps.proofs.Firsts.{thrifty_all, first_cost, first_thrifty, serial_any, over, ready_over, FirstTaken, first_ends}

-- the node n stands in the memory without links
pub record Bare (m : Memory) (n : ℕ) : Type 0 where
  pub node : Node
  pub there : m.state.nodes n ≡ Some node
  pub nil : (s : Bool) → node.links (side s) ≡ None

pub bare_same : (m m' : Memory) (n : ℕ) → m'.state.nodes n ≡ m.state.nodes n → Bare m n → Bare m' n
bare_same m m' n e B = record { node = B.node; there = e ∙ B.there; nil = B.nil }

-- registers start were set on the way; then the tree t under d has become what a removal leaves, and the node gone has no links
pub record Removed (m m' : Memory) (d : ℕ) (t : Tree Bool ℕ) (x : Shrunk ℕ) (gone : ℕ) (c : Cost) (short : Bool) : Type 0 where
  pub flag : short ≡ x.short
  pub start : ℕ → Option ℕ
  pub below : (r : ℕ) → r < d → start r ≡ m.regs r
  pub nil : start 35 ≡ m.regs 35
  pub becomes : Becomes colour (over m start) m' d t x.tree c
  pub bare : Bare m' gone

-- the node x, which has no links, takes the place of n
pub replace_ends : (m m₂ : Memory) (f : ℕ → Option ℕ) (d n x : ℕ) (c : Bool) (e e' : Entry ℕ) (l r r' : Tree Bool ℕ) (q : Cost) (y : Node)
    → Ready colour (over m f) d (node n c e l r) → NamedOnce m (node n c e l r) → f 35 ≡ None → f 37 ≡ root_of l → suc d < 26
    → ((i : ℕ) → occurrences i r' + cond (eqb i x) 1 0 ≡ occurrences i r)
    → Becomes colour (over m f) m₂ (suc d) r r' q → m₂.regs 36 ≡ Some x → m₂.state.nodes x ≡ Some y → y.key ≡ e'.key → y.numbers 0 ≡ e'.value → ((s : Bool) → y.links (side s) ≡ None)
    → changed m + (writes q + 5) ≤ m.change_limit
    → Ends (replace_of d c m₂) (λ _ m'. Becomes colour (over m f) m' d (node n c e l r) (node x c e' l r') (plus q (cost 4 1 0)) × Bare m' n)
unfolding replace_of
replace_ends m m₂ f d n x c e e' l r r' q y R L f35 f37 ld tx W r36 hy ky vy by sp =
    let dn = R.distinct n in
    let dx = R.distinct x in
    let sn = self n in
    let sx = self x in
    let tn = tx n in
    let txx = tx x in
    let zr : occurrences n r ≡ 0 = omega arith in
    let zl : occurrences n l ≡ 0 = omega arith in
    let xr1 : occurrences x r ≡ 1 = omega arith in
    let nx : n ≡ x → ⊥ = λ g. (let w : occurrences x r ≡ 0 = ap (λ (j : ℕ). occurrences j r) (sym g) ∙ zr in omega arith) in
    let xzl : occurrences x l ≡ 0 = omega arith in
    let xzr : occurrences x r' ≡ 0 = omega arith in
    let nzr : occurrences n r' ≡ 0 = omega arith in
    let wn : n < m.made = R.within n (omega arith) in
    let N = R.stored.0 in
    let rd : m₂.regs d ≡ Some n = W.kept d (omega arith) ∙ R.reg in
    let r35 : m₂.regs 35 ≡ None = W.still 35 (omega arith) (omega arith) ∙ f35 in
    let r37 : m₂.regs 37 ≡ root_of l = W.still 37 (omega arith) (omega arith) ∙ f37 in
    let ok : m₂.writable ≡ true = W.writable ∙ R.may in
    let sums : (i : ℕ) → hits i (N.it.links 0) + hits i (N.it.links 1) ≡ hits i (root_of l) + hits i (root_of r) = λ i. let a : hits i (N.it.links 0) ≡ hits i (root_of l) = ap (hits i) N.near in let b : hits i (N.it.links 1) ≡ hits i (root_of r) = ap (hits i) N.far in omega arith in
    ends_then (blank_of d m₂) _ (λ _ m₃. Cleared 2 m₂ m₃ n N.it) _
    (blank_ends m₂ d n N.it (record { low = omega arith; names = rd; node = W.others n zr wn ∙ N.there }) r35 ok (omega (arith, W.linked, W.numbered, W.change_limit)) (λ i. omega (arith, sums i, W.named i, R.counted i)))
    (λ _ m₃ C.
    let S₃ = C.spends in
    let n₃ : (i : ℕ) → m₃.state.names i + hits i (root_of l) + hits i (root_of r) ≡ m₂.state.names i = λ i. omega (arith, C.named i, sums i) in
    let y0 : (i : ℕ) → hits i (y.links (side false)) ≡ 0 = λ i. ap (hits i) (by false) in
    ends_then (relink_of 36 false 37 m₃) _ (λ _ m₄. Relinked m₃ m₄ x y false (root_of l)) _
    (relink_ends m₃ 36 false 37 x y (root_of l) (record { low = omega arith; names = S₃.regs 36 (omega arith) ∙ r36; node = C.edited.else x nx ∙ hy }) (omega arith) (omega arith) (omega arith)
    (record { writable = S₃.writable ∙ ok; left = omega (arith, W.linked, W.numbered, W.change_limit, S₃.linked, S₃.numbered, S₃.change_limit) }) (S₃.regs 37 (omega arith) ∙ r37)
    (λ i. omega (arith, y0 i))
    (λ i g. let a = hits_some i (root_of l) g in let b = L i (omega (arith, hits_root i l)) in omega (arith, W.named i, n₃ i, hits_root i l, hits_root i r, hits_root i r', tx i, R.distinct i)))
    (λ _ m₄ E₄.
    let S₄ = E₄.spends in
    let n₄ : (i : ℕ) → m₄.state.names i ≡ m₃.state.names i + hits i (root_of l) = λ i. omega (arith, E₄.named i, y0 i) in
    let y1 : (i : ℕ) → hits i (E₄.y.links (side true)) ≡ 0 = λ i. ap (hits i) (E₄.far ∙ by true) in
    ends_then (relink_of 36 true (suc d) m₄) _ (λ _ m₅. Relinked m₄ m₅ x E₄.y true (root_of r')) _
    (relink_ends m₄ 36 true (suc d) x E₄.y (root_of r') (record { low = omega arith; names = S₄.regs 36 (omega arith) ∙ S₃.regs 36 (omega arith) ∙ r36; node = E₄.edited.here }) (omega arith) (omega arith) (omega arith)
    (record { writable = S₄.writable ∙ S₃.writable ∙ ok; left = omega (arith, W.linked, W.numbered, W.change_limit, S₃.linked, S₃.numbered, S₃.change_limit, S₄.linked, S₄.numbered, S₄.change_limit) }) (S₄.regs (suc d) (omega arith) ∙ S₃.regs (suc d) (omega arith) ∙ W.reg)
    (λ i. omega (arith, y1 i))
    (λ i g. let a = hits_some i (root_of r') g in let b = L i (omega (arith, hits_root i r', tx i)) in omega (arith, W.named i, n₃ i, n₄ i, hits_root i l, hits_root i r, hits_root i r', tx i, R.distinct i)))
    (λ _ m₅ E₅.
    let S₅ = E₅.spends in
    let n₅ : (i : ℕ) → m₅.state.names i ≡ m₄.state.names i + hits i (root_of r') = λ i. omega (arith, E₅.named i, y1 i) in
    ends_then (renumber_of 1 36 (colour c) m₅) _ (λ _ m₆. Renumbered m₅ m₆ x E₅.y 1 (colour c)) _
    (renumber_ends m₅ 1 36 (colour c) x E₅.y (record { low = omega arith; names = S₅.regs 36 (omega arith) ∙ S₄.regs 36 (omega arith) ∙ S₃.regs 36 (omega arith) ∙ r36; node = E₅.edited.here })
    (record { writable = S₅.writable ∙ S₄.writable ∙ S₃.writable ∙ ok; left = omega (arith, W.linked, W.numbered, W.change_limit, S₃.linked, S₃.numbered, S₃.change_limit, S₄.linked, S₄.numbered, S₄.change_limit, S₅.linked, S₅.numbered, S₅.change_limit) }))
    (λ _ m₆ E₆.
    let S₆ = E₆.spends in
    let r₆ : (j : ℕ) → (j ≡ 32 → ⊥) → m₆.regs j ≡ m₂.regs j = λ j h. S₆.regs j h ∙ S₅.regs j h ∙ S₄.regs j h ∙ S₃.regs j h in
    let far : (i : ℕ) → (n ≡ i → ⊥) → (x ≡ i → ⊥) → m₆.state.nodes i ≡ m₂.state.nodes i = λ i a b. E₆.edited.else i b ∙ E₅.edited.else i b ∙ E₄.edited.else i b ∙ C.edited.else i a in
    let not_in : (k i : ℕ) (u : Tree Bool ℕ) → occurrences k u ≡ 0 → 1 ≤ occurrences i u → k ≡ i → ⊥ = λ k i u z p g. (let w : occurrences i u ≡ 0 = ap (λ (j : ℕ). occurrences j u) (sym g) ∙ z in omega arith) in
    let xn : x ≡ n → ⊥ = λ g. nx (sym g) in
    ends_last (move_of 36 d m₆) _ (by_move _ _ 36 d m₆ (Some x) (omega arith) (omega arith) (r₆ 36 (omega arith) ∙ r36) (
      record {
        reg = put_same m₆.regs d (Some x);
        stored = (
          record {
            it = E₆.y;
            there = E₆.edited.here;
            key = E₆.key ∙ E₅.key ∙ E₄.key ∙ ky;
            value = E₆.others 0 (λ z. omega arith) ∙ E₅.numbers 0 ∙ E₄.numbers 0 ∙ vy;
            mark = E₆.number;
            near = E₆.links 0 ∙ E₅.far ∙ E₄.near;
            far = E₆.links 1 ∙ E₅.near;
          },
          keep colour m.state.nodes m₆.state.nodes l (λ i p. far i (not_in n i l zl p) (not_in x i l xzl p) ∙ W.others i (omega (arith, R.distinct i)) (R.within i (omega arith))) R.stored.1,
          keep colour m₂.state.nodes m₆.state.nodes r' (λ i p. far i (not_in n i r' nzr p) (not_in x i r' xzr p)) W.stored,
        );
        others = λ i z w. far i (λ g. let v : cond {A = ℕ} (eqb i n) 1 0 ≡ 1 = ap (λ (j : ℕ). cond {A = ℕ} (eqb j n) 1 0) (sym g) ∙ sn in omega arith) (λ g. let v : occurrences i r ≡ 1 = ap (λ (j : ℕ). occurrences j r) (sym g) ∙ xr1 in omega arith) ∙ W.others i (omega arith) w;
        kept = λ j p. put_other m₆.regs d j (Some x) (omega arith) ∙ r₆ j (omega arith) ∙ W.kept j (omega arith);
        still = λ w w₁ w₂. put_other m₆.regs d w (Some x) (omega arith) ∙ r₆ w (omega arith) ∙ W.still w w₁ w₂;
        named = λ i. omega (arith, E₆.named i, n₅ i, n₄ i, n₃ i, W.named i);
        roots = λ i. E₆.edited.roots i ∙ E₅.edited.roots i ∙ E₄.edited.roots i ∙ C.edited.roots i ∙ W.roots i;
        linked = omega (arith, S₆.linked, S₅.linked, S₄.linked, S₃.linked, W.linked);
        numbered = omega (arith, S₆.numbered, S₅.numbered, S₄.numbered, S₃.numbered, W.numbered);
        made = omega (arith, S₆.made, S₅.made, S₄.made, S₃.made, W.made);
        node_limit = S₆.node_limit ∙ S₅.node_limit ∙ S₄.node_limit ∙ S₃.node_limit ∙ W.node_limit;
        change_limit = S₆.change_limit ∙ S₅.change_limit ∙ S₄.change_limit ∙ S₃.change_limit ∙ W.change_limit;
        writable = S₆.writable ∙ S₅.writable ∙ S₄.writable ∙ S₃.writable ∙ W.writable;
        rest = S₆.rest ∙ S₅.rest ∙ S₄.rest ∙ S₃.rest ∙ W.rest;
      },
      record { node = C.y; there = E₆.edited.else n xn ∙ E₅.edited.else n xn ∙ E₄.edited.else n xn ∙ C.edited.here; nil = C.nil },
    ))))))

-- the tree once the first node of r stands in the place of n
abbrev pub replaced_by : ℕ → Bool → Entry ℕ → Tree Bool ℕ → Tree Bool ℕ → Tree Bool ℕ
replaced_by n c e l r = node (first_serial r n) c (first_entry r e) l (without_first r).tree

abbrev pub swap_cost : ℕ → Bool → Entry ℕ → Tree Bool ℕ → Tree Bool ℕ → Cost
swap_cost n c e l r = plus (plus (first_cost r) (cost 4 1 0)) (cond (without_first r).short (short_cost true (replaced_by n c e l r)) nothing)

abbrev pub root_cost : Tree Bool ℕ → Cost
root_cost leaf = nothing
root_cost (node n c e l r) = cond (is_node r) (cond (is_node l) (swap_cost n c e l r) (take_cost true true (node n c e l r))) (take_cost true false (node n c e l r))

pub swap_out_ends : (g : ℕ) (m : Memory) (d n : ℕ) (c : Bool) (e : Entry ℕ) (l r : Tree Bool ℕ) → is_node r ≡ true → m.regs (suc d) ≡ root_of r → m.regs 37 ≡ root_of l
    → Ready colour m d (node n c e l r) → NamedOnce m (node n c e l r) → m.regs 35 ≡ None → Balanced (node n c e l r) → height r ≤ g → height r + suc d ≤ 25 → changed m + (3 * height r + 45) ≤ m.change_limit
    → Ends (swap_out_of g d m) (λ short m'. Removed m m' d (node n c e l r) (step_up true (node (first_serial r n) c (first_entry r e) l r) (without_first r)) n (swap_cost n c e l r) short)
unfolding swap_out_of
swap_out_ends g m d n c e l r fr rs r37 R L nil balanced hg hd q =
    let t = node n c e l r in
    let low = thrifty_all (height r) 0 0 (without_first r) (first_cost r) (first_thrifty r) in
    let z0 = (first_thrifty r).nodes in
    let x = first_serial r n in
    let xe : first_serial r 0 ≡ x = serial_any r 0 n fr in
    let v = replaced_by n c e l r in
    by_red _ _ d (omega arith) m t R.reg R.stored
    (ends_then (first_of g (suc d) m) _ (λ short m₂. FirstTaken m m₂ (suc d) r short) _
    (first_ends g m (suc d) r fr (ready_child colour m d (suc d) true t rs R) (once_child colour m true t L) nil balanced.1 hg hd (omega arith))
    (λ short m₂ B.
    let f = B.start in
    let R₀ : Ready colour (over m f) d t = ready_over m f d t (B.below d (omega arith) ∙ R.reg) R in
    ends_then (replace_of d c m₂) _ (λ _ m₃. Becomes colour (over m f) m₃ d t v (plus (first_cost r) (cost 4 1 0)) × Bare m₃ n) _
    (replace_ends m m₂ f d n x c e (first_entry r e) l r (without_first r).tree (first_cost r) B.y R₀ L (B.nil ∙ nil) (B.beside ∙ r37) (omega arith) (λ i. first_occurrences r n i fr) B.becomes
    (B.taken ∙ ap Some xe) (ap (λ (j : ℕ). m₂.state.nodes j) (sym xe) ∙ B.there) (B.key e) (B.value e) B.bare (omega (arith, low.0, low.1)))
    (λ _ m₃ F₃.
    let V₃ = F₃.0 in
    let tv : (i : ℕ) → occurrences i v ≤ occurrences i t = λ i. let y = first_occurrences r n i fr in omega arith in
    let zn : occurrences n v ≡ 0 = let y = first_occurrences r n n fr in let a = R.distinct n in omega (arith, self n) in
    let wn : n < m.made = R.within n (omega (arith, self n)) in
    let R₃ = ready_after colour (over m f) m₃ d t v (plus (first_cost r) (cost 4 1 0)) tv R₀ V₃ in
    let L₃ : NamedOnce m₃ v = λ i p.
    let w = L i (omega (arith, tv i)) in let y = first_occurrences r n i fr in
    omega (arith, V₃.named i, hits_root i l, hits_root i r, hits_root i (without_first r).tree, R.distinct i) in
    let there : Siblings (without_first r).short true v = λ h. let w = sibling_there r l (without_first r) (sym balanced.2) balanced.0 (first_shrinks r balanced.1) h in (w.0, λ z. w.1 z true) in
    subst (λ (b : Bool). Ends (cond b (short_fix_of d true m₃) (done false m₃)) (λ short' m'. Removed m m' d t (step_up true (node x c (first_entry r e) l r) (without_first r)) n (swap_cost n c e l r) short')) (sym B.flag)
    (ends_all (cond (without_first r).short (short_fix_of d true m₃) (done false m₃)) _ _
    (short_after (over m f) m₃ d true t v (without_first r).short (plus (first_cost r) (cost 4 1 0)) R₃ L₃ (V₃.still 35 (omega arith) (omega arith) ∙ B.nil ∙ nil) (omega arith) there (omega (arith, V₃.linked, V₃.numbered, V₃.change_limit, low.0, low.1)) tv V₃)
    (λ short' m' F.
    let st = as_step true (node x c (first_entry r e) l r) (without_first r) (without_first r).short refl in
    record {
      flag = F.0 ∙ ap (λ (y : Shrunk ℕ). y.short) (sym st);
      start = f;
      below = λ j p. B.below j (omega arith);
      nil = B.nil;
      becomes = subst (λ (y : Shrunk ℕ). Becomes colour (over m f) m' d t y.tree (swap_cost n c e l r)) (sym st) F.1;
      bare = bare_same m₃ m' n (F.2 n zn (omega (arith, V₃.made))) F₃.1;
    })))))

root_right : (n : ℕ) (c : Bool) (e : Entry ℕ) (l : Tree Bool ℕ) → without_root (node n c e l leaf) ≡ spliced c l
unfolding without_root
root_right n c e leaf = refl
root_right n c e (node a b f p q) = refl

root_left : (n : ℕ) (c : Bool) (e : Entry ℕ) (r : Tree Bool ℕ) → is_node r ≡ true → without_root (node n c e leaf r) ≡ spliced c r
unfolding without_root
root_left n c e leaf h = no_test h
root_left n c e (node a b f p q) h = refl

root_both : (n : ℕ) (c : Bool) (e : Entry ℕ) (n₁ : ℕ) (c₁ : Bool) (e₁ : Entry ℕ) (l₁ r₁ : Tree Bool ℕ) (n₂ : ℕ) (c₂ : Bool) (e₂ : Entry ℕ) (l₂ r₂ : Tree Bool ℕ)
    → without_root (node n c e (node n₁ c₁ e₁ l₁ r₁) (node n₂ c₂ e₂ l₂ r₂)) ≡ step_up true (node (first_serial (node n₂ c₂ e₂ l₂ r₂) n) c (first_entry (node n₂ c₂ e₂ l₂ r₂) e) (node n₁ c₁ e₁ l₁ r₁) (node n₂ c₂ e₂ l₂ r₂)) (without_first (node n₂ c₂ e₂ l₂ r₂))
unfolding without_root
root_both n c e n₁ c₁ e₁ l₁ r₁ n₂ c₂ e₂ l₂ r₂ = refl

taken_out : (m m' : Memory) (d : ℕ) (s : Bool) (t : Tree Bool ℕ) (n : ℕ) (x : Node) (short : Bool) (f : ℕ → Option ℕ) → ((j : ℕ) → j < d → f j ≡ m.regs j) → f 35 ≡ m.regs 35 → d < 26 → Taken true (over m f) m' d s t n x short → Removed m m' d t (spliced (red t) (child s t)) n (take_cost true s t) short
taken_out m m' d s t n x short f b nil l T = record {
  flag = T.flag;
  start = put f 36 (Some n);
  below = λ j p. put_other f 36 j (Some n) (omega arith) ∙ b j p;
  nil = put_other f 36 35 (Some n) (omega arith) ∙ nil;
  becomes = T.becomes;
  bare = record { node = T.y; there = T.there; nil = T.nil };
}

pub root_out_ends : (g : ℕ) (m : Memory) (d n : ℕ) (c : Bool) (e : Entry ℕ) (l r : Tree Bool ℕ) → Ready colour m d (node n c e l r) → NamedOnce m (node n c e l r) → m.regs 35 ≡ None → Balanced (node n c e l r) → height r ≤ g → height r + suc d ≤ 25 → suc d < 26 → changed m + (3 * height r + 45) ≤ m.change_limit
    → Ends (root_out_of g d m) (λ short m'. Removed m m' d (node n c e l r) (without_root (node n c e l r)) n (root_cost (node n c e l r)) short)
unfolding root_out_of
root_out_ends g m d n c e l leaf R L nil balanced hg hd ld q =
    let t = node n c e l leaf in
    let N = R.stored.0 in
    let m₁ = with_reg m (suc d) None in
    by_child _ _ colour m d (suc d) true t (omega arith) (omega arith) refl R.reg R.stored
    (by_nil _ _ (suc d) None m₁ (omega arith) (put_same m.regs (suc d) None)
    (ends_all (take_of true d false m₁) _ _ (take_ends true m₁ d false t n N.it refl N.there refl (ready_scratch colour m d (suc d) None t (omega arith) R) (put_other m.regs (suc d) 35 None (omega arith) ∙ nil) (omega arith) (omega arith))
    (λ short m' T. subst (λ (y : Shrunk ℕ). Removed m m' d t y n (take_cost true false t) short) (sym (root_right n c e l))
    (taken_out m m' d false t n N.it short (put m.regs (suc d) None) (λ j p. put_other m.regs (suc d) j None (omega arith)) (put_other m.regs (suc d) 35 None (omega arith)) (omega arith) T))))
root_out_ends g m d n c e leaf (node n₂ c₂ e₂ l₂ r₂) R L nil balanced hg hd ld q =
    let r = node n₂ c₂ e₂ l₂ r₂ in
    let t = node n c e leaf r in
    let N = R.stored.0 in
    let f₁ = put m.regs (suc d) (Some n₂) in
    let m₁ = with_reg m (suc d) (Some n₂) in
    let m₂ = with_reg m₁ 37 None in
    by_child _ _ colour m d (suc d) true t (omega arith) (omega arith) refl R.reg R.stored
    (by_nil _ _ (suc d) (Some n₂) m₁ (omega arith) (put_same m.regs (suc d) (Some n₂))
    (by_child _ _ colour m₁ d 37 false t (omega arith) (omega arith) refl (put_other m.regs (suc d) d (Some n₂) (omega arith) ∙ R.reg) R.stored
    (by_nil _ _ 37 None m₂ (omega arith) (put_same f₁ 37 None)
    (ends_all (take_of true d true m₂) _ _ (take_ends true m₂ d true t n N.it refl N.there refl (ready_scratch colour m₁ d 37 None t (omega arith) (ready_scratch colour m d (suc d) (Some n₂) t (omega arith) R)) (put_other f₁ 37 35 None (omega arith) ∙ put_other m.regs (suc d) 35 (Some n₂) (omega arith) ∙ nil) (omega arith) (omega arith))
    (λ short m' T. subst (λ (y : Shrunk ℕ). Removed m m' d t y n (take_cost true true t) short) (sym (root_left n c e r refl))
    (taken_out m m' d true t n N.it short (put f₁ 37 None) (λ j p. put_other f₁ 37 j None (omega arith) ∙ put_other m.regs (suc d) j (Some n₂) (omega arith)) (put_other f₁ 37 35 None (omega arith) ∙ put_other m.regs (suc d) 35 (Some n₂) (omega arith)) (omega arith) T))))))
root_out_ends g m d n c e (node n₁ c₁ e₁ l₁ r₁) (node n₂ c₂ e₂ l₂ r₂) R L nil balanced hg hd ld q =
    let l = node n₁ c₁ e₁ l₁ r₁ in
    let r = node n₂ c₂ e₂ l₂ r₂ in
    let t = node n c e l r in
    let f₁ = put m.regs (suc d) (Some n₂) in
    let m₁ = with_reg m (suc d) (Some n₂) in
    let m₂ = with_reg m₁ 37 (Some n₁) in
    by_child _ _ colour m d (suc d) true t (omega arith) (omega arith) refl R.reg R.stored
    (by_nil _ _ (suc d) (Some n₂) m₁ (omega arith) (put_same m.regs (suc d) (Some n₂))
    (by_child _ _ colour m₁ d 37 false t (omega arith) (omega arith) refl (put_other m.regs (suc d) d (Some n₂) (omega arith) ∙ R.reg) R.stored
    (by_nil _ _ 37 (Some n₁) m₂ (omega arith) (put_same f₁ 37 (Some n₁))
    (ends_all (swap_out_of g d m₂) _ _
    (swap_out_ends g m₂ d n c e l r refl (put_other f₁ 37 (suc d) (Some n₁) (omega arith) ∙ put_same m.regs (suc d) (Some n₂)) (put_same f₁ 37 (Some n₁))
    (ready_scratch colour m₁ d 37 (Some n₁) t (omega arith) (ready_scratch colour m d (suc d) (Some n₂) t (omega arith) R)) L (put_other f₁ 37 35 (Some n₁) (omega arith) ∙ put_other m.regs (suc d) 35 (Some n₂) (omega arith) ∙ nil) balanced hg hd q)
    (λ short m' F. subst (λ (y : Shrunk ℕ). Removed m m' d t y n (swap_cost n c e l r) short) (sym (root_both n c e n₁ c₁ e₁ l₁ r₁ n₂ c₂ e₂ l₂ r₂))
    (record {
      flag = F.flag;
      start = F.start;
      below = λ j p. F.below j p ∙ put_other f₁ 37 j (Some n₁) (omega arith) ∙ put_other m.regs (suc d) j (Some n₂) (omega arith);
      nil = F.nil ∙ put_other f₁ 37 35 (Some n₁) (omega arith) ∙ put_other m.regs (suc d) 35 (Some n₂) (omega arith);
      becomes = F.becomes;
      bare = F.bare;
    }))))))
