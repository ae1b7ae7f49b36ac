-- A node gets a heap beside its left child.
use Rattle.std.proofs.Common.{◌≡◌, ℕ, suc, ◌+◌, ◌<◌, ◌≤◌, true, false, cond, eqb, leb, Some, None, sym, ap, ◌∙◌, subst, arith}
use Rattle.trees.specs.Trees.{Entry, Tree, leaf, node, root_of, occurrences}
use Rattle.trees.specs.Leftist.{rank, joined}
use Rattle.memory.specs.Memory.{Node, Memory, changed, hits}
use Rattle.memory.specs.Steps.{Done, done, no, then, with_reg, nil_of}
use Rattle.memory.specs.Effects.{Ends, Holds, Free}
use Rattle.memory.proofs.Numbers.{put_same, put_other, hits_some, lt_true}
use Rattle.memory.proofs.By.{ends_then, ends_all, ends_cond, by_nil, by_number, by_follow}
use Rattle.stored.specs.Stored.{side, as_rank, NodeAt, Stored, inside}
use Rattle.stored.specs.Writes.{relink_of, Relinked, Renumbered}
use Rattle.stored.specs.Becomes.{cost, Shifts}
use Rattle.stored.proofs.Parts.{self, hits_root, keep_else}
use Rattle.stored.proofs.Writing.{relink_ends, renumber_ends}
use Rattle.queue_steps.specs.Merge.{rank_of, next_rank_of, ranked_of, hang_of}

then_in : {A X Y : Type 0} (a : Done X) (f : X → Memory → Done Y) (h : Y → Memory → Done A) (Q : A → Memory → Type 0) → Ends (then a (λ x m. then (f x m) h)) Q → Ends (then (then a f) h) Q
then_in (done x m) f h Q e = e
then_in (no z) f h Q e = e

module _ {A : Type 0} (k : ℕ → Memory → Done A) (Q : A → Memory → Type 0) where
  pub by_rank : (r : ℕ) → r < 40 → (m : Memory) (u : Tree ℕ ℕ) → m.regs r ≡ root_of u → Stored as_rank m.state.nodes u → Ends (k (rank u) m) Q → Ends (then (rank_of r m) k) Q
  unfolding rank_of
  by_rank r l m leaf e h g = then_in (nil_of r m) _ k Q (by_nil _ Q r None m l e g)
  by_rank r l m (node n c f a b) e h g = then_in (nil_of r m) _ k Q (by_nil _ Q r (Some n) m l e (by_number k Q 1 r n h.0.it m (record { low = l; names = e; node = h.0.there }) (subst (λ (x : ℕ). Ends (k x m) Q) (sym h.0.mark) g)))

  by_next_rank : (r : ℕ) (m : Memory) → r ≤ 12 → Ends (k (suc r) m) Q → Ends (then (next_rank_of r m) k) Q
  unfolding next_rank_of
  by_next_rank r m l h = rw (lt_true r 4294967295 (omega arith)) h

pub ranked_ends : (m : Memory) (d r n : ℕ) (x : Node) → r ≤ 12 → Holds m d n x → Free m → Ends (ranked_of d r m) (λ _ m'. Renumbered m m' n x 1 (suc r))
unfolding ranked_of
ranked_ends m d r n x l H F = by_next_rank _ _ r m l (renumber_ends m 1 d (suc r) n x H F)

joined_left : (n : ℕ) (e : Entry ℕ) (l x : Tree ℕ ℕ) → leb (rank x) (rank l) ≡ true → joined n e l x ≡ node n (suc (rank x)) e l x
unfolding joined
joined_left n e l x t = rw t

joined_right : (n : ℕ) (e : Entry ℕ) (l x : Tree ℕ ℕ) → leb (rank x) (rank l) ≡ false → joined n e l x ≡ node n (suc (rank l)) e x l
unfolding joined
joined_right n e l x t = rw t

-- the nodes of a join, and the links inside it and the old right child's
abbrev pub foot : ℕ → Tree ℕ ℕ → Tree ℕ ℕ → ℕ → ℕ
foot n l x i = cond (eqb i n) 1 0 + occurrences i l + occurrences i x

abbrev pub names₀ : Tree ℕ ℕ → Tree ℕ ℕ → Tree ℕ ℕ → ℕ → ℕ
names₀ l r x i = hits i (root_of l) + hits i (root_of r) + inside i l + inside i x

-- the node n under d, its left child l as it was, and under the next register what is to hang beside it
pub hang_ends : (m : Memory) (d n c : ℕ) (e : Entry ℕ) (l r x : Tree ℕ ℕ)
    → m.writable ≡ true → m.regs d ≡ Some n → m.regs (suc d) ≡ root_of x → suc d < 26 → rank l ≤ 12 → rank x ≤ 12
    → NodeAt as_rank m.state.nodes false n c e l r → Stored as_rank m.state.nodes l → Stored as_rank m.state.nodes x
    → ((i : ℕ) → foot n l x i ≤ 1) → n < m.made → ((i : ℕ) → names₀ l r x i ≤ m.state.names i)
    → ((i : ℕ) → root_of x ≡ Some i → m.state.names i ≤ 1 + hits i (root_of r)) → ((i : ℕ) → root_of x ≡ Some i → m.state.names i ≤ 1 + hits i (root_of l)) → ((i : ℕ) → root_of l ≡ Some i → m.state.names i ≤ 1 + hits i (root_of l) + hits i (root_of r))
    → changed m + 3 ≤ m.change_limit
    → Ends (hang_of d m) (λ _ m'. Shifts as_rank m m' d (foot n l x) (names₀ l r x) (joined n e l x) (cost 2 1 0))
unfolding hang_of
hang_ends m d n c e l r x ok rd rx dl kl kx N hl hx dis wn count f₁ f₂ f₃ sp =
    let m₁ = with_reg m 38 (root_of l) in
    let e₁ : m₁.regs (suc d) ≡ root_of x = put_other m.regs 38 (suc d) (root_of l) (omega arith) ∙ rx in
    let d₁ : m₁.regs d ≡ Some n = put_other m.regs 38 d (root_of l) (omega arith) ∙ rd in
    let dn = dis n in
    let sn = self n in
    let zl : occurrences n l ≡ 0 = omega arith in
    let zx : occurrences n x ≡ 0 = omega arith in
    let apart : (i : ℕ) → foot n l x i ≡ 0 → n ≡ i → ⊥ = λ i z q. (let w : cond {A = ℕ} (eqb i n) 1 0 ≡ 1 = ap (λ (j : ℕ). cond {A = ℕ} (eqb j n) 1 0) (sym q) ∙ sn in omega arith) in
    let h_l : (i : ℕ) → hits i (N.it.links (side false)) ≡ hits i (root_of l) = λ i. ap (hits i) N.near in
    let h_r : (i : ℕ) → hits i (N.it.links (side true)) ≡ hits i (root_of r) = λ i. ap (hits i) N.far in
    by_follow _ _ d 0 38 n N.it m (root_of l) (record { low = omega arith; names = rd; node = N.there }) (omega arith) (omega arith) N.near
    (by_rank _ _ 38 (omega arith) m₁ l (put_same m.regs 38 (root_of l)) hl (by_rank _ _ (suc d) (omega arith) m₁ x e₁ hx
    (ends_cond (leb (rank x) (rank l)) _ _ _
    (λ t.
    ends_then (relink_of d true (suc d) m₁) _ (λ _ m₂. Relinked m₁ m₂ n N.it true (root_of x)) _
    (relink_ends m₁ d true (suc d) n N.it (root_of x) (record { low = omega arith; names = d₁; node = N.there }) (omega arith) (omega arith) (omega arith) (record { writable = ok; left = omega arith }) e₁
    (λ i. omega (arith, h_r i, count i)) (λ i q. omega (arith, h_r i, f₁ i q)))
    (λ _ m₂ E₂.
    let S₂ = E₂.spends in
    ends_all (ranked_of d (rank x) m₂) _ _
    (ranked_ends m₂ d (rank x) n E₂.y kx (record { low = omega arith; names = S₂.regs d (omega arith) ∙ d₁; node = E₂.edited.here }) (record { writable = S₂.writable ∙ ok; left = omega (arith, S₂.linked, S₂.numbered, S₂.change_limit) }))
    (λ _ m₃ E₃.
    let S₃ = E₃.spends in
    let else : (j : ℕ) → (n ≡ j → ⊥) → m₃.state.nodes j ≡ m.state.nodes j = λ j ne. E₃.edited.else j ne ∙ E₂.edited.else j ne in
    subst (λ (u : Tree ℕ ℕ). Shifts as_rank m m₃ d (foot n l x) (names₀ l r x) u (cost 2 1 0)) (sym (joined_left n e l x t))
    (record {
      reg = S₃.regs d (omega arith) ∙ S₂.regs d (omega arith) ∙ d₁;
      stored = (
        record { it = E₃.y; there = E₃.edited.here; key = E₃.key ∙ E₂.key ∙ N.key; value = E₃.others 0 (λ z. omega arith) ∙ E₂.numbers 0 ∙ N.value; mark = E₃.number; near = E₃.links 0 ∙ E₂.far ∙ N.near; far = E₃.links 1 ∙ E₂.near },
        keep_else as_rank m.state.nodes m₃.state.nodes n l else zl hl,
        keep_else as_rank m.state.nodes m₃.state.nodes n x else zx hx,
      );
      others = λ i z v. else i (apart i z);
      kept = λ j p. S₃.regs j (omega arith) ∙ S₂.regs j (omega arith) ∙ put_other m.regs 38 j (root_of l) (omega arith);
      still = λ w w₁ w₂. S₃.regs w (omega arith) ∙ S₂.regs w (omega arith) ∙ put_other m.regs 38 w (root_of l) (omega arith);
      named = λ i. omega (arith, E₃.named i, E₂.named i, h_r i);
      roots = λ i. E₃.edited.roots i ∙ E₂.edited.roots i;
      linked = omega (arith, S₃.linked, S₂.linked);
      numbered = omega (arith, S₃.numbered, S₂.numbered);
      made = omega (arith, S₃.made, S₂.made);
      node_limit = S₃.node_limit ∙ S₂.node_limit;
      change_limit = S₃.change_limit ∙ S₂.change_limit;
      writable = S₃.writable ∙ S₂.writable;
      rest = S₃.rest ∙ S₂.rest;
    }))))
    (λ t.
    ends_then (relink_of d false (suc d) m₁) _ (λ _ m₂. Relinked m₁ m₂ n N.it false (root_of x)) _
    (relink_ends m₁ d false (suc d) n N.it (root_of x) (record { low = omega arith; names = d₁; node = N.there }) (omega arith) (omega arith) (omega arith) (record { writable = ok; left = omega arith }) e₁
    (λ i. omega (arith, h_l i, count i)) (λ i q. omega (arith, h_l i, f₂ i q)))
    (λ _ m₂ E₂.
    let S₂ = E₂.spends in
    let n₂ : (i : ℕ) → m₂.state.names i + hits i (root_of l) ≡ m.state.names i + hits i (root_of x) = λ i. omega (arith, E₂.named i, h_l i) in
    let h_r₂ : (i : ℕ) → hits i (E₂.y.links (side true)) ≡ hits i (root_of r) = λ i. ap (hits i) (E₂.far ∙ N.far) in
    ends_then (relink_of d true 38 m₂) _ (λ _ m₃. Relinked m₂ m₃ n E₂.y true (root_of l)) _
    (relink_ends m₂ d true 38 n E₂.y (root_of l) (record { low = omega arith; names = S₂.regs d (omega arith) ∙ d₁; node = E₂.edited.here }) (omega arith) (omega arith) (omega arith)
    (record { writable = S₂.writable ∙ ok; left = omega (arith, S₂.linked, S₂.numbered, S₂.change_limit) }) (S₂.regs 38 (omega arith) ∙ put_same m.regs 38 (root_of l))
    (λ i. omega (arith, h_r₂ i, n₂ i, count i))
    (λ i q. let b = f₃ i q in let h = hits_some i (root_of l) q in let g = dis i in omega (arith, h_r₂ i, n₂ i, hits_root i l, hits_root i x)))
    (λ _ m₃ E₃.
    let S₃ = E₃.spends in
    ends_all (ranked_of d (rank l) m₃) _ _
    (ranked_ends m₃ d (rank l) n E₃.y kl (record { low = omega arith; names = S₃.regs d (omega arith) ∙ S₂.regs d (omega arith) ∙ d₁; node = E₃.edited.here }) (record { writable = S₃.writable ∙ S₂.writable ∙ ok; left = omega (arith, S₂.linked, S₂.numbered, S₂.change_limit, S₃.linked, S₃.numbered, S₃.change_limit) }))
    (λ _ m₄ E₄.
    let S₄ = E₄.spends in
    let else : (j : ℕ) → (n ≡ j → ⊥) → m₄.state.nodes j ≡ m.state.nodes j = λ j ne. E₄.edited.else j ne ∙ E₃.edited.else j ne ∙ E₂.edited.else j ne in
    subst (λ (u : Tree ℕ ℕ). Shifts as_rank m m₄ d (foot n l x) (names₀ l r x) u (cost 2 1 0)) (sym (joined_right n e l x t))
    (record {
      reg = S₄.regs d (omega arith) ∙ S₃.regs d (omega arith) ∙ S₂.regs d (omega arith) ∙ d₁;
      stored = (
        record { it = E₄.y; there = E₄.edited.here; key = E₄.key ∙ E₃.key ∙ E₂.key ∙ N.key; value = E₄.others 0 (λ z. omega arith) ∙ E₃.numbers 0 ∙ E₂.numbers 0 ∙ N.value; mark = E₄.number; near = E₄.links 0 ∙ E₃.far ∙ E₂.near; far = E₄.links 1 ∙ E₃.near },
        keep_else as_rank m.state.nodes m₄.state.nodes n x else zx hx,
        keep_else as_rank m.state.nodes m₄.state.nodes n l else zl hl,
      );
      others = λ i z v. else i (apart i z);
      kept = λ j p. S₄.regs j (omega arith) ∙ S₃.regs j (omega arith) ∙ S₂.regs j (omega arith) ∙ put_other m.regs 38 j (root_of l) (omega arith);
      still = λ w w₁ w₂. S₄.regs w (omega arith) ∙ S₃.regs w (omega arith) ∙ S₂.regs w (omega arith) ∙ put_other m.regs 38 w (root_of l) (omega arith);
      named = λ i. omega (arith, E₄.named i, E₃.named i, h_r₂ i, n₂ i);
      roots = λ i. E₄.edited.roots i ∙ E₃.edited.roots i ∙ E₂.edited.roots i;
      linked = omega (arith, S₄.linked, S₃.linked, S₂.linked);
      numbered = omega (arith, S₄.numbered, S₃.numbered, S₂.numbered);
      made = omega (arith, S₄.made, S₃.made, S₂.made);
      node_limit = S₄.node_limit ∙ S₃.node_limit ∙ S₂.node_limit;
      change_limit = S₄.change_limit ∙ S₃.change_limit ∙ S₂.change_limit;
      writable = S₄.writable ∙ S₃.writable ∙ S₂.writable;
      rest = S₄.rest ∙ S₃.rest ∙ S₂.rest;
    }))))))))
