-- Two heaps under registers become the merged heap.
use Rattle.std.proofs.Common.{◌≡◌, ℕ, zero, suc, ◌+◌, ◌*◌, ◌<◌, ◌≤◌, Bool, true, false, cond, eqb, Some, None, sym, refl, ap, ◌∙◌, arith}
use Rattle.trees.specs.Trees.{Entry, Tree, leaf, node, root_of, occurrences, size}
use Rattle.trees.specs.Leftist.{rank, Leftist, joined, merged}
use Rattle.trees.proofs.Heaps.{merged_sum, merged_leftist}
use Rattle.trees.proofs.Heights.{low_rank}
use Rattle.memory.specs.Memory.{Memory, changed}
use Rattle.memory.specs.Steps.{Done, with_reg, move_of}
use Rattle.memory.specs.Effects.{Ends}
use Rattle.memory.proofs.Numbers.{put_same, put_other, hits_some}
use Rattle.memory.proofs.By.{ends_then, ends_all, ends_cond, ends_last, by_nil, by_key, by_move, by_follow}
use Rattle.stored.specs.Stored.{as_rank, inside}
use Rattle.stored.specs.Becomes.{cost, Shifts}
use Rattle.stored.specs.Whole.{Untouched}
use Rattle.stored.proofs.Parts.{self, hits_root, keep}
use Rattle.stored.proofs.Nodes.{move_node}
use Rattle.queue_steps.specs.Merge.{hang_of, sink_of, swap_of, merge_of}
use Rattle.queue_steps.specs.Theorems.{Pair, MergeSteps}
use Rattle.queue_steps.proofs.Hangs.{hang_ends}

-- what a merge of a and b leaves: the heap u, by at most so many levels
abbrev Merges : Memory → Memory → ℕ → Tree ℕ ℕ → Tree ℕ ℕ → Tree ℕ ℕ → ℕ → Type 0
Merges m m' d a b u g = Shifts as_rank m m' d (λ i. occurrences i a + occurrences i b) (λ i. inside i a + inside i b) u (cost (2 * g) g 0)

sink_ends : (below : ℕ → Memory → Done Unit) (g : ℕ) (m : Memory) (d n c : ℕ) (e : Entry ℕ) (l r b x : Tree ℕ ℕ)
    → Pair m d (node n c e l r) b → suc d < 26 → rank l ≤ 12 → rank x ≤ 12 → ((i : ℕ) → occurrences i x ≡ occurrences i r + occurrences i b) → changed m + (3 * g + 3) ≤ m.change_limit
    → Ends (below (suc d) (with_reg m (suc d) (root_of r))) (λ _ m₂. Merges (with_reg m (suc d) (root_of r)) m₂ (suc d) r b x g)
    → Ends (sink_of below d m) (λ _ m'. Merges m m' d (node n c e l r) b (joined n e l x) (suc g))
unfolding sink_of
sink_ends below g m d n c e l r b x P dl kl kx tx sp go =
    let N = P.stored.0 in
    let dn = P.distinct n in
    let sn = self n in
    let nn : 1 ≤ occurrences n (node n c e l r) + occurrences n b = omega arith in
    let wn = P.within n nn in
    by_follow _ _ d 1 (suc d) n N.it m (root_of r) (record { low = omega arith; names = P.reg; node = N.there }) (omega arith) (omega arith) N.far
    (ends_then (below (suc d) (with_reg m (suc d) (root_of r))) _ (λ _ m₂. Merges (with_reg m (suc d) (root_of r)) m₂ (suc d) r b x g) _ go
    (λ _ m₂ J. ends_all (hang_of d m₂) _ _
    (hang_ends m₂ d n c e l r x (J.writable ∙ P.may) (J.kept d (omega arith) ∙ put_other m.regs (suc d) d (root_of r) (omega arith) ∙ P.reg) J.reg dl kl kx
    (move_node as_rank m.state.nodes m₂.state.nodes false n c e l r (J.others n (omega arith) wn) N)
    (keep as_rank m.state.nodes m₂.state.nodes l (λ i p. J.others i (let z = P.distinct i in omega arith) (P.within i (omega arith))) P.stored.1)
    J.stored (λ i. let z = P.distinct i in let y = tx i in omega arith)
    (omega (arith, J.made))
    (λ i. omega (arith, J.named i, P.counted i))
    (λ i g. let h = hits_some i (root_of x) g in let w = P.once i (let y = tx i in omega (arith, hits_root i x)) in let z = P.distinct i in let y = tx i in omega (arith, J.named i, hits_root i x, hits_root i r, hits_root i b))
    (λ i g. let h = hits_some i (root_of x) g in let w = P.once i (let y = tx i in omega (arith, hits_root i x)) in let z = P.distinct i in let y = tx i in omega (arith, J.named i, hits_root i x, hits_root i r, hits_root i b))
    (λ i g. let h = hits_some i (root_of l) g in let w = P.once i (omega (arith, hits_root i l)) in let z = P.distinct i in let y = tx i in omega (arith, J.named i, hits_root i x, hits_root i l))
    (omega (arith, J.linked, J.numbered, J.change_limit)))
    (λ _ m₃ H. record {
      reg = H.reg;
      stored = H.stored;
      others = λ i z v. H.others i (let y = tx i in omega arith) (omega (arith, J.made)) ∙ J.others i (omega arith) v;
      kept = λ j p. H.kept j p ∙ J.kept j (omega arith) ∙ put_other m.regs (suc d) j (root_of r) (omega arith);
      still = λ w w₁ w₂. H.still w w₁ w₂ ∙ J.still w w₁ w₂ ∙ put_other m.regs (suc d) w (root_of r) (omega arith);
      named = λ i. omega (arith, H.named i, J.named i);
      roots = λ i. H.roots i ∙ J.roots i;
      linked = omega (arith, H.linked, J.linked);
      numbered = omega (arith, H.numbered, J.numbered);
      made = omega (arith, H.made, J.made);
      node_limit = H.node_limit ∙ J.node_limit;
      change_limit = H.change_limit ∙ J.change_limit;
      writable = H.writable ∙ J.writable;
      rest = H.rest ∙ J.rest;
    })))

left_alone : (g : ℕ) (m : Memory) (d : ℕ) (a : Tree ℕ ℕ) → Pair m d a leaf → Merges m m d a leaf a g
left_alone g m d a P = record { reg = P.reg; stored = P.stored; others = λ i z v. refl; kept = λ r l. refl; still = λ w w₁ w₂. refl; named = λ i. omega arith; roots = λ i. refl; linked = omega arith; numbered = omega arith; made = omega arith; node_limit = refl; change_limit = refl; writable = refl; rest = refl }

moved_over : (g : ℕ) (m : Memory) (d : ℕ) (b : Tree ℕ ℕ) → d < 26 → Pair m d leaf b → Merges m (with_reg m d (root_of b)) d leaf b b g
moved_over g m d b dl P = record { reg = put_same m.regs d (root_of b); stored = P.beside; others = λ i z v. refl; kept = λ r l. put_other m.regs d r (root_of b) (omega arith); still = λ w w₁ w₂. put_other m.regs d w (root_of b) (omega arith); named = λ i. omega arith; roots = λ i. refl; linked = omega arith; numbered = omega arith; made = omega arith; node_limit = refl; change_limit = refl; writable = refl; rest = refl }

-- the heaps have changed places, and only registers are others
record Swapped (m m' : Memory) (d : ℕ) (a b : Tree ℕ ℕ) : Type 0 where
  pub pair : Pair m' d b a
  pub kept : (j : ℕ) → j < d → m'.regs j ≡ m.regs j
  pub still : (w : ℕ) → 34 < w → w < 38 → m'.regs w ≡ m.regs w
  pub same : Untouched m m'

swap_ends : (m : Memory) (d : ℕ) (a b : Tree ℕ ℕ) → d < 26 → Pair m d a b → Ends (swap_of d m) (λ _ m'. Swapped m m' d a b)
unfolding swap_of
swap_ends m d a b l P =
    let m₁ = with_reg m 38 (root_of a) in
    let m₂ = with_reg m₁ d (root_of b) in
    by_move _ _ d 38 m (root_of a) (omega arith) (omega arith) P.reg (by_move _ _ 39 d m₁ (root_of b) (omega arith) (omega arith) (put_other m.regs 38 39 (root_of a) (omega arith) ∙ P.aside)
    (ends_last (move_of 38 39 m₂) _ (by_move _ _ 38 39 m₂ (root_of a) (omega arith) (omega arith) (put_other m₁.regs d 38 (root_of b) (omega arith) ∙ put_same m.regs 38 (root_of a))
    (record {
      pair = record {
        reg = put_other m₂.regs 39 d (root_of a) (omega arith) ∙ put_same m₁.regs d (root_of b);
        aside = put_same m₂.regs 39 (root_of a);
        stored = P.beside;
        beside = P.stored;
        distinct = λ i. let z = P.distinct i in omega arith;
        within = λ i p. P.within i (omega arith);
        counted = λ i. let z = P.counted i in omega arith;
        once = λ i p. P.once i (omega arith);
        may = P.may;
      };
      kept = λ j p. put_other m₂.regs 39 j (root_of a) (omega arith) ∙ put_other m₁.regs d j (root_of b) (omega arith) ∙ put_other m.regs 38 j (root_of a) (omega arith);
      still = λ w w₁ w₂. put_other m₂.regs 39 w (root_of a) (omega arith) ∙ put_other m₁.regs d w (root_of b) (omega arith) ∙ put_other m.regs 38 w (root_of a) (omega arith);
      same = record { state = refl; made = refl; linked = refl; numbered = refl; node_limit = refl; change_limit = refl; writable = refl; rest = refl };
    }))))

pair_down : (m : Memory) (d n c : ℕ) (e : Entry ℕ) (l r b : Tree ℕ ℕ) → suc d < 26 → Pair m d (node n c e l r) b → Pair (with_reg m (suc d) (root_of r)) (suc d) r b
pair_down m d n c e l r b h P = record {
  reg = put_same m.regs (suc d) (root_of r);
  aside = put_other m.regs (suc d) 39 (root_of r) (omega arith) ∙ P.aside;
  stored = P.stored.2;
  beside = P.beside;
  distinct = λ i. let z = P.distinct i in omega arith;
  within = λ i p. P.within i (omega arith);
  counted = λ i. let z = P.counted i in omega arith;
  once = λ i p. P.once i (omega arith);
  may = P.may;
}

-- after the heaps have changed places
unswap : (m m₁ m' : Memory) (d : ℕ) (a b u : Tree ℕ ℕ) (g : ℕ) → Swapped m m₁ d a b → Merges m₁ m' d b a u g → Merges m m' d a b u g
unswap m m₁ m' d a b u g S J =
    let U = S.same in
    record {
      reg = J.reg;
      stored = J.stored;
      others = λ i z v. J.others i (omega arith) (omega (arith, U.made)) ∙ ap (λ s. s.nodes i) U.state;
      kept = λ j p. J.kept j p ∙ S.kept j p;
      still = λ w w₁ w₂. J.still w w₁ w₂ ∙ S.still w w₁ w₂;
      named = λ i. let w : m₁.state.names i ≡ m.state.names i = ap (λ s. s.names i) U.state in omega (arith, J.named i);
      roots = λ i. J.roots i ∙ ap (λ s. s.roots i) U.state;
      linked = omega (arith, J.linked, U.linked);
      numbered = omega (arith, J.numbered, U.numbered);
      made = omega (arith, J.made, U.made);
      node_limit = J.node_limit ∙ U.node_limit;
      change_limit = J.change_limit ∙ U.change_limit;
      writable = J.writable ∙ U.writable;
      rest = J.rest ∙ U.rest;
    }

-- a merged heap of at most 4,096 nodes has a low rank
merged_low : (before : ℕ → ℕ → Bool) (g : ℕ) (a b : Tree ℕ ℕ) → Leftist a → Leftist b → rank a + rank b ≤ g → size a + size b ≤ 4096 → rank (merged before g a b) ≤ 12
merged_low before g a b p q h few = low_rank ℕ (merged before g a b) (merged_leftist before g a b p q) (omega (arith, merged_sum before (λ n e. 1) g a b p q h))

pub merge_ends : MergeSteps
unfolding merge_of
merge_ends before zero m d a b P p q few h l s = absurd (omega arith)
merge_ends before (suc g) m d leaf leaf P p q few h l s = by_nil _ _ 39 None m (omega arith) P.aside (left_alone (suc g) m d leaf P)
merge_ends before (suc g) m d (node n c e l' r) leaf P p q few h l s = by_nil _ _ 39 None m (omega arith) P.aside (left_alone (suc g) m d (node n c e l' r) P)
merge_ends before (suc g) m d leaf (node n c e l' r) P p q few h l s =
    by_nil _ _ 39 (Some n) m (omega arith) P.aside (by_nil _ _ d None m (omega arith) P.reg (ends_last (move_of 39 d m) _ (by_move _ _ 39 d m (Some n) (omega arith) (omega arith) P.aside (moved_over (suc g) m d (node n c e l' r) (omega arith) P))))
merge_ends before (suc g) m d (node n c e l' r) (node n₂ c₂ e₂ l₂ r₂) P p q few h l s =
    let A = node n c e l' r in
    let B = node n₂ c₂ e₂ l₂ r₂ in
    let N = P.stored.0 in
    let N₂ = P.beside.0 in
    by_nil _ _ 39 (Some n₂) m (omega arith) P.aside (by_nil _ _ d (Some n) m (omega arith) P.reg
    (by_key _ _ 39 n₂ N₂.it m (record { low = omega arith; names = P.aside; node = N₂.there }) (by_key _ _ d n N.it m (record { low = omega arith; names = P.reg; node = N.there })
    (ends_cond (before N₂.it.key N.it.key) _ _ _
    (λ t.
    let t' : before e₂.key e.key ≡ true = ap (λ (j : ℕ). before j e.key) (sym N₂.key) ∙ ap (λ (j : ℕ). before N₂.it.key j) (sym N.key) ∙ t in
    ends_then (swap_of d m) _ (λ _ m₁. Swapped m m₁ d A B) _ (swap_ends m d A B (omega arith) P) (λ _ m₁ S.
    let U = S.same in
    ends_all (sink_of (merge_of before g) d m₁) _ _
    (sink_ends (merge_of before g) g m₁ d n₂ c₂ e₂ l₂ r₂ A (merged before g r₂ A) S.pair (omega arith) (low_rank ℕ l₂ q.0 (omega arith)) (merged_low before g r₂ A q.1 p (omega arith) (omega arith))
    (λ i. merged_sum before (λ j f. cond (eqb i j) 1 0) g r₂ A q.1 p (omega arith)) (omega (arith, U.linked, U.numbered, U.change_limit))
    (merge_ends before g (with_reg m₁ (suc d) (root_of r₂)) (suc d) r₂ A (pair_down m₁ d n₂ c₂ e₂ l₂ r₂ A (omega arith) S.pair) q.1 p (omega arith) (omega arith) (omega arith) (omega (arith, U.linked, U.numbered, U.change_limit))))
    (λ _ m' J. rw t' (unswap m m₁ m' d A B _ (suc g) S J))))
    (λ t.
    let t' : before e₂.key e.key ≡ false = ap (λ (j : ℕ). before j e.key) (sym N₂.key) ∙ ap (λ (j : ℕ). before N₂.it.key j) (sym N.key) ∙ t in
    ends_all (sink_of (merge_of before g) d m) _ _
    (sink_ends (merge_of before g) g m d n c e l' r B (merged before g r B) P (omega arith) (low_rank ℕ l' p.0 (omega arith)) (merged_low before g r B p.1 q (omega arith) (omega arith))
    (λ i. merged_sum before (λ j f. cond (eqb i j) 1 0) g r B p.1 q (omega arith)) (omega arith)
    (merge_ends before g (with_reg m (suc d) (root_of r)) (suc d) r B (pair_down m d n c e l' r B (omega arith) P) p.1 q (omega arith) (omega arith) (omega arith) (omega arith)))
    (λ _ m' J. rw t' J))))))
