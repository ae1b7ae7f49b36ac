-- The first job of a root's heap goes.
use Rattle.std.proofs.Common.{◌≡◌, ℕ, ◌+◌, ◌*◌, ◌<◌, ◌≤◌, Bool, true, cond, eqb, Some, None, sym, ap, ◌∙◌, subst, inl, inr, arith}
use Rattle.std.proofs.lemmas.Bool.Decides.{eqb_tells}
use Rattle.trees.specs.Trees.{Entry, Tree, node, root_of, occurrences, size}
use Rattle.trees.specs.Leftist.{Leftist, merged}
use Rattle.trees.specs.Theorems.{popped}
use Rattle.trees.proofs.Heaps.{merged_sum, merge_enough}
use Rattle.trees.proofs.Heights.{low_rank}
use Rattle.memory.specs.Memory.{Node, Memory, changed, put, hits}
use Rattle.memory.specs.Steps.{with_reg}
use Rattle.memory.specs.Effects.{Ends}
use Rattle.memory.proofs.Numbers.{put_same, put_other, some_same}
use Rattle.memory.proofs.By.{ends_then, ends_all, by_load, by_move, by_follow, by_nil, by_key}
use Rattle.stored.specs.Stored.{side, as_rank, Stored, inside}
use Rattle.stored.specs.Writes.{resave_of, blank_of, Edited, Spends}
use Rattle.stored.proofs.Blanks.{blank_ends}
use Rattle.stored.specs.Becomes.{cost, Shifts}
use Rattle.stored.specs.Whole.{Trees, Room, Spent}
use Rattle.stored.proofs.Parts.{self, hits_root, keep_else}
use Rattle.stored.proofs.Wholes.{save_ends, size_made}
use Rattle.queue_steps.specs.Merge.{merge_of}
use Rattle.queue_steps.specs.Queues.{part_of, pop_of}
use Rattle.queue_steps.specs.Theorems.{Pair}
use Rattle.queue_steps.proofs.Merges.{merge_ends}

-- the root n has left its children in registers 0 and 39, and has no links
record Parted (m m' : Memory) (n : ℕ) (l r : Tree ℕ ℕ) : Type 0 where
  pub pair : Pair m' 0 l r
  pub y : Node
  pub edited : Edited m m' n y
  pub nil : (s : Bool) → y.links (side s) ≡ None
  pub named : (i : ℕ) → m'.state.names i + hits i (root_of l) + hits i (root_of r) ≡ m.state.names i
  pub linked : m'.linked ≤ m.linked + 2
  pub numbered : m'.numbered ≤ m.numbered
  pub made : m'.made ≡ m.made
  pub node_limit : m'.node_limit ≡ m.node_limit
  pub change_limit : m'.change_limit ≡ m.change_limit
  pub writable : m'.writable ≡ m.writable
  pub rest : m'.rest ≡ m.rest

part_ends : (m : Memory) (n c : ℕ) (e : Entry ℕ) (l r : Tree ℕ ℕ) → m.regs 0 ≡ Some n → m.regs 35 ≡ None → m.writable ≡ true → Stored as_rank m.state.nodes (node n c e l r) → ((i : ℕ) → occurrences i (node n c e l r) ≤ 1) → ((i : ℕ) → 1 ≤ occurrences i (node n c e l r) → i < m.made)
    → ((i : ℕ) → inside i (node n c e l r) ≤ m.state.names i) → ((i : ℕ) → 1 ≤ occurrences i (node n c e l r) → m.state.names i ≤ 1) → changed m + 2 ≤ m.change_limit
    → Ends (part_of m) (λ _ m'. Parted m m' n l r)
unfolding part_of
part_ends m n c e l r r0 r35 ok H dis win count once sp =
    let N = H.0 in
    let g₂ = put m.regs 36 (Some n) in
    let g₃ = put g₂ 0 (root_of l) in
    let m₂ = with_reg m 36 (Some n) in
    let m₃ = with_reg m₂ 0 (root_of l) in
    let m₄ = with_reg m₃ 39 (root_of r) in
    let dn = dis n in
    let sn = self n in
    let zl : occurrences n l ≡ 0 = omega arith in
    let zr : occurrences n r ≡ 0 = omega arith in
    let a36 : m₄.regs 36 ≡ Some n = put_other g₃ 39 36 (root_of r) (omega arith) ∙ put_other g₂ 0 36 (root_of l) (omega arith) ∙ put_same m.regs 36 (Some n) in
    let a35 : m₄.regs 35 ≡ None = put_other g₃ 39 35 (root_of r) (omega arith) ∙ put_other g₂ 0 35 (root_of l) (omega arith) ∙ put_other m.regs 36 35 (Some n) (omega arith) ∙ r35 in
    let sums : (i : ℕ) → hits i (N.it.links 0) + hits i (N.it.links 1) ≡ hits i (root_of l) + hits i (root_of r) = λ i. let a : hits i (N.it.links 0) ≡ hits i (root_of l) = ap (hits i) N.near in let b : hits i (N.it.links 1) ≡ hits i (root_of r) = ap (hits i) N.far in omega arith in
    by_move _ _ 0 36 m (Some n) (omega arith) (omega arith) r0
    (by_follow _ _ 36 0 0 n N.it m₂ (root_of l) (record { low = omega arith; names = put_same m.regs 36 (Some n); node = N.there }) (omega arith) (omega arith) N.near
    (by_follow _ _ 36 1 39 n N.it m₃ (root_of r) (record { low = omega arith; names = put_other g₂ 0 36 (root_of l) (omega arith) ∙ put_same m.regs 36 (Some n); node = N.there }) (omega arith) (omega arith) N.far
    (ends_all (blank_of 36 m₄) _ _
    (blank_ends m₄ 36 n N.it (record { low = omega arith; names = a36; node = N.there }) a35 ok sp (λ i. omega (arith, sums i, count i)))
    (λ _ m₅ C.
    let S = C.spends in
    record {
      pair = record {
        reg = S.regs 0 (omega arith) ∙ put_other g₃ 39 0 (root_of r) (omega arith) ∙ put_same g₂ 0 (root_of l);
        aside = S.regs 39 (omega arith) ∙ put_same g₃ 39 (root_of r);
        stored = keep_else as_rank m.state.nodes m₅.state.nodes n l C.edited.else zl H.1;
        beside = keep_else as_rank m.state.nodes m₅.state.nodes n r C.edited.else zr H.2;
        distinct = λ i. let z = dis i in omega arith;
        within = λ i p. let w = win i (omega arith) in omega (arith, S.made);
        counted = λ i. omega (arith, C.named i, sums i, count i);
        once = λ i p. let w = once i (omega arith) in omega (arith, C.named i);
        may = S.writable ∙ ok;
      };
      y = C.y;
      edited = record { here = C.edited.here; else = C.edited.else; roots = C.edited.roots };
      nil = C.nil;
      named = λ i. omega (arith, C.named i, sums i);
      linked = S.linked;
      numbered = omega (arith, S.numbered);
      made = S.made;
      node_limit = S.node_limit;
      change_limit = S.change_limit;
      writable = S.writable;
      rest = S.rest;
    }))))

-- an empty queue is answered, with nothing written; else the root goes
pub pop_ends : {N P : Type 0} {g : N → ℕ} {h : P → ℕ} {j j₁ j₂ : ℕ} (before : ℕ → ℕ → Bool) (m : Memory) (n c : ℕ) (e : Entry ℕ) (l r : Tree ℕ ℕ) (u : Tree N ℕ) (v : Tree P ℕ) → j < 3 → (j ≡ j₁ → ⊥) → (j ≡ j₂ → ⊥) → Trees as_rank g h j j₁ j₂ m (node n c e l r) u v → Leftist (node n c e l r) → Room m → m.regs 35 ≡ None
    → Ends (pop_of before j m) (λ k m'. (k ≡ Some e.key) × Trees as_rank g h j j₁ j₂ m' (popped before (node n c e l r)) u v × Spent m m' 0)
unfolding pop_of
pop_ends {g = g} {h = h} {j = j} {j₁ = j₁} {j₂ = j₂} before m n c e l r u v lj ij ik W le room nil =
    let a = node n c e l r in
    let N = W.stored_first.0 in
    let t = merged before 25 l r in
    let m₁ = with_reg m 0 (Some n) in
    let few : size a ≤ m.made = omega (arith, size_made W) in
    let rl = low_rank ℕ l le.0 (omega (arith, room.nodes)) in
    let rr = low_rank ℕ r le.1 (omega (arith, room.nodes)) in
    let sn = self n in
    let sum : (i : ℕ) → occurrences i t ≡ occurrences i l + occurrences i r = λ i. merged_sum before (λ q y. cond (eqb i q) 1 0) 25 l r le.0 le.1 (omega arith) in
    by_load _ _ j 0 m (Some n) lj (omega arith) W.first
    (by_nil _ _ 0 (Some n) m₁ (omega arith) (put_same m.regs 0 (Some n))
    (by_key _ _ 0 n N.it m₁ (record { low = omega arith; names = put_same m.regs 0 (Some n); node = N.there })
    (ends_then (part_of m₁) _ (λ _ m₂. Parted m₁ m₂ n l r) _
    (part_ends m₁ n c e l r (put_same m.regs 0 (Some n)) (put_other m.regs 0 35 (Some n) (omega arith) ∙ nil) room.writable W.stored_first (λ i. let d = W.distinct i in omega arith) (λ i p. W.within i (omega arith)) (λ i. omega (arith, W.named i, hits_root i a)) (λ i p. let d = W.distinct i in let w = W.named i in omega arith) (omega (arith, room.changes)))
    (λ _ m₂ P.
    ends_then (merge_of before 25 0 m₂) _ (λ _ m₃. Shifts as_rank m₂ m₃ 0 (λ i. occurrences i l + occurrences i r) (λ i. inside i l + inside i r) t (cost (2 * 25) 25 0)) _
    (merge_ends before 25 m₂ 0 l r P.pair le.0 le.1 (omega (arith, room.nodes)) (omega arith) (omega arith) (omega (arith, P.linked, P.numbered, P.change_limit, room.changes)))
    (λ _ m₃ V.
    let dn = W.distinct n in
    let wn : n < m.made = W.within n (omega arith) in
    let gone : m₃.state.nodes n ≡ Some P.y = V.others n (omega arith) (omega (arith, P.made)) ∙ P.edited.here in
    ends_then (resave_of j 0 m₃) _ (λ _ m₄. Trees as_rank g h j j₁ j₂ m₄ t u v × Spends 1 0 m₃ m₄) _
    (save_ends lj ij ik W (record {
      stored = V.stored;
      others = λ i p. let d = W.distinct i in let ne : n ≡ i → ⊥ = λ q. (let y : occurrences i a ≡ occurrences n a = ap (λ (o : ℕ). occurrences o a) (sym q) in omega arith) in V.others i (omega arith) (let w = W.within i (omega arith) in omega (arith, P.made)) ∙ P.edited.else i ne;
      roots = λ i. V.roots i ∙ P.edited.roots i;
      distinct = λ i. omega (arith, W.distinct i, sum i);
      within = λ i p. let w = W.within i (omega (arith, sum i)) in omega (arith, V.made, P.made);
      named = λ i. omega (arith, V.named i, P.named i, W.named i, hits_root i l, hits_root i r);
      bare = λ i y s p z q. by_same m₃ i y s (omega (arith, V.made, P.made)) (omega (arith, sum i)) q P.y P.nil gone
          (λ ne. V.others i (omega (arith, sum i)) (omega (arith, V.made)) ∙ P.edited.else i ne) W;
    })
    V.reg (record { writable = V.writable ∙ P.writable ∙ room.writable; left = omega (arith, V.linked, V.numbered, V.change_limit, P.linked, P.numbered, P.change_limit, room.changes) }))
    (λ _ m₄ F.
    let S = F.1 in (
      ap Some N.key,
      subst (λ (z : Tree ℕ ℕ). Trees as_rank g h j j₁ j₂ m₄ z u v) (merge_enough before 25 l r le.0 le.1 (omega arith)) F.0,
      record {
        linked = omega (arith, S.linked, V.linked, P.linked);
        numbered = omega (arith, S.numbered, V.numbered, P.numbered);
        changed = omega (arith, S.linked, S.numbered, V.linked, V.numbered, P.linked, P.numbered);
        made = omega (arith, S.made, V.made, P.made);
        node_limit = S.node_limit ∙ V.node_limit ∙ P.node_limit;
        change_limit = S.change_limit ∙ V.change_limit ∙ P.change_limit;
        writable = S.writable ∙ V.writable ∙ P.writable;
        rest = S.rest ∙ V.rest ∙ P.rest;
      },
    )))))))
  where
    -- the root, or a node that had no links before
    by_same : (m₃ : Memory) (i : ℕ) (y : Node) (s : Bool) → i < m.made → occurrences i l + occurrences i r + occurrences i u + occurrences i v ≡ 0 → m₃.state.nodes i ≡ Some y → (z : Node) → ((s : Bool) → z.links (side s) ≡ None) → m₃.state.nodes n ≡ Some z
        → ((n ≡ i → ⊥) → m₃.state.nodes i ≡ m.state.nodes i) → Trees as_rank g h j j₁ j₂ m (node n c e l r) u v → y.links (side s) ≡ None
    by_same m₃ i y s p q ey z zn ez same W = elim (eqb_tells i n) [
      | inl w ↦ (let eq : y ≡ z = some_same (sym ey ∙ ap m₃.state.nodes w.1 ∙ ez) in ap (λ (o : Node). o.links (side s)) eq ∙ zn s)
      | inr w ↦ (let no : cond {A = ℕ} (eqb i n) 1 0 ≡ 0 = rw w.0 in W.bare i y s p (omega arith) (sym (same (λ g. w.1 (sym g))) ∙ ey))
    ]
