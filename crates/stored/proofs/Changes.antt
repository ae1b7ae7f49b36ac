-- Steps that change the tree under a register, and how they follow one another.
use Rattle.std.proofs.Common.{◌≡◌, ℕ, ◌+◌, ◌<◌, ◌≤◌, Bool, true, false, not, Some, Option, sym, refl, ap, ◌∙◌, subst, arith}
use Rattle.trees.specs.Trees.{Tree, is_node, root_of, child, with_child, with_mark, occurrences, Distinct}
use Rattle.memory.specs.Memory.{Node, Memory, changed, hits}
use Rattle.memory.specs.Steps.{Done, then, with_reg}
use Rattle.memory.specs.Effects.{Ends, Holds}
use Rattle.memory.proofs.Numbers.{put_other, hits_some}
use Rattle.memory.proofs.By.{ends_then}
use Rattle.stored.specs.Stored.{side, NamedOnce}
use Rattle.stored.specs.Writes.{relink_of, renumber_of, Relinked, Renumbered}
use Rattle.stored.specs.Becomes.{Cost, cost, nothing, plus, writes, Ready, Shifts, Becomes}
use Rattle.stored.proofs.Parts.{hits_root, of_children, inside_children, of-with_child, root-with_child, root-with_mark, of-with_mark, is_node_lem, root_of_lem, stored_child, stored_root}
use Rattle.stored.proofs.Nodes.{link_stored, under_stored, mark_stored}
use Rattle.stored.proofs.Writing.{relink_ends, renumber_ends}

module _ {M : Type 0} (enc : M → ℕ) where
  -- register r holds a child
  pub ready_child : (m : Memory) (d r : ℕ) (s : Bool) (t : Tree M ℕ) → m.regs r ≡ root_of (child s t) → Ready enc m d t → Ready enc m r (child s t)
  ready_child m d r s t e R = record {
    reg = e;
    stored = stored_child enc m.state.nodes s t R.stored;
    distinct = λ i. omega (arith, R.distinct i, of_children i s t);
    within = λ i l. R.within i (omega (arith, of_children i s t));
    counted = λ i. omega (arith, R.counted i, inside_children i s t, hits_root i (child s t));
    may = R.may;
  }

  -- the node at the root
  pub ready_root : (m : Memory) (d : ℕ) (s : Bool) (t : Tree M ℕ) (n : ℕ) → d < 40 → root_of t ≡ Some n → Ready enc m d t → (x : Node) × Holds m d n x × (x.links (side s) ≡ root_of (child s t)) × (x.links (side (not s)) ≡ root_of (child (not s) t))
  ready_root m d s t n l e R = let z = stored_root enc m.state.nodes s t n e R.stored in (z.0, record { low = l; names = R.reg ∙ e; node = z.1 }, z.2, z.3)

  -- nothing is changed
  pub stay : (m : Memory) (d : ℕ) (t u : Tree M ℕ) → Ready enc m d t → u ≡ t → Becomes enc m m d t u nothing
  stay m d t u R e = subst (λ (v : Tree M ℕ). Becomes enc m m d t v nothing) (sym e)
      (record { reg = R.reg; stored = R.stored; others = λ i z v. refl; kept = λ r l. refl; still = λ r a b. refl; named = λ i. refl; roots = λ i. refl; linked = omega arith; numbered = omega arith; made = omega arith; node_limit = refl; change_limit = refl; writable = refl; rest = refl })

  -- another register is set first
  pub ready_scratch : (m : Memory) (d r : ℕ) (x : Option ℕ) (t : Tree M ℕ) → (r ≡ d → ⊥) → Ready enc m d t → Ready enc (with_reg m r x) d t
  ready_scratch m d r x t h R = record { reg = put_other m.regs r d x h ∙ R.reg; stored = R.stored; distinct = R.distinct; within = R.within; counted = R.counted; may = R.may }

  pub from_scratch : (m m' : Memory) (d r : ℕ) (x : Option ℕ) (t u : Tree M ℕ) (q : Cost) → d < r → r < 35 → Becomes enc (with_reg m r x) m' d t u q → Becomes enc m m' d t u q
  from_scratch m m' d r x t u q h h' V = record {
    reg = V.reg;
    stored = V.stored;
    others = V.others;
    kept = λ j l. V.kept j l ∙ put_other m.regs r j x (omega arith);
    still = λ j a b. V.still j a b ∙ put_other m.regs r j x (omega arith);
    named = V.named;
    roots = V.roots;
    linked = V.linked;
    numbered = V.numbered;
    made = V.made;
    node_limit = V.node_limit;
    change_limit = V.change_limit;
    writable = V.writable;
    rest = V.rest;
  }

  -- at most so much more
  pub costs : (m m' : Memory) (d : ℕ) (foot links : ℕ → ℕ) (u : Tree M ℕ) (p q : Cost) → p.links ≤ q.links → p.numbers ≤ q.numbers → p.nodes ≡ q.nodes → Shifts enc m m' d foot links u p → Shifts enc m m' d foot links u q
  costs m m' d foot links u p q a b c V = record {
    reg = V.reg;
    stored = V.stored;
    others = V.others;
    kept = V.kept;
    still = V.still;
    named = V.named;
    roots = V.roots;
    linked = omega (arith, V.linked);
    numbered = omega (arith, V.numbered);
    made = omega (arith, V.made);
    node_limit = V.node_limit;
    change_limit = V.change_limit;
    writable = V.writable;
    rest = V.rest;
  }

  -- one after the other, where the first adds only new nodes
  pub in_turn : (m m₁ m₂ : Memory) (d : ℕ) (t u v : Tree M ℕ) (p q : Cost) → ((i : ℕ) → i < m.made → occurrences i t ≡ 0 → occurrences i u ≡ 0) → Becomes enc m m₁ d t u p → Becomes enc m₁ m₂ d u v q → Becomes enc m m₂ d t v (plus p q)
  in_turn m m₁ m₂ d t u v p q s V W = record {
    reg = W.reg;
    stored = W.stored;
    others = λ i z w. W.others i (s i w z) (omega (arith, V.made)) ∙ V.others i z w;
    kept = λ r l. W.kept r l ∙ V.kept r l;
    still = λ r a b. W.still r a b ∙ V.still r a b;
    named = λ i. omega (arith, V.named i, W.named i);
    roots = λ i. W.roots i ∙ V.roots i;
    linked = omega (arith, V.linked, W.linked);
    numbered = omega (arith, V.numbered, W.numbered);
    made = omega (arith, V.made, W.made);
    node_limit = W.node_limit ∙ V.node_limit;
    change_limit = W.change_limit ∙ V.change_limit;
    writable = W.writable ∙ V.writable;
    rest = W.rest ∙ V.rest;
  }

  pub both : (m m₁ m₂ : Memory) (d : ℕ) (t u v : Tree M ℕ) (p q : Cost) → ((i : ℕ) → occurrences i u ≡ occurrences i t) → Becomes enc m m₁ d t u p → Becomes enc m₁ m₂ d u v q → Becomes enc m m₂ d t v (plus p q)
  both m m₁ m₂ d t u v p q s V W = in_turn m m₁ m₂ d t u v p q (λ i _ z. s i ∙ z) V W

  -- a tree of the nodes of t, or fewer
  pub ready_after : (m m' : Memory) (d : ℕ) (t u : Tree M ℕ) (q : Cost) → ((i : ℕ) → occurrences i u ≤ occurrences i t) → Ready enc m d t → Becomes enc m m' d t u q → Ready enc m' d u
  ready_after m m' d t u q s R V = record {
    reg = V.reg;
    stored = V.stored;
    distinct = λ i. omega (arith, R.distinct i, s i);
    within = λ i l. let x = R.within i (omega (arith, s i)) in omega (arith, V.made);
    counted = λ i. omega (arith, R.counted i, V.named i);
    may = V.writable ∙ R.may;
  }

  pub ready_next : (m m' : Memory) (d : ℕ) (t u : Tree M ℕ) (q : Cost) → ((i : ℕ) → occurrences i u ≡ occurrences i t) → Ready enc m d t → Becomes enc m m' d t u q → Ready enc m' d u
  ready_next m m' d t u q s R V = ready_after m m' d t u q (λ i. omega (arith, s i)) R V

  -- with the same root no node is named more often than before
  pub once_after : (m m' : Memory) (d : ℕ) (t u : Tree M ℕ) (q : Cost) → ((i : ℕ) → occurrences i u ≤ occurrences i t) → root_of u ≡ root_of t → NamedOnce m t → Becomes enc m m' d t u q → NamedOnce m' u
  once_after m m' d t u q s e L V i l =
      let x = L i (omega (arith, s i)) in
      let y : hits i (root_of u) ≡ hits i (root_of t) = ap (hits i) e in
      omega (arith, V.named i, hits_root i t, hits_root i u, s i)

  pub once_next : (m m' : Memory) (d : ℕ) (t u : Tree M ℕ) (q : Cost) → ((i : ℕ) → occurrences i u ≡ occurrences i t) → root_of u ≡ root_of t → NamedOnce m t → Becomes enc m m' d t u q → NamedOnce m' u
  once_next m m' d t u q s e L V = once_after m m' d t u q (λ i. omega (arith, s i)) e L V

  pub once_child : (m : Memory) (s : Bool) (t : Tree M ℕ) → NamedOnce m t → NamedOnce m (child s t)
  once_child m s t L i l = L i (omega (arith, of_children i s t))

  -- the root's mark is written
  pub marked : (m m' : Memory) (d : ℕ) (c : M) (t : Tree M ℕ) (n : ℕ) (x : Node) → d < 30 → root_of t ≡ Some n → Ready enc m d t → m.state.nodes n ≡ Some x → Renumbered m m' n x 1 (enc c) → Becomes enc m m' d t (with_mark c t) (cost 0 1 0)
  marked m m' d c t n x l e R h W = record {
    reg = W.spends.regs d (omega arith) ∙ R.reg ∙ sym (root-with_mark c t);
    stored = mark_stored enc m.state.nodes m'.state.nodes c t n x W.y e R.distinct h W.edited.here W.edited.else W.key W.number W.others W.links R.stored;
    others = λ i z v. W.edited.else i (λ q. let y : root_of t ≡ Some i = e ∙ ap Some q in omega (arith, hits_some i (root_of t) y, hits_root i t));
    kept = λ r p. W.spends.regs r (omega arith);
    still = λ r a b. W.spends.regs r (omega arith);
    named = λ i. let y : hits i (root_of (with_mark c t)) ≡ hits i (root_of t) = ap (hits i) (root-with_mark c t) in omega (arith, W.named i, hits_root i t, hits_root i (with_mark c t), of-with_mark i c t);
    roots = W.edited.roots;
    linked = W.spends.linked;
    numbered = W.spends.numbered;
    made = omega (arith, W.spends.made);
    node_limit = W.spends.node_limit;
    change_limit = W.spends.change_limit;
    writable = W.spends.writable;
    rest = W.spends.rest;
  }

  -- a child has changed and kept its root
  pub under : (m m' : Memory) (d r : ℕ) (s : Bool) (t u : Tree M ℕ) (q : Cost) → d < r → is_node t ≡ true → root_of u ≡ root_of (child s t) → Ready enc m d t → Becomes enc m m' r (child s t) u q → Becomes enc m m' d t (with_child s t u) q
  under m m' d r s t u q l f e R V = record {
    reg = V.kept d l ∙ R.reg ∙ sym (root-with_child s t u);
    stored = under_stored enc m.state.nodes m'.state.nodes s t u e R.distinct (λ i z w. V.others i z (R.within i w)) R.stored V.stored;
    others = λ i z v. V.others i (omega (arith, of_children i s t)) v;
    kept = λ j p. V.kept j (omega arith);
    still = V.still;
    named = λ i.
        let y : hits i (root_of u) ≡ hits i (root_of (child s t)) = ap (hits i) e in
        let x : hits i (root_of (with_child s t u)) ≡ hits i (root_of t) = ap (hits i) (root-with_child s t u) in
        omega (arith, V.named i, inside_children i s t, hits_root i (child s t), hits_root i u, of-with_child i s t u f, hits_root i (with_child s t u));
    roots = V.roots;
    linked = V.linked;
    numbered = V.numbered;
    made = V.made;
    node_limit = V.node_limit;
    change_limit = V.change_limit;
    writable = V.writable;
    rest = V.rest;
  }

  -- a child has changed, and the link to it is written
  pub relinked : (m m₁ m₂ : Memory) (d r : ℕ) (s : Bool) (t u : Tree M ℕ) (n : ℕ) (x : Node) (q : Cost) → d < r → d < 30 → root_of t ≡ Some n → Ready enc m d t → occurrences n u ≡ 0 → m.state.nodes n ≡ Some x → x.links (side s) ≡ root_of (child s t)
      → Becomes enc m m₁ r (child s t) u q → Relinked m₁ m₂ n x s (root_of u) → Becomes enc m m₂ d t (with_child s t u) (plus q (cost 1 0 0))
  relinked m m₁ m₂ d r s t u n x q l l' e R z h old V L = record {
    reg = L.spends.regs d (omega arith) ∙ V.kept d l ∙ R.reg ∙ sym (root-with_child s t u);
    stored = link_stored enc m.state.nodes m₁.state.nodes m₂.state.nodes s t u n x L.y e R.distinct (λ i _ z w. V.others i z (R.within i w)) h L.edited.here L.edited.else L.key L.numbers L.near L.far z R.stored V.stored;
    others = λ i p v. L.edited.else i (λ g. let y : root_of t ≡ Some i = e ∙ ap Some g in omega (arith, hits_some i (root_of t) y, hits_root i t)) ∙ V.others i (omega (arith, of_children i s t)) v;
    kept = λ j p. L.spends.regs j (omega arith) ∙ V.kept j (omega arith);
    still = λ j a b. L.spends.regs j (omega arith) ∙ V.still j a b;
    named = λ i.
        let y : hits i (root_of (with_child s t u)) ≡ hits i (root_of t) = ap (hits i) (root-with_child s t u) in
        let w : hits i (x.links (side s)) ≡ hits i (root_of (child s t)) = ap (hits i) old in
        omega (arith, V.named i, L.named i, inside_children i s t, hits_root i (child s t), hits_root i u, of-with_child i s t u (is_node_lem t n e), hits_root i (with_child s t u));
    roots = λ i. L.edited.roots i ∙ V.roots i;
    linked = omega (arith, L.spends.linked, V.linked);
    numbered = omega (arith, L.spends.numbered, V.numbered);
    made = omega (arith, L.spends.made, V.made);
    node_limit = L.spends.node_limit ∙ V.node_limit;
    change_limit = L.spends.change_limit ∙ V.change_limit;
    writable = L.spends.writable ∙ V.writable;
    rest = L.spends.rest ∙ V.rest;
  }

module _ {M A : Type 0} (enc : M → ℕ) (k : Unit {0} → Memory → Done A) (Q : A → Memory → Type 0) where
  -- a child has changed, and the link to it is written where it leads to another node
  pub by_relink : (m m₁ : Memory) (d r : ℕ) → r < 30 → (s : Bool) (t u : Tree M ℕ) (n : ℕ) (q : Cost) → d < r → root_of t ≡ Some n → Ready enc m d t → occurrences n u ≡ 0 → Distinct u → NamedOnce m u → changed m + writes q < m.change_limit
      → Becomes enc m m₁ r (child s t) u q
      → ((m₂ : Memory) → Becomes enc m m₂ d t (with_child s t u) (plus q (cost 1 0 0)) → ((j : ℕ) → (j ≡ 32 → ⊥) → m₂.regs j ≡ m₁.regs j) → m₂.made ≡ m₁.made → ((i : ℕ) → (n ≡ i → ⊥) → m₂.state.nodes i ≡ m₁.state.nodes i) → Ends (k tt m₂) Q)
      → Ends (then (relink_of d s r m₁) k) Q
  by_relink m m₁ d r lr s t u n q l e R z dis low sp V go =
      let one = hits_some n (root_of t) e in
      let zn : occurrences n (child s t) ≡ 0 = omega (arith, R.distinct n, of_children n s t) in
      let wn : n < m.made = R.within n (omega (arith, of_children n s t)) in
      let N = stored_root enc m.state.nodes s t n e R.stored in
      let x = N.0 in
      let here : m₁.state.nodes n ≡ Some x = V.others n zn wn ∙ N.1 in
      let old : (i : ℕ) → hits i (x.links (side s)) ≡ hits i (root_of (child s t)) = λ i. ap (hits i) N.2 in
      ends_then (relink_of d s r m₁) k (λ _ m₂. Relinked m₁ m₂ n x s (root_of u)) Q
      (relink_ends m₁ d s r n x (root_of u) (record { low = omega arith; names = V.kept d l ∙ R.reg ∙ e; node = here }) (omega arith) (omega arith) (omega arith)
      (record { writable = V.writable ∙ R.may; left = omega (arith, V.linked, V.numbered, V.change_limit) }) V.reg
      (λ i. omega (arith, old i, V.named i, R.counted i, inside_children i s t, hits_root i (child s t)))
      (λ i y. let w = low i (omega (arith, hits_some i (root_of u) y, hits_root i u)) in omega (arith, hits_some i (root_of u) y, V.named i, hits_root i u, dis i)))
      (λ _ m₂ L. go m₂ (relinked enc m m₁ m₂ d r s t u n x q l (omega arith) e R z N.1 N.2 V L) L.spends.regs L.spends.made L.edited.else)

  -- the root's mark is written where it differs
  pub by_mark : (m : Memory) (d : ℕ) → d < 30 → (c : M) (t : Tree M ℕ) → is_node t ≡ true → Ready enc m d t → changed m < m.change_limit
      → ((m' : Memory) → ((r : ℕ) → (r ≡ 32 → ⊥) → m'.regs r ≡ m.regs r) → Becomes enc m m' d t (with_mark c t) (cost 0 1 0) → Ends (k tt m') Q) → Ends (then (renumber_of 1 d (enc c) m) k) Q
  by_mark m d ld c t f R sp go =
      let nt = root_of_lem t f in
      let N = stored_root enc m.state.nodes false t nt.0 nt.1 R.stored in
      ends_then (renumber_of 1 d (enc c) m) k (λ _ m'. Renumbered m m' nt.0 N.0 1 (enc c)) Q
      (renumber_ends m 1 d (enc c) nt.0 N.0 (record { low = omega arith; names = R.reg ∙ nt.1; node = N.1 }) (record { writable = R.may; left = sp }))
      (λ _ m' W. go m' W.spends.regs (marked enc m m' d c t nt.0 N.0 ld nt.1 R N.1 W))

  -- a child's mark is written where it differs, by a register that holds the child
  pub by_mark_child : (m : Memory) (d r : ℕ) → r < 30 → (s : Bool) (c : M) (t : Tree M ℕ) → d < r → is_node (child s t) ≡ true → is_node t ≡ true → m.regs r ≡ root_of (child s t) → Ready enc m d t → changed m < m.change_limit
      → ((m' : Memory) → ((j : ℕ) → (j ≡ 32 → ⊥) → m'.regs j ≡ m.regs j) → Becomes enc m m' d t (with_child s t (with_mark c (child s t))) (cost 0 1 0) → Ends (k tt m') Q) → Ends (then (renumber_of 1 r (enc c) m) k) Q
  by_mark_child m d r lr s c t l f g e R sp go =
      by_mark m r lr c (child s t) f (ready_child enc m d r s t e R) sp (λ m' G V. go m' G (under enc m m' d r s t (with_mark c (child s t)) (cost 0 1 0) l g (root-with_mark c (child s t)) R V))
