-- A tree is changed and its root saved: what the whole state is then. And how many nodes the trees hold.
use Rattle.std.proofs.Common.{◌≡◌, ℕ, zero, suc, ◌+◌, ◌<◌, ◌≤◌, Bool, true, false, cond, eqb, ltb, Some, None, Option, sym, refl, ap, ◌∙◌, subst, arith}
use Rattle.std.proofs.lemmas.Bool.Decides.{nat_tests}
use Rattle.trees.specs.Trees.{Tree, leaf, node, root_of, size, occurrences}
use Rattle.memory.specs.Memory.{Node, Memory, hits, sum_to}
use Rattle.memory.specs.Steps.{with_reg}
use Rattle.stored.specs.Stored.{side, Stored, inside, NamedOnce}
use Rattle.memory.specs.Effects.{Ends, Free}
use Rattle.memory.proofs.Numbers.{hits_some, lt_from}
use Rattle.memory.proofs.By.{ends_all}
use Rattle.stored.specs.Writes.{resave_of, Spends, Resaved}
use Rattle.stored.specs.Becomes.{Cost, Ready, Becomes}
use Rattle.stored.proofs.Writing.{resave_ends}
use Rattle.stored.specs.Whole.{Trees, Untouched}
use Rattle.stored.proofs.Parts.{self, hits_root, keep}

pub none_of : (a : ℕ) → (1 ≤ a → ⊥) → a ≡ 0
none_of zero h = refl
none_of (suc a) h = absurd (h (omega arith))

pub by_zero : {A : Type 0} (a : ℕ) → (a ≡ 0 → A) → (1 ≤ a → A) → A
by_zero zero x y = x refl
by_zero (suc a) x y = y (omega arith)

pub by_less : {A : Type 0} (a b : ℕ) → (b < a → A) → (a ≤ b → A) → A
by_less {A = A} a b x y = go (ltb b a) refl
  where
    go : (w : Bool) → ltb b a ≡ w → A
    go true w = x (lt_from b a w)
    go false w = y (grind (arith, nat_tests))

-- what m₁, before the root is saved, has of the new first tree t'
pub record Prepared {M N P : Type 0} (f : M → ℕ) (m m₁ : Memory) (t t' : Tree M ℕ) (u : Tree N ℕ) (v : Tree P ℕ) : Type 0 where
  pub stored : Stored f m₁.state.nodes t'
  pub others : (n : ℕ) → 1 ≤ occurrences n u + occurrences n v → m₁.state.nodes n ≡ m.state.nodes n
  pub roots : (r : ℕ) → m₁.state.roots r ≡ m.state.roots r
  pub distinct : (n : ℕ) → occurrences n t' + occurrences n u + occurrences n v ≤ 1
  pub within : (n : ℕ) → 1 ≤ occurrences n t' + occurrences n u + occurrences n v → n < m₁.made
  pub named : (n : ℕ) → m₁.state.names n ≡ hits n (root_of t) + inside n t' + occurrences n u + occurrences n v
  pub bare : (n : ℕ) (x : Node) (s : Bool) → n < m₁.made → occurrences n t' + occurrences n u + occurrences n v ≡ 0 → m₁.state.nodes n ≡ Some x → x.links (side s) ≡ None

module _ {M N P : Type 0} {f : M → ℕ} {g : N → ℕ} {h : P → ℕ} {i j k : ℕ} where
  -- the trees in another order
  pub swapped : {m : Memory} {t : Tree M ℕ} {u : Tree N ℕ} {v : Tree P ℕ} → Trees f g h i j k m t u v → Trees g f h j i k m u t v
  swapped W = record {
    first = W.second;
    second = W.first;
    third = W.third;
    stored_first = W.stored_second;
    stored_second = W.stored_first;
    stored_third = W.stored_third;
    distinct = λ n. omega (arith, W.distinct n);
    within = λ n p. W.within n (omega arith);
    named = λ n. omega (arith, W.named n);
    bare = λ n x s p z. W.bare n x s p (omega arith);
  }

  pub turned : {m : Memory} {t : Tree M ℕ} {u : Tree N ℕ} {v : Tree P ℕ} → Trees f g h i j k m t u v → Trees h f g k i j m v t u
  turned W = record {
    first = W.third;
    second = W.first;
    third = W.second;
    stored_first = W.stored_third;
    stored_second = W.stored_first;
    stored_third = W.stored_second;
    distinct = λ n. omega (arith, W.distinct n);
    within = λ n p. W.within n (omega arith);
    named = λ n. omega (arith, W.named n);
    bare = λ n x s p z. W.bare n x s p (omega arith);
  }

  -- the first tree may be changed under a register that holds its root
  pub ready_first : {m : Memory} {t : Tree M ℕ} {u : Tree N ℕ} {v : Tree P ℕ} → Trees f g h i j k m t u v → (m₁ : Memory) (d : ℕ) → m₁.state ≡ m.state → m₁.made ≡ m.made → m₁.regs d ≡ root_of t → m₁.writable ≡ true → Ready f m₁ d t
  ready_first {m = m} {t = t} W m₁ d e em er ew = record {
    reg = er;
    stored = subst (λ s. Stored f s.nodes t) (sym e) W.stored_first;
    distinct = λ n. omega (arith, W.distinct n);
    within = λ n p. let w = W.within n (omega arith) in omega arith;
    counted = λ n. let w : m₁.state.names n ≡ m.state.names n = ap (λ s. s.names n) e in omega (arith, W.named n, hits_root n t);
    may = ew;
  }

  pub once_first : {m : Memory} {t : Tree M ℕ} {u : Tree N ℕ} {v : Tree P ℕ} → Trees f g h i j k m t u v → NamedOnce m t
  once_first W n p = omega (arith, W.named n, W.distinct n)

  -- the serial number of the next node is not named
  pub fresh_name : {m : Memory} {t : Tree M ℕ} {u : Tree N ℕ} {v : Tree P ℕ} → Trees f g h i j k m t u v → m.state.names m.made ≡ 0
  fresh_name {m = m} {t = t} {u = u} {v = v} W = W.named m.made ∙ none_of (occurrences m.made t + occurrences m.made u + occurrences m.made v) (λ p. let w = W.within m.made p in omega arith)

  pub settled : {m m₁ m₂ : Memory} {t t' : Tree M ℕ} {u : Tree N ℕ} {v : Tree P ℕ} → (i ≡ j → ⊥) → (i ≡ k → ⊥) → Trees f g h i j k m t u v → Prepared f m m₁ t t' u v → Resaved m₁ m₂ i (root_of t') → Trees f g h i j k m₂ t' u v
  settled {m = m} {m₁ = m₁} {m₂ = m₂} {t = t} {t' = t'} {u = u} {v = v} ij ik W V S = record {
    first = S.here;
    second = S.else j ij ∙ V.roots j ∙ W.second;
    third = S.else k ik ∙ V.roots k ∙ W.third;
    stored_first = keep f m₁.state.nodes m₂.state.nodes t' (λ n _. S.nodes n) V.stored;
    stored_second = keep g m.state.nodes m₂.state.nodes u (λ n p. S.nodes n ∙ V.others n (omega arith)) W.stored_second;
    stored_third = keep h m.state.nodes m₂.state.nodes v (λ n p. S.nodes n ∙ V.others n (omega arith)) W.stored_third;
    distinct = V.distinct;
    within = λ n p. let w = V.within n p in omega (arith, S.spends.made);
    named = λ n.
        let e : hits n (m₁.state.roots i) ≡ hits n (root_of t) = ap (hits n) (V.roots i ∙ W.first) in
        omega (arith, S.named n, V.named n, hits_root n t');
    bare = λ n x s p z e. V.bare n x s (omega (arith, S.spends.made)) z (sym (S.nodes n) ∙ e);
  }

-- nothing but registers
pub untouched : (m : Memory) → Untouched m m
untouched m = record { state = refl; made = refl; linked = refl; numbered = refl; node_limit = refl; change_limit = refl; writable = refl; rest = refl }

pub untouched_after : (m m' : Memory) (r : ℕ) (x : Option ℕ) → Untouched (with_reg m r x) m' → Untouched m m'
untouched_after m m' r x U = record { state = U.state; made = U.made; linked = U.linked; numbered = U.numbered; node_limit = U.node_limit; change_limit = U.change_limit; writable = U.writable; rest = U.rest }

-- Distinct serial numbers below the nodes made: the trees hold at most so many nodes.

sum_plus : (n : ℕ) (f g : ℕ → ℕ) → sum_to n (λ i. f i + g i) ≡ sum_to n f + sum_to n g
sum_plus zero f g = refl
sum_plus (suc n) f g = omega (arith, sum_plus n f g)

sum_ones : (n : ℕ) (f : ℕ → ℕ) → ((i : ℕ) → f i ≤ 1) → sum_to n f ≤ n
sum_ones zero f h = omega arith
sum_ones (suc n) f h = omega (arith, sum_ones n f h, h n)

sum_point : (n j : ℕ) → j < n → 1 ≤ sum_to n (λ i. cond {A = ℕ} (eqb i j) 1 0)
sum_point zero j h = absurd (omega arith)
sum_point (suc n) j h = go (eqb n j) refl (λ l. sum_point n j l)
  where
    go : (b : Bool) → eqb n j ≡ b → (j < n → 1 ≤ sum_to n (λ i. cond {A = ℕ} (eqb i j) 1 0)) → 1 ≤ sum_to (suc n) (λ i. cond {A = ℕ} (eqb i j) 1 0)
    go true e r = rw e (omega arith)
    go false e r = let ne : n ≡ j → ⊥ = λ q. (grind (arith, nat_tests)) in let x = r (omega arith) in omega arith

module _ {M : Type 0} where
  size_sum : (n : ℕ) (t : Tree M ℕ) → ((i : ℕ) → 1 ≤ occurrences i t → i < n) → size t ≤ sum_to n (λ i. occurrences i t)
  size_sum n leaf h = omega arith
  size_sum n (node j c e l r) h =
      let a = size_sum n l (λ i p. h i (omega arith)) in
      let b = size_sum n r (λ i p. h i (omega arith)) in
      let d = sum_point n j (h j (omega (arith, self j))) in
      let x = sum_plus n (λ i. cond {A = ℕ} (eqb i j) 1 0 + occurrences i l) (λ i. occurrences i r) in
      let y = sum_plus n (λ i. cond {A = ℕ} (eqb i j) 1 0) (λ i. occurrences i l) in
      omega arith

pub size_made : {M N P : Type 0} {f : M → ℕ} {g : N → ℕ} {h : P → ℕ} {i j k : ℕ} {m : Memory} {t : Tree M ℕ} {u : Tree N ℕ} {v : Tree P ℕ} → Trees f g h i j k m t u v → size t + size u + size v ≤ m.made
size_made {m = m} {t = t} {u = u} {v = v} W =
    let n = m.made in
    let x = size_sum n t (λ i p. W.within i (omega arith)) in
    let y = size_sum n u (λ i p. W.within i (omega arith)) in
    let z = size_sum n v (λ i p. W.within i (omega arith)) in
    let p = sum_plus n (λ i. occurrences i t + occurrences i u) (λ i. occurrences i v) in
    let q = sum_plus n (λ i. occurrences i t) (λ i. occurrences i u) in
    let w = sum_ones n (λ i. occurrences i t + occurrences i u + occurrences i v) W.distinct in
    omega arith

module _ {M N P : Type 0} {f : M → ℕ} {g : N → ℕ} {h : P → ℕ} {i j k : ℕ} where
  -- the new first tree's root is saved where it differs
  pub save_ends : {m m₁ : Memory} {t t' : Tree M ℕ} {u : Tree N ℕ} {v : Tree P ℕ} → i < 3 → (i ≡ j → ⊥) → (i ≡ k → ⊥) → Trees f g h i j k m t u v → Prepared f m m₁ t t' u v → m₁.regs 0 ≡ root_of t' → Free m₁
      → Ends (resave_of i 0 m₁) (λ _ m₂. Trees f g h i j k m₂ t' u v × Spends 1 0 m₁ m₂)
  save_ends {m = m} {m₁ = m₁} {t = t} {t' = t'} {u = u} {v = v} l ij ik W V e F =
      let old : (n : ℕ) → hits n (m₁.state.roots i) ≡ hits n (root_of t) = λ n. ap (hits n) (V.roots i ∙ W.first) in
      ends_all (resave_of i 0 m₁) _ _
      (resave_ends m₁ i 0 (root_of t') l (omega arith) (λ q. omega arith) F e
      (λ n. omega (arith, old n, V.named n))
      (λ n q. omega (arith, old n, V.named n, V.distinct n, hits_root n t', hits_some n (root_of t') q)))
      (λ _ m₂ S. (settled ij ik W V S, S.spends))

  -- the first tree has become t' under register 0: of its nodes some may be gone, and the next ones may be new
  pub prepared : {m m₁ m₂ : Memory} {t t' : Tree M ℕ} {u : Tree N ℕ} {v : Tree P ℕ} {c : Cost} → Trees f g h i j k m t u v → m₁.state ≡ m.state → m₁.made ≡ m.made → Becomes f m₁ m₂ 0 t t' c
      → ((n : ℕ) → n < m.made → occurrences n t' ≤ occurrences n t)
      → ((n : ℕ) → m.made ≤ n → occurrences n t' ≤ 1)
      → ((n : ℕ) → 1 ≤ occurrences n t' → n < m₂.made)
      → ((n : ℕ) → m.made ≤ n → n < m₂.made → 1 ≤ occurrences n t')
      → ((n : ℕ) (x : Node) (s : Bool) → n < m.made → 1 ≤ occurrences n t → occurrences n t' ≡ 0 → m₂.state.nodes n ≡ Some x → x.links (side s) ≡ None)
      → Prepared f m m₂ t t' u v
  prepared {m = m} {m₁ = m₁} {m₂ = m₂} {t = t} {t' = t'} {u = u} {v = v} W e em V few one made new gone =
      let nodes : (n : ℕ) → m₁.state.nodes n ≡ m.state.nodes n = λ n. ap (λ s. s.nodes n) e in
      let names : (n : ℕ) → m₁.state.names n ≡ m.state.names n = λ n. ap (λ s. s.names n) e in
      let high : (n : ℕ) → m.made ≤ n → occurrences n t + occurrences n u + occurrences n v ≡ 0 = λ n p. none_of (occurrences n t + occurrences n u + occurrences n v) (λ q. let w = W.within n q in omega arith) in
      record {
        stored = V.stored;
        others = λ n p. V.others n (omega (arith, W.distinct n)) (let w = W.within n (omega arith) in omega arith) ∙ nodes n;
        roots = λ r. V.roots r ∙ ap (λ s. s.roots r) e;
        distinct = λ n. by_less m.made n (λ p. omega (arith, W.distinct n, few n p)) (λ p. omega (arith, high n p, one n p));
        within = λ n p. by_less m.made n (λ q. omega (arith, V.made)) (λ q. made n (omega (arith, high n q)));
        named = λ n. omega (arith, V.named n, names n, W.named n, hits_root n t);
        bare = λ n x s p z q. by_less m.made n
            (λ w. by_zero (occurrences n t)
            (λ o. W.bare n x s w (omega arith) (sym (nodes n) ∙ sym (V.others n o (omega arith)) ∙ q))
            (λ o. gone n x s w o (omega arith) q))
            (λ w. let y = new n w p in absurd (omega arith));
      }
