-- The steps of `insert_of` insert a key into the tree under their register.
use Rattle.std.proofs.Common.{◌≡◌, ℕ, zero, suc, ◌+◌, ◌*◌, ◌<◌, ◌≤◌, Bool, true, false, cond, not, eqb, Some, None, Option, sym, refl, ap, ◌∙◌, subst, arith}
use Rattle.std.proofs.lemmas.Bool.Decides.{nat_tests}
use Rattle.trees.specs.Trees.{Entry, Tree, leaf, node, is_node, root_of, child, with_child, occurrences, height}
use Rattle.trees.specs.RedBlack.{Balanced, insert_fixed, inserted}
use Rattle.trees.proofs.Insertion.{inserted_sum}
use Rattle.memory.specs.Memory.{Memory, changed, hits, new_node}
use Rattle.memory.specs.Steps.{Done, with_reg, born, make_of}
use Rattle.memory.specs.Effects.{Ends}
use Rattle.memory.proofs.Numbers.{put_same, put_other, hits_some}
use Rattle.memory.proofs.By.{ends_then, ends_all, ends_last, by_nil, by_key, by_make}
use Rattle.stored.specs.Stored.{colour, NamedOnce}
use Rattle.stored.specs.Becomes.{cost, plus, Ready, Becomes}
use Rattle.stored.proofs.Parts.{hits_root, of_children, of-with_child, root-with_child, child-with_child, is_node_lem}
use Rattle.stored.proofs.Changes.{ready_child, ready_scratch, from_scratch, in_turn, once_child, by_relink}
use Rattle.map_steps.specs.Insert.{insert_fix_of, insert_step_of, insert_of}
use Rattle.map_steps.proofs.Reds.{by_child}
use Rattle.map_steps.proofs.InsertFixes.{fix_cost, insert_fix_ends}
use Rattle.map_steps.proofs.InsertCosts.{insert_cost, insert_links, insert_numbers, insert_node}

none_of : (a : ℕ) → (1 ≤ a → ⊥) → a ≡ 0
none_of zero h = refl
none_of (suc a) h = absurd (h (omega arith))

module _ (before : ℕ → ℕ → Bool) (k v : ℕ) where
  -- what an insertion leaves of the tree under register d
  abbrev pub Inserts : Memory → Memory → ℕ → Tree Bool ℕ → Type 0
  Inserts m m' d t = Becomes colour m m' d t (inserted before k v m.made t) (insert_cost before k v m.made t)

  -- one level, whichever the side
  pub insert_step_ends : (below : ℕ → Memory → Done Unit) (m : Memory) (d : ℕ) (s : Bool) (t : Tree Bool ℕ) (n : ℕ) → root_of t ≡ Some n
      → Ready colour m d t → NamedOnce m t → m.state.names m.made ≡ 0 → suc d < 26 → changed m + (6 * height (child s t) + 16) ≤ m.change_limit → Balanced (child s t)
      → ((m₁ : Memory) → m₁.made ≡ m.made → m₁.change_limit ≡ m.change_limit → changed m₁ ≡ changed m → m₁.node_limit ≡ m.node_limit → m₁.state.names m₁.made ≡ 0 → Ready colour m₁ (suc d) (child s t) → NamedOnce m₁ (child s t) → Ends (below (suc d) m₁) (λ _ m₂. Inserts m₁ m₂ (suc d) (child s t)))
      → Ends (insert_step_of below d s m) (λ _ m'. Becomes colour m m' d t (insert_fixed s (with_child s t (inserted before k v m.made (child s t)))) (plus (plus (insert_cost before k v m.made (child s t)) (cost 1 0 0)) (fix_cost s (with_child s t (inserted before k v m.made (child s t))))))
  unfolding insert_step_of
  insert_step_ends below m d s t n e R L fresh l q balanced go =
      by_child _ _ colour m d (suc d) s t (omega arith) (omega arith) ft R.reg R.stored
      (ends_then (below (suc d) m₁) _ (λ _ m₂. Inserts m₁ m₂ (suc d) (child s t)) _
      (go m₁ refl refl refl refl fresh (ready_child colour m₁ d (suc d) s t (put_same m.regs (suc d) x) R₁) (once_child colour m s t L))
      (λ _ m₂ I.
      by_relink colour _ _ m₁ m₂ d (suc d) (omega arith) s t u n (insert_cost before k v new (child s t)) (omega arith) e R₁
      (let z = ut n in let y = of_children n s t in let w = R.distinct n in let h = hits_some n (root_of t) e in grind (arith, nat_tests))
      (λ i. let z = ut i in let y = of_children i s t in let w = R.distinct i in let f = free in grind (arith, nat_tests))
      (λ i p. let z = ut i in let y = of_children i s t in let w = L i in let f = fresh in grind (arith, nat_tests))
      (omega (arith, cl, cn)) I
      (λ m₃ V₃ G₃ N₃ E₃.
      let v₀ = with_child s t u in
      let tl : (i : ℕ) → occurrences i v₀ ≡ occurrences i t + cond (eqb i new) 1 0 = λ i. omega (arith, of-with_child i s t u ft, of_children i s t, ut i) in
      let mk : m₃.made ≡ suc new = omega (arith, V₃.made, co) in
      let R₃ : Ready colour m₃ d v₀ = record {
        reg = V₃.reg;
        stored = V₃.stored;
        distinct = λ i. let z = tl i in let w = R.distinct i in let f = free in grind (arith, nat_tests);
        within = λ i p. let z = tl i in let w = R.within i in let o = mk in grind (arith, nat_tests);
        counted = λ i. omega (arith, R.counted i, V₃.named i);
        may = V₃.writable ∙ R.may;
      } in
      let L₃ : NamedOnce m₃ v₀ = λ i p.
      let z = tl i in let w = L i in let f = fresh in let a = V₃.named i in let b = hits_root i t in let c = hits_root i v₀ in
      let g : hits i (root_of v₀) ≡ hits i (root_of t) = ap (hits i) (root-with_child s t u) in grind (arith, nat_tests) in
      ends_all (insert_fix_of d s m₃) _ _
      (insert_fix_ends m₃ d s v₀ R₃ L₃ (G₃ (suc d) (omega arith) ∙ I.reg ∙ ap root_of (sym (child-with_child s t u ft))) l (omega (arith, V₃.linked, V₃.numbered, V₃.change_limit, cl, cn)))
      (λ _ m₄ V₄.
      from_scratch colour m m₄ d (suc d) x t (insert_fixed s v₀) _ (omega arith) (omega arith)
      (in_turn colour m₁ m₃ m₄ d t v₀ (insert_fixed s v₀) (plus (insert_cost before k v new (child s t)) (cost 1 0 0)) (fix_cost s v₀) (λ i w z. let y = tl i in grind (arith, nat_tests)) V₃ V₄)))))
    where
      x : Option ℕ
      x = root_of (child s t)

      m₁ : Memory
      m₁ = with_reg m (suc d) x

      R₁ : Ready colour m₁ d t
      R₁ = ready_scratch colour m d (suc d) x t (omega arith) R

      ft : is_node t ≡ true
      ft = is_node_lem t n e

      new : ℕ
      new = m.made

      u : Tree Bool ℕ
      u = inserted before k v new (child s t)

      free : occurrences new t ≡ 0
      free = none_of (occurrences new t) (λ p. let w = R.within new p in omega arith)

      ut : (i : ℕ) → occurrences i u ≡ occurrences i (child s t) + cond (eqb i new) 1 0
      ut i = inserted_sum before k v (λ j f. cond (eqb i j) 1 0) new (child s t)

      cl : (insert_cost before k v new (child s t)).links ≤ 4 * height (child s t) + 3
      cl = insert_links before k v new (child s t) balanced

      cn : (insert_cost before k v new (child s t)).numbers ≤ 2 * height (child s t) + 2
      cn = insert_numbers before k v new (child s t) balanced

      co : (insert_cost before k v new (child s t)).nodes ≡ 1
      co = insert_node before k v new (child s t) balanced

  make_inserts : (m : Memory) (d : ℕ) → d < 26 → Inserts m (born m d (new_node k v 1)) d leaf
  make_inserts m d l = record {
    reg = put_same m.regs d (Some m.made);
    stored = (record { it = new_node k v 1; there = put_same m.state.nodes m.made (Some (new_node k v 1)); key = refl; value = refl; mark = refl; near = refl; far = refl }, tt, tt);
    others = λ i z w. put_other m.state.nodes m.made i (Some (new_node k v 1)) (omega arith);
    kept = λ r p. put_other m.regs d r (Some m.made) (omega arith);
    still = λ r a b. put_other m.regs d r (Some m.made) (omega arith);
    named = λ i. omega arith;
    roots = λ i. refl;
    linked = omega arith;
    numbered = omega arith;
    made = omega arith;
    node_limit = refl;
    change_limit = refl;
    writable = refl;
    rest = refl;
  }

  -- the way goes on on the side that the key decides
  one_side : (below : ℕ → Memory → Done Unit) (m : Memory) (d n : ℕ) (c : Bool) (f : Entry ℕ) (l r : Tree Bool ℕ)
      → Ends (insert_step_of below d false m) (λ _ m'. Becomes colour m m' d (node n c f l r) (insert_fixed false (node n c f (inserted before k v m.made l) r)) (plus (plus (insert_cost before k v m.made l) (cost 1 0 0)) (fix_cost false (node n c f (inserted before k v m.made l) r))))
      → Ends (insert_step_of below d true m) (λ _ m'. Becomes colour m m' d (node n c f l r) (insert_fixed true (node n c f l (inserted before k v m.made r))) (plus (plus (insert_cost before k v m.made r) (cost 1 0 0)) (fix_cost true (node n c f l (inserted before k v m.made r)))))
      → Ends (insert_step_of below d (not (before k f.key)) m) (λ _ m'. Inserts m m' d (node n c f l r))
  one_side below m d n c f l r x y = go (before k f.key) refl
    where
      go : (b : Bool) → before k f.key ≡ b → Ends (insert_step_of below d (not (before k f.key)) m) (λ _ m'. Inserts m m' d (node n c f l r))
      go true e = rw e x
      go false e = rw e y

  pub insert_ends : (g : ℕ) (m : Memory) (d : ℕ) (t : Tree Bool ℕ) → Ready colour m d t → NamedOnce m t → m.state.names m.made ≡ 0 → Balanced t → suc (height t) ≤ g → height t + d ≤ 24 → changed m + (6 * height t + 10) ≤ m.change_limit → m.made < m.node_limit
      → Ends (insert_of (before k) k v g d m) (λ _ m'. Inserts m m' d t)
  unfolding insert_of
  insert_ends zero m d t R L fresh balanced h b q w = absurd (omega arith)
  insert_ends (suc g) m d leaf R L fresh balanced h b q w =
      by_nil _ _ d None m (omega arith) R.reg (ends_last (make_of d k v 1 m) _ (by_make _ _ d k v 1 m (omega arith) R.may w (make_inserts m d (omega arith))))
  insert_ends (suc g) m d (node n c f l r) R L fresh balanced h b q w =
      let N = R.stored.0 in
      by_nil _ _ d (Some n) m (omega arith) R.reg (by_key _ _ d n N.it m (record { low = omega arith; names = R.reg; node = N.there })
      (subst (λ (p : ℕ). Ends (insert_step_of (insert_of (before k) k v g) d (not (before k p)) m) (λ _ m'. Inserts m m' d (node n c f l r))) (sym N.key)
      (one_side (insert_of (before k) k v g) m d n c f l r
      (insert_step_ends (insert_of (before k) k v g) m d false (node n c f l r) n refl R L fresh (omega arith) (omega arith) balanced.0
      (λ m₁ a₁ a₂ a₃ a₄ fr₁ R₁ L₁. insert_ends g m₁ (suc d) l R₁ L₁ fr₁ balanced.0 (omega arith) (omega arith) (omega arith) (omega arith)))
      (insert_step_ends (insert_of (before k) k v g) m d true (node n c f l r) n refl R L fresh (omega arith) (omega arith) balanced.1
      (λ m₁ a₁ a₂ a₃ a₄ fr₁ R₁ L₁. insert_ends g m₁ (suc d) r R₁ L₁ fr₁ balanced.1 (omega arith) (omega arith) (omega arith) (omega arith))))))
