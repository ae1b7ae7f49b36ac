-- The first entry above a key.
use Rattle.std.proofs.Common.{◌≡◌, ℕ, zero, suc, ◌+◌, ◌<◌, ◌≤◌, Bool, true, false, List, [], ◌∷◌, Some, None, Option, sym, refl, ap, ◌∙◌, subst, arith}
use Rattle.trees.specs.Trees.{Entry, entry, Tree, leaf, node, root_of, entries_onto, entries, height}
use Rattle.trees.specs.Lists.{KeyOrder, AllAfter, Sorted, list_next}
use Rattle.trees.proofs.Sorting.{AllBefore, asymmetric, sorted_rest, before_not_earlier, before_next}
use Rattle.memory.specs.Memory.{Node, Memory}
use Rattle.memory.specs.Steps.{done, then, with_reg, key_of, number_of}
use Rattle.memory.specs.Effects.{Ends, Holds}
use Rattle.memory.proofs.Numbers.{put_same, put_other}
use Rattle.memory.proofs.By.{ends_then, ends_all, ends_cond, by_load, by_key, by_number, by_nil}
use Rattle.stored.specs.Stored.{colour, Stored}
use Rattle.stored.specs.Whole.{Untouched}
use Rattle.stored.proofs.Wholes.{untouched, untouched_after}
use Rattle.map_steps.specs.Find.{on_found, seek_of, next_of}
use Rattle.map_steps.specs.Theorems.{Answers, NextAnswers}
use Rattle.map_steps.proofs.Reds.{by_child}
use Rattle.map_steps.proofs.Finds.{tall}

-- the register r holds a node with the entry e
pub record Shows (m : Memory) (r : ℕ) (e : Entry ℕ) : Type 0 where
  pub low : r < 26
  pub n : ℕ
  pub x : Node
  pub names : m.regs r ≡ Some n
  pub there : m.state.nodes n ≡ Some x
  pub key : x.key ≡ e.key
  pub value : x.numbers 0 ≡ e.value

-- a register, or none, and its entry
abbrev pub Best : Memory → Option ℕ → Option (Entry ℕ) → Type 0
Best m None None = Unit {0}
Best m None (Some e) = ⊥
Best m (Some r) None = ⊥
Best m (Some r) (Some e) = Shows m r e

abbrev pub BelowD : ℕ → Option ℕ → Type 0
BelowD d None = Unit {0}
BelowD d (Some r) = r < d

-- the first above k in the tree, else the best so far
abbrev pub or_else : Option (Entry ℕ) → Option (Entry ℕ) → Option (Entry ℕ)
or_else (Some x) y = Some x
or_else None y = y

best_later : (m : Memory) (d : ℕ) (x : Option ℕ) (best : Option ℕ) (e : Option (Entry ℕ)) → BelowD d best → Best m best e → Best (with_reg m d x) best e
best_later m d x None None l h = tt
best_later m d x None (Some e) l h = h
best_later m d x (Some r) None l h = h
best_later m d x (Some r) (Some e) l h = record { low = h.low; n = h.n; x = h.x; names = put_other m.regs d r x (omega arith) ∙ h.names; there = h.there; key = h.key; value = h.value }

below_more : (d : ℕ) (best : Option ℕ) → BelowD d best → BelowD (suc d) best
below_more d None h = tt
below_more d (Some r) h = omega arith

pub record Sought (m m' : Memory) (right : Option (Entry ℕ)) (answer : Option ℕ) : Type 0 where
  pub best : Best m' answer right
  pub untouched : Untouched m m'

sought_after : (m m' : Memory) (r : ℕ) (x : Option ℕ) (right : Option (Entry ℕ)) (answer : Option ℕ) → Sought (with_reg m r x) m' right answer → Sought m m' right answer
sought_after m m' r x right answer F = record { best = F.best; untouched = untouched_after m m' r x F.untouched }

module _ {before : ℕ → ℕ → Bool} (o : KeyOrder before) (k : ℕ) where
  next_skips : (t : Tree Bool ℕ) (xs : List (Entry ℕ)) → AllBefore before k t → list_next before k (entries_onto t xs) ≡ list_next before k xs
  next_skips leaf xs u = refl
  next_skips (node n c f l r) xs u =
      let left = next_skips l (f ∷ entries_onto r xs) u.0 in
      let right = next_skips r xs u.2 in
      let x = asymmetric o f.key k u.1 in
      cc

  next_or : (t : Tree Bool ℕ) (x : Entry ℕ) (xs : List (Entry ℕ)) → before k x.key ≡ true → list_next before k (entries_onto t (x ∷ xs)) ≡ or_else (list_next before k (entries_onto t [])) (Some x)
  next_or t x xs h = go t (x ∷ xs) [] (rw h)
    where
      step : (f : Entry ℕ) (ys zs : List (Entry ℕ)) (b : Bool) → before k f.key ≡ b → list_next before k ys ≡ or_else (list_next before k zs) (Some x) → list_next before k (f ∷ ys) ≡ or_else (list_next before k (f ∷ zs)) (Some x)
      step f ys zs true e q = rw e
      step f ys zs false e q = rw e q

      go : (t : Tree Bool ℕ) (ys zs : List (Entry ℕ)) → list_next before k ys ≡ or_else (list_next before k zs) (Some x) → list_next before k (entries_onto t ys) ≡ or_else (list_next before k (entries_onto t zs)) (Some x)
      go leaf ys zs q = q
      go (node n c f l r) ys zs q = go l (f ∷ entries_onto r ys) (f ∷ entries_onto r zs) (step f (entries_onto r ys) (entries_onto r zs) (before k f.key) refl (go r ys zs q))

  or_some : (x : Option (Entry ℕ)) (f : Entry ℕ) (y : Option (Entry ℕ)) → or_else (or_else x (Some f)) y ≡ or_else x (Some f)
  or_some (Some z) f y = refl
  or_some None f y = refl

  after_part : (a : ℕ) (t : Tree Bool ℕ) (xs ys : List (Entry ℕ)) → (AllAfter before a xs → AllAfter before a ys) → AllAfter before a (entries_onto t xs) → AllAfter before a (entries_onto t ys)
  after_part a leaf xs ys g h = g h
  after_part a (node n c f l r) xs ys g h = after_part a l (f ∷ entries_onto r xs) (f ∷ entries_onto r ys) (λ p. (p.0, after_part a r xs ys g p.1)) h

  sorted_to : (t : Tree Bool ℕ) (xs ys : List (Entry ℕ)) → ((a : ℕ) → AllAfter before a xs → AllAfter before a ys) → (Sorted before xs → Sorted before ys) → Sorted before (entries_onto t xs) → Sorted before (entries_onto t ys)
  sorted_to leaf xs ys g q h = q h
  sorted_to (node n c f l r) xs ys g q h = sorted_to l (f ∷ entries_onto r xs) (f ∷ entries_onto r ys) (λ a p. (p.0, after_part a r xs ys (g a) p.1)) (λ p. (after_part f.key r xs ys (g f.key) p.0, sorted_to r xs ys g q p.1)) h

  sorted_part : (t : Tree Bool ℕ) (xs : List (Entry ℕ)) → Sorted before (entries_onto t xs) → Sorted before (entries_onto t [])
  sorted_part t xs h = sorted_to t xs [] (λ a p. tt) (λ p. tt) h

  pub seek_ends : (g : ℕ) (m : Memory) (d : ℕ) (t : Tree Bool ℕ) (best : Option ℕ) (e : Option (Entry ℕ)) → m.regs d ≡ root_of t → Stored colour m.state.nodes t → Sorted before (entries t) → BelowD d best → Best m best e → height t < g → height t + d ≤ 25
      → Ends (seek_of (before k) g d best m) (λ x m'. Sought m m' (or_else (list_next before k (entries t)) e) x)
  unfolding seek_of
  seek_ends zero m d t best e er H s lb B h l = absurd (omega arith)
  seek_ends (suc g) m d leaf best e er H s lb B h l = by_nil _ _ d None m (omega arith) er (record { best = B; untouched = untouched m })
  seek_ends (suc g) m d (node n c f l r) best e er H s lb B h b =
      let N = H.0 in
      let t = node n c f l r in
      by_nil _ _ d (Some n) m (omega arith) er (by_key _ _ d n N.it m (record { low = omega arith; names = er; node = N.there })
      (ends_cond (before k N.it.key) _ _ _
      (λ q.
      let x : before k f.key ≡ true = ap (before k) (sym N.key) ∙ q in
      let m₁ = with_reg m (suc d) (root_of l) in
      let B₁ : Best m₁ (Some d) (Some f) = record { low = omega arith; n = n; x = N.it; names = put_other m.regs (suc d) d (root_of l) (omega arith) ∙ er; there = N.there; key = N.key; value = N.value } in
      by_child _ _ colour m d (suc d) false t (omega arith) (omega arith) refl er H
      (ends_all (seek_of (before k) g (suc d) (Some d) m₁) _ _
      (seek_ends g m₁ (suc d) l (Some d) (Some f) (put_same m.regs (suc d) (root_of l)) H.1 (sorted_part l (f ∷ entries_onto r []) s) (omega arith) B₁ (omega arith) (omega arith))
      (λ v m' F. subst (λ (w : Option (Entry ℕ)). Sought m m' w v) (sym (ap (λ (y : Option (Entry ℕ)). or_else y e) (next_or l f (entries_onto r []) x) ∙ or_some (list_next before k (entries_onto l [])) f e)) (sought_after m m' (suc d) (root_of l) _ v F))))
      (λ q.
      let x : before k f.key ≡ false = ap (before k) (sym N.key) ∙ q in
      let m₁ = with_reg m (suc d) (root_of r) in
      by_child _ _ colour m d (suc d) true t (omega arith) (omega arith) refl er H
      (ends_all (seek_of (before k) g (suc d) best m₁) _ _
      (seek_ends g m₁ (suc d) r best e (put_same m.regs (suc d) (root_of r)) H.2 (sorted_rest o l (f ∷ entries_onto r []) s).1 (below_more d best lb) (best_later m (suc d) (root_of r) best e (below_more d best lb) B) (omega arith) (omega arith))
      (λ v m' F. subst (λ (w : Option (Entry ℕ)). Sought m m' w v) (sym (ap (λ (y : Option (Entry ℕ)). or_else y e) (next_skips l (f ∷ entries_onto r []) (before_not_earlier o f.key k l x (before_next o l f (entries_onto r []) s)) ∙ (rw x)))) (sought_after m m' (suc d) (root_of r) _ v F))))))

or_none : (x : Option (Entry ℕ)) → or_else x None ≡ x
or_none (Some z) = refl
or_none None = refl

same_entry : (a b u v : ℕ) → a ≡ b → u ≡ v → entry a u ≡ entry b v
same_entry a b u v p q = cc

pub next_ends : NextAnswers
unfolding next_of
next_ends before sooner o k m t a b S few =
    let W = S.whole in
    let low = tall S few in
    let m₁ = with_reg m 0 (root_of t) in
    by_load _ _ 0 0 m (root_of t) (omega arith) (omega arith) W.first
    (ends_then (seek_of (before k) 25 0 None m₁) _ (λ x m₂. Sought m₁ m₂ (or_else (list_next before k (entries t)) None) x) _
    (seek_ends o k 25 m₁ 0 t None None (put_same m.regs 0 (root_of t)) W.stored_first S.map_tree.sorted tt tt (omega arith) (omega arith))
    (λ x m₂ F. subst (λ (w : Option (Entry ℕ)). Ends (on_found x (done None m₂) (λ r. then (key_of r m₂) (λ k m3. then (number_of 0 r m3) (λ v m4. done (Some (entry k v)) m4)))) (λ e m'. Answers m m' e w)) (or_none (list_next before k (entries t)))
    (last x (or_else (list_next before k (entries t)) None) m₂ F.best (untouched_after m m₂ 0 (root_of t) F.untouched))))
  where
    last : (x : Option ℕ) (e : Option (Entry ℕ)) (m₂ : Memory) → Best m₂ x e → Untouched m m₂
        → Ends (on_found x (done None m₂) (λ r. then (key_of r m₂) (λ k m3. then (number_of 0 r m3) (λ v m4. done (Some (entry k v)) m4)))) (λ y m'. Answers m m' y e)
    last None None m₂ B U = record { is = refl; untouched = U }
    last None (Some e) m₂ B U = absurd B
    last (Some r) None m₂ B U = absurd B
    last (Some r) (Some e) m₂ B U =
        let H : Holds m₂ r B.n B.x = record { low = omega (arith, B.low); names = B.names; node = B.there } in
        by_key _ _ r B.n B.x m₂ H (by_number _ _ 0 r B.n B.x m₂ H
        (record { is = ap Some (same_entry B.x.key e.key (B.x.numbers 0) e.value B.key B.value); untouched = U }))
