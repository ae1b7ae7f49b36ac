-- The node with a key is found; its value is read, or replaced.
use Rattle.std.proofs.Common.{◌≡◌, ℕ, zero, suc, ◌+◌, ◌<◌, ◌≤◌, Bool, true, false, List, [], ◌∷◌, Some, None, Option, sym, refl, ap, ◌∙◌, subst, arith}
use Rattle.trees.specs.Trees.{Entry, Tree, leaf, node, root_of, entries_onto, entries, occurrences, Distinct, height}
use Rattle.trees.specs.Lists.{KeyOrder, Sorted, list_get}
use Rattle.trees.specs.RedBlack.{holds, replaced}
use Rattle.trees.specs.Removal.{removed_serial}
use Rattle.trees.proofs.Sorting.{sorted_rest, before_later, before_not_earlier, before_next}
use Rattle.trees.proofs.Insertion.{by_test, replaced_occurrences}
use Rattle.trees.proofs.RemovedLists.{get_skips, removed_occurrences}
use Rattle.trees.specs.Theorems.{put_tree}
use Rattle.trees.proofs.Maps.{put_sets, tree_answers, none_is}
use Rattle.trees.proofs.Rules.{to_balanced}
use Rattle.trees.proofs.Heights.{low_height}
use Rattle.memory.specs.Memory.{Node, Memory}
use Rattle.memory.specs.Steps.{Done, done, then, with_reg, follow_of, number_of}
use Rattle.memory.specs.Effects.{Ends}
use Rattle.memory.proofs.Numbers.{put_same, put_other}
use Rattle.memory.proofs.By.{ends_then, ends_all, by_load, by_key, by_number, by_nil}
use Rattle.stored.specs.Stored.{side, colour, as_rank, Stored}
use Rattle.stored.specs.Writes.{renumber_of, Renumbered}
use Rattle.stored.specs.Whole.{Whole, Stands, Untouched}
use Rattle.stored.proofs.Parts.{self, no_test, keep_else}
use Rattle.stored.proofs.Nodes.{value_node}
use Rattle.stored.proofs.Writing.{renumber_ends}
use Rattle.stored.proofs.Wholes.{untouched, untouched_after, size_made}
use Rattle.map_steps.specs.Remove.{on_way, way_to}
use Rattle.map_steps.specs.Find.{on_found, find_of, lookup_of, get_of, set_of}
use Rattle.map_steps.specs.Theorems.{MapIs, Answers, GetAnswers, SetReplaces}
use Rattle.map_steps.proofs.Reds.{by_child}

module _ (before : ℕ → ℕ → Bool) (k : ℕ) where
  -- what was found: no key, or the register that holds its node
  abbrev pub FoundIs : Memory → Tree Bool ℕ → Option ℕ → Type 0
  FoundIs m t None = holds before k t ≡ false
  FoundIs m t (Some r) = (holds before k t ≡ true) × (r < 26) × (m.regs r ≡ Some (removed_serial before k t))

  pub record Found (m m' : Memory) (t : Tree Bool ℕ) (answer : Option ℕ) : Type 0 where
    pub is : FoundIs m' t answer
    pub untouched : Untouched m m'
    pub below : (r : ℕ) → 26 ≤ r → m'.regs r ≡ m.regs r

  at_node_lem : (n : ℕ) (c : Bool) (f : Entry ℕ) (l r : Tree Bool ℕ) (m m₁ : Memory) (d : ℕ) (next : Bool → Done (Option ℕ)) (p q : Bool) → before k f.key ≡ p → before f.key k ≡ q
      → (p ≡ true → Ends (next false) (λ x m'. Found m m' l x)) → (p ≡ false → q ≡ true → Ends (next true) (λ x m'. Found m m' r x))
      → Untouched m m₁ → ((j : ℕ) → 26 ≤ j → m₁.regs j ≡ m.regs j) → d < 26 → m₁.regs d ≡ Some n
      → Ends (on_way (way_to before k f.key) (done (Some d) m₁) next) (λ x m'. Found m m' (node n c f l r) x)
  at_node_lem n c f l r m m₁ d next true q e e' x y u b w z = rw e (ends_all (next false) _ _ (x refl) (λ v m' F. lift_left v m' F))
    where
      lift_left : (v : Option ℕ) (m' : Memory) → Found m m' l v → Found m m' (node n c f l r) v
      lift_left None m' F = record { is = rw e F.is; untouched = F.untouched; below = F.below }
      lift_left (Some j) m' F = record { is = rw e F.is; untouched = F.untouched; below = F.below }
  at_node_lem n c f l r m m₁ d next false true e e' x y u b w z = rw (e, e') (ends_all (next true) _ _ (y refl refl) (λ v m' F. lift_right v m' F))
    where
      lift_right : (v : Option ℕ) (m' : Memory) → Found m m' r v → Found m m' (node n c f l r) v
      lift_right None m' F = record { is = rw (e, e') F.is; untouched = F.untouched; below = F.below }
      lift_right (Some j) m' F = record { is = rw (e, e') F.is; untouched = F.untouched; below = F.below }
  at_node_lem n c f l r m m₁ d next false false e e' x y u b w z = rw (e, e') (record { is = (rw (e, e'), w, z ∙ (rw (e, e'))); untouched = u; below = b })

  found_after : (m m' : Memory) (r : ℕ) (x : Option ℕ) (t : Tree Bool ℕ) (v : Option ℕ) → r < 26 → Found (with_reg m r x) m' t v → Found m m' t v
  found_after m m' r x t v l F = record { is = F.is; untouched = untouched_after m m' r x F.untouched; below = λ j h. F.below j h ∙ put_other m.regs r j x (omega arith) }

  pub find_ends : (g : ℕ) (m : Memory) (d : ℕ) (t : Tree Bool ℕ) → m.regs d ≡ root_of t → Stored colour m.state.nodes t → height t < g → height t + d ≤ 25 → Ends (find_of (way_to before k) g d m) (λ x m'. Found m m' t x)
  unfolding find_of
  find_ends zero m d t e H h l = absurd (omega arith)
  find_ends (suc g) m d leaf e H h l = by_nil _ _ d None m (omega arith) e (record { is = refl; untouched = untouched m; below = λ r _. refl })
  find_ends (suc g) m d (node n c f l r) e H h b =
      let N = H.0 in
      let next : Bool → Done (Option ℕ) = λ s. then (follow_of d (side s) (suc d) m) (λ _ m3. find_of (way_to before k) g (suc d) m3) in
      by_nil _ _ d (Some n) m (omega arith) e (by_key _ _ d n N.it m (record { low = omega arith; names = e; node = N.there })
      (subst (λ (p : ℕ). Ends (on_way (way_to before k p) (done (Some d) m) next) (λ x m'. Found m m' (node n c f l r) x)) (sym N.key)
      (at_node_lem n c f l r m m d next (before k f.key) (before f.key k) refl refl
      (λ _. by_child _ _ colour m d (suc d) false (node n c f l r) (omega arith) (omega arith) refl e H
      (ends_all (find_of (way_to before k) g (suc d) (with_reg m (suc d) (root_of l))) _ _ (find_ends g (with_reg m (suc d) (root_of l)) (suc d) l (put_same m.regs (suc d) (root_of l)) H.1 (omega arith) (omega arith)) (λ v m' F. found_after m m' (suc d) (root_of l) l v (omega arith) F)))
      (λ _ _. by_child _ _ colour m d (suc d) true (node n c f l r) (omega arith) (omega arith) refl e H
      (ends_all (find_of (way_to before k) g (suc d) (with_reg m (suc d) (root_of r))) _ _ (find_ends g (with_reg m (suc d) (root_of r)) (suc d) r (put_same m.regs (suc d) (root_of r)) H.2 (omega arith) (omega arith)) (λ v m' F. found_after m m' (suc d) (root_of r) r v (omega arith) F)))
      (untouched m) (λ j _. refl) (omega arith) e)))

-- how high the map is
pub tall : {before sooner : ℕ → ℕ → Bool} {m : Memory} {t : Tree Bool ℕ} {a b : Tree ℕ ℕ} → Stands before sooner m t a b → m.made ≤ 4096 → height t ≤ 24
tall {t = t} S few = low_height t (to_balanced t S.map_tree.red_black) S.map_tree.red_black.black_root (omega (arith, size_made S.whole))

pub lookup_ends : (before sooner : ℕ → ℕ → Bool) (k : ℕ) (m : Memory) (t : Tree Bool ℕ) (a b : Tree ℕ ℕ) → Stands before sooner m t a b → m.made ≤ 4096 → Ends (lookup_of (way_to before k) m) (λ x m'. Found before k m m' t x)
unfolding lookup_of
lookup_ends before sooner k m t a b S few =
    let W = S.whole in
    let low = tall S few in
    by_load _ _ 0 0 m (root_of t) (omega arith) (omega arith) W.first
    (ends_all (find_of (way_to before k) 25 0 (with_reg m 0 (root_of t))) _ _ (find_ends before k 25 (with_reg m 0 (root_of t)) 0 t (put_same m.regs 0 (root_of t)) W.stored_first (omega arith) (omega arith))
    (λ v m' F. found_after before k m m' 0 (root_of t) t v (omega arith) F))

module _ {before : ℕ → ℕ → Bool} (o : KeyOrder before) (k : ℕ) where
  -- the node of a key that is there holds its value
  pub value_there : (nodes : ℕ → Option Node) (t : Tree Bool ℕ) (xs : List (Entry ℕ)) → Stored colour nodes t → Sorted before (entries_onto t xs) → holds before k t ≡ true → (x : Node) × (nodes (removed_serial before k t) ≡ Some x) × (list_get before k (entries_onto t xs) ≡ Some (x.numbers 0))
  value_there nodes leaf xs H s h = no_test h
  value_there nodes (node n c f l r) xs H s h =
      at (before k f.key) (before f.key k) refl refl (value_there nodes l (f ∷ entries_onto r xs) H.1 s) (value_there nodes r xs H.2 (sorted_rest o l (f ∷ entries_onto r xs) s).1)
    where
      at : (p q : Bool) → before k f.key ≡ p → before f.key k ≡ q
          → (holds before k l ≡ true → (x : Node) × (nodes (removed_serial before k l) ≡ Some x) × (list_get before k (entries_onto l (f ∷ entries_onto r xs)) ≡ Some (x.numbers 0)))
          → (holds before k r ≡ true → (x : Node) × (nodes (removed_serial before k r) ≡ Some x) × (list_get before k (entries_onto r xs) ≡ Some (x.numbers 0)))
          → (x : Node) × (nodes (removed_serial before k (node n c f l r)) ≡ Some x) × (list_get before k (entries_onto l (f ∷ entries_onto r xs)) ≡ Some (x.numbers 0))
      at true q e e' left right = let z = left (rw e at h) in (z.0, ap nodes (rw e) ∙ z.1, z.2)
      at false true e e' left right =
          let z = right (rw (e, e') at h) in
          (z.0, ap nodes (rw (e, e')) ∙ z.1, get_skips o k l (f ∷ entries_onto r xs) (before_later o f.key k l e' (before_next o l f (entries_onto r xs) s)) ∙ (rw (e, e')) ∙ z.2)
      at false false e e' left right =
          let N = H.0 in
          (N.it, ap nodes (rw (e, e')) ∙ N.there, get_skips o k l (f ∷ entries_onto r xs) (before_not_earlier o f.key k l e (before_next o l f (entries_onto r xs) s)) ∙ (rw (e, e')) ∙ ap Some (sym N.value))

pub get_ends : GetAnswers
unfolding get_of
get_ends before sooner o k m t a b S few =
    ends_then (lookup_of (way_to before k) m) _ (λ x m₁. Found before k m m₁ t x) _ (lookup_ends before sooner k m t a b S few) after
  where
    after : (x : Option ℕ) (m₁ : Memory) → Found before k m m₁ t x → Ends (on_found x (done None m₁) (λ r. then (number_of 0 r m₁) (λ v m2. done (Some v) m2))) (λ v m'. Answers m m' v (list_get before k (entries t)))
    after None m₁ F = record { is = sym (none_is (list_get before k (entries t)) (sym (tree_answers ℕ before o k t S.map_tree.sorted) ∙ F.is)); untouched = F.untouched }
    after (Some r) m₁ F =
        let z = value_there o k m.state.nodes t [] S.whole.stored_first S.map_tree.sorted F.is.0 in
        by_number _ _ 0 r (removed_serial before k t) z.0 m₁ (record { low = omega (arith, F.is.1); names = F.is.2; node = ap (λ s. s.nodes (removed_serial before k t)) F.untouched.state ∙ z.1 })
        (record { is = sym z.2; untouched = F.untouched })

module _ {before : ℕ → ℕ → Bool} (o : KeyOrder before) (k v : ℕ) where
  pub root_replaced : (t : Tree Bool ℕ) → root_of (replaced before k v t) ≡ root_of t
  root_replaced leaf = refl
  root_replaced (node n c f l r) = by_test (λ u. root_of u ≡ Some n) (before k f.key) _ _ (λ _. refl) (λ _. by_test (λ u. root_of u ≡ Some n) (before f.key k) _ _ (λ _. refl) (λ _. refl))

  pub serial_there : (t : Tree Bool ℕ) → holds before k t ≡ true → 1 ≤ occurrences (removed_serial before k t) t
  serial_there t h = omega (arith, removed_occurrences o k t (removed_serial before k t) h, self (removed_serial before k t))

  -- the value at the key's node is written
  pub revalued : (nodes nodes' : ℕ → Option Node) (t : Tree Bool ℕ) (n : ℕ) (x y : Node) → n ≡ removed_serial before k t → holds before k t ≡ true → Distinct t → nodes n ≡ Some x → nodes' n ≡ Some y → ((j : ℕ) → (n ≡ j → ⊥) → nodes' j ≡ nodes j)
      → y.key ≡ x.key → y.numbers 0 ≡ v → ((i : ℕ) → (0 ≡ i → ⊥) → y.numbers i ≡ x.numbers i) → ((i : ℕ) → y.links i ≡ x.links i) → Stored colour nodes t → Stored colour nodes' (replaced before k v t)
  revalued nodes nodes' leaf n x y en h dis p q else ky num others links H = no_test h
  revalued nodes nodes' (node m c f l r) n x y en h dis p q else ky num others links H =
      at (before k f.key) (before f.key k) refl refl
      (λ e hl. revalued nodes nodes' l n x y e hl (λ i. omega (arith, dis i)) p q else ky num others links H.1)
      (λ e hr. revalued nodes nodes' r n x y e hr (λ i. omega (arith, dis i)) p q else ky num others links H.2)
    where
      at : (b d : Bool) → before k f.key ≡ b → before f.key k ≡ d → (n ≡ removed_serial before k l → holds before k l ≡ true → Stored colour nodes' (replaced before k v l)) → (n ≡ removed_serial before k r → holds before k r ≡ true → Stored colour nodes' (replaced before k v r))
          → Stored colour nodes' (replaced before k v (node m c f l r))
      at true d e e' left right =
          let hl : holds before k l ≡ true = rw e at h in
          let el : n ≡ removed_serial before k l = en ∙ (rw e) in
          let there : 1 ≤ occurrences n l = subst (λ (j : ℕ). 1 ≤ occurrences j l) (sym el) (serial_there l hl) in
          let N = H.0 in
          let ne : n ≡ m → ⊥ = λ g. (let w : occurrences m l ≡ occurrences n l = ap (λ (j : ℕ). occurrences j l) (sym g) in omega (arith, dis m, self m)) in
          rw e (
            record { it = N.it; there = else m ne ∙ N.there; key = N.key; value = N.value; mark = N.mark; near = N.near ∙ sym (root_replaced l); far = N.far },
            left el hl,
            keep_else colour nodes nodes' n r else (omega (arith, dis n)) H.2,
          )
      at false true e e' left right =
          let hr : holds before k r ≡ true = rw (e, e') at h in
          let er : n ≡ removed_serial before k r = en ∙ (rw (e, e')) in
          let there : 1 ≤ occurrences n r = subst (λ (j : ℕ). 1 ≤ occurrences j r) (sym er) (serial_there r hr) in
          let N = H.0 in
          let ne : n ≡ m → ⊥ = λ g. (let w : occurrences m r ≡ occurrences n r = ap (λ (j : ℕ). occurrences j r) (sym g) in omega (arith, dis m, self m)) in
          rw (e, e') (
            record { it = N.it; there = else m ne ∙ N.there; key = N.key; value = N.value; mark = N.mark; near = N.near; far = N.far ∙ sym (root_replaced r) },
            keep_else colour nodes nodes' n l else (omega (arith, dis n)) H.1,
            right er hr,
          )
      at false false e e' left right =
          let same : m ≡ n = sym (en ∙ (rw (e, e'))) in
          let away : (j : ℕ) → (m ≡ j → ⊥) → nodes' j ≡ nodes j = λ j w. else j (λ z. w (same ∙ z)) in
          let dm = dis m in
          let one = self m in
          rw (e, e') (
            value_node colour nodes nodes' false m c f v l r x y H.0 (ap nodes same ∙ p) (ap nodes' same ∙ q) ky num others links,
            keep_else colour nodes nodes' m l away (omega arith) H.1,
            keep_else colour nodes nodes' m r away (omega arith) H.2,
          )

pub set_ends : SetReplaces
unfolding set_of
set_ends before sooner o k v new m t a b S room =
    ends_then (lookup_of (way_to before k) m) _ (λ x m₁. Found before k m m₁ t x) _ (lookup_ends before sooner k m t a b S room.nodes) after
  where
    W : Whole m t a b
    W = S.whole

    after : (x : Option ℕ) (m₁ : Memory) → Found before k m m₁ t x → Ends (on_found x (done false m₁) (λ r. then (renumber_of 0 r v m₁) (λ _ m2. done true m2))) (λ there m'. (there ≡ holds before k t) × (there ≡ true → MapIs before sooner m m' (put_tree before k v new t) a b 0) × (there ≡ false → Untouched m m'))
    after None m₁ F = (sym F.is, λ h. no_test h, λ _. F.untouched)
    after (Some r) m₁ F =
        let h = F.is.0 in
        let n = removed_serial before k t in
        let U = F.untouched in
        let z = value_there o k m.state.nodes t [] W.stored_first S.map_tree.sorted h in
        let x = z.0 in
        let there : m₁.state.nodes n ≡ Some x = ap (λ s. s.nodes n) U.state ∙ z.1 in
        let inside : 1 ≤ occurrences n t = serial_there o k v t h in
        ends_then (renumber_of 0 r v m₁) _ (λ _ m₂. Renumbered m₁ m₂ n x 0 v) _
        (renumber_ends m₁ 0 r v n x (record { low = omega (arith, F.is.1); names = F.is.2; node = there }) (record { writable = U.writable ∙ room.writable; left = omega (arith, U.linked, U.numbered, U.change_limit, room.changes) }))
        (λ _ m₂ E.
        let else : (j : ℕ) → (n ≡ j → ⊥) → m₂.state.nodes j ≡ m.state.nodes j = λ j ne. E.edited.else j ne ∙ ap (λ s. s.nodes j) U.state in
        let P = E.spends in
        let ro : (i : ℕ) → occurrences i (replaced before k v t) ≡ occurrences i t = λ i. replaced_occurrences before k v i t in
        let roots : (i : ℕ) → m₂.state.roots i ≡ m.state.roots i = λ i. E.edited.roots i ∙ ap (λ s. s.roots i) U.state in
        let whole : Whole m₂ (replaced before k v t) a b = record {
          first = roots 0 ∙ W.first ∙ sym (root_replaced o k v t);
          second = roots 1 ∙ W.second;
          third = roots 2 ∙ W.third;
          stored_first = revalued o k v m.state.nodes m₂.state.nodes t n x E.y refl h (λ i. omega (arith, W.distinct i)) z.1 E.edited.here else E.key E.number E.others E.links W.stored_first;
          stored_second = keep_else as_rank m.state.nodes m₂.state.nodes n a else (omega (arith, W.distinct n)) W.stored_second;
          stored_third = keep_else as_rank m.state.nodes m₂.state.nodes n b else (omega (arith, W.distinct n)) W.stored_third;
          distinct = λ i. omega (arith, ro i, W.distinct i);
          within = λ i p. let w = W.within i (omega (arith, ro i)) in omega (arith, P.made, U.made);
          named = λ i. let w : m₁.state.names i ≡ m.state.names i = ap (λ s. s.names i) U.state in omega (arith, E.named i, ro i, W.named i);
          bare = λ i y s p q e. W.bare i y s (omega (arith, P.made, U.made)) (omega (arith, ro i))
              (sym (else i (λ g. let w : occurrences i t ≡ occurrences n t = ap (λ (j : ℕ). occurrences j t) (sym g) in omega (arith, ro i))) ∙ e);
        } in (
          sym h,
          λ _. record {
            stands = record { whole = rw h whole; map_tree = (put_sets ℕ before o k v new t S.map_tree).map; due_heap = S.due_heap; held_heap = S.held_heap };
            spent = record {
              linked = omega (arith, P.linked, U.linked);
              numbered = omega (arith, P.numbered, U.numbered);
              changed = omega (arith, P.linked, P.numbered, U.linked, U.numbered);
              made = omega (arith, P.made, U.made);
              node_limit = P.node_limit ∙ U.node_limit;
              change_limit = P.change_limit ∙ U.change_limit;
              writable = P.writable ∙ U.writable;
              rest = P.rest ∙ U.rest;
            };
          },
          λ q. no_test (sym q),
        ))
