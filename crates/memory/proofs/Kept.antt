-- Every call keeps a memory sound.
use Rattle.std.proofs.Common.{◌≡◌, ℕ, suc, ◌+◌, ◌<◌, ◌≤◌, Bool, true, false, cond, eqb, ltb, ◌⊎◌, List, [], ◌∷◌, is_some, Some, None, Option, sym, refl, ap, ◌∙◌, subst, inl, inr, ⊎_elim, arith}
use Rattle.std.proofs.lemmas.Bool.{cases_lt, cases_eq}
use Rattle.memory.specs.Memory.{Node, State, Memory, changed, put, hits, with_link, with_number, new_node, renamed, names_of, state_of, is_draft, sum_to, node_hits, Orderly, Sound, empty_state, fresh, fresh_single}
use Rattle.order.specs.Items.{member}
use Rattle.order.proofs.Members.{member_here}
use Rattle.memory.specs.Steps.{with_reg, Kind, of_link, of_number, written, root_set, link_set, node_set, born, entered, opened, closed}
use Rattle.memory.specs.Calls.{Call, after, run_of}
use Rattle.memory.proofs.Numbers.{put_same, put_other, eq_true, eq_false, eq_from, lt_true, lt_false, some_same, none_some, sum_same, sum_one, renamed_few}
use Rattle.memory.specs.Effects.{Free}
use Rattle.memory.proofs.Each.{Present, Each, here, each}

-- a property of the state of a version
pub at_state : {A : Type 0} (Q : A → Type 0) (w v : ℕ) (s t : A) → (w ≡ v → Q s) → ((w ≡ v → ⊥) → Q t) → Q (cond (eqb w v) s t)
at_state Q w v s t f g = ⊎_elim (λ e. rw (eq_true w v e) (f e)) (λ h. rw (eq_false w v h) (g h)) (cases_eq w v)

pub at_put : {A : Type 0} (Q : A → Type 0) (f : ℕ → A) (i j : ℕ) (x : A) → (i ≡ j → Q x) → ((i ≡ j → ⊥) → Q (f j)) → Q (put f i x j)
at_put Q f i j x = at_state Q i j x (f j)

pub there : {m : Memory} → Sound m → (v : ℕ) → v < m.rest.versions → (m.rest.working ≡ v → ⊥) → Orderly m.made (m.rest.others v)
there {m = m} S v l h = rw (eq_false m.rest.working v h) at (S.states v l)

-- a node of the state has a serial number below the nodes made
pub low : (made : ℕ) (s : State) (k : ℕ) (n : Node) → Orderly made s → s.nodes k ≡ Some n → k < made
low made s k n O e = ⊎_elim (λ l. l) (λ h. absurd (none_some (sym (O.unborn k (omega arith)) ∙ e))) (cases_lt k made)

some_is : (x : Option Node) (n : Node) → x ≡ Some n → is_some x ≡ true
some_is None n e = absurd (none_some e)
some_is (Some y) n e = refl

-- nodes that were there are there when one is put
put_there : (nodes : ℕ → Option Node) (j k : ℕ) (n : Node) → is_some (nodes k) ≡ true → is_some (put nodes j (Some n) k) ≡ true
put_there nodes j k n h = at_put (λ x. is_some x ≡ true) nodes j k (Some n) (λ e. refl) (λ e. h)

link_hits : (i side : ℕ) (x : Option ℕ) (n : Node) → side < 2 → node_hits i (Some (with_link side x n)) + hits i (n.links side) ≡ node_hits i (Some n) + hits i x
link_hits i side x n l =
    let a = sum_one 2 side (λ q. hits i (n.links q)) (λ q. hits i (put n.links side x q)) l (λ q h. ap (hits i) (put_other n.links side q x h)) in
    let b : hits i (put n.links side x side) ≡ hits i x = ap (hits i) (put_same n.links side x) in
    omega arith

-- one node written
put_sum : (made i k : ℕ) (nodes : ℕ → Option Node) (n n' : Node) → k < made → nodes k ≡ Some n
    → sum_to made (λ j. node_hits i (put nodes k (Some n') j)) + node_hits i (Some n) ≡ sum_to made (λ j. node_hits i (nodes j)) + node_hits i (Some n')
put_sum made i k nodes n n' l e =
    let a = sum_one made k (λ j. node_hits i (nodes j)) (λ j. node_hits i (put nodes k (Some n') j)) l (λ j h. ap (node_hits i) (put_other nodes k j (Some n') h)) in
    let b : node_hits i (put nodes k (Some n') k) ≡ node_hits i (Some n') = ap (node_hits i) (put_same nodes k (Some n')) in
    let c : node_hits i (nodes k) ≡ node_hits i (Some n) = ap (node_hits i) e in
    omega arith

-- the nodes below one more
pub orderly_more : (made : ℕ) (s : State) → Orderly made s → Orderly (suc made) s
orderly_more made s O = record {
  counted = λ i. let a : node_hits i (s.nodes made) ≡ 0 = ap (node_hits i) (O.unborn made (omega arith)) in let b = O.counted i in omega arith;
  few = O.few;
  unborn = λ k l. O.unborn k (omega arith);
  rooted = O.rooted;
  linked = O.linked;
}

pub orderly_root : (made : ℕ) (s : State) (i : ℕ) (x : Option ℕ) → Orderly made s → i < 3 → Present s x → names_of (renamed s.names (s.roots i) x) x ≤ 2 → Orderly made (root_set s i x)
orderly_root made s i x O l p q = record {
  counted = λ k.
      let a = sum_one 3 i (λ j. hits k (s.roots j)) (λ j. hits k (put s.roots i x j)) l (λ j h. ap (hits k) (put_other s.roots i j x h)) in
      let b : hits k (put s.roots i x i) ≡ hits k x = ap (hits k) (put_same s.roots i x) in
      let c = O.counted k in omega arith;
  few = renamed_few s.names (s.roots i) x O.few q;
  unborn = O.unborn;
  rooted = λ j k h. at_put (λ y. y ≡ Some k → is_some (s.nodes k) ≡ true) s.roots i j x (λ e. p k) (λ e. O.rooted j k h);
  linked = O.linked;
}

pub orderly_link : (made : ℕ) (s : State) (j : ℕ) (n : Node) (side : ℕ) (x : Option ℕ) → Orderly made s → side < 2 → s.nodes j ≡ Some n → Present s x → names_of (renamed s.names (n.links side) x) x ≤ 2 → Orderly made (link_set s j n side x)
orderly_link made s j n side x O z e p q = record {
  counted = λ i.
      let a = put_sum made i j s.nodes n (with_link side x n) (low made s j n O e) e in
      let b = link_hits i side x n z in
      let c = O.counted i in omega arith;
  few = renamed_few s.names (n.links side) x O.few q;
  unborn = λ k l. let h = low made s j n O e in put_other s.nodes j k (Some (with_link side x n)) (λ g. omega arith) ∙ O.unborn k l;
  rooted = λ i k l g. put_there s.nodes j k (with_link side x n) (O.rooted i k l g);
  linked = λ i n1 q1 k l. at_put (λ y. y ≡ Some n1 → n1.links q1 ≡ Some k → is_some (put s.nodes j (Some (with_link side x n)) k) ≡ true) s.nodes j i (Some (with_link side x n))
      (λ _ f g. put_there s.nodes j k (with_link side x n)
      (at_put (λ y. y ≡ Some k → is_some (s.nodes k) ≡ true) n.links side q1 x (λ _. p k) (λ _. O.linked j n q1 k l e) (ap (λ (y : Node). y.links q1) (some_same f) ∙ g)))
      (λ _ f g. put_there s.nodes j k (with_link side x n) (O.linked i n1 q1 k l f g));
}

pub orderly_number : (made : ℕ) (s : State) (j field x : ℕ) (n : Node) → Orderly made s → s.nodes j ≡ Some n → Orderly made (node_set s j (with_number field x n))
orderly_number made s j field x n O e = record {
  counted = λ i. let a = put_sum made i j s.nodes n (with_number field x n) (low made s j n O e) e in let c = O.counted i in omega arith;
  few = O.few;
  unborn = λ k g. let h = low made s j n O e in put_other s.nodes j k (Some (with_number field x n)) (λ z. omega arith) ∙ O.unborn k g;
  rooted = λ i k g f. put_there s.nodes j k (with_number field x n) (O.rooted i k g f);
  linked = λ i n1 q1 k l. at_put (λ y. y ≡ Some n1 → n1.links q1 ≡ Some k → is_some (put s.nodes j (Some (with_number field x n)) k) ≡ true) s.nodes j i (Some (with_number field x n))
      (λ _ f g. put_there s.nodes j k (with_number field x n) (O.linked j n q1 k l e (ap (λ (y : Node). y.links q1) (some_same f) ∙ g)))
      (λ _ f g. put_there s.nodes j k (with_number field x n) (O.linked i n1 q1 k l f g));
}

pub orderly_born : (made k v w : ℕ) (s : State) → Orderly made s → Orderly (suc made) (node_set s made (new_node k v w))
orderly_born made k v w s O = record {
  counted = λ i.
      let a = sum_same made (λ j. node_hits i (put s.nodes made (Some (new_node k v w)) j)) (λ j. node_hits i (s.nodes j)) (λ j l. ap (node_hits i) (put_other s.nodes made j (Some (new_node k v w)) (λ e. omega arith))) in
      let b : node_hits i (put s.nodes made (Some (new_node k v w)) made) ≡ 0 = ap (node_hits i) (put_same s.nodes made (Some (new_node k v w))) in
      let c = O.counted i in omega arith;
  few = O.few;
  unborn = λ j g. put_other s.nodes made j (Some (new_node k v w)) (λ z. omega arith) ∙ O.unborn j (omega arith);
  rooted = λ i j g f. put_there s.nodes made j (new_node k v w) (O.rooted i j g f);
  linked = λ i n1 q1 j l. at_put (λ y. y ≡ Some n1 → n1.links q1 ≡ Some j → is_some (put s.nodes made (Some (new_node k v w)) j) ≡ true) s.nodes made i (Some (new_node k v w))
      (λ _ f g. absurd (none_some (ap (λ (y : Node). y.links q1) (some_same f) ∙ g)))
      (λ _ f g. put_there s.nodes made j (new_node k v w) (O.linked i n1 q1 j l f g));
}

put_some : (nodes : ℕ → Option Node) (j k : ℕ) (n n' : Node) → nodes j ≡ Some n → is_some (put nodes j (Some n') k) ≡ is_some (nodes k)
put_some nodes j k n n' e = at_put (λ x. is_some x ≡ is_some (nodes k)) nodes j k (Some n') (λ f. sym (some_is (nodes k) n (ap nodes (sym f) ∙ e))) (λ h. refl)

pub entered_state : (m : Memory) (v w : ℕ) → state_of (entered m v) w ≡ state_of m w
entered_state m v w = at_state (λ s. s ≡ state_of m w) v w (state_of m v) (state_of m w) (λ e. ap (state_of m) e) (λ h. refl)

pub opened_state : (m : Memory) (a v : ℕ) → (v ≡ m.rest.versions → ⊥) → state_of (opened m a) v ≡ state_of m v
opened_state m a v h = ap (λ s. cond (eqb m.rest.working v) m.state s) (put_other m.rest.others m.rest.versions v (state_of m a) (λ e. h (sym e)))

pub opened_new : (m : Memory) (a : ℕ) → m.rest.working < m.rest.versions → state_of (opened m a) m.rest.versions ≡ state_of m a
opened_new m a l =
    let e = eq_false m.rest.working m.rest.versions (λ e. omega arith) in
    rw e (put_same m.rest.others m.rest.versions (state_of m a))

-- a write counts as one change
pub one_more : (kind : Kind) (m : Memory) (s : State) → changed (written kind m s) ≡ changed m + 1
one_more of_link m s = omega arith
one_more of_number m s = omega arith

-- a change of the working state that keeps its nodes
sound_state : (kind : Kind) (m : Memory) (s : State) → Sound m → Free m → Orderly m.made s → ((k : ℕ) → is_some (s.nodes k) ≡ is_some (m.state.nodes k)) → Sound (written kind m s)
sound_state kind m s S F O e = record {
  states = λ v l. at_state (Orderly m.made) m.rest.working v s (m.rest.others v) (λ _. O) (λ h. there S v l h);
  held = λ r k l g. e k ∙ S.held r k l g;
  writes = S.writes;
  works = S.works;
  drafts = S.drafts;
  few_nodes = S.few_nodes;
  few_changes = let l = F.left in let z = one_more kind m s in omega arith;
  nodes = λ v k l. at_state (λ t. is_some (t.nodes k) ≡ cond (ltb k m.made) (member (m.rest.paths v) (m.birth k)) false) m.rest.working v s (m.rest.others v)
      (λ f. e k ∙ (rw (eq_true m.rest.working v f) at (S.nodes v k l)))
      (λ h. rw (eq_false m.rest.working v h) at (S.nodes v k l));
  births = S.births;
  own = S.own;
  known = S.known;
  leaf = S.leaf;
}

sound_reg : (m : Memory) (r : ℕ) (x : Option ℕ) → Sound m → Present m.state x → Sound (with_reg m r x)
sound_reg m r x S p = record {
  states = S.states;
  held = λ q k l. at_put (λ y. y ≡ Some k → is_some (m.state.nodes k) ≡ true) m.regs r q x (λ e. p k) (λ e. S.held q k l);
  writes = S.writes;
  works = S.works;
  drafts = S.drafts;
  few_nodes = S.few_nodes;
  few_changes = S.few_changes;
  nodes = S.nodes;
  births = S.births;
  own = S.own;
  known = S.known;
  leaf = S.leaf;
}

-- where a new node is, in a version that had it not
draft_is : (x : Option ℕ) (v : ℕ) → is_draft x v ≡ true → x ≡ Some v
draft_is None v e = let z : ◌≡◌ {A = ℕ} 0 1 = cc in let y : ⊥ = omega arith in absurd y
draft_is (Some d) v e = ap Some (eq_from d v e)

pub writes_draft : {m : Memory} → Sound m → m.writable ≡ true → m.rest.draft ≡ Some m.rest.working
writes_draft {m = m} S w = draft_is m.rest.draft m.rest.working (sym S.writes ∙ w)

bool_false : (b : Bool) → (b ≡ true → ⊥) → b ≡ false
bool_false true h = absurd (h refl)
bool_false false h = refl

-- the nodes of the working version, and of another
born_here : (nodes : ℕ → Option Node) (made w : ℕ) (birth : ℕ → ℕ) (path : List ℕ) (n : Node) → member path w ≡ true → (k : ℕ) → is_some (nodes k) ≡ cond (ltb k made) (member path (birth k)) false
    → is_some (put nodes made (Some n) k) ≡ cond (ltb k (suc made)) (member path (put birth made w k)) false
born_here nodes made w birth path n h k e =
    ⊎_elim
    (λ (f : made ≡ k). let l : k < suc made = omega arith in rw (eq_true made k f) (rw (lt_true k (suc made) l) (sym h)))
    (λ (f : made ≡ k → ⊥). rw (eq_false made k f)
    (⊎_elim (λ (l : k < made). let l' : k < suc made = omega arith in rw (lt_true k (suc made) l') (rw (lt_true k made l) at e))
    (λ (l : made ≤ k). let l' : suc made ≤ k = omega arith in let l'' : made ≤ k = omega arith in rw (lt_false k (suc made) l') (rw (lt_false k made l'') at e))
    (cases_lt k made)))
    (cases_eq made k)

born_else : (nodes : ℕ → Option Node) (made w : ℕ) (birth : ℕ → ℕ) (path : List ℕ) → member path w ≡ false → (k : ℕ) → is_some (nodes k) ≡ cond (ltb k made) (member path (birth k)) false
    → is_some (nodes k) ≡ cond (ltb k (suc made)) (member path (put birth made w k)) false
born_else nodes made w birth path h k e =
    ⊎_elim
    (λ (f : made ≡ k). let l : k < suc made = omega arith in let l'' : made ≤ k = omega arith in rw (eq_true made k f) (rw (lt_true k (suc made) l) (rw h (rw (lt_false k made l'') at e))))
    (λ (f : made ≡ k → ⊥). rw (eq_false made k f)
    (⊎_elim (λ (l : k < made). let l' : k < suc made = omega arith in rw (lt_true k (suc made) l') (rw (lt_true k made l) at e))
    (λ (l : made ≤ k). let l' : suc made ≤ k = omega arith in let l'' : made ≤ k = omega arith in rw (lt_false k (suc made) l') (rw (lt_false k made l'') at e))
    (cases_lt k made)))
    (cases_eq made k)

sound_born : (m : Memory) (r k v w : ℕ) → Sound m → m.writable ≡ true → m.made < m.node_limit → Sound (born m r (new_node k v w))
sound_born m r k v w S e l =
    let d = writes_draft S e in record {
      states = λ q h. at_state (Orderly (suc m.made)) m.rest.working q (node_set m.state m.made (new_node k v w)) (m.rest.others q)
          (λ _. orderly_born m.made k v w m.state (here S)) (λ g. orderly_more m.made (m.rest.others q) (there S q h g));
      held = λ q j h. at_put (λ y. y ≡ Some j → is_some (put m.state.nodes m.made (Some (new_node k v w)) j) ≡ true) m.regs r q (Some m.made)
          (λ _ f. at_put (λ x. is_some x ≡ true) m.state.nodes m.made j (Some (new_node k v w)) (λ g. refl) (λ g. absurd (g (some_same f))))
          (λ _ f. put_there m.state.nodes m.made j (new_node k v w) (S.held q j h f));
      writes = S.writes;
      works = S.works;
      drafts = S.drafts;
      few_nodes = omega arith;
      few_changes = S.few_changes;
      nodes = λ q j h. at_state (λ t. is_some (t.nodes j) ≡ cond (ltb j (suc m.made)) (member (m.rest.paths q) (put m.birth m.made m.rest.working j)) false) m.rest.working q
          (node_set m.state m.made (new_node k v w)) (m.rest.others q)
          (λ f. born_here m.state.nodes m.made m.rest.working m.birth (m.rest.paths q) (new_node k v w)
          (ap (λ u. member (m.rest.paths q) u) f ∙ S.own q h) j (rw (eq_true m.rest.working q f) at (S.nodes q j h)))
          (λ f. born_else (m.rest.others q).nodes m.made m.rest.working m.birth (m.rest.paths q)
          (bool_false (member (m.rest.paths q) m.rest.working) (λ g. f (sym (S.leaf m.rest.working q d h g)))) j (rw (eq_false m.rest.working q f) at (S.nodes q j h)));
      births = λ j h. at_put (λ x. x < m.rest.versions) m.birth m.made j m.rest.working (λ f. S.works) (λ f. S.births j (omega arith));
      own = S.own;
      known = S.known;
      leaf = S.leaf;
    }

sound_enter : (m : Memory) (v : ℕ) → Sound m → v < m.rest.versions → Sound (entered m v)
sound_enter m v S l = record {
  states = λ w h. subst (Orderly m.made) (sym (entered_state m v w)) (S.states w h);
  held = λ r k h e. absurd (none_some e);
  writes = refl;
  works = l;
  drafts = S.drafts;
  few_nodes = S.few_nodes;
  few_changes = S.few_changes;
  nodes = λ w k h. ap (λ s. is_some (s.nodes k)) (entered_state m v w) ∙ S.nodes w k h;
  births = S.births;
  own = S.own;
  known = S.known;
  leaf = S.leaf;
}

member_front : (x a : ℕ) (xs : List ℕ) → member (x ∷ xs) a ≡ true → (x ≡ a) ⊎ (member xs a ≡ true)
member_front x a xs h = ⊎_elim (λ e. inl e) (λ f. inr (rw (eq_false x a f) at h)) (cases_eq x a)

member_later : (x a : ℕ) (xs : List ℕ) → (x ≡ a → ⊥) → member (x ∷ xs) a ≡ member xs a
member_later x a xs h = rw (eq_false x a h) refl

-- the birth of a node is at a known version, or its version has it not
opened_nodes : (made versions k : ℕ) (birth : ℕ → ℕ) (path : List ℕ) → (member path versions ≡ true → ⊥) → (b : Bool) → b ≡ cond (ltb k made) (member path (birth k)) false
    → (k < made → birth k ≡ versions → ⊥) → b ≡ cond (ltb k made) (member (versions ∷ path) (birth k)) false
opened_nodes made versions k birth path h b e g =
    ⊎_elim
    (λ (l : k < made). rw (lt_true k made l) ((rw (lt_true k made l) at e) ∙ sym (member_later versions (birth k) path (λ f. g l (sym f)))))
    (λ (l : made ≤ k). rw (lt_false k made l) (rw (lt_false k made l) at e))
    (cases_lt k made)

sound_open : (m : Memory) (a : ℕ) → Sound m → m.rest.draft ≡ None → a < m.rest.versions → Sound (opened m a)
sound_open m a S e l =
    let n = m.rest.versions in
    let old : (v : ℕ) → (v ≡ n → ⊥) → put m.rest.paths n (n ∷ m.rest.paths a) v ≡ m.rest.paths v = λ v h. put_other m.rest.paths n v (n ∷ m.rest.paths a) (λ f. h (sym f)) in
    let new : put m.rest.paths n (n ∷ m.rest.paths a) n ≡ n ∷ m.rest.paths a = put_same m.rest.paths n (n ∷ m.rest.paths a) in
    let unknown : (v : ℕ) → v < n → member (m.rest.paths v) n ≡ true → ⊥ = λ v h f. let z = S.known v n h f in omega arith in
    let split : (v : ℕ) → v < n + 1 → (v ≡ n) ⊎ ((v ≡ n → ⊥) × (v < n)) = λ v h. ⊎_elim (λ (f : v ≡ n). inl f) (λ (f : v ≡ n → ⊥). inr (f, omega arith)) (cases_eq v n) in
    record {
      states = λ v h. ⊎_elim
          (λ (f : v ≡ n). subst (λ u. Orderly m.made (state_of (opened m a) u)) (sym f) (subst (Orderly m.made) (sym (opened_new m a S.works)) (S.states a l)))
          (λ (g : (v ≡ n → ⊥) × (v < n)). subst (Orderly m.made) (sym (opened_state m a v g.0)) (S.states v g.1))
          (split v h);
      held = S.held;
      writes = sym (eq_false n m.rest.working (λ f. let z = S.works in omega arith));
      works = let z = S.works in omega arith;
      drafts = λ v f. let g = some_same f in omega arith;
      few_nodes = S.few_nodes;
      few_changes = S.few_changes;
      nodes = λ v k h. ⊎_elim
          (λ (f : v ≡ n). subst (λ u. is_some ((state_of (opened m a) u).nodes k) ≡ cond (ltb k m.made) (member (put m.rest.paths n (n ∷ m.rest.paths a) u) (m.birth k)) false) (sym f)
          (subst (λ p. is_some ((state_of (opened m a) n).nodes k) ≡ cond (ltb k m.made) (member p (m.birth k)) false) (sym new)
          (opened_nodes m.made n k m.birth (m.rest.paths a) (unknown a l) (is_some ((state_of (opened m a) n).nodes k))
          (ap (λ s. is_some (s.nodes k)) (opened_new m a S.works) ∙ S.nodes a k l) (λ q r. let z = S.births k q in omega arith))))
          (λ (g : (v ≡ n → ⊥) × (v < n)). subst (λ p. is_some ((state_of (opened m a) v).nodes k) ≡ cond (ltb k m.made) (member p (m.birth k)) false) (sym (old v g.0))
          (ap (λ s. is_some (s.nodes k)) (opened_state m a v g.0) ∙ S.nodes v k g.1))
          (split v h);
      births = λ k h. let z = S.births k h in omega arith;
      own = λ v h. ⊎_elim
          (λ (f : v ≡ n). subst (λ u. member (put m.rest.paths n (n ∷ m.rest.paths a) u) u ≡ true) (sym f) (subst (λ p. member p n ≡ true) (sym new) (member_here n (m.rest.paths a))))
          (λ (g : (v ≡ n → ⊥) × (v < n)). subst (λ p. member p v ≡ true) (sym (old v g.0)) (S.own v g.1))
          (split v h);
      known = λ v w h f. ⊎_elim
          (λ (g : v ≡ n).
          let f' : member (n ∷ m.rest.paths a) w ≡ true = subst (λ p. member p w ≡ true) new (subst (λ u. member (put m.rest.paths n (n ∷ m.rest.paths a) u) w ≡ true) g f) in
          ⊎_elim (λ (q : n ≡ w). omega arith) (λ (q : member (m.rest.paths a) w ≡ true). let z = S.known a w l q in omega arith) (member_front n w (m.rest.paths a) f'))
          (λ (g : (v ≡ n → ⊥) × (v < n)). let z = S.known v w g.1 (subst (λ p. member p w ≡ true) (old v g.0) f) in omega arith)
          (split v h);
      leaf = λ d v q h f. ⊎_elim
          (λ (g : v ≡ n). g ∙ some_same q)
          (λ (g : (v ≡ n → ⊥) × (v < n)).
          absurd (unknown v g.1 (subst (λ u. member (m.rest.paths v) u ≡ true) (sym (some_same q)) (subst (λ p. member p d ≡ true) (old v g.0) f))))
          (split v h);
    }

sound_close : (m : Memory) → Sound m → Sound (closed m)
sound_close m S = record {
  states = S.states;
  held = S.held;
  writes = refl;
  works = S.works;
  drafts = λ v e. absurd (none_some e);
  few_nodes = S.few_nodes;
  few_changes = S.few_changes;
  nodes = S.nodes;
  births = S.births;
  own = S.own;
  known = S.known;
  leaf = λ d v e. absurd (none_some e);
}

sound_each : (m : Memory) → Sound m → Each Sound m
sound_each m S = record {
  lower = record {
    stays = S;
    register = λ r x l p. sound_reg m r x S p;
    makes = λ r k v w l e h. sound_born m r k v w S e h;
    saves = λ i x l p F q. sound_state of_link m (root_set m.state i x) S F (orderly_root m.made m.state i x (here S) l p q) (λ k. refl);
    links = λ j side n x z e p F q. sound_state of_link m (link_set m.state j n side x) S F (orderly_link m.made m.state j n side x (here S) z e p q) (λ k. put_some m.state.nodes j k n (with_link side x n) e);
    numbers = λ j field x n e F. sound_state of_number m (node_set m.state j (with_number field x n)) S F (orderly_number m.made m.state j field x n (here S) e) (λ i. put_some m.state.nodes j i n (with_number field x n) e);
  };
  opens = λ a e l. sound_open m a S e l;
  enters = λ v l. sound_enter m v S l;
  closes = sound_close m S;
}

-- every call keeps a memory sound
pub stays_sound : (c : Call) (m : Memory) → Sound m → Sound (after c m)
stays_sound c m S = each Sound m S (sound_each m S) c

empty_orderly : Orderly 0 empty_state
empty_orderly = record { counted = λ i. refl; few = λ i. omega arith; unborn = λ k l. refl; rooted = λ i k l e. absurd (none_some e); linked = λ j n side k l e f. absurd (none_some e) }

empty_states : (v w : ℕ) → Orderly 0 (cond (eqb w v) empty_state empty_state)
empty_states v w = at_state (Orderly 0) w v empty_state empty_state (λ e. empty_orderly) (λ e. empty_orderly)

empty_nodes : (v w k : ℕ) (b : Bool) → is_some ((cond {A = State} (eqb w v) empty_state empty_state).nodes k) ≡ cond (ltb k 0) b false
empty_nodes v w k b = let z = lt_false k 0 (omega arith) in rw z (at_state (λ (s : State). is_some (s.nodes k) ≡ false) w v empty_state empty_state (λ e. refl) (λ e. refl))

below_none : (k : ℕ) → k < 0 → ⊥
below_none k l = omega arith

pub fresh_sound : (n c : ℕ) → Sound (fresh n c)
fresh_sound n c = record {
  states = λ v l. empty_states v 0;
  held = λ r k l e. absurd (none_some e);
  writes = refl;
  works = omega arith;
  drafts = λ v e. absurd (none_some e);
  few_nodes = omega arith;
  few_changes = omega arith;
  nodes = λ v k l. empty_nodes v 0 k _;
  births = λ k l. absurd (below_none k l);
  own = λ v l. let z : v ≡ 0 = omega arith in rw (eq_true 0 v (sym z)) refl;
  known = λ v w l e. ⊎_elim (λ (f : 0 ≡ w). omega arith) (λ (f : member [] w ≡ true). absurd (bool_not f)) (member_front 0 w [] e);
  leaf = λ d v e. absurd (none_some e);
}
  where
    bool_not : ◌≡◌ {A = Bool} false true → ⊥
    bool_not e = let z : ◌≡◌ {A = ℕ} 0 1 = cc in omega arith

pub single_sound : (n c : ℕ) → Sound (fresh_single n c)
single_sound n c = record {
  states = λ v l. empty_states v 0;
  held = λ r k l e. absurd (none_some e);
  writes = refl;
  works = omega arith;
  drafts = λ v e. let z = some_same e in omega arith;
  few_nodes = omega arith;
  few_changes = omega arith;
  nodes = λ v k l. empty_nodes v 0 k _;
  births = λ k l. absurd (below_none k l);
  own = λ v l. let z : v ≡ 0 = omega arith in rw (eq_true 0 v (sym z)) refl;
  known = λ v w l e. ⊎_elim (λ (f : 0 ≡ w). omega arith) (λ (f : member [] w ≡ true). absurd (bool_not f)) (member_front 0 w [] e);
  leaf = λ d v e l f. let z = some_same e in omega arith;
}
  where
    bool_not : ◌≡◌ {A = Bool} false true → ⊥
    bool_not e = let z : ◌≡◌ {A = ℕ} 0 1 = cc in omega arith

pub runs_sound : (cs : List Call) (m : Memory) → Sound m → Sound (run_of cs m)
unfolding run_of
runs_sound [] m S = S
runs_sound (c ∷ cs) m S = runs_sound cs (after c m) (stays_sound c m S)
