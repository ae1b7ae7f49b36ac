-- The calls that write, and splits: a splitting memory is left as the abstract memory is.
use Rattle.std.proofs.Common.{◌≡◌, ℕ, suc, ◌+◌, ◌<◌, Bool, true, false, cond, ltb, leb, List, [], ◌∷◌, is_some, Some, None, Option, sym, refl, ap, ◌∙◌, subst, inl, inr, arith}
use Rattle.std.proofs.lemmas.Bool.{cases_lt, cases_eq, eq-eqb, ne_eqb}
use Rattle.refusals.specs.declared.kinds.MemoryRefusal.TheVariants.{OutOfRange, OutsideDraft, ChangesSpent, NodesSpent, ThirdName}
use Rattle.fields.specs.declared.kinds.Value.{Value}
use Rattle.fields.specs.declared.kinds.Value.TheVariants.{Number, Nil, To}
use Rattle.fields.specs.Fields.{number, HasLink}
use Rattle.order.specs.Items.{position, following}
use Rattle.memory.specs.Memory.{Node, State, Memory, changed, with_number, new_node, names_of, renamed, state_of, is_draft, Orderly, Sound}
use Rattle.memory.specs.Steps.{Done, done, written, of_link, of_number, root_set, link_set, node_set, born, make_of, save_of, link_of, set_number_of}
use Rattle.memory.specs.Calls.{left, after}
use Rattle.memory.specs.Calls.Call.{Make, Save, Link, SetNumber}
use Rattle.memory.specs.Effects.{Free}
use Rattle.memory.proofs.Each.{here}
use Rattle.memory.proofs.Kept.{stays_sound, orderly_root, orderly_link}
use Rattle.memory.proofs.Accepted.{make_done, save_done, link_done, set_number_done}
use Rattle.memory.proofs.Numbers.{le_from, none_some}
use Rattle.slices.specs.Slices.{swap}
use Rattle.slices.specs.Copies.{Copy, Copies, Serves, serving}
use Rattle.slices.proofs.Serving.{lt_is}
use Rattle.slices.proofs.Bearing.{make_sound}
use Rattle.states.specs.Relinks.{not, slice, relinked, write, crowded, LinkTarget}
use Rattle.states.specs.Nodes.{NodeState, by_serial, with_node, wrote, Held}
use Rattle.states.specs.Listed.{TwoNames, next_of}
use Rattle.states.proofs.Relinking.{relink_sound, set_number-sound}
use Rattle.states.proofs.Meaning.{set_all-serial, split_register}
use Rattle.states.proofs.Listing.{behind_listed, third_link}
use Rattle.space.specs.Space.{split_version}
use Rattle.space.specs.Runs.Move.{making, linking, numbering, splitting}
use Rattle.space.proofs.Counting.{split_version_fits}
use Rattle.space.proofs.Running.{step_keeps, kept_spaced, set_all-made}
use Rattle.meaning.specs.Tables.{Splitting, naming, room_for, made, number_set, make_in, save_in, link_in, set_number_in, split_in, renamed_reg}
use Rattle.meaning.specs.Tables.{link_set as link_set_in}
use Rattle.meaning.specs.Meaning.{ref, graph_has, graph_of, world_of, RegisterHolds, Stands, Agrees, WritesAgree, SplitStands, StandsSpaced}
use Rattle.meaning.proofs.Graphs.{Alike, states_at, kept_alike, born_alike, link_alike, number_alike, root_alike}
use Rattle.meaning.proofs.Names.{third_test}
use Rattle.meaning.proofs.Reading.{agree_check, agree_node, works_here, state_here, shows_here, root_serves, node_held}

-- registers over copies that serve and are numbered as before
register_moved : (xs : List ℕ) (M D : Copies) (w : ℕ) → ((i : ℕ) → Serves (position xs) M (position xs w) i → Serves (position xs) D (position xs w) i × ((D.copy i).serial ≡ (M.copy i).serial))
    → (a b : Option ℕ) → RegisterHolds xs M w a b → RegisterHolds xs D w a b
register_moved xs M D w k None None h = tt
register_moved xs M D w k None (Some t) h = absurd h
register_moved xs M D w k (Some i) None h = absurd h
register_moved xs M D w k (Some i) (Some t) h = let q = k i h.0 in (q.0, q.1 ∙ h.1)

-- what is asked before a write
draft_same : (xs : List ℕ) (T : Splitting) (m : Memory) → Stands xs T m → is_draft T.draft T.working ≡ m.writable
draft_same xs T m S = ap (λ (d : Option ℕ). is_draft d T.working) S.draft ∙ (ap (is_draft m.rest.draft) S.working ∙ sym S.sound.writes)

left_same : (xs : List ℕ) (T : Splitting) (m : Memory) → Stands xs T m → ltb (T.linked + T.numbered) T.change_limit ≡ ltb (changed m) m.change_limit
left_same xs T m S =
    ap (λ (n : ℕ). ltb (n + T.numbered) T.change_limit) S.linked ∙ (ap (λ (n : ℕ). ltb (m.linked + n) T.change_limit) S.numbered ∙ ap (ltb (changed m)) S.change_limit)

free : (xs : List ℕ) (T : Splitting) (m : Memory) → Stands xs T m → is_draft T.draft T.working ≡ true → ltb (T.linked + T.numbered) T.change_limit ≡ true → Free m
free xs T m S h k = record { writable = sym (draft_same xs T m S) ∙ h; left = lt_is (changed m) m.change_limit (sym (left_same xs T m S) ∙ k) }

-- make
make_sound_after : (reg key value mark : ℕ) (m m' : Memory) → Sound m → make_of reg key value mark m ≡ done tt m' → Sound m'
unfolding after
make_sound_after reg key value mark m m' S e = subst (λ (d : Done Unit). Sound (left m d)) e (stays_sound (Make reg key value mark) m S)

made_alike : (xs : List ℕ) (T : Splitting) (m : Memory) → Stands xs T m → (key value mark : ℕ)
    → Alike (with_node (suc T.copies.made) key (new_node key value mark).numbers (graph_of (state_of m T.working))) (graph_of (node_set m.state m.made (new_node key value mark)))
made_alike xs T m S key value mark =
    subst (λ (k : ℕ). Alike (with_node (suc k) key (new_node key value mark).numbers (graph_of (state_of m T.working))) (graph_of (node_set m.state m.made (new_node key value mark)))) (sym S.made)
    (subst (λ (s : State). Alike (with_node (suc m.made) key (new_node key value mark).numbers (graph_of s)) (graph_of (node_set m.state m.made (new_node key value mark)))) (sym (state_here T m S.working))
    (born_alike m.state m.made key value mark))

made_stands : (xs : List ℕ) (T : Splitting) (m : Memory) → Stands xs T m → (reg key value mark : ℕ) → Sound (born m reg (new_node key value mark))
    → Stands xs (made T reg key (new_node key value mark).numbers) (born m reg (new_node key value mark))
made_stands xs T m S reg key value mark so =
    let h = works_here xs T m S in
    let W = world_of xs T m S.splits in
    let numbers = (new_node key value mark).numbers in
    let hc : position xs T.working < T.copies.versions = let c = S.kept.counted in omega (arith, h, c) in
    let R = make_sound (position xs) T.copies T.working key (new_node key value mark).numbers S.kept.sound hc in
    record {
      splits = S.splits;
      kept = kept_alike _ (λ v. graph_of (state_of (born m reg (new_node key value mark)) v))
          (λ v _. states_at m (node_set m.state m.made (new_node key value mark)) T.working _ S.working (made_alike xs T m S key value mark) v)
          (step_keeps W (making T.working key (new_node key value mark).numbers) S.kept h);
      sound = so;
      made = ap suc S.made;
      versions = S.versions;
      working = S.working;
      draft = S.draft;
      linked = S.linked;
      numbered = S.numbered;
      node_limit = S.node_limit;
      change_limit = S.change_limit;
      regs = λ r l.
          elim (cases_eq reg r) [
            | inl e ↦ rw (eq-eqb reg r e) (R.3 (position xs T.working) (omega arith) hc, ap (λ (c : Copy). c.serial) R.1 ∙ ap suc S.made)
            | inr n ↦ rw (ne_eqb reg r n)
                (register_moved xs T.copies (made T reg key (new_node key value mark).numbers).copies T.working (λ i sv. (R.4 (position xs T.working) i sv, ap (λ (c : Copy). c.serial) (R.2 i sv.0))) (T.regs r) (m.regs r) (S.regs r l))
          ];
    }

make_agrees : (xs : List ℕ) (T : Splitting) (m : Memory) → Stands xs T m → (reg key value mark : ℕ) → Agrees xs (make_in reg key value mark T) (make_of reg key value mark m)
unfolding make_of
make_agrees xs T m S reg key value mark =
    let room : ltb T.copies.made T.node_limit ≡ ltb m.made m.node_limit = ap (λ (n : ℕ). ltb n T.node_limit) S.made ∙ ap (ltb m.made) S.node_limit in
    agree_check xs (ltb reg 40) (ltb reg 40) OutOfRange _ _ refl (λ h0.
    agree_check xs (is_draft T.draft T.working) m.writable OutsideDraft _ _ (draft_same xs T m S) (λ h1.
    agree_check xs (ltb T.copies.made T.node_limit) (ltb m.made m.node_limit) NodesSpent _ _ room (λ h2.
    record {
      is = (
        refl,
        made_stands xs T m S reg key value mark
            (make_sound_after reg key value mark m _ S.sound
            (make_done reg key value mark m (lt_is reg 40 h0) (sym (draft_same xs T m S) ∙ h1) (lt_is m.made m.node_limit (sym room ∙ h2)))),
      );
    })))

-- what a register's copy is to a link
name_serial : (xs : List ℕ) (M : Copies) (w : ℕ) (a b : Option ℕ) → RegisterHolds xs M w a b → by_serial M (naming a) ≡ ref b
name_serial xs M w None None h = refl
name_serial xs M w None (Some k) h = absurd h
name_serial xs M w (Some i) None h = absurd h
name_serial xs M w (Some i) (Some k) h = ap To h.1

name_target : (xs : List ℕ) (M : Copies) (w : ℕ) → (M.copy 0).serial ≡ 0 → (a b : Option ℕ) → RegisterHolds xs M w a b → LinkTarget (position xs) M w (naming a)
name_target xs M w z None b h = inl refl
name_target xs M w z (Some i) None h = absurd h
name_target xs M w z (Some i) (Some k) h =
    inr (i, refl, h.0, (λ e. let s = h.1 in let q = ap (λ (j : ℕ). (M.copy j).serial) e in omega (arith, s, q, z)))

to_held : (M : Copies) (st : NodeState) (i k : ℕ) → st.has (M.copy i).serial ≡ true → To i ≡ To k → st.has (M.copy k).serial ≡ true
to_held M st i k h e = let q : i ≡ k = cc in subst (λ (j : ℕ). st.has (M.copy j).serial ≡ true) q h

name_held : (xs : List ℕ) (M : Copies) (w : ℕ) (s : State) (a b : Option ℕ) → RegisterHolds xs M w a b → ((k : ℕ) → b ≡ Some k → is_some (s.nodes k) ≡ true) → Held M (graph_of s) (naming a)
name_held xs M w s None b h p k e = absurd (let z : ◌≡◌ {A = ℕ} 0 1 = cc in omega arith)
name_held xs M w s (Some i) None h p k e = absurd h
name_held xs M w s (Some i) (Some t) h p k e = to_held M (graph_of s) i k (ap (graph_has s) h.1 ∙ p t refl) e

-- the third link, over what the register holds: s₀ is the state with nil in place of the link l of the serial number a
room_same : (xs : List ℕ) (T : Splitting) (m : Memory) → Stands xs T m → (i l a : ℕ) (old : Option ℕ) (s₀ : State) → Orderly m.made s₀
    → Serves (position xs) T.copies (position xs T.working) i → (T.copies.copy i).serial ≡ a
    → Alike (wrote a l Nil (graph_of m.state)) (graph_of s₀) → ((t : ℕ) → s₀.names t ≡ renamed m.state.names old None t)
    → (x y : Option ℕ) → RegisterHolds xs T.copies T.working x y
    → room_for xs T i l (naming x) ≡ leb (names_of (renamed m.state.names old y) y) 2
room_same xs T m S i l a old s₀ O sv ser same e None None h = refl
room_same xs T m S i l a old s₀ O sv ser same e None (Some t) h = absurd h
room_same xs T m S i l a old s₀ O sv ser same e (Some j) None h = absurd h
room_same xs T m S i l a old s₀ O sv ser same e (Some j) (Some t) h =
    let C = third_link (position xs) T.copies T.working i l j (graph_of m.state) S.kept.sound (shows_here xs T m S) sv h.0 in
    third_test m.made m.state s₀ O a l t old same (e t) (crowded (slice (position xs) T.working T.copies) i l (To j))
    (λ c. subst (λ (z : ℕ). TwoNames (graph_of m.state) z l (suc t)) ser (subst (λ (z : ℕ). TwoNames (graph_of m.state) (T.copies.copy i).serial l z) h.1 (C.0 c)))
    (λ c. C.1 (subst (λ (z : ℕ). TwoNames (graph_of m.state) (T.copies.copy i).serial l z) (sym h.1) (subst (λ (z : ℕ). TwoNames (graph_of m.state) z l (suc t)) (sym ser) c)))

not-true : (b : Bool) → not b ≡ true → b ≡ false
not-true true h = absurd (let z : ◌≡◌ {A = ℕ} 0 1 = cc in omega arith)
not-true false h = refl

-- the link l of the copy i is set: s' is the state that the abstract memory has then
link_stands : (xs : List ℕ) (T : Splitting) (m : Memory) → Stands xs T m → (i l a : ℕ) (x y : Option ℕ) (s' : State)
    → Serves (position xs) T.copies (position xs T.working) i → (T.copies.copy i).serial ≡ a → HasLink i l → graph_has m.state a ≡ true
    → RegisterHolds xs T.copies T.working x y → ((k : ℕ) → y ≡ Some k → is_some (m.state.nodes k) ≡ true)
    → room_for xs T i l (naming x) ≡ true → Alike (wrote a l (ref y) (graph_of m.state)) (graph_of s') → Sound (written of_link m s')
    → Stands xs (link_set_in xs T i l (naming x)) (written of_link m s')
link_stands xs T m S i l a x y s' sv ser hl hi hr p room same so =
    let pos = position xs in
    let M = T.copies in
    let w = T.working in
    let st = state_here T m S.working in
    let c = not-true (crowded (slice (position xs) T.working T.copies) i l (naming x)) room in
    let tg = name_target xs M w S.kept.sound.shape.root_serial x y hr in
    let has_i : graph_has (state_of m T.working) (T.copies.copy i).serial ≡ true = ap (λ (z : State). graph_has z (T.copies.copy i).serial) st ∙ (ap (graph_has m.state) ser ∙ hi) in
    let held : Held T.copies (graph_of (state_of m T.working)) (naming x) = subst (λ (z : State). Held T.copies (graph_of z) (naming x)) (sym st) (name_held xs M w m.state x y hr p) in
    let al : Alike (wrote (T.copies.copy i).serial l (by_serial T.copies (naming x)) (graph_of (state_of m T.working))) (graph_of s') =
    subst (λ (z : State). Alike (wrote (T.copies.copy i).serial l (by_serial T.copies (naming x)) (graph_of z)) (graph_of s')) (sym st)
    (subst (λ (v : Value). Alike (wrote (T.copies.copy i).serial l v (graph_of m.state)) (graph_of s')) (sym (name_serial xs M w x y hr))
    (subst (λ (z : ℕ). Alike (wrote z l (ref y) (graph_of m.state)) (graph_of s')) (sym ser) same)) in
    let B = behind_listed xs M w S.kept.counted S.kept.distinct (works_here xs T m S) in
    let R = relink_sound pos M w (next_of (following xs T.working)) i l (naming x) S.kept.sound B.1 sv hl tg c in
    record {
      splits = S.splits;
      kept = kept_alike _ (λ v. graph_of (state_of (written of_link m s') v)) (λ v _. states_at m s' T.working _ S.working al v)
          (step_keeps (world_of xs T m S.splits) (linking T.working i l (naming x)) S.kept (sv, hl, tg, has_i, held, c));
      sound = so;
      made = set_all-made_is xs T i l (naming x) ∙ S.made;
      versions = S.versions;
      working = S.working;
      draft = S.draft;
      linked = ap (λ (n : ℕ). n + 1) S.linked;
      numbered = S.numbered;
      node_limit = S.node_limit;
      change_limit = S.change_limit;
      regs = λ r h.
          register_moved xs T.copies (link_set_in xs T i l (naming x)).copies T.working
          (λ j sj. ((R.1 (position xs T.working) j).0 sj, set_all-serial pos w (next_of (following xs T.working)) (serving pos M (suc (pos w))) (relinked (slice pos w M) i l (naming x)) M j))
          (T.regs r) (m.regs r) (S.regs r h);
    }
  where
    set_all-made_is : (xs : List ℕ) (T : Splitting) (i l : ℕ) (v : Value) → (link_set_in xs T i l v).copies.made ≡ T.copies.made
    set_all-made_is xs T i l v = set_all-made (position xs) T.working (next_of (following xs T.working)) (serving (position xs) T.copies (suc (position xs T.working))) (relinked (slice (position xs) T.working T.copies) i l v) T.copies

-- save and link
save_sound : (root reg : ℕ) (m m' : Memory) → Sound m → save_of root reg m ≡ done tt m' → Sound m'
unfolding after
save_sound root reg m m' S e = subst (λ (d : Done Unit). Sound (left m d)) e (stays_sound (Save root reg) m S)

link_sound : (from side reg : ℕ) (m m' : Memory) → Sound m → link_of from side reg m ≡ done tt m' → Sound m'
unfolding after
link_sound from side reg m m' S e = subst (λ (d : Done Unit). Sound (left m d)) e (stays_sound (Link from side reg) m S)

root_link : (r : ℕ) → r < 3 → HasLink 0 r
root_link r l = elim (cases_lt r 2) [ inl h ↦ inl h | inr h ↦ inr (refl, omega (arith, l, h)) ]

save_agrees : (xs : List ℕ) (T : Splitting) (m : Memory) → Stands xs T m → (root reg : ℕ) → Agrees xs (save_in xs root reg T) (save_of root reg m)
unfolding save_of
save_agrees xs T m S root reg =
    agree_check xs (ltb root 3) (ltb root 3) OutOfRange _ _ refl (λ h0.
    agree_check xs (ltb reg 40) (ltb reg 40) OutOfRange _ _ refl (λ h1.
    agree_check xs (is_draft T.draft T.working) m.writable OutsideDraft _ _ (draft_same xs T m S) (λ h2.
    agree_check xs (ltb (T.linked + T.numbered) T.change_limit) (ltb (changed m) m.change_limit) ChangesSpent _ _ (left_same xs T m S) (λ h3.
    let l0 = lt_is root 3 h0 in
    let l1 = lt_is reg 40 h1 in
    let sv = root_serves xs T m S in
    let ser = S.kept.sound.shape.root_serial in
    let O = orderly_root m.made m.state root None (here S.sound) l0 (λ k e. absurd (none_some e)) (omega arith) in
    let room = room_same xs T m S 0 root 0 (m.state.roots root) (root_set m.state root None) O sv ser (root_alike m.state root None l0) (λ t. refl) (T.regs reg) (m.regs reg) (S.regs reg l1) in
    agree_check xs (room_for xs T 0 root (naming (T.regs reg))) (leb (names_of (renamed m.state.names (m.state.roots root) (m.regs reg)) (m.regs reg)) 2) ThirdName _ _ room (λ h4.
    record {
      is = (
        refl,
        link_stands xs T m S 0 root 0 (T.regs reg) (m.regs reg) (root_set m.state root (m.regs reg)) sv ser (root_link root l0) refl (S.regs reg l1)
            (λ k e. S.sound.held reg k l1 e) h4 (root_alike m.state root (m.regs reg) l0)
            (save_sound root reg m _ S.sound (save_done root reg m l0 l1 (free xs T m S h2 h3) (le_from _ 2 (sym room ∙ h4)))),
      );
    })))))

link_agrees : (xs : List ℕ) (T : Splitting) (m : Memory) → Stands xs T m → (from side reg : ℕ) → Agrees xs (link_in xs from side reg T) (link_of from side reg m)
unfolding link_of
link_agrees xs T m S from side reg =
    agree_check xs (ltb from 40) (ltb from 40) OutOfRange _ _ refl (λ h0.
    agree_check xs (ltb side 2) (ltb side 2) OutOfRange _ _ refl (λ h1.
    agree_check xs (ltb reg 40) (ltb reg 40) OutOfRange _ _ refl (λ h2.
    agree_node xs T m S from (lt_is from 40 h0) _ _ (λ i k n sv ser node held.
    agree_check xs (is_draft T.draft T.working) m.writable OutsideDraft _ _ (draft_same xs T m S) (λ h3.
    agree_check xs (ltb (T.linked + T.numbered) T.change_limit) (ltb (changed m) m.change_limit) ChangesSpent _ _ (left_same xs T m S) (λ h4.
    let l1 = lt_is side 2 h1 in
    let l2 = lt_is reg 40 h2 in
    let O = orderly_link m.made m.state k n side None (here S.sound) l1 node (λ j e. absurd (none_some e)) (omega arith) in
    let room = room_same xs T m S i side (suc k) (n.links side) (link_set m.state k n side None) O sv ser (link_alike m.state k n side None node l1) (λ t. refl) (T.regs reg) (m.regs reg) (S.regs reg l2) in
    agree_check xs (room_for xs T i side (naming (T.regs reg))) (leb (names_of (renamed m.state.names (n.links side) (m.regs reg)) (m.regs reg)) 2) ThirdName _ _ room (λ h5.
    record {
      is = (
        refl,
        link_stands xs T m S i side (suc k) (T.regs reg) (m.regs reg) (link_set m.state k n side (m.regs reg)) sv ser (inl l1) (ap (λ (o : Option Node). is_some o) node) (S.regs reg l2)
            (λ j e. S.sound.held reg j l2 e) h5 (link_alike m.state k n side (m.regs reg) node l1)
            (link_sound from side reg m _ S.sound
            (link_done from side reg k n m (record { low = lt_is from 40 h0; names = held; node = node }) l1 l2 (free xs T m S h3 h4) (le_from _ 2 (sym room ∙ h5)))),
      );
    })))))))

-- a number
number_sound : (field reg x : ℕ) (m m' : Memory) → Sound m → set_number_of field reg x m ≡ done tt m' → Sound m'
unfolding after
number_sound field reg x m m' S e = subst (λ (d : Done Unit). Sound (left m d)) e (stays_sound (SetNumber field reg x) m S)

number_stands : (xs : List ℕ) (T : Splitting) (m : Memory) → Stands xs T m → (i k : ℕ) (n : Node) (field x : ℕ)
    → Serves (position xs) T.copies (position xs T.working) i → (T.copies.copy i).serial ≡ suc k → m.state.nodes k ≡ Some n
    → Sound (written of_number m (node_set m.state k (with_number field x n)))
    → Stands xs (number_set xs T i field x) (written of_number m (node_set m.state k (with_number field x n)))
number_stands xs T m S i k n field x sv ser node so =
    let pos = position xs in
    let M = T.copies in
    let w = T.working in
    let s' = node_set m.state k (with_number field x n) in
    let st = state_here T m S.working in
    let ni : i ≡ 0 → ⊥ = λ e. let q = ap (λ (j : ℕ). (T.copies.copy j).serial) e in let z = S.kept.sound.shape.root_serial in omega (arith, ser, q, z) in
    let has_i : graph_has (state_of m T.working) (T.copies.copy i).serial ≡ true = ap (λ (z : State). graph_has z (T.copies.copy i).serial) st ∙ node_held xs T m S i k n sv ser node in
    let al : Alike (wrote (T.copies.copy i).serial (number field) (Number x) (graph_of (state_of m T.working))) (graph_of (node_set m.state k (with_number field x n))) =
    subst (λ (z : State). Alike (wrote (T.copies.copy i).serial (number field) (Number x) (graph_of z)) (graph_of (node_set m.state k (with_number field x n)))) (sym st)
    (subst (λ (z : ℕ). Alike (wrote z (number field) (Number x) (graph_of m.state)) (graph_of (node_set m.state k (with_number field x n)))) (sym ser) (number_alike m.state k n field x node)) in
    let B = behind_listed xs M w S.kept.counted S.kept.distinct (works_here xs T m S) in
    let R = set_number-sound pos M w (next_of (following xs T.working)) i field x S.kept.sound B.1 sv ni in
    record {
      splits = S.splits;
      kept = kept_alike _ (λ v. graph_of (state_of (written of_number m (node_set m.state k (with_number field x n))) v)) (λ v _. states_at m (node_set m.state k (with_number field x n)) T.working _ S.working al v)
          (step_keeps (world_of xs T m S.splits) (numbering T.working i field x) S.kept (sv, ni, has_i));
      sound = so;
      made = S.made;
      versions = S.versions;
      working = S.working;
      draft = S.draft;
      linked = S.linked;
      numbered = ap (λ (j : ℕ). j + 1) S.numbered;
      node_limit = S.node_limit;
      change_limit = S.change_limit;
      regs = λ r h.
          register_moved xs T.copies (number_set xs T i field x).copies T.working
          (λ j sj. ((R.1 (position xs T.working) j).0 sj, set_all-serial pos w (next_of (following xs T.working)) (serving pos M (suc (pos w))) (write i (number field) (Number x) ∷ []) M j))
          (T.regs r) (m.regs r) (S.regs r h);
    }

number_agrees : (xs : List ℕ) (T : Splitting) (m : Memory) → Stands xs T m → (field reg x : ℕ) → Agrees xs (set_number_in xs field reg x T) (set_number_of field reg x m)
unfolding set_number_of
number_agrees xs T m S field reg x =
    agree_check xs (ltb reg 40) (ltb reg 40) OutOfRange _ _ refl (λ h0.
    agree_node xs T m S reg (lt_is reg 40 h0) _ _ (λ i k n sv ser node held.
    agree_check xs (is_draft T.draft T.working) m.writable OutsideDraft _ _ (draft_same xs T m S) (λ h1.
    agree_check xs (ltb (T.linked + T.numbered) T.change_limit) (ltb (changed m) m.change_limit) ChangesSpent _ _ (left_same xs T m S) (λ h2.
    record {
      is = (
        refl,
        number_stands xs T m S i k n field x sv ser node
            (number_sound field reg x m _ S.sound
            (set_number_done field reg x k n m (record { low = lt_is reg 40 h0; names = held; node = node }) (free xs T m S h1 h2))),
      );
    }))))

pub writes_agree : WritesAgree
writes_agree xs T m S = (make_agrees xs T m S, save_agrees xs T m S, link_agrees xs T m S, number_agrees xs T m S)

-- a split
register_split : (xs : List ℕ) (M D : Copies) (w c d : ℕ) (later : Bool)
    → ((r : ℕ) → Serves (position xs) M (position xs w) r → Serves (position xs) D (position xs w) (cond later (swap c d r) r) × ((D.copy (cond later (swap c d r) r)).serial ≡ (M.copy r).serial))
    → (a b : Option ℕ) → RegisterHolds xs M w a b → RegisterHolds xs D w (renamed_reg later c d a) b
register_split xs M D w c d later k None None h = tt
register_split xs M D w c d later k None (Some t) h = absurd h
register_split xs M D w c d later k (Some r) None h = absurd h
register_split xs M D w c d later k (Some r) (Some t) h = let q = k r h.0 in (q.0, q.1 ∙ h.1)

pub split_stands : SplitStands
split_stands xs T m c S nc hc big =
    let pos = position xs in
    let M = T.copies in
    let x = split_version M c in
    let fit = split_version_fits pos M c S.kept.sound hc big in
    record {
      splits = S.splits + 1;
      kept = step_keeps (world_of xs T m S.splits) (splitting c) S.kept (nc, hc, big);
      sound = S.sound;
      made = S.made;
      versions = S.versions;
      working = S.working;
      draft = S.draft;
      linked = S.linked;
      numbered = S.numbered;
      node_limit = S.node_limit;
      change_limit = S.change_limit;
      regs = λ r l.
          register_split xs M (split_in xs c T).copies T.working c M.total (leb (pos x) (pos T.working))
          (λ q sq. split_register pos M c x S.kept.sound nc fit.0 fit.1 (pos T.working) q sq) (T.regs r) (m.regs r) (S.regs r l);
    }

pub stands_spaced : StandsSpaced
stands_spaced xs T m S =
    let K = (kept_spaced (world_of xs T m S.splits) S.kept).0 in
    let a = K.few_copies in let b = K.few_entries in
    let g = S.made in let h = S.linked in let i = S.numbered in
    (record { few_copies = omega (arith, a, g, h, i); few_entries = omega (arith, b, h, i) }, omega (arith, a, g, h, i), omega (arith, b, h, i))
