-- The calls on versions, and the fresh memory.
use Rattle.std.proofs.Common.{◌≡◌, ℕ, zero, suc, ◌<◌, Bool, true, false, eqb, ltb, List, length, Some, None, Option, sym, refl, ap, ◌∙◌, subst, inl, inr, le_refl, arith}
use Rattle.std.proofs.lemmas.Bool.{cases_Bool, cases_eq, eq-eqb, ne_eqb, lt-ltb, le-ltb}
use Rattle.refusals.specs.declared.kinds.OrderRefusal.TheVariants.{UnknownItem, Full}
use Rattle.refusals.specs.declared.kinds.MemoryRefusal.{MemoryRefusal}
use Rattle.refusals.specs.declared.kinds.MemoryRefusal.TheVariants.{DraftOpen, NoDraft, Order}
use Rattle.order.specs.Items.{position, behind}
use Rattle.memory.specs.Memory.{Memory, put, state_of, empty_state, fresh, Sound}
use Rattle.memory.specs.Steps.{Done, done, is_nil, is_held, opened, entered, open_of, enter_of, close_of}
use Rattle.memory.specs.Steps.{check as check_of}
use Rattle.memory.specs.Calls.{left, after}
use Rattle.memory.specs.Calls.Call.{Open, Enter, Close}
use Rattle.memory.proofs.Kept.{stays_sound, fresh_sound, entered_state, opened_state, opened_new}
use Rattle.memory.proofs.Accepted.{open_done, enter_done, close_done}
use Rattle.slices.specs.Copies.{Copies, Serves}
use Rattle.slices.specs.Openings.{up, down}
use Rattle.slices.specs.Openings.{opened as opened_copies}
use Rattle.slices.proofs.Serving.{lt_is}
use Rattle.slices.proofs.Opening.{open_sound, down_up}
use Rattle.states.proofs.Places.{positions_stand, member_far}
use Rattle.space.specs.Runs.{fresh_state}
use Rattle.space.specs.Runs.Move.{opening}
use Rattle.space.proofs.Running.{step_keeps, fresh_kept}
use Rattle.meaning.specs.Tables.{Splitting, Step, check, with_draft, open_in, enter_in, close_in}
use Rattle.meaning.specs.Meaning.{graph_of, world_of, RegisterHolds, Stands, Agrees, items_of, FreshStands, VersionsAgree}
use Rattle.meaning.proofs.Graphs.{Alike, alike_self, kept_alike}
use Rattle.meaning.proofs.Reading.{agree_check, works_here}

-- the fresh memory
fresh_alike : Alike fresh_state (graph_of empty_state)
fresh_alike = record { has_is = hold; key_is = key; get_is = get }
  where
    hold : (s : ℕ) → fresh_state.has s ≡ (graph_of empty_state).has s
    hold zero = refl
    hold (suc k) = ne_eqb (suc k) 0 (λ e. omega (arith, e))

    key : (s : ℕ) → fresh_state.key s ≡ (graph_of empty_state).key s
    key zero = refl
    key (suc k) = refl

    get : (s f : ℕ) → fresh_state.get s f ≡ (graph_of empty_state).get s f
    get zero f = elim (cases_Bool (ltb f 3)) [ inl t ↦ rw t refl | inr t ↦ rw t refl ]
    get (suc k) f = refl

fresh_state_lem : (n c v : ℕ) → state_of (fresh n c) v ≡ empty_state
fresh_state_lem n c v = elim (cases_Bool (eqb 0 v)) [ inl t ↦ rw t refl | inr t ↦ rw t refl ]

pub fresh_stands : FreshStands
fresh_stands n c = record {
  splits = 0;
  kept = kept_alike _ (λ v. graph_of (state_of (fresh n c) v)) (λ v _. rw (fresh_state_lem n c v) fresh_alike) fresh_kept;
  sound = fresh_sound n c;
  made = refl;
  versions = refl;
  working = refl;
  draft = refl;
  linked = refl;
  numbered = refl;
  node_limit = refl;
  change_limit = refl;
  regs = λ r l. tt;
}

-- one condition, over the list that the call leaves
open_check : (xs : List ℕ) (a : ℕ) (b c : Bool) (e : MemoryRefusal) (s : Step ℕ) (d : Done ℕ) → b ≡ c → (b ≡ true → Agrees (items_of xs a s) s d)
    → Agrees (items_of xs a (check b e s)) (check b e s) (check_of c e d)
open_check xs a true true e s d h k = k refl
open_check xs a false false e s d h k = record { is = refl }
open_check xs a true false e s d h k = absurd (let z : ◌≡◌ {A = ℕ} 0 1 = cc in omega arith)
open_check xs a false true e s d h k = absurd (let z : ◌≡◌ {A = ℕ} 0 1 = cc in omega arith)

open_sound_after : (limit a n : ℕ) (m m' : Memory) → Sound m → open_of limit a m ≡ done n m' → Sound m'
unfolding after
open_sound_after limit a n m m' S e = subst (λ (d : Done ℕ). Sound (left m d)) e (stays_sound (Open limit a) m S)

enter_sound_after : (v : ℕ) (m m' : Memory) → Sound m → enter_of v m ≡ done tt m' → Sound m'
unfolding after
enter_sound_after v m m' S e = subst (λ (d : Done Unit). Sound (left m d)) e (stays_sound (Enter v) m S)

close_sound_after : (m m' : Memory) → Sound m → close_of m ≡ done tt m' → Sound m'
unfolding after
close_sound_after m m' S e = subst (λ (d : Done Unit). Sound (left m d)) e (stays_sound Close m S)

count_same : (xs : List ℕ) (T : Splitting) (m : Memory) → Stands xs T m → T.copies.versions ≡ m.rest.versions
count_same xs T m S = S.kept.counted ∙ sym S.versions

-- registers go with the working version
register_opened : (xs : List ℕ) (M : Copies) (a w : ℕ)
    → ((i : ℕ) → Serves (position xs) M (position xs w) i → Serves (position (behind xs a (length xs))) (opened_copies M) (position (behind xs a (length xs)) w) i)
    → (x y : Option ℕ) → RegisterHolds xs M w x y → RegisterHolds (behind xs a (length xs)) (opened_copies M) w x y
register_opened xs M a w k None None h = tt
register_opened xs M a w k None (Some t) h = absurd h
register_opened xs M a w k (Some i) None h = absurd h
register_opened xs M a w k (Some i) (Some t) h = (k i h.0, h.1)

opened_alike : (m : Memory) (a n : ℕ) → Sound m → n ≡ m.rest.versions → (v : ℕ)
    → Alike (put (λ w. graph_of (state_of m w)) n (graph_of (state_of m a)) v) (graph_of (state_of (opened m a) v))
opened_alike m a n S e v =
    elim (cases_eq n v) [
      | inl q ↦
          let s : state_of (opened m a) v ≡ state_of m a = ap (state_of (opened m a)) (sym q ∙ e) ∙ opened_new m a S.works in
          rw (eq-eqb n v q, s) (alike_self (graph_of (state_of m a)))
      | inr d ↦
          let s : state_of (opened m a) v ≡ state_of m v = opened_state m a v (λ z. d (e ∙ sym z)) in
          rw (ne_eqb n v d, s) (alike_self (graph_of (state_of m v)))
    ]

open_stands : (xs : List ℕ) (T : Splitting) (m : Memory) → Stands xs T m → (a : ℕ) → a < m.rest.versions → Sound (opened m a)
    → Stands (behind xs a (length xs)) (with_draft T (opened_copies T.copies) T.working (Some T.copies.versions) T.regs) (opened m a)
open_stands xs T m S a la so =
    let n = length xs in
    let v0 = S.versions in
    let c0 = S.kept.counted in
    let ha : position xs a < length xs = (positions_stand xs).0 a (S.kept.known a ∙ lt-ltb a (length xs) (omega (arith, la, v0))) in
    let none = S.kept.known (length xs) ∙ le-ltb (length xs) (length xs) (le_refl (length xs)) in
    let P = (positions_stand xs).4 a (length xs) ha (member_far xs (length xs) none) in
    let hw = works_here xs T m S in
    let shift : (v : ℕ) → position xs v < T.copies.versions → position (behind xs a (length xs)) v ≡ up (suc (position xs a)) (position xs v) = λ v h. P.2 v (omega (arith, h, c0)) in
    let ha' : position xs a < T.copies.versions = omega (arith, ha, c0) in
    let R = (open_sound (position xs) (position (behind xs a (length xs))) (suc (position xs a)) T.copies (omega arith) ha' shift S.kept.sound).1 in
    let d : down (suc (position xs a)) (position (behind xs a (length xs)) T.working) ≡ position xs T.working =
    ap (down (suc (position xs a))) (P.2 T.working hw) ∙ down_up (suc (position xs a)) (position xs T.working) in
    record {
      splits = S.splits;
      kept = kept_alike _ (λ v. graph_of (state_of (opened m a) v)) (λ v _. opened_alike m a (length xs) S.sound (sym S.versions) v)
          (step_keeps (world_of xs T m S.splits) (opening a) S.kept ha);
      sound = so;
      made = S.made;
      versions = (let p = P.0 in omega (arith, p, v0));
      working = S.working;
      draft = ap (λ (k : ℕ). Some k) (count_same xs T m S);
      linked = S.linked;
      numbered = S.numbered;
      node_limit = S.node_limit;
      change_limit = S.change_limit;
      regs = λ r l.
          register_opened xs T.copies a T.working
          (λ i sv. (R (position (behind xs a (length xs)) T.working) i).1 (subst (λ (p : ℕ). Serves (position xs) T.copies p i) (sym d) sv)) (T.regs r) (m.regs r) (S.regs r l);
    }

nil_none : (d : Option ℕ) → is_nil d ≡ true → d ≡ None
nil_none None h = refl
nil_none (Some k) h = absurd (let z : ◌≡◌ {A = ℕ} 0 1 = cc in omega arith)

open_agrees : (xs : List ℕ) (T : Splitting) (m : Memory) → Stands xs T m → (limit a : ℕ) → Agrees (items_of xs a (open_in limit a T)) (open_in limit a T) (open_of limit a m)
unfolding open_of
open_agrees xs T m S limit a =
    let c = count_same xs T m S in
    open_check xs a (is_nil T.draft) (is_nil m.rest.draft) DraftOpen _ _ (ap (λ (d : Option ℕ). is_nil d) S.draft) (λ h0.
    open_check xs a (ltb a T.copies.versions) (ltb a m.rest.versions) (Order UnknownItem) _ _ (ap (ltb a) c) (λ h1.
    open_check xs a (ltb T.copies.versions limit) (ltb m.rest.versions limit) (Order Full) _ _ (ap (λ (n : ℕ). ltb n limit) c) (λ h2.
    let l1 = lt_is a m.rest.versions (sym (ap (ltb a) c) ∙ h1) in
    record {
      is = (
        c,
        open_stands xs T m S a l1
            (open_sound_after limit a _ m _ S.sound
            (open_done limit a m (nil_none m.rest.draft (sym (ap (λ (d : Option ℕ). is_nil d) S.draft) ∙ h0)) l1
            (lt_is m.rest.versions limit (sym (ap (λ (n : ℕ). ltb n limit) c) ∙ h2)))),
      );
    })))

enter_stands : (xs : List ℕ) (T : Splitting) (m : Memory) → Stands xs T m → (v : ℕ) → Sound (entered m v)
    → Stands xs (with_draft T T.copies v T.draft (λ _. None)) (entered m v)
enter_stands xs T m S v so = record {
  splits = S.splits;
  kept = kept_alike _ (λ w. graph_of (state_of (entered m v) w)) (λ w _. rw (entered_state m v w) (alike_self (graph_of (state_of m w)))) S.kept;
  sound = so;
  made = S.made;
  versions = S.versions;
  working = refl;
  draft = S.draft;
  linked = S.linked;
  numbered = S.numbered;
  node_limit = S.node_limit;
  change_limit = S.change_limit;
  regs = λ r l. tt;
}

enter_agrees : (xs : List ℕ) (T : Splitting) (m : Memory) → Stands xs T m → (v : ℕ) → Agrees xs (enter_in v T) (enter_of v m)
unfolding enter_of
enter_agrees xs T m S v =
    let c = count_same xs T m S in
    agree_check xs (ltb v T.copies.versions) (ltb v m.rest.versions) (Order UnknownItem) _ _ (ap (ltb v) c) (λ h0.
    record { is = (refl, enter_stands xs T m S v (enter_sound_after v m _ S.sound (enter_done v m (lt_is v m.rest.versions (sym (ap (ltb v) c) ∙ h0))))) })

held_some : (d : Option ℕ) → is_held d ≡ true → (k : ℕ) × (d ≡ Some k)
held_some None h = absurd (let z : ◌≡◌ {A = ℕ} 0 1 = cc in omega arith)
held_some (Some k) h = (k, refl)

close_agrees : (xs : List ℕ) (T : Splitting) (m : Memory) → Stands xs T m → Agrees xs (close_in T) (close_of m)
unfolding close_of
close_agrees xs T m S =
    agree_check xs (is_held T.draft) (is_held m.rest.draft) NoDraft _ _ (ap (λ (d : Option ℕ). is_held d) S.draft) (λ h0.
    let d = held_some m.rest.draft (sym (ap (λ (d : Option ℕ). is_held d) S.draft) ∙ h0) in
    record {
      is = (
        refl,
        record {
          splits = S.splits;
          kept = S.kept;
          sound = close_sound_after m _ S.sound (close_done d.0 m d.1);
          made = S.made;
          versions = S.versions;
          working = S.working;
          draft = refl;
          linked = S.linked;
          numbered = S.numbered;
          node_limit = S.node_limit;
          change_limit = S.change_limit;
          regs = S.regs;
        },
      );
    })

pub versions_agree : VersionsAgree
versions_agree xs T m S = (open_agrees xs T m S, enter_agrees xs T m S, close_agrees xs T m S)
