-- The calls that read: a splitting memory answers as the abstract memory does.
use Rattle.std.proofs.Common.{◌≡◌, ℕ, suc, ◌+◌, ◌-◌, ◌<◌, Bool, true, false, ltb, List, length, is_some, Some, None, Option, sym, refl, ap, ◌∙◌, subst, inl, inr, arith}
use Rattle.std.proofs.lemmas.Bool.{cases_eq, eq-eqb, ne_eqb, lt-ltb, le-ltb}
use Rattle.refusals.specs.declared.kinds.MemoryRefusal.{MemoryRefusal}
use Rattle.refusals.specs.declared.kinds.MemoryRefusal.TheVariants.{OutOfRange}
use Rattle.fields.specs.declared.kinds.Value.{Value}
use Rattle.fields.specs.declared.kinds.Value.TheVariants.{Number, Nil, To, From}
use Rattle.fields.specs.Fields.{number, Shown}
use Rattle.order.specs.Items.{position}
use Rattle.memory.specs.Memory.{Node, State, Memory, state_of, Sound}
use Rattle.memory.specs.Steps.{Done, done, on_node, on_ref, at_node, is_nil, same_ref, with_reg, load_of, follow_of, move_of, key_of, number_of, nil_of, same_of}
use Rattle.memory.specs.Steps.{check as check_of}
use Rattle.memory.specs.Calls.{left, after}
use Rattle.memory.specs.Calls.Call.{Load, Follow, Move}
use Rattle.memory.proofs.Kept.{stays_sound}
use Rattle.memory.proofs.Accepted.{load_done, follow_done, move_done}
use Rattle.slices.specs.Copies.{Copies, Serves, Shaped}
use Rattle.slices.proofs.Serving.{lt_is}
use Rattle.slices.proofs.Bearing.{one_only}
use Rattle.states.specs.Nodes.{by_serial, Shows}
use Rattle.states.proofs.Linking.{to_same}
use Rattle.states.proofs.Places.{positions_stand}
use Rattle.meaning.specs.Tables.{Splitting, Step, check, on_copy, at_copy, read_of, target, numeral, load_in, follow_in, move_in, key_in, number_in, nil_in, same_in}
use Rattle.meaning.specs.Tables.{with_reg as reg_set}
use Rattle.meaning.specs.Meaning.{ref, field_of, node_fields, node_key, graph_has, graph_key, graph_get, graph_of, RegisterHolds, Stands, Agrees, ReadsAgree}

-- one condition, the same on both sides
pub agree_check : {A : Type 0} (xs : List ℕ) (b c : Bool) (e : MemoryRefusal) (s : Step A) (d : Done A) → b ≡ c → (b ≡ true → Agrees xs s d)
    → Agrees xs (check b e s) (check_of c e d)
agree_check xs true true e s d h k = k refl
agree_check xs false false e s d h k = record { is = refl }
agree_check xs true false e s d h k = absurd (let z : ◌≡◌ {A = ℕ} 0 1 = cc in omega arith)
agree_check xs false true e s d h k = absurd (let z : ◌≡◌ {A = ℕ} 0 1 = cc in omega arith)

some_node : (o : Option Node) → is_some o ≡ true → (n : Node) × (o ≡ Some n)
some_node None h = absurd (let z : ◌≡◌ {A = ℕ} 0 1 = cc in omega arith)
some_node (Some n) h = (n, refl)

-- the working version is known, and its slice shows the working state
pub works_here : (xs : List ℕ) (T : Splitting) (m : Memory) → Stands xs T m → position xs T.working < length xs
works_here xs T m S =
    let a = S.sound.works in let b = S.versions in let c = S.working in
    (positions_stand xs).0 T.working (S.kept.known T.working ∙ lt-ltb T.working (length xs) (omega (arith, a, b, c)))

pub state_here : (T : Splitting) (m : Memory) → T.working ≡ m.rest.working → state_of m T.working ≡ m.state
state_here T m e = rw (eq-eqb m.rest.working T.working (sym e)) refl

pub shows_here : (xs : List ℕ) (T : Splitting) (m : Memory) → Stands xs T m → Shows (position xs) T.copies (position xs T.working) (graph_of m.state)
shows_here xs T m S =
    let h = works_here xs T m S in let c = S.kept.counted in
    subst (λ (s : State). Shows (position xs) T.copies (position xs T.working) (graph_of s)) (state_here T m S.working) (S.kept.means T.working (omega (arith, h, c)))

pub root_serves : (xs : List ℕ) (T : Splitting) (m : Memory) → Stands xs T m → Serves (position xs) T.copies (position xs T.working) 0
root_serves xs T m S =
    let q = (shows_here xs T m S).held 0 refl in
    subst (λ (i : ℕ). Serves (position xs) T.copies (position xs T.working) i) (S.kept.sound.shape.root_only q.0 q.1.0 q.2) q.1

-- what a field of a node's copy shows of the node
module _ (xs : List ℕ) (T : Splitting) (m : Memory) (S : Stands xs T m) (i k : ℕ) (n : Node)
    (sv : Serves (position xs) T.copies (position xs T.working) i) (ser : (T.copies.copy i).serial ≡ suc k) (node : m.state.nodes k ≡ Some n) where
  pub node_held : graph_has m.state (T.copies.copy i).serial ≡ true
  node_held = ap (graph_has m.state) ser ∙ ap (λ (o : Option Node). is_some o) node

  node_field : (f : ℕ) → Shown f → by_serial T.copies (read_of xs T i f) ≡ field_of n f
  node_field f sh =
      sym ((shows_here xs T m S).holds i f sv node_held sh)
      ∙ (ap (λ (z : ℕ). graph_get m.state z f) ser ∙ ap (λ (o : Option Node). node_fields o f) node)

  node_key_lem : (T.copies.copy i).key ≡ n.key
  node_key_lem = sym ((shows_here xs T m S).keyed i sv node_held) ∙ (ap (graph_key m.state) ser ∙ ap node_key node)

low_shown : (f : ℕ) → f < 3 → Shown f
low_shown f l = ((λ e. omega (arith, l, e)), (λ e. omega (arith, l, e)))

-- a link that is read goes into a register
link_holds : (xs : List ℕ) (M : Copies) (w : ℕ) (v : Value) (x : Option ℕ) → by_serial M v ≡ ref x → ((k : ℕ) → v ≡ To k → Serves (position xs) M (position xs w) k)
    → RegisterHolds xs M w (target v) x
link_holds xs M w (Number n) None e h = tt
link_holds xs M w (Number n) (Some k) e h = absurd (let z : ◌≡◌ {A = ℕ} 0 1 = cc in omega arith)
link_holds xs M w Nil None e h = tt
link_holds xs M w Nil (Some k) e h = absurd (let z : ◌≡◌ {A = ℕ} 0 1 = cc in omega arith)
link_holds xs M w (To j) None e h = absurd (let z : ◌≡◌ {A = ℕ} 0 1 = cc in omega arith)
link_holds xs M w (To j) (Some k) e h = (h j refl, to_same (M.copy j).serial (suc k) (To (M.copy j).serial) refl e)
link_holds xs M w (From a l) None e h = tt
link_holds xs M w (From a l) (Some k) e h = absurd (let z : ◌≡◌ {A = ℕ} 0 1 = cc in omega arith)

-- on the node that a register holds
on_node_lem : {A : Type 0} (xs : List ℕ) (T : Splitting) (m : Memory) → Stands xs T m → (f : ℕ → Step A) (g : ℕ → Node → Done A) (a b : Option ℕ)
    → RegisterHolds xs T.copies T.working a b → ((k : ℕ) → b ≡ Some k → is_some (m.state.nodes k) ≡ true)
    → ((i k : ℕ) (n : Node) → Serves (position xs) T.copies (position xs T.working) i → (T.copies.copy i).serial ≡ suc k → m.state.nodes k ≡ Some n
    → b ≡ Some k → Agrees xs (f i) (g k n))
    → Agrees xs (on_copy a f) (on_ref m.state.nodes b g)
on_node_lem xs T m S f g None None h p k = record { is = refl }
on_node_lem xs T m S f g None (Some t) h p k = absurd h
on_node_lem xs T m S f g (Some i) None h p k = absurd h
on_node_lem xs T m S f g (Some i) (Some t) h p k =
    let q = some_node (m.state.nodes t) (p t refl) in
    subst (λ (o : Option Node). Agrees xs (f i) (on_node t o g)) (sym q.1) (k i t q.0 h.0 h.1 q.1 refl)

pub agree_node : {A : Type 0} (xs : List ℕ) (T : Splitting) (m : Memory) → Stands xs T m → (reg : ℕ) → reg < 40 → (f : ℕ → Step A) (g : ℕ → Node → Done A)
    → ((i k : ℕ) (n : Node) → Serves (position xs) T.copies (position xs T.working) i → (T.copies.copy i).serial ≡ suc k → m.state.nodes k ≡ Some n
    → m.regs reg ≡ Some k → Agrees xs (f i) (g k n))
    → Agrees xs (at_copy T reg f) (at_node m reg g)
agree_node xs T m S reg l f g k = on_node_lem xs T m S f g (T.regs reg) (m.regs reg) (S.regs reg l) (λ t e. S.sound.held reg t l e) k

-- a register set on both sides
pub set_register : (xs : List ℕ) (T : Splitting) (m : Memory) → Stands xs T m → (reg : ℕ) (x y : Option ℕ) → RegisterHolds xs T.copies T.working x y
    → Sound (with_reg m reg y) → Stands xs (reg_set T reg x) (with_reg m reg y)
set_register xs T m S reg x y h so = record {
  splits = S.splits;
  kept = S.kept;
  sound = so;
  made = S.made;
  versions = S.versions;
  working = S.working;
  draft = S.draft;
  linked = S.linked;
  numbered = S.numbered;
  node_limit = S.node_limit;
  change_limit = S.change_limit;
  regs = λ r l. elim (cases_eq reg r) [ inl e ↦ rw (eq-eqb reg r e) h | inr n ↦ rw (ne_eqb reg r n) (S.regs r l) ];
}

load_sound : (root reg : ℕ) (m m' : Memory) → Sound m → load_of root reg m ≡ done tt m' → Sound m'
unfolding after
load_sound root reg m m' S e = subst (λ (d : Done Unit). Sound (left m d)) e (stays_sound (Load root reg) m S)

follow_sound : (from side reg : ℕ) (m m' : Memory) → Sound m → follow_of from side reg m ≡ done tt m' → Sound m'
unfolding after
follow_sound from side reg m m' S e = subst (λ (d : Done Unit). Sound (left m d)) e (stays_sound (Follow from side reg) m S)

move_sound : (from reg : ℕ) (m m' : Memory) → Sound m → move_of from reg m ≡ done tt m' → Sound m'
unfolding after
move_sound from reg m m' S e = subst (λ (d : Done Unit). Sound (left m d)) e (stays_sound (Move from reg) m S)

root_holds : (xs : List ℕ) (T : Splitting) (m : Memory) → Stands xs T m → (root : ℕ) → root < 3
    → RegisterHolds xs T.copies T.working (target (read_of xs T 0 root)) (m.state.roots root)
root_holds xs T m S root l =
    let sv = root_serves xs T m S in
    let ser = S.kept.sound.shape.root_serial in
    let e = sym ((shows_here xs T m S).holds 0 root sv (ap (graph_has m.state) ser) (low_shown root l)) ∙ (ap (λ (z : ℕ). graph_get m.state z root) ser ∙ rw (lt-ltb root 3 l) refl) in
    link_holds xs T.copies T.working (read_of xs T 0 root) (m.state.roots root) e
    (λ k q. ((S.kept.sound.good (position xs T.working)).named 0 root k sv q).0)

load_agrees : (xs : List ℕ) (T : Splitting) (m : Memory) → Stands xs T m → (root reg : ℕ) → Agrees xs (load_in xs root reg T) (load_of root reg m)
unfolding load_of
load_agrees xs T m S root reg =
    agree_check xs (ltb root 3) (ltb root 3) OutOfRange _ _ refl (λ h0.
    agree_check xs (ltb reg 40) (ltb reg 40) OutOfRange _ _ refl (λ h1.
    record {
      is = (
        refl,
        set_register xs T m S reg (target (read_of xs T 0 root)) (m.state.roots root) (root_holds xs T m S root (lt_is root 3 h0))
            (load_sound root reg m (with_reg m reg (m.state.roots root)) S.sound (load_done root reg m (lt_is root 3 h0) (lt_is reg 40 h1))),
      );
    }))

side_holds : (xs : List ℕ) (T : Splitting) (m : Memory) (S : Stands xs T m) (i k : ℕ) (n : Node)
    (sv : Serves (position xs) T.copies (position xs T.working) i) (ser : (T.copies.copy i).serial ≡ suc k) (node : m.state.nodes k ≡ Some n)
    (side : ℕ) → side < 2 → RegisterHolds xs T.copies T.working (target (read_of xs T i side)) (n.links side)
side_holds xs T m S i k n sv ser node side l =
    link_holds xs T.copies T.working (read_of xs T i side) (n.links side)
    (node_field xs T m S i k n sv ser node side (low_shown side (omega (arith, l))) ∙ rw (lt-ltb side 2 l) refl)
    (λ j q. ((S.kept.sound.good (position xs T.working)).named i side j sv q).0)

follow_agrees : (xs : List ℕ) (T : Splitting) (m : Memory) → Stands xs T m → (from side reg : ℕ) → Agrees xs (follow_in xs from side reg T) (follow_of from side reg m)
unfolding follow_of
follow_agrees xs T m S from side reg =
    agree_check xs (ltb from 40) (ltb from 40) OutOfRange _ _ refl (λ h0.
    agree_check xs (ltb side 2) (ltb side 2) OutOfRange _ _ refl (λ h1.
    agree_check xs (ltb reg 40) (ltb reg 40) OutOfRange _ _ refl (λ h2.
    agree_node xs T m S from (lt_is from 40 h0) _ _ (λ i k n sv ser node held.
    record {
      is = (
        refl,
        set_register xs T m S reg (target (read_of xs T i side)) (n.links side) (side_holds xs T m S i k n sv ser node side (lt_is side 2 h1))
            (follow_sound from side reg m (with_reg m reg (n.links side)) S.sound
            (follow_done from side reg k n m (record { low = lt_is from 40 h0; names = held; node = node }) (lt_is side 2 h1) (lt_is reg 40 h2))),
      );
    }))))

move_agrees : (xs : List ℕ) (T : Splitting) (m : Memory) → Stands xs T m → (from reg : ℕ) → Agrees xs (move_in from reg T) (move_of from reg m)
unfolding move_of
move_agrees xs T m S from reg =
    agree_check xs (ltb from 40) (ltb from 40) OutOfRange _ _ refl (λ h0.
    agree_check xs (ltb reg 40) (ltb reg 40) OutOfRange _ _ refl (λ h1.
    record {
      is = (
        refl,
        set_register xs T m S reg (T.regs from) (m.regs from) (S.regs from (lt_is from 40 h0))
            (move_sound from reg m (with_reg m reg (m.regs from)) S.sound (move_done from reg m (lt_is from 40 h0) (lt_is reg 40 h1))),
      );
    }))

key_agrees : (xs : List ℕ) (T : Splitting) (m : Memory) → Stands xs T m → (reg : ℕ) → Agrees xs (key_in reg T) (key_of reg m)
unfolding key_of
key_agrees xs T m S reg =
    agree_check xs (ltb reg 40) (ltb reg 40) OutOfRange _ _ refl (λ h0.
    agree_node xs T m S reg (lt_is reg 40 h0) _ _ (λ i k n sv ser node held. record { is = (node_key_lem xs T m S i k n sv ser node, S) }))

numeral_is : (M : Copies) (v : Value) (w : ℕ) → by_serial M v ≡ Number w → numeral v ≡ w
numeral_is M (Number n) w e = cc
numeral_is M Nil w e = absurd (let z : ◌≡◌ {A = ℕ} 0 1 = cc in omega arith)
numeral_is M (To k) w e = absurd (let z : ◌≡◌ {A = ℕ} 0 1 = cc in omega arith)
numeral_is M (From a l) w e = absurd (let z : ◌≡◌ {A = ℕ} 0 1 = cc in omega arith)

number_field : (n : Node) (f : ℕ) → field_of n (number f) ≡ Number (n.numbers f)
number_field n f =
    rw (le-ltb (5 + f) 2 (omega arith), le-ltb (5 + f) 5 (omega arith)) (ap (λ (y : ℕ). Number (n.numbers y)) (let z : (5 + f) - 5 ≡ f = omega arith in z))

number_agrees : (xs : List ℕ) (T : Splitting) (m : Memory) → Stands xs T m → (field reg : ℕ) → Agrees xs (number_in xs field reg T) (number_of field reg m)
unfolding number_of
number_agrees xs T m S field reg =
    agree_check xs (ltb reg 40) (ltb reg 40) OutOfRange _ _ refl (λ h0.
    agree_node xs T m S reg (lt_is reg 40 h0) _ _ (λ i k n sv ser node held.
    record {
      is = (
        numeral_is T.copies (read_of xs T i (number field)) (n.numbers field)
            (node_field xs T m S i k n sv ser node (number field) ((λ e. omega (arith, e)), (λ e. omega (arith, e))) ∙ number_field n field),
        S,
      );
    }))

same_nil : (xs : List ℕ) (M : Copies) (w : ℕ) (a b : Option ℕ) → RegisterHolds xs M w a b → is_nil a ≡ is_nil b
same_nil xs M w None None h = refl
same_nil xs M w None (Some k) h = absurd h
same_nil xs M w (Some i) None h = absurd h
same_nil xs M w (Some i) (Some k) h = refl

nil_agrees : (xs : List ℕ) (T : Splitting) (m : Memory) → Stands xs T m → (reg : ℕ) → Agrees xs (nil_in reg T) (nil_of reg m)
unfolding nil_of
nil_agrees xs T m S reg =
    agree_check xs (ltb reg 40) (ltb reg 40) OutOfRange _ _ refl (λ h0.
    record { is = (same_nil xs T.copies T.working (T.regs reg) (m.regs reg) (S.regs reg (lt_is reg 40 h0)), S) })

same_ref_lem : (xs : List ℕ) (M : Copies) (w : ℕ) → Shaped (position xs) M → (a b c d : Option ℕ) → RegisterHolds xs M w a b → RegisterHolds xs M w c d → same_ref a c ≡ same_ref b d
same_ref_lem xs M w S None None c d h g = same_nil xs M w c d g
same_ref_lem xs M w S None (Some k) c d h g = absurd h
same_ref_lem xs M w S (Some i) None c d h g = absurd h
same_ref_lem xs M w S (Some i) (Some k) None None h g = refl
same_ref_lem xs M w S (Some i) (Some k) None (Some l) h g = absurd g
same_ref_lem xs M w S (Some i) (Some k) (Some j) None h g = absurd g
same_ref_lem xs M w S (Some i) (Some k) (Some j) (Some l) h g =
    let hs = h.1 in let gs = g.1 in
    elim (cases_eq k l) [
      | inl e ↦ eq-eqb i j (one_only (position xs) M S (position xs w) i j h.0 g.0 (hs ∙ (ap suc e ∙ sym gs))) ∙ sym (eq-eqb k l e)
      | inr n ↦ ne_eqb i j (λ e. n (let q = ap (λ (z : ℕ). (M.copy z).serial) e in omega (arith, q, hs, gs))) ∙ sym (ne_eqb k l n)
    ]

same_agrees : (xs : List ℕ) (T : Splitting) (m : Memory) → Stands xs T m → (a b : ℕ) → Agrees xs (same_in a b T) (same_of a b m)
unfolding same_of
same_agrees xs T m S a b =
    agree_check xs (ltb a 40) (ltb a 40) OutOfRange _ _ refl (λ h0.
    agree_check xs (ltb b 40) (ltb b 40) OutOfRange _ _ refl (λ h1.
    record {
      is =
          (same_ref_lem xs T.copies T.working S.kept.sound.shape (T.regs a) (m.regs a) (T.regs b) (m.regs b) (S.regs a (lt_is a 40 h0)) (S.regs b (lt_is b 40 h1)), S);
    }))

pub reads_agree : ReadsAgree
reads_agree xs T m S =
    (load_agrees xs T m S, follow_agrees xs T m S, move_agrees xs T m S, key_agrees xs T m S, number_agrees xs T m S, nil_agrees xs T m S, same_agrees xs T m S)
