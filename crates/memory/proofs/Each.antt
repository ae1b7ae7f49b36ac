-- A property of the memory that a call leaves, from the few cases that a call can come to.
use Rattle.std.proofs.Common.{◌≡◌, ℕ, ◌<◌, ◌≤◌, Bool, true, false, ltb, leb, is_some, Some, None, Option, refl, arith}
use Rattle.refusals.specs.declared.kinds.MemoryRefusal.{MemoryRefusal}
use Rattle.refusals.specs.declared.kinds.OrderRefusal.TheVariants.{UnknownItem, Full}
use Rattle.refusals.specs.declared.kinds.MemoryRefusal.TheVariants.{OutOfRange, NilRegister, OutsideDraft, ChangesSpent, NodesSpent, ThirdName, DraftOpen, NoDraft, Order}
use Rattle.memory.specs.Memory.{Node, State, Memory, changed, with_number, new_node, renamed, names_of, Orderly, Sound}
use Rattle.memory.specs.Steps.{Done, no, check, on_node, on_ref, at_node, writing, with_reg, of_link, of_number, written, root_set, link_set, node_set, born, entered, opened, closed, is_nil, is_held, load_of, follow_of, move_of, key_of, number_of, nil_of, same_of, make_of, save_of, link_of, set_number_of, enter_of, open_of, close_of}
use Rattle.memory.specs.Calls.{Call, Load, Follow, Move, Key, Number, Nil, Same, Make, Save, Link, SetNumber, Open, Enter, Close, left, after, is_lower}
use Rattle.memory.specs.Effects.{Free}
use Rattle.memory.proofs.Numbers.{lt_from, le_from, eq_true}

-- nil, or a node of the state
abbrev pub Present : State → Option ℕ → Type 0
Present s x = (k : ℕ) → x ≡ Some k → is_some (s.nodes k) ≡ true

-- a property of the memory that a lower call leaves
pub record Lower (P : Memory → Type 0) (m : Memory) : Type 0 where
  pub stays : P m
  pub register : (r : ℕ) (x : Option ℕ) → r < 40 → Present m.state x → P (with_reg m r x)
  pub makes : (r k v w : ℕ) → r < 40 → m.writable ≡ true → m.made < m.node_limit → P (born m r (new_node k v w))
  pub saves : (i : ℕ) (x : Option ℕ) → i < 3 → Present m.state x → Free m → names_of (renamed m.state.names (m.state.roots i) x) x ≤ 2 → P (written of_link m (root_set m.state i x))
  pub links : (j side : ℕ) (n : Node) (x : Option ℕ) → side < 2 → m.state.nodes j ≡ Some n → Present m.state x → Free m → names_of (renamed m.state.names (n.links side) x) x ≤ 2 → P (written of_link m (link_set m.state j n side x))
  pub numbers : (j field x : ℕ) (n : Node) → m.state.nodes j ≡ Some n → Free m → P (written of_number m (node_set m.state j (with_number field x n)))

pub record Each (P : Memory → Type 0) (m : Memory) : Type 0 where
  pub lower : Lower P m
  pub opens : (a : ℕ) → m.rest.draft ≡ None → a < m.rest.versions → P (opened m a)
  pub enters : (v : ℕ) → v < m.rest.versions → P (entered m v)
  pub closes : P (closed m)

check_case : {A : Type 0} (P : Done A → Type 0) (b : Bool) (e : MemoryRefusal) (d : Done A) → P (no e) → (b ≡ true → P d) → P (check b e d)
check_case P true e d n f = f refl
check_case P false e d n f = n

on_case : {A : Type 0} (P : Done A → Type 0) (k : ℕ) (x : Option Node) (f : ℕ → Node → Done A) → P (no NilRegister) → ((n : Node) → x ≡ Some n → P (f k n)) → P (on_node k x f)
on_case P k None f z h = z
on_case P k (Some n) f z h = h n refl

ref_case : {A : Type 0} (P : Done A → Type 0) (nodes : ℕ → Option Node) (x : Option ℕ) (f : ℕ → Node → Done A) → P (no NilRegister) → ((k : ℕ) (n : Node) → x ≡ Some k → nodes k ≡ Some n → P (f k n)) → P (on_ref nodes x f)
ref_case P nodes None f z h = z
ref_case P nodes (Some k) f z h = on_case P k (nodes k) f z (λ n e. h k n refl e)

false_true : ◌≡◌ {A = Bool} false true → ⊥
false_true e = let z : ◌≡◌ {A = ℕ} 0 1 = cc in omega arith

nil_from : (x : Option ℕ) → is_nil x ≡ true → x ≡ None
nil_from None e = refl
nil_from (Some k) e = let z : ◌≡◌ {A = ℕ} 0 1 = cc in let y : ⊥ = omega arith in absurd y

pub here : {m : Memory} → Sound m → Orderly m.made m.state
here {m = m} S = rw (eq_true m.rest.working m.rest.working refl) at (S.states m.rest.working S.works)

module _ (P : Memory → Type 0) (m : Memory) (S : Sound m) (E : Lower P m) where
  by_reg : {A : Type 0} (r : ℕ) (d : Done A) → (r < 40 → P (left m d)) → P (left m (check (ltb r 40) OutOfRange d))
  by_reg r d f = check_case (λ d. P (left m d)) (ltb r 40) OutOfRange d E.stays (λ e. f (lt_from r 40 e))

  by_root : {A : Type 0} (r : ℕ) (d : Done A) → (r < 3 → P (left m d)) → P (left m (check (ltb r 3) OutOfRange d))
  by_root r d f = check_case (λ d. P (left m d)) (ltb r 3) OutOfRange d E.stays (λ e. f (lt_from r 3 e))

  by_side : {A : Type 0} (r : ℕ) (d : Done A) → (r < 2 → P (left m d)) → P (left m (check (ltb r 2) OutOfRange d))
  by_side r d f = check_case (λ d. P (left m d)) (ltb r 2) OutOfRange d E.stays (λ e. f (lt_from r 2 e))

  by_node : {A : Type 0} (r : ℕ) (f : ℕ → Node → Done A) → ((k : ℕ) (n : Node) → m.state.nodes k ≡ Some n → P (left m (f k n))) → P (left m (at_node m r f))
  by_node r f g = ref_case (λ d. P (left m d)) m.state.nodes (m.regs r) f E.stays (λ k n e h. g k n h)

  by_free : {A : Type 0} (d : Done A) → (Free m → P (left m d)) → P (left m (writing m d))
  by_free d f = check_case (λ d. P (left m d)) m.writable OutsideDraft _ E.stays (λ w.
      check_case (λ d. P (left m d)) (ltb (changed m) m.change_limit) ChangesSpent d E.stays (λ l.
      f (record { writable = w; left = lt_from (changed m) m.change_limit l })))

  by_names : {A : Type 0} (q : ℕ) (d : Done A) → (q ≤ 2 → P (left m d)) → P (left m (check (leb q 2) ThirdName d))
  by_names q d f = check_case (λ d. P (left m d)) (leb q 2) ThirdName d E.stays (λ e. f (le_from q 2 e))

  on_load : (root reg : ℕ) → P (left m (load_of root reg m))
  unfolding load_of
  on_load root reg = by_root root _ (λ l. by_reg reg _ (λ h. E.register reg (m.state.roots root) h (λ k e. (here S).rooted root k l e)))

  on_follow : (from side reg : ℕ) → P (left m (follow_of from side reg m))
  unfolding follow_of
  on_follow from side reg = by_reg from _ (λ h. by_side side _ (λ q. by_reg reg _ (λ l. by_node from _ (λ k n e. E.register reg (n.links side) l (λ j g. (here S).linked k n side j q e g)))))

  on_move : (from reg : ℕ) → P (left m (move_of from reg m))
  unfolding move_of
  on_move from reg = by_reg from _ (λ h. by_reg reg _ (λ l. E.register reg (m.regs from) l (λ k e. S.held from k h e)))

  on_key : (reg : ℕ) → P (left m (key_of reg m))
  unfolding key_of
  on_key reg = by_reg reg _ (λ h. by_node reg _ (λ k n e. E.stays))

  on_number : (field reg : ℕ) → P (left m (number_of field reg m))
  unfolding number_of
  on_number field reg = by_reg reg _ (λ h. by_node reg _ (λ k n e. E.stays))

  on_nil : (reg : ℕ) → P (left m (nil_of reg m))
  unfolding nil_of
  on_nil reg = by_reg reg _ (λ h. E.stays)

  on_same : (a b : ℕ) → P (left m (same_of a b m))
  unfolding same_of
  on_same a b = by_reg a _ (λ h. by_reg b _ (λ l. E.stays))

  on_make : (reg k v w : ℕ) → P (left m (make_of reg k v w m))
  unfolding make_of
  on_make reg k v w = by_reg reg _ (λ h.
      check_case (λ d. P (left m d)) m.writable OutsideDraft _ E.stays (λ e.
      check_case (λ d. P (left m d)) (ltb m.made m.node_limit) NodesSpent _ E.stays (λ l.
      E.makes reg k v w h e (lt_from m.made m.node_limit l))))

  on_save : (root reg : ℕ) → P (left m (save_of root reg m))
  unfolding save_of
  on_save root reg = by_root root _ (λ h. by_reg reg _ (λ l. by_free _ (λ F. by_names _ _ (λ q. E.saves root (m.regs reg) h (λ k e. S.held reg k l e) F q))))

  on_link : (from side reg : ℕ) → P (left m (link_of from side reg m))
  unfolding link_of
  on_link from side reg = by_reg from _ (λ h. by_side side _ (λ i. by_reg reg _ (λ l. by_node from _ (λ k n e. by_free _ (λ F. by_names _ _ (λ q.
      E.links k side n (m.regs reg) i e (λ j g. S.held reg j l g) F q))))))

  on_set_number : (field reg x : ℕ) → P (left m (set_number_of field reg x m))
  unfolding set_number_of
  on_set_number field reg x = by_reg reg _ (λ h. by_node reg _ (λ k n e. by_free _ (λ F. E.numbers k field x n e F)))

  pub each_lower : (c : Call) → is_lower c ≡ true → P (after c m)
  unfolding after
  each_lower (Load root reg) e = on_load root reg
  each_lower (Follow from side reg) e = on_follow from side reg
  each_lower (Move from reg) e = on_move from reg
  each_lower (Key reg) e = on_key reg
  each_lower (Number field reg) e = on_number field reg
  each_lower (Nil reg) e = on_nil reg
  each_lower (Same a b) e = on_same a b
  each_lower (Make reg key value mark) e = on_make reg key value mark
  each_lower (Save root reg) e = on_save root reg
  each_lower (Link from side reg) e = on_link from side reg
  each_lower (SetNumber field reg x) e = on_set_number field reg x
  each_lower (Open limit a) e = absurd (false_true e)
  each_lower (Enter v) e = absurd (false_true e)
  each_lower Close e = absurd (false_true e)

module _ (P : Memory → Type 0) (m : Memory) (S : Sound m) (E : Each P m) where
  on_open : (limit a : ℕ) → P (left m (open_of limit a m))
  unfolding open_of
  on_open limit a =
      check_case (λ d. P (left m d)) (is_nil m.rest.draft) DraftOpen _ E.lower.stays (λ e.
      check_case (λ d. P (left m d)) (ltb a m.rest.versions) (Order UnknownItem) _ E.lower.stays (λ h.
      check_case (λ d. P (left m d)) (ltb m.rest.versions limit) (Order Full) _ E.lower.stays (λ l.
      E.opens a (nil_from m.rest.draft e) (lt_from a m.rest.versions h))))

  on_enter : (v : ℕ) → P (left m (enter_of v m))
  unfolding enter_of
  on_enter v = check_case (λ d. P (left m d)) (ltb v m.rest.versions) (Order UnknownItem) _ E.lower.stays (λ h. E.enters v (lt_from v m.rest.versions h))

  on_close : P (left m (close_of m))
  unfolding close_of
  on_close = check_case (λ d. P (left m d)) (is_held m.rest.draft) NoDraft _ E.lower.stays (λ h. E.closes)

  pub each : (c : Call) → P (after c m)
  unfolding after
  each (Load root reg) = each_lower P m S E.lower (Load root reg) refl
  each (Follow from side reg) = each_lower P m S E.lower (Follow from side reg) refl
  each (Move from reg) = each_lower P m S E.lower (Move from reg) refl
  each (Key reg) = each_lower P m S E.lower (Key reg) refl
  each (Number field reg) = each_lower P m S E.lower (Number field reg) refl
  each (Nil reg) = each_lower P m S E.lower (Nil reg) refl
  each (Same a b) = each_lower P m S E.lower (Same a b) refl
  each (Make reg key value mark) = each_lower P m S E.lower (Make reg key value mark) refl
  each (Save root reg) = each_lower P m S E.lower (Save root reg) refl
  each (Link from side reg) = each_lower P m S E.lower (Link from side reg) refl
  each (SetNumber field reg x) = each_lower P m S E.lower (SetNumber field reg x) refl
  each (Open limit a) = on_open limit a
  each (Enter v) = on_enter v
  each Close = on_close
