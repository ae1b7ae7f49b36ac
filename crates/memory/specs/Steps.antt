-- The calls of a memory as steps of what it means: a call is done, with an answer and the next memory, or it is refused. Where several
-- refusals fit, the one with the smallest number is given, since each step asks in the order of the numbers:
--
--   load, move, nil, same                              21
--   follow, key, value, mark                           21 22
--   make                                               21    23    25
--   save                                               21    23 24    26
--   link                                               21 22 23 24    26
--   set                                                value, set mark        21 22 23 24
--   open                                               27 31 32
--   enter                                              31
--   close                                              28
--
-- 20, another order, comes before all of them: a memory means something only together with an order of its own count.
--
--   Done, done, no, then                               what a call comes to; one call after another
--   check, at_node, writing, naming                    the conditions of a call, each with its refusal
--   with_reg, written, born, entered, opened, closed   the memory after a call
--   load_of, follow_of, move_of, key_of, number_of, nil_of, same_of, make_of, save_of, link_of, set_number_of, open_of, enter_of, close_of
--                                                      the steps; value and mark are numbers 0 and 1
use Rattle.std.specs.Prelude.{ℕ, suc, ◌+◌, Bool, true, false, ◌∷◌, Some, None, Option, ◌==◌, nat_le, nat_lt}
use Rattle.refusals.specs.declared.kinds.OrderRefusal.TheVariants.{UnknownItem, Full}
use Rattle.refusals.specs.declared.kinds.MemoryRefusal.{MemoryRefusal}
use Rattle.refusals.specs.declared.kinds.MemoryRefusal.TheVariants.{OutOfRange, NilRegister, OutsideDraft, ChangesSpent, NodesSpent, ThirdName, DraftOpen, NoDraft, Order}
use Rattle.memory.specs.Memory.{Node, State, Memory, changed, put, with_link, with_number, new_node, renamed, names_of, state_of, is_draft}

-- what a call comes to: an answer and the next memory, or a refusal
pub data Done (A : Type 0) : Type 0 where
  done : A → Memory → Done A
  no : MemoryRefusal → Done A

-- one call after another
abbrev pub then : {A B : Type 0} → Done A → (A → Memory → Done B) → Done B
then (done a m) k = k a m
then (no e) k = no e

-- refused with e unless the condition holds
abbrev pub check : {A : Type 0} → Bool → MemoryRefusal → Done A → Done A
check true e d = d
check false e d = no e

-- registers, roots and links have numbers below 40, 3 and 2
abbrev pub is_reg : {A : Type 0} → ℕ → Done A → Done A
is_reg i d = check (nat_lt i 40) OutOfRange d

abbrev pub is_root : {A : Type 0} → ℕ → Done A → Done A
is_root i d = check (nat_lt i 3) OutOfRange d

abbrev pub is_side : {A : Type 0} → ℕ → Done A → Done A
is_side i d = check (nat_lt i 2) OutOfRange d

-- on the node that a register holds, with its serial number; refused where the register is nil
abbrev pub on_node : {A : Type 0} → ℕ → Option Node → (ℕ → Node → Done A) → Done A
on_node k None f = no NilRegister
on_node k (Some n) f = f k n

abbrev pub on_ref : {A : Type 0} → (ℕ → Option Node) → Option ℕ → (ℕ → Node → Done A) → Done A
on_ref nodes None f = no NilRegister
on_ref nodes (Some k) f = on_node k (nodes k) f

abbrev pub at_node : {A : Type 0} → Memory → ℕ → (ℕ → Node → Done A) → Done A
at_node m reg f = on_ref m.state.nodes (m.regs reg) f

-- a write: inside the draft, and with a change left
abbrev pub writing : {A : Type 0} → Memory → Done A → Done A
writing m d = check m.writable OutsideDraft (check (nat_lt (changed m) m.change_limit) ChangesSpent d)

-- at most two links and roots name the node that was written, in the state s after the write
abbrev pub naming : {A : Type 0} → State → Option ℕ → Done A → Done A
naming s new d = check (nat_le (names_of s.names new) 2) ThirdName d

-- the memory with x in a register
abbrev pub with_reg : Memory → ℕ → Option ℕ → Memory
with_reg m i x = record { state = m.state; regs = put m.regs i x; made = m.made; birth = m.birth; linked = m.linked; numbered = m.numbered; node_limit = m.node_limit; change_limit = m.change_limit; writable = m.writable; rest = m.rest }

-- the two kinds of writes: of a link or root, of a number
pub data Kind : Type 0 where
  of_link : Kind
  of_number : Kind

-- the counts of link and root writes, and of number writes, after a write of a kind
abbrev pub linked_by : Kind → ℕ → ℕ
linked_by of_link n = n + 1
linked_by of_number n = n

abbrev pub numbered_by : Kind → ℕ → ℕ
numbered_by of_link n = n
numbered_by of_number n = n + 1

-- the memory after a write, which leaves the working state s and counts as one change
abbrev pub written : Kind → Memory → State → Memory
written kind m s = record { state = s; regs = m.regs; made = m.made; birth = m.birth; linked = linked_by kind m.linked; numbered = numbered_by kind m.numbered; node_limit = m.node_limit; change_limit = m.change_limit; writable = m.writable; rest = m.rest }

-- a state with a root, a link or a node written
abbrev pub root_set : State → ℕ → Option ℕ → State
root_set s i x = record { roots = put s.roots i x; nodes = s.nodes; names = renamed s.names (s.roots i) x }

abbrev pub link_set : State → ℕ → Node → ℕ → Option ℕ → State
link_set s k n side x = record { roots = s.roots; nodes = put s.nodes k (Some (with_link side x n)); names = renamed s.names (n.links side) x }

abbrev pub node_set : State → ℕ → Node → State
node_set s k n = record { roots = s.roots; nodes = put s.nodes k (Some n); names = s.names }

-- the memory with a new node in a register: it has the next serial number, and is born at the working version
abbrev pub born : Memory → ℕ → Node → Memory
born m reg n = record { state = node_set m.state m.made n; regs = put m.regs reg (Some m.made); made = suc m.made; birth = put m.birth m.made m.rest.working; linked = m.linked; numbered = m.numbered; node_limit = m.node_limit; change_limit = m.change_limit; writable = m.writable; rest = m.rest }

-- whether a register or the draft is nothing, or something; whether two registers hold the same
abbrev pub is_nil : Option ℕ → Bool
is_nil None = true
is_nil (Some k) = false

abbrev pub is_held : Option ℕ → Bool
is_held None = false
is_held (Some k) = true

abbrev pub same_ref : Option ℕ → Option ℕ → Bool
same_ref None y = is_nil y
same_ref (Some a) None = false
same_ref (Some a) (Some b) = a == b

-- The calls of a pointer memory.

-- load: a root into a register
unfoldable pub load_of : ℕ → ℕ → Memory → Done Unit
load_of root reg m = is_root root (is_reg reg (done tt (with_reg m reg (m.state.roots root))))

-- follow: a link of a register's node into a register
unfoldable pub follow_of : ℕ → ℕ → ℕ → Memory → Done Unit
follow_of from side reg m = is_reg from (is_side side (is_reg reg (at_node m from (λ k n. done tt (with_reg m reg (n.links side))))))

-- move: a register into a register
unfoldable pub move_of : ℕ → ℕ → Memory → Done Unit
move_of from reg m = is_reg from (is_reg reg (done tt (with_reg m reg (m.regs from))))

-- key: the key place of a register's node
unfoldable pub key_of : ℕ → Memory → Done ℕ
key_of reg m = is_reg reg (at_node m reg (λ k n. done n.key m))

-- value and mark: a number of a register's node
unfoldable pub number_of : ℕ → ℕ → Memory → Done ℕ
number_of field reg m = is_reg reg (at_node m reg (λ k n. done (n.numbers field) m))

-- nil: whether a register is nil
unfoldable pub nil_of : ℕ → Memory → Done Bool
nil_of reg m = is_reg reg (done (is_nil (m.regs reg)) m)

-- same: whether two registers hold the same node, or both nil
unfoldable pub same_of : ℕ → ℕ → Memory → Done Bool
same_of a b m = is_reg a (is_reg b (done (same_ref (m.regs a) (m.regs b)) m))

-- make: a new node into a register
unfoldable pub make_of : ℕ → ℕ → ℕ → ℕ → Memory → Done Unit
make_of reg key value mark m =
    is_reg reg (check m.writable OutsideDraft (check (nat_lt m.made m.node_limit) NodesSpent
    (done tt (born m reg (new_node key value mark)))))

-- save: a register into a root
unfoldable pub save_of : ℕ → ℕ → Memory → Done Unit
save_of root reg m =
    is_root root (is_reg reg (writing m (naming (root_set m.state root (m.regs reg)) (m.regs reg)
    (done tt (written of_link m (root_set m.state root (m.regs reg)))))))

-- link: a register into a link of a register's node
unfoldable pub link_of : ℕ → ℕ → ℕ → Memory → Done Unit
link_of from side reg m =
    is_reg from (is_side side (is_reg reg (at_node m from (λ k n. writing m (naming (link_set m.state k n side (m.regs reg)) (m.regs reg)
    (done tt (written of_link m (link_set m.state k n side (m.regs reg)))))))))

-- set value and set mark: a number of a register's node
unfoldable pub set_number_of : ℕ → ℕ → ℕ → Memory → Done Unit
set_number_of field reg x m = is_reg reg (at_node m reg (λ k n. writing m (done tt (written of_number m (node_set m.state k (with_number field x n))))))

-- The calls of a versioned memory. A version is known exactly when it is below their number.

-- the memory at the version v: the state of the working version is put by, and that of v taken out; all registers are nil
abbrev pub entered : Memory → ℕ → Memory
entered m v = record {
  state = state_of m v;
  regs = λ _. None;
  made = m.made;
  birth = m.birth;
  linked = m.linked;
  numbered = m.numbered;
  node_limit = m.node_limit;
  change_limit = m.change_limit;
  writable = is_draft m.rest.draft v;
  rest = record { others = state_of m; working = v; draft = m.rest.draft; versions = m.rest.versions; paths = m.rest.paths };
}

-- enter: the working version is v
unfoldable pub enter_of : ℕ → Memory → Done Unit
enter_of v m = check (nat_lt v m.rest.versions) (Order UnknownItem) (done tt (entered m v))

-- the memory with one version more, a copy of a and the draft; the working version stays
abbrev pub opened : Memory → ℕ → Memory
opened m a = record {
  state = m.state;
  regs = m.regs;
  made = m.made;
  birth = m.birth;
  linked = m.linked;
  numbered = m.numbered;
  node_limit = m.node_limit;
  change_limit = m.change_limit;
  writable = false;
  rest = record { others = put m.rest.others m.rest.versions (state_of m a); working = m.rest.working; draft = Some m.rest.versions; versions = m.rest.versions + 1; paths = put m.rest.paths m.rest.versions (m.rest.versions ∷ m.rest.paths a) };
}

-- open: a new version on a, with the order's limit of versions; the answer is its number
unfoldable pub open_of : ℕ → ℕ → Memory → Done ℕ
open_of limit a m =
    check (is_nil m.rest.draft) DraftOpen (check (nat_lt a m.rest.versions) (Order UnknownItem) (check (nat_lt m.rest.versions limit) (Order Full)
    (done m.rest.versions (opened m a))))

-- the memory without a draft
abbrev pub closed : Memory → Memory
closed m = record {
  state = m.state;
  regs = m.regs;
  made = m.made;
  birth = m.birth;
  linked = m.linked;
  numbered = m.numbered;
  node_limit = m.node_limit;
  change_limit = m.change_limit;
  writable = false;
  rest = record { others = m.rest.others; working = m.rest.working; draft = None; versions = m.rest.versions; paths = m.rest.paths };
}

-- close: the draft is ended
unfoldable pub close_of : Memory → Done Unit
close_of m = check (is_held m.rest.draft) NoDraft (done tt (closed m))
