-- What a splitting memory holds, and what each call does to it.
--
--   Splitting                                                                                                                                the copies, the registers, the working version and the draft, what was counted, the limits
--   Step, did, refused                                                                                                                       what a call comes to
--   check, at_copy                                                                                                                           the conditions of a call, each with its refusal
--   read_of                                                                                                                                  what a field of a copy holds at the working version
--   target, numeral                                                                                                                          a link's copy; a number
--   load_in, follow_in, move_in, key_in, number_in, nil_in, same_in, make_in, save_in, link_in, set_number_in, open_in, enter_in, close_in   the calls
--   split_in                                                                                                                                 the split of a copy, with the registers
--   Settled                                                                                                                                  no copy of a node has more than 18 entries
--
-- Registers hold copies, not serial numbers. A call that writes is followed by splits until the memory is settled; the order of these
-- splits is free. xs is the list of the version order.
use Rattle.std.specs.Prelude.{ℕ, ◌+◌, ◌-◌, ◌<◌, ◌≤◌, Bool, true, false, cond, List, Some, None, Option, ◌≢◌, nat_le, nat_lt}
use Rattle.refusals.specs.declared.kinds.OrderRefusal.TheVariants.{UnknownItem, Full}
use Rattle.refusals.specs.declared.kinds.MemoryRefusal.{MemoryRefusal}
use Rattle.refusals.specs.declared.kinds.MemoryRefusal.TheVariants.{OutOfRange, NilRegister, OutsideDraft, ChangesSpent, NodesSpent, ThirdName, DraftOpen, NoDraft, Order}
use Rattle.fields.specs.declared.kinds.Value.{Value}
use Rattle.fields.specs.declared.kinds.Value.TheVariants.{Number, Nil, To, From}
use Rattle.fields.specs.Fields.{link, number}
use Rattle.order.specs.Items.{position, following}
use Rattle.memory.specs.Memory.{put, is_draft, new_node}
use Rattle.memory.specs.Steps.{is_nil, is_held, same_ref}
use Rattle.slices.specs.Slices.{swap}
use Rattle.slices.specs.Copies.{Copies, value_at}
use Rattle.slices.specs.Splits.{split}
use Rattle.slices.specs.Openings.{opened}
use Rattle.slices.specs.Births.{make_node}
use Rattle.states.specs.Relinks.{not, slice, relink, set_number, crowded}
use Rattle.states.specs.Listed.{next_of}
use Rattle.space.specs.Space.{size, all_entries, elsewhere, split_version}

-- linked and numbered count the link and root writes and the number writes accepted; used counts the entries ever written as new ones
pub record Splitting : Type 0 where
  pub copies : Copies
  pub regs : ℕ → Option ℕ
  pub working : ℕ
  pub draft : Option ℕ
  pub linked : ℕ
  pub numbered : ℕ
  pub used : ℕ
  pub node_limit : ℕ
  pub change_limit : ℕ

-- an answer and the memory after the call, or a refusal
pub data Step (A : Type 0) : Type 0 where
  did : A → Splitting → Step A
  refused : MemoryRefusal → Step A

-- refused with e unless the condition holds
abbrev pub check : {A : Type 0} → Bool → MemoryRefusal → Step A → Step A
check true e d = d
check false e d = refused e

-- on the copy that a register holds; refused where it is nil
abbrev pub on_copy : {A : Type 0} → Option ℕ → (ℕ → Step A) → Step A
on_copy None f = refused NilRegister
on_copy (Some i) f = f i

abbrev pub at_copy : {A : Type 0} → Splitting → ℕ → (ℕ → Step A) → Step A
at_copy T reg f = on_copy (T.regs reg) f

-- a write: the working version is the draft, and a change is left
abbrev pub writing : {A : Type 0} → Splitting → Step A → Step A
writing T d = check (is_draft T.draft T.working) OutsideDraft (check (nat_lt (T.linked + T.numbered) T.change_limit) ChangesSpent d)

-- what the field f of the copy i holds at the working version
abbrev pub read_of : List ℕ → Splitting → ℕ → ℕ → Value
read_of xs T i f = value_at (position xs) (position xs T.working) (T.copies.copy i) f

-- the copy that a link names
abbrev pub target : Value → Option ℕ
target (Number n) = None
target Nil = None
target (To k) = Some k
target (From a l) = None

-- a link to the copy that a register holds
abbrev pub naming : Option ℕ → Value
naming None = Nil
naming (Some i) = To i

abbrev pub numeral : Value → ℕ
numeral (Number n) = n
numeral Nil = 0
numeral (To k) = 0
numeral (From a l) = 0

-- the memory with x in a register
abbrev pub with_reg : Splitting → ℕ → Option ℕ → Splitting
with_reg T reg x = record {
  copies = T.copies;
  regs = put T.regs reg x;
  working = T.working;
  draft = T.draft;
  linked = T.linked;
  numbered = T.numbered;
  used = T.used;
  node_limit = T.node_limit;
  change_limit = T.change_limit;
}

-- a root, a link, a register into a register
abbrev pub load_in : List ℕ → ℕ → ℕ → Splitting → Step Unit
load_in xs root reg T = check (nat_lt root 3) OutOfRange (check (nat_lt reg 40) OutOfRange (did tt (with_reg T reg (target (read_of xs T 0 (link root))))))

abbrev pub follow_in : List ℕ → ℕ → ℕ → ℕ → Splitting → Step Unit
follow_in xs from side reg T =
    check (nat_lt from 40) OutOfRange (check (nat_lt side 2) OutOfRange (check (nat_lt reg 40) OutOfRange
    (at_copy T from (λ i. did tt (with_reg T reg (target (read_of xs T i (link side))))))))

abbrev pub move_in : ℕ → ℕ → Splitting → Step Unit
move_in from reg T = check (nat_lt from 40) OutOfRange (check (nat_lt reg 40) OutOfRange (did tt (with_reg T reg (T.regs from))))

-- the key place and the numbers of a register's node
abbrev pub key_in : ℕ → Splitting → Step ℕ
key_in reg T = check (nat_lt reg 40) OutOfRange (at_copy T reg (λ i. did (T.copies.copy i).key T))

abbrev pub number_in : List ℕ → ℕ → ℕ → Splitting → Step ℕ
number_in xs field reg T = check (nat_lt reg 40) OutOfRange (at_copy T reg (λ i. did (numeral (read_of xs T i (number field))) T))

-- whether a register is nil; whether two hold the same, which is the same copy, since they hold copies that serve one version
abbrev pub nil_in : ℕ → Splitting → Step Bool
nil_in reg T = check (nat_lt reg 40) OutOfRange (did (is_nil (T.regs reg)) T)

abbrev pub same_in : ℕ → ℕ → Splitting → Step Bool
same_in a b T = check (nat_lt a 40) OutOfRange (check (nat_lt b 40) OutOfRange (did (same_ref (T.regs a) (T.regs b)) T))

-- a new node, its copy the last
abbrev pub made : Splitting → ℕ → ℕ → (ℕ → ℕ) → Splitting
made T reg key numbers = record {
  copies = make_node T.working key numbers T.copies;
  regs = put T.regs reg (Some T.copies.total);
  working = T.working;
  draft = T.draft;
  linked = T.linked;
  numbered = T.numbered;
  used = T.used;
  node_limit = T.node_limit;
  change_limit = T.change_limit;
}

abbrev pub make_in : ℕ → ℕ → ℕ → ℕ → Splitting → Step Unit
make_in reg key value mark T =
    check (nat_lt reg 40) OutOfRange (check (is_draft T.draft T.working) OutsideDraft (check (nat_lt T.copies.made T.node_limit) NodesSpent
    (did tt (made T reg key (new_node key value mark).numbers))))

-- the copies after the link l of the copy i is set to v at the working version
abbrev pub relinked : List ℕ → Splitting → ℕ → ℕ → Value → Copies
relinked xs T i l v = relink (position xs) T.working (next_of (following xs T.working)) i l v T.copies

abbrev pub renumbered : List ℕ → Splitting → ℕ → ℕ → ℕ → Copies
renumbered xs T i n w = set_number (position xs) T.working (next_of (following xs T.working)) i n w T.copies

-- the memory after such a change: one link write more, or one number write; the entries that came in are used
abbrev pub link_set : List ℕ → Splitting → ℕ → ℕ → Value → Splitting
link_set xs T i l v = record {
  copies = relinked xs T i l v;
  regs = T.regs;
  working = T.working;
  draft = T.draft;
  linked = T.linked + 1;
  numbered = T.numbered;
  used = T.used + (all_entries (relinked xs T i l v) - all_entries T.copies);
  node_limit = T.node_limit;
  change_limit = T.change_limit;
}

abbrev pub number_set : List ℕ → Splitting → ℕ → ℕ → ℕ → Splitting
number_set xs T i n w = record {
  copies = renumbered xs T i n w;
  regs = T.regs;
  working = T.working;
  draft = T.draft;
  linked = T.linked;
  numbered = T.numbered + 1;
  used = T.used + (all_entries (renumbered xs T i n w) - all_entries T.copies);
  node_limit = T.node_limit;
  change_limit = T.change_limit;
}

-- the link l of the copy i may be set to v: no third link comes of it
abbrev pub room_for : List ℕ → Splitting → ℕ → ℕ → Value → Bool
room_for xs T i l v = not (crowded (slice (position xs) T.working T.copies) i l v)

abbrev pub save_in : List ℕ → ℕ → ℕ → Splitting → Step Unit
save_in xs root reg T =
    check (nat_lt root 3) OutOfRange (check (nat_lt reg 40) OutOfRange (writing T
    (check (room_for xs T 0 (link root) (naming (T.regs reg))) ThirdName (did tt (link_set xs T 0 (link root) (naming (T.regs reg)))))))

abbrev pub link_in : List ℕ → ℕ → ℕ → ℕ → Splitting → Step Unit
link_in xs from side reg T =
    check (nat_lt from 40) OutOfRange (check (nat_lt side 2) OutOfRange (check (nat_lt reg 40) OutOfRange (at_copy T from (λ i. writing T
    (check (room_for xs T i (link side) (naming (T.regs reg))) ThirdName (did tt (link_set xs T i (link side) (naming (T.regs reg)))))))))

abbrev pub set_number_in : List ℕ → ℕ → ℕ → ℕ → Splitting → Step Unit
set_number_in xs field reg x T = check (nat_lt reg 40) OutOfRange (at_copy T reg (λ i. writing T (did tt (number_set xs T i field x))))

-- a new version behind a, which is the draft; the working version stays
abbrev pub with_draft : Splitting → Copies → ℕ → Option ℕ → (ℕ → Option ℕ) → Splitting
with_draft T copies working draft regs = record {
  copies = copies;
  regs = regs;
  working = working;
  draft = draft;
  linked = T.linked;
  numbered = T.numbered;
  used = T.used;
  node_limit = T.node_limit;
  change_limit = T.change_limit;
}

abbrev pub open_in : ℕ → ℕ → Splitting → Step ℕ
open_in limit a T =
    check (is_nil T.draft) DraftOpen (check (nat_lt a T.copies.versions) (Order UnknownItem) (check (nat_lt T.copies.versions limit) (Order Full)
    (did T.copies.versions (with_draft T (opened T.copies) T.working (Some T.copies.versions) T.regs))))

abbrev pub enter_in : ℕ → Splitting → Step Unit
enter_in v T = check (nat_lt v T.copies.versions) (Order UnknownItem) (did tt (with_draft T T.copies v T.draft (λ _. None)))

abbrev pub close_in : Splitting → Step Unit
close_in T = check (is_held T.draft) NoDraft (did tt (with_draft T T.copies T.working None T.regs))

-- a register that holds the old copy holds the new one, where the working version stands at x or behind
abbrev pub renamed_reg : Bool → ℕ → ℕ → Option ℕ → Option ℕ
renamed_reg later c d None = None
renamed_reg later c d (Some r) = Some (cond later (swap c d r) r)

-- the split of the copy c
abbrev pub split_in : List ℕ → ℕ → Splitting → Splitting
split_in xs c T = record {
  copies = split (position xs) c (split_version T.copies c) T.copies;
  regs = λ r. renamed_reg (nat_le (position xs (split_version T.copies c)) (position xs T.working)) c T.copies.total (T.regs r);
  working = T.working;
  draft = T.draft;
  linked = T.linked;
  numbered = T.numbered;
  used = T.used + (elsewhere T.copies.total c (split (position xs) c (split_version T.copies c) T.copies) - elsewhere T.copies.total c T.copies);
  node_limit = T.node_limit;
  change_limit = T.change_limit;
}

-- no copy of a node has more than 18 entries
abbrev pub Settled : Splitting → Type 0
Settled T = (i : ℕ) → i < T.copies.total → (i ≢ 0) → size T.copies i ≤ 18
