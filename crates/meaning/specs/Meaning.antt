-- What a splitting memory means as an abstract memory, and that each call steps as the abstract memory does.
--
--   ref, graph_of                            a state of the abstract memory, with its roots as the links of serial number 0
--   world_of                                 the world of the theory of space
--   RegisterHolds                            a register's copy is that of the serial number which the abstract register holds
--   Stands                                   a splitting memory stands for an abstract memory
--   Agrees                                   two steps agree: same answer, same refusal, and what is left stands for what is left
--   FreshStands                              a fresh memory
--   ReadsAgree, WritesAgree, VersionsAgree   the calls
--   SplitStands                              a split leaves a memory that stands for the same
--   StandsSpaced                             the bounds on copies and entries
use Rattle.std.specs.Prelude.{◌≡◌, ℕ, zero, suc, ◌+◌, ◌-◌, ◌*◌, ◌<◌, ◌≤◌, Bool, true, cond, List, [], ◌∷◌, length, is_some, Some, None, Option, ◌≢◌, nat_lt}
use Rattle.fields.specs.declared.kinds.Value.{Value}
use Rattle.fields.specs.declared.kinds.Value.TheVariants.{Number, Nil, To}
use Rattle.order.specs.Items.{position, behind}
use Rattle.memory.specs.Memory.{Node, State, Memory, changed, state_of, fresh, Sound}
use Rattle.memory.specs.Steps.{Done, done, no, load_of, follow_of, move_of, key_of, number_of, nil_of, same_of, make_of, save_of, link_of, set_number_of, open_of, enter_of, close_of}
use Rattle.slices.specs.Copies.{Copies, Serves}
use Rattle.states.specs.Nodes.{NodeState}
use Rattle.space.specs.Space.{size}
use Rattle.space.specs.Runs.{World, Kept, Spaced, fresh_copies}
use Rattle.meaning.specs.Tables.{Splitting, Step, did, refused, load_in, follow_in, move_in, key_in, number_in, nil_in, same_in, make_in, save_in, link_in, set_number_in, open_in, enter_in, close_in, split_in}

-- a link to the node k is a link to the serial number k + 1
abbrev pub ref : Option ℕ → Value
ref None = Nil
ref (Some k) = To (suc k)

-- the links and numbers of a node; back links belong to no state
abbrev pub field_of : Node → ℕ → Value
field_of n f = cond (nat_lt f 2) (ref (n.links f)) (cond (nat_lt f 5) Nil (Number (n.numbers (f - 5))))

abbrev pub node_fields : Option Node → ℕ → Value
node_fields None f = Nil
node_fields (Some n) f = field_of n f

abbrev pub node_key : Option Node → ℕ
node_key None = 0
node_key (Some n) = n.key

-- the serial number 0 is the root record's, k + 1 that of the node k
abbrev pub graph_has : State → ℕ → Bool
graph_has s zero = true
graph_has s (suc k) = is_some (s.nodes k)

abbrev pub graph_key : State → ℕ → ℕ
graph_key s zero = 0
graph_key s (suc k) = node_key (s.nodes k)

abbrev pub graph_get : State → ℕ → ℕ → Value
graph_get s zero f = cond (nat_lt f 3) (ref (s.roots f)) Nil
graph_get s (suc k) f = node_fields (s.nodes k) f

abbrev pub graph_of : State → NodeState
graph_of s = record { has = graph_has s; key = graph_key s; get = graph_get s }

-- the copies in their order, with the states of the abstract memory
abbrev pub world_of : List ℕ → Splitting → Memory → ℕ → World
world_of xs T m splits = record
    { order = xs; copies = T.copies; states = λ v. graph_of (state_of m v); splits = splits; linked = T.linked; numbered = T.numbered; used = T.used }

-- both are nil, or the register's copy serves the working version and has the serial number of the node
abbrev pub RegisterHolds : List ℕ → Copies → ℕ → Option ℕ → Option ℕ → Type 0
RegisterHolds xs M w None None = Unit {0}
RegisterHolds xs M w None (Some k) = ⊥
RegisterHolds xs M w (Some i) None = ⊥
RegisterHolds xs M w (Some i) (Some k) = Serves (position xs) M (position xs w) i × ((M.copy i).serial ≡ suc k)

-- the splitting memory T, over the order xs, stands for the abstract memory m: its copies stand for the states of m, its space is paid for,
-- and all else is equal
pub record Stands (xs : List ℕ) (T : Splitting) (m : Memory) : Type 0 where
  pub splits : ℕ
  pub kept : Kept (world_of xs T m splits)
  pub sound : Sound m
  pub made : T.copies.made ≡ m.made
  pub versions : m.rest.versions ≡ length xs
  pub working : T.working ≡ m.rest.working
  pub draft : T.draft ≡ m.rest.draft
  pub linked : T.linked ≡ m.linked
  pub numbered : T.numbered ≡ m.numbered
  pub node_limit : T.node_limit ≡ m.node_limit
  pub change_limit : T.change_limit ≡ m.change_limit
  pub regs : (r : ℕ) → r < 40 → RegisterHolds xs T.copies T.working (T.regs r) (m.regs r)

-- both are accepted with one answer, and what is left stands for what is left; or both are refused for one reason
abbrev pub AgreesIs : {A : Type 0} → List ℕ → Step A → Done A → Type 0
AgreesIs xs (did a T) (done b m) = (a ≡ b) × Stands xs T m
AgreesIs xs (did a T) (no f) = ⊥
AgreesIs xs (refused e) (done b m) = ⊥
AgreesIs xs (refused e) (no f) = e ≡ f

pub record Agrees {A : Type 0} (xs : List ℕ) (s : Step A) (d : Done A) : Type 0 where
  pub is : AgreesIs xs s d

-- the root record alone, all nil, at version 0
abbrev pub fresh_tables : ℕ → ℕ → Splitting
fresh_tables n c = record { copies = fresh_copies; regs = λ _. None; working = 0; draft = None; linked = 0; numbered = 0; used = 0; node_limit = n; change_limit = c }

abbrev pub FreshStands : Type 0
FreshStands = (n c : ℕ) → Stands (0 ∷ []) (fresh_tables n c) (fresh n c)

-- load, follow, move, key, numbers, nil and same
abbrev pub ReadsAgree : Type 0
ReadsAgree = (xs : List ℕ) (T : Splitting) (m : Memory) → Stands xs T m
    → ((root reg : ℕ) → Agrees xs (load_in xs root reg T) (load_of root reg m))
    × ((from side reg : ℕ) → Agrees xs (follow_in xs from side reg T) (follow_of from side reg m))
    × ((from reg : ℕ) → Agrees xs (move_in from reg T) (move_of from reg m))
    × ((reg : ℕ) → Agrees xs (key_in reg T) (key_of reg m))
    × ((field reg : ℕ) → Agrees xs (number_in xs field reg T) (number_of field reg m))
    × ((reg : ℕ) → Agrees xs (nil_in reg T) (nil_of reg m))
    × ((a b : ℕ) → Agrees xs (same_in a b T) (same_of a b m))

-- make, save, link and the change of a number
abbrev pub WritesAgree : Type 0
WritesAgree = (xs : List ℕ) (T : Splitting) (m : Memory) → Stands xs T m
    → ((reg key value mark : ℕ) → Agrees xs (make_in reg key value mark T) (make_of reg key value mark m))
    × ((root reg : ℕ) → Agrees xs (save_in xs root reg T) (save_of root reg m))
    × ((from side reg : ℕ) → Agrees xs (link_in xs from side reg T) (link_of from side reg m))
    × ((field reg x : ℕ) → Agrees xs (set_number_in xs field reg x T) (set_number_of field reg x m))

-- the list after open: a new item right behind a, where the call is accepted
abbrev pub items_of : {A : Type 0} → List ℕ → ℕ → Step A → List ℕ
items_of xs a (did b T) = behind xs a (length xs)
items_of xs a (refused e) = xs

-- open, enter and close
abbrev pub VersionsAgree : Type 0
VersionsAgree = (xs : List ℕ) (T : Splitting) (m : Memory) → Stands xs T m
    → ((limit a : ℕ) → Agrees (items_of xs a (open_in limit a T)) (open_in limit a T) (open_of limit a m))
    × ((v : ℕ) → Agrees xs (enter_in v T) (enter_of v m))
    × (Agrees xs (close_in T) (close_of m))

-- a copy of a node with more than 18 entries is split: the memory stands for the same
abbrev pub SplitStands : Type 0
SplitStands = (xs : List ℕ) (T : Splitting) (m : Memory) (c : ℕ) → Stands xs T m → (c ≢ 0) → c < T.copies.total → 18 < size T.copies c
    → Stands xs (split_in xs c T) m

-- copies and entries ever used are within the bounds, by what the abstract memory counts
abbrev pub StandsSpaced : Type 0
StandsSpaced = (xs : List ℕ) (T : Splitting) (m : Memory) → Stands xs T m
    → Spaced (T.copies.total - 1) T.used m.made m.linked m.numbered
    × (T.copies.total - 1 ≤ m.made + changed m)
    × (T.used ≤ 10 * changed m)
