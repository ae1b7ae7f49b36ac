-- What a memory means: one abstract record for pointer memories and versioned memories alike.
--
--   Node                               a node: its key place, its numbers and its links
--   State                              the roots and nodes of one version, and how often each node is named
--   Rest                               what the calls of a pointer memory keep: the other versions, the working version, the draft
--   Memory                             a whole memory
--   changed                            the changes accepted so far
--   put                                a function of a number with one place changed
--   hits                               whether a link or root names a node, as 0 or 1
--   with_link, with_number, new_node   a node with one link or number written; a node at its birth
--   renamed, names_of                  the numbers of names after a link or root is written; the names of what a register holds
--   state_of                           the state of any version
--   is_draft                           whether a version is the draft
--   AllNil                             all registers are nil
--   fresh, fresh_single                the memories that makers make
--   sum_to, node_hits, count           the true count of the links and roots that name a node
--   Orderly                            a state whose numbers of names are the true counts, and that names only its own nodes
--   Sound                              a memory whose versions are all in order
use Rattle.std.specs.Prelude.{◌≡◌, ℕ, zero, suc, ◌+◌, ◌-◌, ◌<◌, ◌≤◌, Bool, true, false, cond, List, [], ◌∷◌, is_some, Some, None, Option, ◌==◌, nat_lt}
use Rattle.order.specs.Items.{member}

-- A node. Its key place is fixed at birth. Number 0 is its value, number 1 its mark; link 0 is left, link 1 right, and a link holds
-- a serial number or nil. Numbers and links above these are never asked.
pub record Node : Type 0 where
  pub key : ℕ
  pub numbers : ℕ → ℕ
  pub links : ℕ → Option ℕ

-- The state of one version: the roots by their numbers, the nodes by their serial numbers (none where the node was not born on the
-- version's path), and how many links and roots of this state name each node; `Orderly`, below, says that this is the true count.
pub record State : Type 0 where
  pub roots : ℕ → Option ℕ
  pub nodes : ℕ → Option Node
  pub names : ℕ → ℕ

-- What the calls of a pointer memory keep: the states of the other versions (what stands here under the working version is never
-- looked at), the working version, the draft, the number of versions, and the path of each, which is the path of the version that
-- it was opened on, and itself.
pub record Rest : Type 0 where
  pub others : ℕ → State
  pub working : ℕ
  pub draft : Option ℕ
  pub versions : ℕ
  pub paths : ℕ → List ℕ

-- A memory: the state of the working version, the registers by their numbers, how many nodes were made and the version that each was
-- made at, how many link and root writes and how many number writes were accepted, the limits, whether writes are allowed, and the rest.
pub record Memory : Type 0 where
  pub state : State
  pub regs : ℕ → Option ℕ
  pub made : ℕ
  pub birth : ℕ → ℕ
  pub linked : ℕ
  pub numbered : ℕ
  pub node_limit : ℕ
  pub change_limit : ℕ
  pub writable : Bool
  pub rest : Rest

-- the changes accepted, of both kinds; they are what the limit of changes is on
abbrev pub changed : Memory → ℕ
changed m = m.linked + m.numbered

-- f with x at i
abbrev pub put : {A : Type 0} → (ℕ → A) → ℕ → A → ℕ → A
put f i x j = cond (i == j) x (f j)

-- how often a link or root names the node i: once or not
abbrev pub hits : ℕ → Option ℕ → ℕ
hits i None = 0
hits i (Some k) = cond (i == k) 1 0

-- n with the link on a side written
abbrev pub with_link : ℕ → Option ℕ → Node → Node
with_link side x n = record { key = n.key; numbers = n.numbers; links = put n.links side x }

-- n with a number written
abbrev pub with_number : ℕ → ℕ → Node → Node
with_number field x n = record { key = n.key; numbers = put n.numbers field x; links = n.links }

-- a node at its birth: both links nil, and 0 in every number that is not given
abbrev pub new_node : ℕ → ℕ → ℕ → Node
new_node key value mark = record { key = key; numbers = put (put (λ _. 0) 1 mark) 0 value; links = λ _. None }

-- the numbers of names once a link or root that held `old` holds `new`
abbrev pub renamed : (ℕ → ℕ) → Option ℕ → Option ℕ → ℕ → ℕ
renamed names old new i = names i + hits i new - hits i old

-- the number of names of what a link, root or register holds; nil has none
abbrev pub names_of : (ℕ → ℕ) → Option ℕ → ℕ
names_of names None = 0
names_of names (Some k) = names k

-- the state of the version v
abbrev pub state_of : Memory → ℕ → State
state_of m v = cond (m.rest.working == v) m.state (m.rest.others v)

-- whether v is the draft
abbrev pub is_draft : Option ℕ → ℕ → Bool
is_draft None v = false
is_draft (Some d) v = d == v

-- all 40 registers are nil
abbrev pub AllNil : Memory → Type 0
AllNil m = (reg : ℕ) → reg < 40 → m.regs reg ≡ None

-- a state without nodes
abbrev pub empty_state : State
empty_state = record { roots = λ _. None; nodes = λ _. None; names = λ _. 0 }

-- a fresh memory with the limits n and c, at version 0: no nodes, all counts 0, all nil
abbrev pub fresh_with : Option ℕ → Bool → ℕ → ℕ → Memory
fresh_with draft writable n c = record {
  state = empty_state;
  regs = λ _. None;
  made = 0;
  birth = λ _. 0;
  linked = 0;
  numbered = 0;
  node_limit = n;
  change_limit = c;
  writable = writable;
  rest = record { others = λ _. empty_state; working = 0; draft = draft; versions = 1; paths = λ _. 0 ∷ [] };
}

-- a fresh versioned memory has no draft
abbrev pub fresh : ℕ → ℕ → Memory
fresh n c = fresh_with None false n c

-- a fresh single-version memory: its one version is always the draft
abbrev pub fresh_single : ℕ → ℕ → Memory
fresh_single n c = fresh_with (Some 0) true n c

-- the sum of f 0 .. f (n - 1)
abbrev pub sum_to : ℕ → (ℕ → ℕ) → ℕ
sum_to zero f = 0
sum_to (suc n) f = sum_to n f + f n

-- how many links of a node name the node i
abbrev pub node_hits : ℕ → Option Node → ℕ
node_hits i None = 0
node_hits i (Some n) = sum_to 2 (λ side. hits i (n.links side))

-- the true count of the links and roots of a state that name the node i, among nodes with serial numbers below `made`
abbrev pub count : ℕ → State → ℕ → ℕ
count made s i = sum_to 3 (λ r. hits i (s.roots r)) + sum_to made (λ k. node_hits i (s.nodes k))

-- A state is in order when its numbers of names are the true counts, at most two, and its roots and links name nodes that it has.
pub record Orderly (made : ℕ) (s : State) : Type 0 where
  pub counted : (i : ℕ) → s.names i ≡ count made s i
  pub few : (i : ℕ) → s.names i ≤ 2
  pub unborn : (k : ℕ) → made ≤ k → s.nodes k ≡ None
  pub rooted : (i k : ℕ) → i < 3 → s.roots i ≡ Some k → is_some (s.nodes k) ≡ true
  pub linked : (j : ℕ) (n : Node) (side k : ℕ) → side < 2 → s.nodes j ≡ Some n → n.links side ≡ Some k → is_some (s.nodes k) ≡ true

-- A memory is sound when the state of every version is in order, the nodes of a version are those born on its path, no path but its
-- own has the draft, the registers name nodes of the working state, and writes are allowed where the working version is the draft.
pub record Sound (m : Memory) : Type 0 where
  pub states : (v : ℕ) → v < m.rest.versions → Orderly m.made (state_of m v)
  pub held : (r k : ℕ) → r < 40 → m.regs r ≡ Some k → is_some (m.state.nodes k) ≡ true
  pub writes : m.writable ≡ is_draft m.rest.draft m.rest.working
  pub works : m.rest.working < m.rest.versions
  pub drafts : (v : ℕ) → m.rest.draft ≡ Some v → v < m.rest.versions
  pub few_nodes : m.made ≤ m.node_limit
  pub few_changes : changed m ≤ m.change_limit
  pub nodes : (v k : ℕ) → v < m.rest.versions → is_some ((state_of m v).nodes k) ≡ cond (nat_lt k m.made) (member (m.rest.paths v) (m.birth k)) false
  pub births : (k : ℕ) → k < m.made → m.birth k < m.rest.versions
  pub own : (v : ℕ) → v < m.rest.versions → member (m.rest.paths v) v ≡ true
  pub known : (v w : ℕ) → v < m.rest.versions → member (m.rest.paths v) w ≡ true → w < m.rest.versions
  pub leaf : (d v : ℕ) → m.rest.draft ≡ Some d → v < m.rest.versions → member (m.rest.paths v) d ≡ true → v ≡ d
