-- The laws of a memory. They hold of every sound memory, and every memory that calls make of a fresh one is sound.
--
--   StaysSound, RunsSound                  every call keeps a memory sound; so every run from a fresh memory is sound
--   TrueNames                              the number of names of a node is the true count of the links and roots that name it, at most two
--   KeepsRest                              the calls of a pointer memory keep the rest
--   WorksAlone                             a call changes the state of the working version alone
--   SealedStays, StaysSealed, SealedRuns   a version other than the draft never changes, over a call and over a run
--   OpenCopies                             open makes the next version, a copy of the one it is opened on
--   EnterKeeps, ThereAndBack               enter changes no state; entering and coming back leaves the working state as it was
--   MakesNew, MadeGrows, SerialOnce        a new node's serial number is in no version, and is given to no second node
--   KeepsKeys                              a node keeps its key place
--   NodesOfPath                            the nodes of a version are those born on its path
use Rattle.std.specs.Prelude.{◌≡◌, ℕ, suc, ◌<◌, ◌≤◌, true, false, cond, List, ◌∷◌, is_some, Some, None, ◌≢◌, nat_lt}
use Rattle.order.specs.Items.{member}
use Rattle.memory.specs.Memory.{Node, State, Memory, AllNil, count, state_of, Sound, fresh, fresh_single}
use Rattle.memory.specs.Steps.{done, enter_of, open_of, make_of}
use Rattle.memory.specs.Calls.{Call, after, run_of, is_lower}

-- every call keeps a memory sound, accepted or refused
abbrev pub StaysSound : Type 0
StaysSound = (c : Call) (m : Memory) → Sound m → Sound (after c m)

abbrev pub RunsSound : Type 0
RunsSound = (cs : List Call) (n c : ℕ) → Sound (run_of cs (fresh n c)) × Sound (run_of cs (fresh_single n c))

-- the number of names of the node i in the state s is the true count, and at most two
pub record TrulyNamed (made : ℕ) (s : State) (i : ℕ) : Type 0 where
  pub true_count : s.names i ≡ count made s i
  pub few : s.names i ≤ 2

abbrev pub TrueNames : Type 0
TrueNames = (cs : List Call) (n c v i : ℕ) → v < (run_of cs (fresh n c)).rest.versions →
    TrulyNamed (run_of cs (fresh n c)).made (state_of (run_of cs (fresh n c)) v) i

abbrev pub KeepsRest : Type 0
KeepsRest = (c : Call) (m : Memory) → Sound m → is_lower c ≡ true → (after c m).rest ≡ m.rest

abbrev pub WorksAlone : Type 0
WorksAlone = (c : Call) (m : Memory) (v : ℕ) → Sound m → v < m.rest.versions → (m.rest.working ≢ v) → state_of (after c m) v ≡ state_of m v

-- the version v is known, and is not the draft
pub record Sealed (m : Memory) (v : ℕ) : Type 0 where
  pub known : v < m.rest.versions
  pub ended : m.rest.draft ≡ Some v → ⊥

abbrev pub SealedStays : Type 0
SealedStays = (c : Call) (m : Memory) (v : ℕ) → Sound m → Sealed m v → state_of (after c m) v ≡ state_of m v

-- versions grow in number, and only a new version becomes the draft
abbrev pub StaysSealed : Type 0
StaysSealed = (c : Call) (m : Memory) (v : ℕ) → Sound m → Sealed m v → Sealed (after c m) v

abbrev pub SealedRuns : Type 0
SealedRuns = (cs : List Call) (m : Memory) (v : ℕ) → Sound m → Sealed m v → state_of (run_of cs m) v ≡ state_of m v

-- m' has one version more than m, the version n: it is a copy of a and the draft, and the working version stays
pub record Copied (a n : ℕ) (m m' : Memory) : Type 0 where
  pub next : n ≡ m.rest.versions
  pub copy : state_of m' n ≡ state_of m a
  pub others : (v : ℕ) → v < n → state_of m' v ≡ state_of m v
  pub draft : m'.rest.draft ≡ Some n
  pub working : m'.rest.working ≡ m.rest.working
  pub path : m'.rest.paths n ≡ n ∷ m.rest.paths a

abbrev pub OpenCopies : Type 0
OpenCopies = (limit a n : ℕ) (m m' : Memory) → Sound m → open_of limit a m ≡ done n m' → Copied a n m m'

-- m' is m with v as its working version
pub record Moved (v : ℕ) (m m' : Memory) : Type 0 where
  pub working : m'.rest.working ≡ v
  pub states : (w : ℕ) → state_of m' w ≡ state_of m w
  pub regs : AllNil m'

abbrev pub EnterKeeps : Type 0
EnterKeeps = (v : ℕ) (m m' : Memory) → enter_of v m ≡ done tt m' → Moved v m m'

abbrev pub ThereAndBack : Type 0
ThereAndBack = (v : ℕ) (m m' m'' : Memory) → enter_of v m ≡ done tt m' → enter_of m.rest.working m' ≡ done tt m'' →
    (m''.state ≡ m.state) × ((w : ℕ) → state_of m'' w ≡ state_of m w)

-- make at m gave the register reg a node that no version of m has
pub record NamedAnew (reg : ℕ) (m m' : Memory) : Type 0 where
  pub new : (v : ℕ) → v < m.rest.versions → (state_of m v).nodes m.made ≡ None
  pub made : m'.made ≡ suc m.made
  pub held : m'.regs reg ≡ Some m.made

abbrev pub MakesNew : Type 0
MakesNew = (reg key value mark : ℕ) (m m' : Memory) → Sound m → make_of reg key value mark m ≡ done tt m' → NamedAnew reg m m'

abbrev pub MadeGrows : Type 0
MadeGrows = (c : Call) (m : Memory) → Sound m → m.made ≤ (after c m).made

-- of two nodes made in one run, the later has the higher serial number
abbrev pub SerialOnce : Type 0
SerialOnce = (cs : List Call) (reg key value mark i j : ℕ) (reg' key' value' mark' : ℕ) (m m' m'' : Memory) → Sound m →
    make_of reg key value mark m ≡ done tt m' → make_of reg' key' value' mark' (run_of cs m') ≡ done tt m'' →
    m'.regs reg ≡ Some i → m''.regs reg' ≡ Some j → i < j

-- the node k of the state s has the key place of n
abbrev pub HasKey : State → ℕ → Node → Type 0
HasKey s k n = (n' : Node) × (s.nodes k ≡ Some n') × (n'.key ≡ n.key)

abbrev pub KeepsKeys : Type 0
KeepsKeys = (c : Call) (m : Memory) (v k : ℕ) (n : Node) → Sound m → v < m.rest.versions → (state_of m v).nodes k ≡ Some n → HasKey (state_of (after c m) v) k n

-- the version v of m has the node k exactly when it was made, at a version on the path of v
abbrev pub BornOnPath : Memory → ℕ → ℕ → Type 0
BornOnPath m v k = is_some ((state_of m v).nodes k) ≡ cond (nat_lt k m.made) (member (m.rest.paths v) (m.birth k)) false

abbrev pub NodesOfPath : Type 0
NodesOfPath = (cs : List Call) (n c v k : ℕ) → v < (run_of cs (fresh n c)).rest.versions → BornOnPath (run_of cs (fresh n c)) v k
