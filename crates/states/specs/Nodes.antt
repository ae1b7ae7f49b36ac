-- The states that the copies stand for: for each version the nodes that it holds, by serial number, as if it had a memory of its own.
--
--   NodeState                                                       which serial numbers a version holds, their key places, links and numbers
--   by_serial                                                       a link to a copy as a link to its serial number
--   Shows, Means                                                    a slice shows a state; the copies stand for the states of all versions
--   with_node, wrote                                                a state with a new node; a state with a link or number written
--   StateClosed                                                     a state names only nodes that it holds
--   SplitMeans, OpenMeans, MakeMeans, RelinkMeans, SetNumberMeans   what each step does to the states
--   SplitRegister                                                   what a split does to a register that holds a copy
--
-- The serial number 0 is that of the root record, whose links are the roots; a node with the serial number s has s + 1 here.
use Rattle.std.specs.Prelude.{◌≡◌, ℕ, suc, ◌<◌, Bool, true, false, cond, ◌⊎◌, ◌≢◌, nat_le}
use Rattle.fields.specs.declared.kinds.Value.{Value}
use Rattle.fields.specs.declared.kinds.Value.TheVariants.{Number, Nil, To, From}
use Rattle.fields.specs.Fields.{number, HasLink, Shown}
use Rattle.memory.specs.Memory.{put}
use Rattle.slices.specs.Slices.{with_value, swap}
use Rattle.slices.specs.Copies.{Copies, value_at, Serves, Sound}
use Rattle.slices.specs.Splits.{split}
use Rattle.slices.specs.Openings.{opened, up}
use Rattle.slices.specs.Births.{first_values, make_node, Served}
use Rattle.states.specs.Relinks.{slice, relink, crowded, Behind, LinkTarget, set_number}

pub record NodeState : Type 0 where
  pub has : ℕ → Bool
  pub key : ℕ → ℕ
  pub get : ℕ → ℕ → Value

-- a link to a copy, as a link to its serial number; a state has no back links
abbrev pub by_serial : Copies → Value → Value
by_serial M (Number n) = Number n
by_serial M Nil = Nil
by_serial M (To k) = To (M.copy k).serial
by_serial M (From a l) = Nil

-- the slice of the position p shows the state: what the state holds is served, with its key place, links and numbers; a node that it
-- does not hold, since it was not made on the version's path, has nil links and is not named
pub record Shows (pos : ℕ → ℕ) (M : Copies) (p : ℕ) (st : NodeState) : Type 0 where
  pub root : st.has 0 ≡ true
  pub held : (s : ℕ) → st.has s ≡ true → Served pos M p s
  pub keyed : (i : ℕ) → Serves pos M p i → st.has (M.copy i).serial ≡ true → st.key (M.copy i).serial ≡ (M.copy i).key
  pub holds : (i f : ℕ) → Serves pos M p i → st.has (M.copy i).serial ≡ true → Shown f → st.get (M.copy i).serial f ≡ by_serial M (value_at pos p (M.copy i) f)
  pub blank : (i f : ℕ) → Serves pos M p i → st.has (M.copy i).serial ≡ false → f < 5 → value_at pos p (M.copy i) f ≡ Nil

-- the copies stand for the states A: the slice of each version v shows A v
abbrev pub Means : (ℕ → ℕ) → Copies → (ℕ → NodeState) → Type 0
Means pos M A = (v : ℕ) → pos v < M.versions → Shows pos M (pos v) (A v)

-- no other version stands where u does
abbrev pub Alone : (ℕ → ℕ) → Copies → ℕ → Type 0
Alone pos M u = (v : ℕ) → pos v < M.versions → pos v ≡ pos u → v ≡ u

-- a state names only nodes that it holds
abbrev pub StateClosed : Type 0
StateClosed = (pos : ℕ → ℕ) (M : Copies) (p : ℕ) (st : NodeState) → Sound pos M → Shows pos M p st
    → (s f t : ℕ) → st.has s ≡ true → Shown f → st.get s f ≡ To t → st.has t ≡ true

-- a split alters no state
abbrev pub SplitMeans : Type 0
SplitMeans = (pos : ℕ → ℕ) (M : Copies) (A : ℕ → NodeState) (c x : ℕ) → Sound pos M
    → (c ≢ 0) → Serves pos M (pos x) c → pos (M.copy c).lo < pos x → Means pos M A → Means pos (split pos c x M) A

-- a new version b, right behind a in the order, has a's state, and every other version keeps its own
abbrev pub OpenMeans : Type 0
OpenMeans = (pos pos' : ℕ → ℕ) (M : Copies) (A : ℕ → NodeState) (a b : ℕ) → pos a < M.versions → pos' b ≡ suc (pos a)
    → ((v : ℕ) → pos v < M.versions → pos' v ≡ up (suc (pos a)) (pos v)) → ((v : ℕ) → pos' v < suc M.versions → (v ≡ b) ⊎ (pos v < M.versions))
    → Sound pos M → Means pos M A → Means pos' (opened M) (put A b (A a))

-- a state with one node more: the serial number s, the key place k, nil links and the numbers given
abbrev pub with_node : ℕ → ℕ → (ℕ → ℕ) → NodeState → NodeState
with_node s k numbers st = record { has = put st.has s true; key = put st.key s k; get = put st.get s (first_values numbers) }

-- a node made in u belongs to u's state alone
abbrev pub MakeMeans : Type 0
MakeMeans = (pos : ℕ → ℕ) (M : Copies) (A : ℕ → NodeState) (u k : ℕ) (numbers : ℕ → ℕ) → Sound pos M → pos u < M.versions → Alone pos M u → Means pos M A
    → Means pos (make_node u k numbers M) (put A u (with_node (suc M.made) k numbers (A u)))

-- a state in which the field f of the serial number s is v
abbrev pub wrote : ℕ → ℕ → Value → NodeState → NodeState
wrote s f v st = record { has = st.has; key = st.key; get = with_value st.get s f v }

-- the state holds the node of the copy that v names
abbrev pub Held : Copies → NodeState → Value → Type 0
Held M st v = (k : ℕ) → v ≡ To k → st.has (M.copy k).serial ≡ true

-- a link written in u is written in u's state alone
abbrev pub RelinkMeans : Type 0
RelinkMeans = (pos : ℕ → ℕ) (M : Copies) (A : ℕ → NodeState) (u s : ℕ) (i l : ℕ) (v : Value) → Sound pos M → Alone pos M u
    → Behind pos M u s → Serves pos M (pos u) i → HasLink i l → LinkTarget pos M u v
    → (A u).has (M.copy i).serial ≡ true → Held M (A u) v
    → crowded (slice pos u M) i l v ≡ false → Means pos M A
    → Means pos (relink pos u s i l v M) (put A u (wrote (M.copy i).serial l (by_serial M v) (A u)))

-- a number written in u is written in u's state alone
abbrev pub SetNumberMeans : Type 0
SetNumberMeans = (pos : ℕ → ℕ) (M : Copies) (A : ℕ → NodeState) (u s : ℕ) (i n w : ℕ) → Sound pos M → Alone pos M u
    → Behind pos M u s → Serves pos M (pos u) i → (i ≢ 0)
    → (A u).has (M.copy i).serial ≡ true → Means pos M A
    → Means pos (set_number pos u s i n w M) (put A u (wrote (M.copy i).serial (number n) (Number w) (A u)))

-- a register that holds a copy at the position p: after a split at x it holds the new copy where it held the old one and p stands at
-- x or behind; the copy serves p, and its node is the same
abbrev pub SplitRegister : Type 0
SplitRegister = (pos : ℕ → ℕ) (M : Copies) (c x : ℕ) → Sound pos M
    → (c ≢ 0) → Serves pos M (pos x) c → pos (M.copy c).lo < pos x → (p r : ℕ) → Serves pos M p r
    → Serves pos (split pos c x M) p (cond (nat_le (pos x) p) (swap c M.total r) r)
    × (((split pos c x M).copy (cond (nat_le (pos x) p) (swap c M.total r) r)).serial ≡ (M.copy r).serial)
