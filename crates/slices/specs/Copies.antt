-- The copies of a splitting memory: which of them serves a version, and when they are sound.
--
--   Copy              a serial number, a key place, a first version, first values and entries
--   Copies            all copies, how many nodes were made and how many versions there are
--   value_at          what a field of a copy holds at a position
--   Serves, serving   a copy serves a position; the same as a test
--   CoherentAt        the slice of a position is coherent
--   CopyOk, Shaped    what holds of each copy alone, and of their places
--   Sound             shaped, and every version's slice is coherent
--   ServingTells      the test tells
--
-- The copy 0 is the root record: its serial number is 0, its first version stands first, and it is never split. A node with the
-- serial number s has the serial number s + 1 here. pos gives the position of a version in the order.
use Rattle.std.specs.Prelude.{◌≡◌, ℕ, zero, suc, ◌<◌, ◌≤◌, Bool, true, cond, List, ◌==◌, nat_le, nat_lt}
use Rattle.fields.specs.declared.kinds.Value.{Value}
use Rattle.entries.specs.Entries.{Entry, both, read, AllFrom, Sorted, Single, EachVersion}
use Rattle.slices.specs.Slices.{Coherent}

-- a copy of a node: lo is the first version that it serves, first gives the values of its fields there, and the entries those that
-- its fields take later
pub record Copy : Type 0 where
  pub serial : ℕ
  pub key : ℕ
  pub lo : ℕ
  pub first : ℕ → Value
  pub entries : List (Entry Value)

-- the copies 0 to total - 1; made nodes; versions versions
pub record Copies : Type 0 where
  pub total : ℕ
  pub copy : ℕ → Copy
  pub made : ℕ
  pub versions : ℕ

-- what the field f of a copy holds at the position p
abbrev pub value_at : (ℕ → ℕ) → ℕ → Copy → ℕ → Value
value_at pos p c f = read pos f p (c.first f) c.entries

-- the copy i serves the position p: its first version stands at p or before, and no other copy of its serial number begins behind
-- it and at p or before
abbrev pub Serves : (ℕ → ℕ) → Copies → ℕ → ℕ → Type 0
Serves pos M p i =
    (i < M.total) × (pos (M.copy i).lo ≤ p)
    × ((j : ℕ) → j < M.total → (M.copy j).serial ≡ (M.copy i).serial → pos (M.copy i).lo < pos (M.copy j).lo → p < pos (M.copy j).lo)
    × (p < M.versions)

-- none of the first m copies of the serial number of i begins behind i and at p or before
abbrev pub farther : (ℕ → ℕ) → Copies → ℕ → ℕ → ℕ → Bool
farther pos M p i zero = true
farther pos M p i (suc m) =
    both
    (cond (both ((M.copy m).serial == (M.copy i).serial) (nat_lt (pos (M.copy i).lo) (pos (M.copy m).lo))) (nat_lt p (pos (M.copy m).lo)) true)
    (farther pos M p i m)

-- whether the copy i serves the position p
abbrev pub serving : (ℕ → ℕ) → Copies → ℕ → ℕ → Bool
serving pos M p i = both (nat_lt i M.total) (both (nat_le (pos (M.copy i).lo) p) (both (farther pos M p i M.total) (nat_lt p M.versions)))

-- the test b tells whether P holds
abbrev pub Decides : Bool → Type 0 → Type 0
Decides b P = (P → b ≡ true) × (b ≡ true → P)

abbrev pub ServingTells : Type 0
ServingTells = (pos : ℕ → ℕ) (M : Copies) (p i : ℕ) → Decides (serving pos M p i) (Serves pos M p i)

-- the slice of the position p is coherent
abbrev pub CoherentAt : (ℕ → ℕ) → Copies → ℕ → Type 0
CoherentAt pos M p = Coherent (Serves pos M p) (λ i f. value_at pos p (M.copy i) f)

-- a copy's entries stand in order, behind its first version, at most one for each field and version
pub record CopyOk (pos : ℕ → ℕ) (c : Copy) : Type 0 where
  pub sorted : Sorted pos c.entries
  pub once : Single pos c.entries
  pub late : AllFrom pos (suc (pos c.lo)) c.entries

pub record Shaped (pos : ℕ → ℕ) (M : Copies) : Type 0 where
  pub copies : (i : ℕ) → i < M.total → CopyOk pos (M.copy i)
  -- no two copies of a serial number begin at one version
  pub apart : (i j : ℕ) → i < M.total → j < M.total → (M.copy i).serial ≡ (M.copy j).serial → pos (M.copy i).lo ≡ pos (M.copy j).lo → i ≡ j
  -- each entry's version is one that its copy serves
  pub hosted : (i : ℕ) → i < M.total → EachVersion (λ v. Serves pos M (pos v) i) (M.copy i).entries
  -- copies begin at known versions, and their serial numbers are those of nodes that were made
  pub known : (i : ℕ) → i < M.total → pos (M.copy i).lo < M.versions
  pub fewer : (i : ℕ) → i < M.total → (M.copy i).serial ≤ M.made
  -- the root record is the copy 0, begins at the first version and is the only copy of its serial number
  pub some : 0 < M.total
  pub root_serial : (M.copy 0).serial ≡ 0
  pub root_lo : pos (M.copy 0).lo ≡ 0
  pub root_only : (i : ℕ) → i < M.total → (M.copy i).serial ≡ 0 → i ≡ 0

pub record Sound (pos : ℕ → ℕ) (M : Copies) : Type 0 where
  pub shape : Shaped pos M
  pub good : (p : ℕ) → CoherentAt pos M p
