-- How many entries a change, a renaming and a split leave.
--
--   version_at             the version of an entry, by its number
--   SplitHalves            a list of more than 18 entries, parted at the version of its middle entry
--   PutAdds, RenamedAdds   at most one entry comes in, and none is lost
use Rattle.std.specs.Prelude.{ℕ, zero, suc, ◌+◌, ◌-◌, ◌/◌, ◌<◌, ◌≤◌, Bool, cond, List, [], ◌∷◌, length}
use Rattle.fields.specs.declared.kinds.Value.{Value}
use Rattle.entries.specs.Entries.{Entry, read, Sorted, entries_before, entries_behind, put, renamed}

-- the version of the entry number k, counted from 0
abbrev pub version_at : {V : Type 0} → List (Entry V) → ℕ → ℕ
version_at [] k = 0
version_at (e ∷ es) zero = e.version
version_at (e ∷ es) (suc k) = version_at es k

-- n entries, more than 18, parted at the version of the entry number ⌊n/2⌋, counted from 0: at most half of them stand before it and
-- fewer than half behind, so that what the two parts have above nine each is at least ten less than what the whole had above nine
abbrev pub SplitHalves : Type 0
SplitHalves = (pos : ℕ → ℕ) (es : List (Entry Value)) → Sorted pos es → 18 < length es
    → (length (entries_before pos (pos (version_at es (length es / 2))) es) ≤ length es / 2)
    × (length (entries_behind pos (pos (version_at es (length es / 2))) es) + length es / 2 + 1 ≤ length es)
    × ((length (entries_before pos (pos (version_at es (length es / 2))) es) - 9)
    + (length (entries_behind pos (pos (version_at es (length es / 2))) es) - 9) + 10 ≤ length es - 9)

abbrev pub PutAdds : Type 0
PutAdds = (pos : ℕ → ℕ) (f u : ℕ) (w : Value) (es : List (Entry Value))
    → (length (put pos f u w es) ≤ length es + 1) × (length es ≤ length (put pos f u w es))

-- one entry comes in where the value that holds across x is renamed, else none
abbrev pub RenamedAdds : Type 0
RenamedAdds = (pos : ℕ → ℕ) (m : Value → Bool) (r : Value → Value) (f x : ℕ) (a : Value) (es : List (Entry Value))
    → (length (renamed pos m r f x a es) ≤ length es + cond (m (read pos f (pos x) a es)) 1 0)
    × (length es ≤ length (renamed pos m r f x a es))
