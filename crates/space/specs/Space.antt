-- How much the copies hold, what a change adds to it and what a split takes from it.
--
--   size, all_entries, elsewhere   entries of a copy, of all copies, of all but one
--   surplus                        what the copies of nodes hold above nine entries each, in all
--   split_version                  the version at which a copy is split
--   ChangeAdds, RelinkThree        a change of a field adds at most two entries; the change of a link is at most three of them
--   SplitVersionFits               a copy with more than 18 entries can be split there
--   SplitAdds                      what a split does to all of these
--
-- The argument: a copy is split when it has more than 18 entries, and the two parts have at most nine each above their nine, so that the
-- surplus falls by at least ten; at most four entries come in elsewhere, so it falls by at least six in all. A change of a number
-- raises it by at most two, a change of a link by at most six. So splits are at most as many as changes.
use Rattle.std.specs.Prelude.{ℕ, ◌+◌, ◌-◌, ◌*◌, ◌/◌, ◌<◌, ◌≤◌, Bool, cond, List, length, ◌==◌, ◌≢◌}
use Rattle.fields.specs.declared.kinds.Value.{Value}
use Rattle.entries.specs.Counts.{version_at}
use Rattle.memory.specs.Memory.{sum_to}
use Rattle.slices.specs.Copies.{Copies, Serves, Sound}
use Rattle.slices.specs.Splits.{split}
use Rattle.slices.specs.Changes.{FieldWrite, set_all}
use Rattle.states.specs.Relinks.{relinked}

-- the entries of the copy i
abbrev pub size : Copies → ℕ → ℕ
size M i = length (M.copy i).entries

-- all entries, those of the root record too
abbrev pub all_entries : Copies → ℕ
all_entries M = sum_to M.total (size M)

-- 0 in place of the value at c
abbrev pub except : ℕ → (ℕ → ℕ) → ℕ → ℕ
except c g i = cond (i == c) 0 (g i)

-- the entries of the first n copies but c
abbrev pub elsewhere : ℕ → ℕ → Copies → ℕ
elsewhere n c M = sum_to n (except c (size M))

-- what each copy of a node holds above nine, in all; the root record, which is never split, does not count
abbrev pub surplus : Copies → ℕ
surplus M = sum_to M.total (except 0 (λ i. size M i - 9))

-- changes of some fields: at most two entries each, and none is lost
abbrev pub ChangeAdds : Type 0
ChangeAdds = (pos : ℕ → ℕ) (u s : ℕ) (more : ℕ → Bool) (ws : List FieldWrite) (M : Copies)
    → (all_entries (set_all pos u s more ws M) ≤ all_entries M + 2 * length ws) × (all_entries M ≤ all_entries (set_all pos u s more ws M))
    × (surplus (set_all pos u s more ws M) ≤ surplus M + 2 * length ws)

-- the change of a link writes at most three fields
abbrev pub RelinkThree : Type 0
RelinkThree = (get : ℕ → ℕ → Value) (i l : ℕ) (v : Value) → length (relinked get i l v) ≤ 3

-- with n entries, the version of the entry number ⌊n/2⌋ + 1, counted from 1
abbrev pub split_version : Copies → ℕ → ℕ
split_version M c = version_at (M.copy c).entries (size M c / 2)

-- a copy with more than 18 entries serves that version, which stands behind its first
abbrev pub SplitVersionFits : Type 0
SplitVersionFits = (pos : ℕ → ℕ) (M : Copies) (c : ℕ) → Sound pos M → c < M.total → 18 < size M c
    → Serves pos M (pos (split_version M c)) c × (pos (M.copy c).lo < pos (split_version M c))

-- the split copy and the new one hold fewer than the copy did; at most four entries come in elsewhere, and none is lost there; and the
-- surplus falls by at least six
abbrev pub SplitAdds : Type 0
SplitAdds = (pos : ℕ → ℕ) (M : Copies) (c : ℕ) → Sound pos M → (c ≢ 0) → c < M.total → 18 < size M c
    → (size (split pos c (split_version M c) M) c + size (split pos c (split_version M c) M) M.total + 1 ≤ size M c)
    × ((size (split pos c (split_version M c) M) c - 9) + (size (split pos c (split_version M c) M) M.total - 9) + 10 ≤ size M c - 9)
    × (elsewhere M.total c (split pos c (split_version M c) M) ≤ elsewhere M.total c M + 4)
    × (surplus (split pos c (split_version M c) M) + 6 ≤ surplus M)
    × ((i : ℕ) → i < M.total → (i ≢ c) → size M i ≤ size (split pos c (split_version M c) M) i)
