-- How many items an aligned range of labels may hold.
--
--   capacity   of a range of 2 ^ i labels
--   room_of    the same as a table of 32 numbers answers it
use Rattle.std.specs.Prelude.{ℕ, ◌/◌, ◌^◌, cond, nat_lt}

-- four thirds to the power i, rounded down
abbrev pub capacity : ℕ → ℕ
capacity i = (4 ^ i) / (3 ^ i)

-- the table has 32 numbers; beyond it there is no room
abbrev pub room_of : ℕ → ℕ
room_of i = cond (nat_lt i 32) (capacity i) 0
