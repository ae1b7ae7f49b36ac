-- A table of rows, by item number, as items in groups.
--
--   Item                          a row of the table
--   seat_at, group_at, rank_at    what an item carries
--   first_seat                    what item 0 carries at first
--   key                           by what items are compared: the position of the group, then the rank
--   blocked                       the items of a table, group by group
--   Sound                         what the groups of a table add to its links
--   run_of                        the items of a group from one on
--   back_step, back_to, first_of  the first item of a group, found from one of its items
--   regrouped                     the rows once a run of items was numbered anew, and divided
use Rattle.std.specs.Prelude.{◌≡◌, ℕ, zero, suc, ◌+◌, ◌*◌, cond, List, [], ◌∷◌, Some, None, Option, ◌==◌, nat_lt}
use Rattle.order.specs.Items.{position}
use Rattle.linked_lists.specs.Chain.{Above, tag_at, listed, retagged}
use Rattle.linked_lists.specs.declared.row.Row.{Row}
use Rattle.grouping.specs.declared.item.Seat.{Seat}
use Rattle.grouping.specs.Blocks.{flat, blocks_of, Grouped}

-- a row of a table
abbrev pub Item : Type 0
Item = Row Seat

-- the seat of item 0 at first: rank 0 in group 0
abbrev pub first_seat : Seat
first_seat = record { group = 0; rank = 0 }

-- the seat of item i
abbrev pub seat_at : List Item → ℕ → Seat
seat_at rows i = tag_at first_seat rows i

-- the number of the group of item i
abbrev pub group_at : List Item → ℕ → ℕ
group_at rows i = (seat_at rows i).group

-- the rank of item i in its group
abbrev pub rank_at : List Item → ℕ → ℕ
rank_at rows i = (seat_at rows i).rank

-- by what an item is compared: the position of its group, then its rank, which is below 64
abbrev pub key : List Item → List ℕ → ℕ → ℕ
key rows groups x = position groups (group_at rows x) * 64 + rank_at rows x

-- the items, group by group, the groups in their order
abbrev pub blocked : List Item → List ℕ → ℕ → List (List ℕ)
blocked rows groups count = blocks_of (group_at rows) groups (listed rows count)

-- a table of `count` items, up to a limit: their keys rise along it, they lie in the groups, and there may be as many groups as items
pub record Sound (rows : List Item) (groups : List ℕ) (glimit count limit : ℕ) : Type 0 where
  pub rising : Above (key rows groups) 0 (listed rows count)
  pub same : glimit ≡ limit
  pub blocks : Grouped (group_at rows) (rank_at rows) groups (blocked rows groups count)
  pub whole : flat (blocked rows groups count) ≡ listed rows count

-- the items of the group g from o on, at most as many as the number says
abbrev pub run_of : (ℕ → Option ℕ) → (ℕ → ℕ) → ℕ → ℕ → Option ℕ → List ℕ
run_of f grp g zero o = []
run_of f grp g (suc k) None = []
run_of f grp g (suc k) (Some x) = cond (grp x == g) (x ∷ run_of f grp g k (f x)) []

-- one step back from x, where it leads to an item of the group g, and then on
abbrev pub back_step : (ℕ → ℕ) → ℕ → (ℕ → ℕ) → ℕ → Option ℕ → ℕ
back_step grp g go x None = x
back_step grp g go x (Some y) = cond (grp y == g) (go y) x

-- back from x along the items of the group g, at most as many steps as the number says
abbrev pub back_to : (ℕ → Option ℕ) → (ℕ → ℕ) → ℕ → ℕ → ℕ → ℕ
back_to p grp g zero x = x
back_to p grp g (suc k) x = back_step grp g (back_to p grp g k) x (p x)

-- the first item of the group g, found from x. It unfolds only where a proof says so, since its 32 steps would fill every statement
unfoldable pub first_of : (ℕ → Option ℕ) → (ℕ → ℕ) → ℕ → ℕ → ℕ
first_of p grp g x = back_to p grp g 32 x

-- the rows once the items xs have the ranks from j on, and those from rank 16 on lie in the group h
abbrev pub regrouped : List Item → List ℕ → ℕ → ℕ → List Item
regrouped rows [] j h = rows
regrouped rows (x ∷ xs) j h =
    regrouped (retagged rows x (record { group = cond (nat_lt j 16) (group_at rows x) h; rank = j })) xs (suc j) h
