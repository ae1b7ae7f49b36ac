-- The rows of a single-version memory's table, and what the functions on them come to.
--
--   below, all_below                                         a link, root or register is nil or names a node below a number; all of an array are
--   new_row, row_linked, row_valued, row_marked, row_named   a row at its birth, and with one part written
--   names_at                                                 the number of names of what a link, root or register holds
--   crowds                                                   whether a node would get a third name
--   raised, lowered                                          the table with one name more, or one less
--   register_of, node_of                                     what a register holds, and the node that it holds, or why not
--   change_left                                              whether a change is left, or why not
--   node_free, name_free                                     whether a node may be changed, and a link or root hold another, or why not
use Rattle.std.specs.Prelude.{ℕ, ◌+◌, ◌-◌, Bool, true, false, cond, List, [], ◌∷◌, get_or, replicate, Some, None, Ok, Err, Option, Result, ◌==◌, nat_le, nat_lt, slice_index_or, slice_set}
use Rattle.std.specs.Option.{ok_or}
use Rattle.refusals.specs.declared.kinds.MemoryRefusal.{MemoryRefusal}
use Rattle.refusals.specs.declared.kinds.MemoryRefusal.TheVariants.{OutOfRange, NilRegister, ChangesSpent, ThirdName}
use Rattle.single.specs.declared.node.Node.{Node as Row}

abbrev pub below : ℕ → Option ℕ → Bool
below n None = true
below n (Some k) = nat_lt k n

abbrev pub all_below : ℕ → List (Option ℕ) → Bool
all_below n [] = true
all_below n (x ∷ xs) = cond (below n x) (all_below n xs) false

abbrev pub new_row : ℕ → ℕ → ℕ → Row
new_row key value mark = record { key = key; value = value; mark = mark; links = replicate 2 None; names = 0 }

abbrev pub row_linked : ℕ → Option ℕ → Row → Row
row_linked side x r = record { key = r.key; value = r.value; mark = r.mark; links = slice_set r.links side x; names = r.names }

abbrev pub row_named : ℕ → Row → Row
row_named x r = record { key = r.key; value = r.value; mark = r.mark; links = r.links; names = x }

abbrev pub row_valued : ℕ → Row → Row
row_valued x r = record { key = r.key; value = x; mark = r.mark; links = r.links; names = r.names }

abbrev pub row_marked : ℕ → Row → Row
row_marked x r = record { key = r.key; value = r.value; mark = x; links = r.links; names = r.names }

abbrev pub blank : Row
blank = new_row 0 0 0

abbrev pub names_at : List Row → Option ℕ → ℕ
names_at rows None = 0
names_at rows (Some k) = (get_or rows k blank).names

abbrev pub is_at : Option ℕ → ℕ → Bool
is_at None k = false
is_at (Some j) k = j == k

-- a link or root that holds `old` is to hold `new`, another node that has two names
abbrev pub crowds : List Row → Option ℕ → Option ℕ → Bool
crowds rows old None = false
crowds rows old (Some k) = cond (is_at old k) false (nat_le 2 (get_or rows k blank).names)

abbrev pub raised : List Row → Option ℕ → List Row
raised rows None = rows
raised rows (Some k) = slice_set rows k (row_named ((get_or rows k blank).names + 1) (slice_index_or rows k blank))

abbrev pub lowered : List Row → Option ℕ → List Row
lowered rows None = rows
lowered rows (Some k) = slice_set rows k (row_named ((get_or rows k blank).names - 1) (slice_index_or rows k blank))

-- what a register holds; refused with 21 where there is no such register
abbrev pub register_of : List (Option ℕ) → ℕ → Result (Option ℕ) MemoryRefusal
register_of regs reg = cond (nat_lt reg 40) (Ok (slice_index_or regs reg None)) (Err OutOfRange)

-- the node that a register holds; refused with 22 where the register is nil
abbrev pub node_of : List (Option ℕ) → ℕ → Result ℕ MemoryRefusal
node_of regs reg = cond (nat_lt reg 40) (ok_or (slice_index_or regs reg None) NilRegister) (Err OutOfRange)

-- whether so many changes leave one of a limit; refused with 24
abbrev pub change_left : ℕ → ℕ → Result Unit MemoryRefusal
change_left changed limit = cond (nat_lt changed limit) (Ok tt) (Err ChangesSpent)

-- the node that is to be changed, where a change is left for it
abbrev pub node_free : Result ℕ MemoryRefusal → Result Unit MemoryRefusal → Result ℕ MemoryRefusal
node_free (Err e) left = Err e
node_free (Ok k) (Err e) = Err e
node_free (Ok k) (Ok _) = Ok k

-- where a change is left, whether a link or root that holds `old` may hold `new`; refused with 26
abbrev pub name_free : List Row → Option ℕ → Option ℕ → Result Unit MemoryRefusal → Result Unit MemoryRefusal
name_free rows old new (Err e) = Err e
name_free rows old new (Ok _) = cond (crowds rows old new) (Err ThirdName) (Ok tt)
