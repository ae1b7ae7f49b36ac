-- What the example answers.
--
--   list_answer    9 and 7, where the table has rows for two nodes; else nothing
use Rattle.std.specs.Prelude.{ℕ, cond, Some, None, Option, nat_le}

abbrev pub list_answer : ℕ → Option (ℕ × ℕ)
list_answer rows = cond (nat_le 2 rows) (Some (9, 7)) None
