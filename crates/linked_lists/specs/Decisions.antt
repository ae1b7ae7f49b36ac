-- What makers and calls decide before they touch a table.
--
--   maker_refusal   the refusal of the maker of a version order, or none
--   after_refusal   the refusal of a new item, or none; 31 before 32
use Rattle.std.specs.Prelude.{ℕ, Bool, cond, ◌||◌, Some, None, Option, nat_lt}
use Rattle.refusals.specs.declared.kinds.MakerRefusal.{MakerRefusal}
use Rattle.refusals.specs.declared.kinds.MakerRefusal.TheVariants.{LimitOutOfRange, TableTooShort}
use Rattle.refusals.specs.declared.kinds.OrderRefusal.{OrderRefusal}
use Rattle.refusals.specs.declared.kinds.OrderRefusal.TheVariants.{UnknownItem, Full}

-- the limit is to be 1 to 4096; then no table may be too short for it
abbrev pub maker_refusal : ℕ → Bool → Option MakerRefusal
maker_refusal limit short = cond (nat_lt limit 1 || nat_lt 4096 limit) (Some LimitOutOfRange) (cond short (Some TableTooShort) None)

-- of `count` items, why there can be no new one behind a: 31 where a is unknown, else 32 where the limit is reached
abbrev pub after_refusal : ℕ → ℕ → ℕ → Option OrderRefusal
after_refusal count limit a = cond (nat_lt a count) (cond (nat_lt count limit) None (Some Full)) (Some UnknownItem)
