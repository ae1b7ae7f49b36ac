-- Which of two keys goes first, for keys of two numbers.
--
--   pair_first   the smaller first number, then the smaller second one
--   job_first    the higher urgency, then the lower job number
use Rattle.std.specs.Prelude.{ℕ, Bool, true, false, cond, ℤ, ◌==◌, int_lt, nat_lt}

-- (f, p) goes before (g, q): by the first numbers, and where these are equal by the second ones
abbrev pub pair_first : ℕ → ℕ → ℕ → ℕ → Bool
pair_first f p g q = cond (nat_lt f g) true (cond (f == g) (nat_lt p q) false)

-- job n of urgency u goes before job m of urgency w: the more urgent one first, else the lower number
abbrev pub job_first : ℤ → ℕ → ℤ → ℕ → Bool
job_first u n w m = cond (int_lt w u) true (cond (int_lt u w) false (nat_lt n m))
