-- Labels around a range, as a spread meets them.
--
--   first_from   the first item of a range
--   next_low     the least label that may follow another
--   Loose        the labels rise, but for ties inside the range
use Rattle.std.specs.Prelude.{ℕ, suc, ◌^◌, ◌≤◌, cond, [], ◌∷◌, nat_le}
use Rattle.labels.specs.Labels.{Entries, in_range}

-- the first item whose label is at least base
abbrev pub first_from : ℕ → Entries → ℕ
first_from base [] = 0
first_from base (e ∷ es) = cond (nat_le base e.1) e.0 (first_from base es)

-- the least label that may follow l: inside the range a tie is allowed
abbrev pub next_low : ℕ → ℕ → ℕ → ℕ
next_low base size l = cond (in_range base size l) l (suc l)

-- the labels rise from lo on, but for ties inside the range
abbrev pub Loose : ℕ → ℕ → ℕ → Entries → Type 0
Loose base size lo [] = lo ≤ 2 ^ 31
Loose base size lo (e ∷ es) = (lo ≤ e.1) × Loose base size (next_low base size e.1) es
