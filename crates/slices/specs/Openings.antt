-- A new version comes into the order.
--
--   up, down    where a position goes when a version comes in, and which position it came from
--   opened      one version more
--   OpenSound   every slice goes with its version; the new version's slice is that of the version before it
use Rattle.std.specs.Prelude.{◌≡◌, ℕ, suc, ◌-◌, ◌<◌, ◌≤◌, cond, nat_lt}
use Rattle.slices.specs.Copies.{Copies, value_at, Serves, Sound}

-- a version comes in at the position q: those from q on move up by one
abbrev pub up : ℕ → ℕ → ℕ
up q p = cond (nat_lt p q) p (suc p)

-- the position that p was before; the new position q was the one before it
abbrev pub down : ℕ → ℕ → ℕ
down q p = cond (nat_lt p q) p (p - 1)

-- no copy alters
abbrev pub opened : Copies → Copies
opened M = record { total = M.total; copy = M.copy; made = M.made; versions = suc M.versions }

-- the copies stay sound, and each position's slice is that of the position it was before
abbrev pub OpenSound : Type 0
OpenSound = (pos pos' : ℕ → ℕ) (q : ℕ) (M : Copies) → 0 < q → q ≤ M.versions → ((v : ℕ) → pos v < M.versions → pos' v ≡ up q (pos v)) → Sound pos M
    → Sound pos' (opened M)
    × ((p i : ℕ) → (Serves pos' (opened M) p i → Serves pos M (down q p) i) × (Serves pos M (down q p) i → Serves pos' (opened M) p i)
    × (i < M.total → (f : ℕ) → value_at pos' p (M.copy i) f ≡ value_at pos (down q p) (M.copy i) f))
