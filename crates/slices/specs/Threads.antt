-- The copies of a node in their order: each knows the next.
--
--   NextIs, Threaded   next names, for each copy, the copy of its node that begins next behind it
--   owns               whether a copy serves a position behind its first version, told by the next copy alone
--   OwnsServes         this is the test of serving
--   ThreadsStay        what each step does to the next copies
use Rattle.std.specs.Prelude.{◌≡◌, ℕ, ◌<◌, ◌≤◌, Bool, true, cond, Some, None, Option, ◌==◌, nat_lt}
use Rattle.slices.specs.Copies.{Copies, Serves, Decides, Sound}
use Rattle.slices.specs.Splits.{split}
use Rattle.slices.specs.Openings.{opened, up}
use Rattle.slices.specs.Births.{make_node}

-- of the copies with the serial number of i, n is the first that begins behind i; none begins behind i
abbrev pub NextIs : (ℕ → ℕ) → Copies → ℕ → Option ℕ → Type 0
NextIs pos M i None = (j : ℕ) → j < M.total → (M.copy j).serial ≡ (M.copy i).serial → pos (M.copy i).lo < pos (M.copy j).lo → ⊥
NextIs pos M i (Some n) =
    (n < M.total) × ((M.copy n).serial ≡ (M.copy i).serial) × (pos (M.copy i).lo < pos (M.copy n).lo)
    × ((j : ℕ) → j < M.total → (M.copy j).serial ≡ (M.copy i).serial → pos (M.copy i).lo < pos (M.copy j).lo → pos (M.copy n).lo ≤ pos (M.copy j).lo)

abbrev pub Threaded : (ℕ → ℕ) → Copies → (ℕ → Option ℕ) → Type 0
Threaded pos M next = (i : ℕ) → i < M.total → NextIs pos M i (next i)

-- the position p stands before the first version of the next copy
abbrev pub owns : (ℕ → ℕ) → Copies → ℕ → Option ℕ → Bool
owns pos M p None = true
owns pos M p (Some n) = nat_lt p (pos (M.copy n).lo)

-- at or behind its first version, a copy serves a known position exactly when it owns it
abbrev pub OwnsServes : Type 0
OwnsServes = (pos : ℕ → ℕ) (M : Copies) (next : ℕ → Option ℕ) → Threaded pos M next → (p i : ℕ) → i < M.total → pos (M.copy i).lo ≤ p → p < M.versions
    → Decides (owns pos M p (next i)) (Serves pos M p i)

-- the new copy of a split comes between the old one and the next
abbrev pub split_next : ℕ → ℕ → (ℕ → Option ℕ) → ℕ → Option ℕ
split_next c d next i = cond (i == d) (next c) (cond (i == c) (Some d) (next i))

-- a new node's copy has no next
abbrev pub make_next : ℕ → (ℕ → Option ℕ) → ℕ → Option ℕ
make_next d next i = cond (i == d) None (next i)

-- copies that keep serial numbers and first versions keep their next copies; a split, a new node and a new version do this to them
abbrev pub ThreadsStay : Type 0
ThreadsStay =
    ((pos : ℕ → ℕ) (M D : Copies) (next : ℕ → Option ℕ) → D.total ≡ M.total → ((i : ℕ) → (D.copy i).serial ≡ (M.copy i).serial) → ((i : ℕ) → (D.copy i).lo ≡ (M.copy i).lo)
    → Threaded pos M next → Threaded pos D next)
    × ((pos : ℕ → ℕ) (M : Copies) (c x : ℕ) (next : ℕ → Option ℕ) → Sound pos M → Serves pos M (pos x) c → pos (M.copy c).lo < pos x
    → Threaded pos M next → Threaded pos (split pos c x M) (split_next c M.total next))
    × ((pos : ℕ → ℕ) (M : Copies) (u k : ℕ) (numbers : ℕ → ℕ) (next : ℕ → Option ℕ) → Sound pos M
    → Threaded pos M next → Threaded pos (make_node u k numbers M) (make_next M.total next))
    × ((pos pos' : ℕ → ℕ) (q : ℕ) (M : Copies) (next : ℕ → Option ℕ) → Sound pos M → ((v : ℕ) → pos v < M.versions → pos' v ≡ up q (pos v))
    → Threaded pos M next → Threaded pos' (opened M) next)
