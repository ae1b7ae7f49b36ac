-- Making a node, and which copy serves a node at a version.
--
--   first_values, new_copy, make_node   a node is made
--   MakeSound                           one copy more serves; all others serve and read as before
--   Born, Served                        a serial number is born at a position; a copy of it serves there
--   OneServes                           a born serial number has exactly one serving copy
--   BirthsStay                          what each step does to births
use Rattle.std.specs.Prelude.{◌≡◌, ℕ, suc, ◌-◌, ◌<◌, ◌≤◌, cond, ◌⊎◌, [], ◌==◌, ◌≢◌, nat_lt}
use Rattle.fields.specs.declared.kinds.Value.{Value}
use Rattle.fields.specs.declared.kinds.Value.TheVariants.{Number, Nil}
use Rattle.slices.specs.Copies.{Copy, Copies, Serves, Sound}
use Rattle.slices.specs.Splits.{split}
use Rattle.slices.specs.Openings.{opened, down, up}

-- links and back links are nil, the number field n holds numbers n
abbrev pub first_values : (ℕ → ℕ) → ℕ → Value
first_values numbers f = cond (nat_lt f 5) Nil (Number (numbers (f - 5)))

-- the first copy of a node: its serial number, its key place, the version in which it is made, its numbers; no entries
abbrev pub new_copy : ℕ → ℕ → ℕ → (ℕ → ℕ) → Copy
new_copy s k u numbers = record { serial = s; key = k; lo = u; first = first_values numbers; entries = [] }

-- a new node, made in the version u
abbrev pub make_node : ℕ → ℕ → (ℕ → ℕ) → Copies → Copies
make_node u k numbers M = record {
  total = suc M.total;
  copy = λ i. cond (i == M.total) (new_copy (suc M.made) k u numbers) (M.copy i);
  made = suc M.made;
  versions = M.versions;
}

-- the copies stay sound; from u on one more copy serves, and all others serve and read as before
abbrev pub MakeSound : Type 0
MakeSound = (pos : ℕ → ℕ) (M : Copies) (u k : ℕ) (numbers : ℕ → ℕ) → Sound pos M → pos u < M.versions
    → Sound pos (make_node u k numbers M)
    × ((make_node u k numbers M).copy M.total ≡ new_copy (suc M.made) k u numbers)
    × ((i : ℕ) → i < M.total → (make_node u k numbers M).copy i ≡ M.copy i)
    × ((p : ℕ) → pos u ≤ p → p < M.versions → Serves pos (make_node u k numbers M) p M.total)
    × ((p i : ℕ) → Serves pos M p i → Serves pos (make_node u k numbers M) p i)
    × ((p i : ℕ) → Serves pos (make_node u k numbers M) p i → Serves pos M p i ⊎ ((i ≡ M.total) × (pos u ≤ p)))

-- the serial number s is born at the position p or before
abbrev pub Born : (ℕ → ℕ) → Copies → ℕ → ℕ → Type 0
Born pos M p s = (i : ℕ) × (i < M.total) × ((M.copy i).serial ≡ s) × (pos (M.copy i).lo ≤ p)

-- a copy of the serial number s serves the position p
abbrev pub Served : (ℕ → ℕ) → Copies → ℕ → ℕ → Type 0
Served pos M p s = (i : ℕ) × Serves pos M p i × ((M.copy i).serial ≡ s)

-- at each position at or behind its birth a serial number has a serving copy, before it none, and never two
abbrev pub OneServes : Type 0
OneServes = (pos : ℕ → ℕ) (M : Copies) → Sound pos M → (p s : ℕ) → p < M.versions
    → (Born pos M p s → Served pos M p s)
    × (Served pos M p s → Born pos M p s)
    × ((i j : ℕ) → Serves pos M p i → Serves pos M p j → (M.copy i).serial ≡ s → (M.copy j).serial ≡ s → i ≡ j)

-- a node made in u is born at u, and no other is; a split bears none; a version that comes in at q moves births with their versions
abbrev pub BirthsStay : Type 0
BirthsStay =
    ((pos : ℕ → ℕ) (M : Copies) (u k : ℕ) (numbers : ℕ → ℕ) → Sound pos M → pos u < M.versions → (p s : ℕ)
    → (Born pos M p s → Born pos (make_node u k numbers M) p s)
    × (pos u ≤ p → Born pos (make_node u k numbers M) p (suc M.made))
    × (Born pos (make_node u k numbers M) p s → Born pos M p s ⊎ ((s ≡ suc M.made) × (pos u ≤ p))))
    × ((pos : ℕ → ℕ) (M : Copies) (c x : ℕ) → Sound pos M
    → (c ≢ 0) → Serves pos M (pos x) c → pos (M.copy c).lo < pos x → (p s : ℕ) → p < M.versions
    → (Born pos M p s → Born pos (split pos c x M) p s) × (Born pos (split pos c x M) p s → Born pos M p s))
    × ((pos pos' : ℕ → ℕ) (q : ℕ) (M : Copies) → 0 < q → q ≤ M.versions → ((v : ℕ) → pos v < M.versions → pos' v ≡ up q (pos v)) → Sound pos M → (p s : ℕ) → p < suc M.versions
    → (Born pos M (down q p) s → Born pos' (opened M) p s) × (Born pos' (opened M) p s → Born pos M (down q p) s))
