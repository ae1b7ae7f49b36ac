-- The change of a link with the back links of both its targets, and the change of a number.
--
--   slice                       what the copies hold at a version
--   saying, free                the back link that speaks of a link; a back link that is free
--   emptied, filled, relinked   the fields that the change of a link writes, at most three
--   crowded                     the new target has no back link free: a third link
--   relink                      the change of a link
--   set_number                  the change of a number field
--   LinkTarget                  what a link may be set to
--   TwoOthers                   two other links name a copy
--   RelinkSound, CrowdedMeans, SetNumberSound
--
-- Which of two free back links is filled is a choice of this definition: nothing that a version reads depends on it.
use Rattle.std.specs.Prelude.{◌≡◌, ℕ, suc, ◌<◌, Bool, true, false, cond, ◌⊎◌, List, [], ◌∷◌, ◌++◌, ◌==◌, ◌≢◌}
use Rattle.fields.specs.declared.kinds.Value.{Value}
use Rattle.fields.specs.declared.kinds.Value.TheVariants.{Number, Nil, To, From}
use Rattle.fields.specs.Fields.{back, number, is_nil, HasLink, Shown}
use Rattle.entries.specs.Entries.{both}
use Rattle.slices.specs.Copies.{Copies, value_at, Serves, serving, Sound}
use Rattle.slices.specs.Changes.{FieldWrite, set_all, with_values}

-- what the field f of the copy i holds at the version u
abbrev pub slice : (ℕ → ℕ) → ℕ → Copies → ℕ → ℕ → Value
slice pos u M i f = value_at pos (pos u) (M.copy i) f

abbrev pub not : Bool → Bool
not true = false
not false = true

-- the back link says that the link l of the copy i names its copy
abbrev pub is_from : ℕ → ℕ → Value → Bool
is_from i l (Number n) = false
is_from i l Nil = false
is_from i l (To k) = false
is_from i l (From a m) = both (a == i) (m == l)

abbrev pub write : ℕ → ℕ → Value → FieldWrite
write i f v = record { copy = i; field = f; value = v }

-- the back link of k that says i and l
abbrev pub saying : (ℕ → ℕ → Value) → ℕ → ℕ → ℕ → ℕ
saying get k i l = cond (is_from i l (get k (back 0))) (back 0) (back 1)

-- a back link of k that is free
abbrev pub free : (ℕ → ℕ → Value) → ℕ → ℕ
free get k = cond (is_nil (get k (back 0))) (back 0) (back 1)

-- the link l of i held v: the back link of the old target is emptied
abbrev pub emptied : (ℕ → ℕ → Value) → ℕ → ℕ → Value → List FieldWrite
emptied get i l (Number n) = []
emptied get i l Nil = []
emptied get i l (To k) = write k (saying get k i l) Nil ∷ []
emptied get i l (From a m) = []

-- the link l of i is to hold v: a free back link of the new target is filled
abbrev pub filled : (ℕ → ℕ → Value) → ℕ → ℕ → Value → List FieldWrite
filled get i l (Number n) = []
filled get i l Nil = []
filled get i l (To k) = write k (free get k) (From i l) ∷ []
filled get i l (From a m) = []

-- what is written where the link l of i is set to v: the old target's back link, the link, and the new target's back link, which
-- is sought after the first write
abbrev pub relinked : (ℕ → ℕ → Value) → ℕ → ℕ → Value → List FieldWrite
relinked get i l v = emptied get i l (get i l) ++ (write i l v ∷ filled (with_values (emptied get i l (get i l)) get) i l v)

-- a back link that another link than l of i has taken
abbrev pub taken : ℕ → ℕ → Value → Bool
taken i l v = both (not (is_nil v)) (not (is_from i l v))

-- both back links of the new target are taken by other links: the link would be a third one
abbrev pub crowded : (ℕ → ℕ → Value) → ℕ → ℕ → Value → Bool
crowded get i l (Number n) = false
crowded get i l Nil = false
crowded get i l (To k) = both (taken i l (get k (back 0))) (taken i l (get k (back 1)))
crowded get i l (From a m) = false

-- the link l of the copy i is set to v in the version u; s is the version behind u, where there is one
abbrev pub relink : (ℕ → ℕ) → ℕ → ℕ → ℕ → ℕ → Value → Copies → Copies
relink pos u s i l v M = set_all pos u s (serving pos M (suc (pos u))) (relinked (slice pos u M) i l v) M

-- the number field n of the copy i is set to w in the version u
abbrev pub set_number : (ℕ → ℕ) → ℕ → ℕ → ℕ → ℕ → ℕ → Copies → Copies
set_number pos u s i n w M = set_all pos u s (serving pos M (suc (pos u))) (write i (number n) (Number w) ∷ []) M

-- s is the version right behind u, unless u is the last
abbrev pub Behind : (ℕ → ℕ) → Copies → ℕ → ℕ → Type 0
Behind pos M u s = suc (pos u) < M.versions → pos s ≡ suc (pos u)

-- nil, or a node's copy that serves u
abbrev pub LinkTarget : (ℕ → ℕ) → Copies → ℕ → Value → Type 0
LinkTarget pos M u v = (v ≡ Nil) ⊎ ((k : ℕ) × (v ≡ To k) × Serves pos M (pos u) k × (k ≢ 0))

-- unless the new target is crowded, the copies stay sound and serve as before; at u the link is v, no other link or number alters,
-- and back links alter at the old and the new target alone; no other slice alters
abbrev pub RelinkSound : Type 0
RelinkSound = (pos : ℕ → ℕ) (M : Copies) (u s : ℕ) (i l : ℕ) (v : Value) → Sound pos M
    → Behind pos M u s → Serves pos M (pos u) i → HasLink i l → LinkTarget pos M u v
    → crowded (slice pos u M) i l v ≡ false
    → Sound pos (relink pos u s i l v M)
    × ((p j : ℕ) → (Serves pos M p j → Serves pos (relink pos u s i l v M) p j) × (Serves pos (relink pos u s i l v M) p j → Serves pos M p j))
    × (slice pos u (relink pos u s i l v M) i l ≡ v)
    × ((j f : ℕ) → Shown f → (j ≡ i → f ≢ l) → Serves pos M (pos u) j → slice pos u (relink pos u s i l v M) j f ≡ slice pos u M j f)
    × ((j f : ℕ) → (j ≢ i) → (v ≢ To j) → (slice pos u M i l ≢ To j) → Serves pos M (pos u) j → slice pos u (relink pos u s i l v M) j f ≡ slice pos u M j f)
    × ((p j f : ℕ) → (p ≢ pos u) → Serves pos M p j → value_at pos p ((relink pos u s i l v M).copy j) f ≡ value_at pos p (M.copy j) f)

-- two links of the slice, other than the link l of i, name k
abbrev pub TwoOthers : (ℕ → Type 0) → (ℕ → ℕ → Value) → ℕ → ℕ → ℕ → Type 0
TwoOthers on get i l k =
    (a : ℕ) × (m : ℕ) × (b : ℕ) × (o : ℕ) × on a × on b × (get a m ≡ To k) × (get b o ≡ To k)
    × (a ≡ b → m ≢ o) × (a ≡ i → m ≢ l) × (b ≡ i → o ≢ l)

-- a node is crowded exactly when two other links name it
abbrev pub CrowdedMeans : Type 0
CrowdedMeans = (pos : ℕ → ℕ) (M : Copies) (u i l k : ℕ) → Sound pos M → Serves pos M (pos u) k
    → (crowded (slice pos u M) i l (To k) ≡ true → TwoOthers (Serves pos M (pos u)) (slice pos u M) i l k)
    × (TwoOthers (Serves pos M (pos u)) (slice pos u M) i l k → crowded (slice pos u M) i l (To k) ≡ true)

-- the copies stay sound and serve as before; at u the number is w, and nothing else alters
abbrev pub SetNumberSound : Type 0
SetNumberSound = (pos : ℕ → ℕ) (M : Copies) (u s : ℕ) (i n w : ℕ) → Sound pos M
    → Behind pos M u s → Serves pos M (pos u) i → (i ≢ 0)
    → Sound pos (set_number pos u s i n w M)
    × ((p j : ℕ) → (Serves pos M p j → Serves pos (set_number pos u s i n w M) p j) × (Serves pos (set_number pos u s i n w M) p j → Serves pos M p j))
    × (slice pos u (set_number pos u s i n w M) i (number n) ≡ Number w)
    × ((j g : ℕ) → (j ≡ i → g ≢ number n) → Serves pos M (pos u) j → slice pos u (set_number pos u s i n w M) j g ≡ slice pos u M j g)
    × ((p j g : ℕ) → (p ≢ pos u) → Serves pos M p j → value_at pos p ((set_number pos u s i n w M).copy j) g ≡ value_at pos p (M.copy j) g)
