-- The same over the list of an order: the version behind, opening, and the third link in the words of the states.
--
--   next_of               the version behind, from the order's answer
--   PositionsStand        positions in the list, and what a new item does to them
--   BehindListed          the order's successor is the version behind
--   OpenListed            opening a version
--   TwoNames, ThirdLink   a link is refused exactly when two others name the node
use Rattle.std.specs.Prelude.{◌≡◌, ℕ, suc, ◌<◌, ◌≤◌, true, ◌⊎◌, List, length, Some, None, Option, ◌≢◌}
use Rattle.fields.specs.declared.kinds.Value.TheVariants.{To}
use Rattle.fields.specs.Fields.{Shown}
use Rattle.order.specs.Items.{member, Distinct, position, following, behind}
use Rattle.memory.specs.Memory.{put}
use Rattle.slices.specs.Copies.{Copies, Serves, Sound}
use Rattle.slices.specs.Openings.{opened, up}
use Rattle.states.specs.Relinks.{slice, crowded, Behind}
use Rattle.states.specs.Nodes.{NodeState, Shows, Means, Alone}

-- the version behind, or any, where there is none
abbrev pub next_of : Option ℕ → ℕ
next_of (Some s) = s
next_of None = 0

-- an item of the list stands at a position below the length, and no other item stands there; what follows it stands one further; a new
-- item n right behind a stands one further than a, the items behind move up by one, and no item comes in but n
abbrev pub PositionsStand : Type 0
PositionsStand = (xs : List ℕ)
    → ((v : ℕ) → member xs v ≡ true → position xs v < length xs)
    × ((v w : ℕ) → position xs v < length xs → position xs v ≡ position xs w → v ≡ w)
    × (Distinct xs → (u s : ℕ) → position xs u < length xs → following xs u ≡ Some s → position xs s ≡ suc (position xs u))
    × (Distinct xs → (u : ℕ) → position xs u < length xs → following xs u ≡ None → suc (position xs u) ≡ length xs)
    × ((a n : ℕ) → position xs a < length xs → length xs ≤ position xs n
    → (length (behind xs a n) ≡ suc (length xs))
    × (position (behind xs a n) n ≡ suc (position xs a))
    × ((v : ℕ) → position xs v < length xs → position (behind xs a n) v ≡ up (suc (position xs a)) (position xs v))
    × ((v : ℕ) → position (behind xs a n) v < suc (length xs) → (v ≡ n) ⊎ (position xs v < length xs)))

-- what a change needs to know of the version behind is the order's successor; and no other version stands where u does
abbrev pub BehindListed : Type 0
BehindListed = (xs : List ℕ) (M : Copies) (u : ℕ) → M.versions ≡ length xs → Distinct xs → position xs u < length xs
    → Alone (position xs) M u × Behind (position xs) M u (next_of (following xs u))

-- a new version n right behind a has a's state, and every other version keeps its own
abbrev pub OpenListed : Type 0
OpenListed = (xs : List ℕ) (M : Copies) (A : ℕ → NodeState) (a n : ℕ) → M.versions ≡ length xs → position xs a < length xs → length xs ≤ position xs n
    → Sound (position xs) M → Means (position xs) M A
    → Sound (position (behind xs a n)) (opened M) × Means (position (behind xs a n)) (opened M) (put A n (A a)) × ((opened M).versions ≡ length (behind xs a n))

-- two links or roots of the state, other than the link l of s, name t
abbrev pub TwoNames : NodeState → ℕ → ℕ → ℕ → Type 0
TwoNames st s l t =
    (a : ℕ) × (m : ℕ) × (b : ℕ) × (o : ℕ) × (st.has a ≡ true) × (st.has b ≡ true) × Shown m × Shown o × (st.get a m ≡ To t) × (st.get b o ≡ To t)
    × (a ≡ b → m ≢ o) × (a ≡ s → m ≢ l) × (b ≡ s → o ≢ l)

-- a link is crowded exactly when two other links or roots of the version's state name the node
abbrev pub ThirdLink : Type 0
ThirdLink = (pos : ℕ → ℕ) (M : Copies) (u i l k : ℕ) (st : NodeState) → Sound pos M → Shows pos M (pos u) st → Serves pos M (pos u) i → Serves pos M (pos u) k
    → (crowded (slice pos u M) i l (To k) ≡ true → TwoNames st (M.copy i).serial l (M.copy k).serial)
    × (TwoNames st (M.copy i).serial l (M.copy k).serial → crowded (slice pos u M) i l (To k) ≡ true)
