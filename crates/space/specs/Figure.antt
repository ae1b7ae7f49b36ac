-- A worked figure: a node is made and saved as root 0 in version 1, and its value is set once in each of the versions 2 to 20, a chain.
--
--   start, valued, chain   the calls
--   until19, until20       the worlds after version 19 and after version 20
--   Figure                 one copy with 18 entries; then two copies with 9 each
use Rattle.std.specs.Prelude.{◌≡◌, ℕ, zero, suc, ◌+◌, List, [], ◌∷◌, ◌++◌}
use Rattle.fields.specs.declared.kinds.Value.TheVariants.{To}
use Rattle.space.specs.Space.{size}
use Rattle.space.specs.Runs.{World, Move, Runs, last, fresh_world, overfull}
use Rattle.space.specs.Runs.Move.{opening, making, linking, numbering, splitting}

-- version 1 is opened on version 0; a node is made there, with the copy 1, and saved as root 0
abbrev pub start : List Move
start = opening 0 ∷ making 1 0 (λ _. 0) ∷ linking 1 0 0 (To 1) ∷ []

-- version v + 1 is opened on version v, and the value of the copy 1 is set there
abbrev pub valued : ℕ → List Move
valued v = opening v ∷ numbering (suc v) 1 0 v ∷ []

-- the calls in the versions 1 to k + 1
abbrev pub chain : ℕ → List Move
chain zero = start
chain (suc k) = chain k ++ valued (suc k)

abbrev pub until19 : World
until19 = last fresh_world (chain 18)

-- in version 20 the copy gets a 19th entry, and is split
abbrev pub calls20 : List Move
calls20 = chain 19 ++ (splitting 1 ∷ [])

abbrev pub until20 : World
until20 = last fresh_world calls20

-- these are runs. After version 19 there is one copy beside the root record, with 18 entries, and none is to be split. After version 20
-- there are two with 9 entries each, none is to be split, the root record has two entries, and 20 changes were made
abbrev pub Figure : Type 0
Figure =
    Runs fresh_world (chain 18) × Runs fresh_world calls20
    × (until19.copies.total ≡ 2) × (size until19.copies 1 ≡ 18) × (overfull until19.copies 2 ≡ 0)
    × (until20.copies.total ≡ 3) × (size until20.copies 1 ≡ 9) × (size until20.copies 2 ≡ 9) × (overfull until20.copies 3 ≡ 0)
    × (size until20.copies 0 ≡ 2) × (until20.linked + until20.numbered ≡ 20)
