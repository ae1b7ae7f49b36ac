-- The lines of a text that are to be answered.
--
--   told          a line is to be answered: it is not empty and does not start with #
--   next_told     the first such line, or nothing
--   behind_told   the lines behind it
--   told_left     all such lines that are not read yet
use Rattle.std.specs.Prelude.{ℕ, Bool, false, cond, not, List, [], ◌∷◌, Some, None, Option, filter, ◌==◌}
use Rattle.text.specs.declared.split.Lines.{Lines}
use Rattle.text.specs.Left.{left}

-- byte 35 is #
abbrev pub told : List ℕ → Bool
told [] = false
told (c ∷ cs) = not (c == 35)

abbrev pub next_told : List (List ℕ) → Option (List ℕ)
next_told [] = None
next_told (l ∷ ls) = cond (told l) (Some l) (next_told ls)

abbrev pub behind_told : List (List ℕ) → List (List ℕ)
behind_told [] = []
behind_told (l ∷ ls) = cond (told l) ls (behind_told ls)

abbrev pub told_left : Lines → List (List ℕ)
told_left l = filter told (left l.parts)
