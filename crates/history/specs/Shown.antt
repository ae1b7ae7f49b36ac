-- Differences as text.
--
--   difference_text   what is written of a difference
use Rattle.std.specs.Prelude.{ℕ, List, ◌++◌, codes, decimal}
use Rattle.history.specs.declared.difference.Difference.{Difference}
use Rattle.history.specs.declared.difference.Difference.TheVariants as is

-- the first piece that is not as recorded, and how it differs
abbrev pub difference_text : Difference → List ℕ
difference_text is.NotRecorded = codes "not recorded"
difference_text (is.Differs k) = codes "piece " ++ (decimal k ++ codes " differs")
difference_text (is.Missing k) = codes "piece " ++ (decimal k ++ codes " is not recorded")
difference_text (is.LeftOver k) = codes "piece " ++ (decimal k ++ codes " is left over")
