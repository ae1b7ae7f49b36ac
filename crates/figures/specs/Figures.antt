-- Worked figures, gathered under one statement.
--
--   KeyFigures     which of two jobs and of two names goes first
--   PieceFigures   how many pieces some files have
--   Figures        all of them; capacities and labels of version orders are stated in crate `labels`
use Rattle.std.specs.Prelude.{◌≡◌, true, codes, pos}
use Rattle.keys.specs.Orders.{job_first}
use Rattle.keys.specs.Bytes.{bytes_first}
use Rattle.keys.specs.Pieces.{pieces}
use Rattle.labels.specs.Figures.{CapacityFigures, LabelFigures}

-- job 9 goes before job 10 of the same urgency 5; the name "ab" goes before "abc"
abbrev pub KeyFigures : Type 0
KeyFigures = (job_first (pos 5) 9 (pos 5) 10 ≡ true) × (bytes_first (codes "ab") (codes "abc") ≡ true)

-- 0, 1, 65,536 and 65,537 bytes are 0, 1, 1 and 2 pieces
abbrev pub PieceFigures : Type 0
PieceFigures = (pieces 0 ≡ 0) × (pieces 1 ≡ 1) × (pieces 65536 ≡ 1) × (pieces 65537 ≡ 2)

abbrev pub Figures : Type 0
Figures = KeyFigures × PieceFigures × CapacityFigures × LabelFigures
