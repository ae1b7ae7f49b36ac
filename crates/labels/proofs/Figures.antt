-- The worked figures, computed from the definitions.
use Rattle.std.proofs.Common.{refl}
use Rattle.labels.specs.Labels.{width}
use Rattle.labels.specs.Figures.{CapacityFigures, LabelFigures}

pub capacity_figures : CapacityFigures
capacity_figures = (refl, refl, refl, refl)

pub label_figures : LabelFigures
unfolding width
label_figures = (refl, refl, refl, refl)
