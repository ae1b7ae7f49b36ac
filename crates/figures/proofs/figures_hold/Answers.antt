-- The figures follow by computing; those of labels are proved where the labels are defined.
use mathlib.Core.Path.{refl}
use Rattle.labels.proofs.Figures.{capacity_figures, label_figures}
use Rattle.figures.proofs.figures_hold.Goals as goal

pub returns : goal.returns
returns c = ((refl, refl), (refl, refl, refl, refl), capacity_figures, label_figures)
