use Rattle.space.proofs.figure_stands.Goals as goal
use Rattle.space.proofs.Figures.{figure}

pub returns : goal.returns
returns c = figure
