-- The worked figure, computed.
use Rattle.std.proofs.Common.{refl}
use Rattle.space.specs.Runs.{fresh_world}
use Rattle.space.specs.Figure.{chain, calls20, Figure}
use Rattle.space.proofs.Running.{allowed_runs}

pub figure : Figure
figure = (
  allowed_runs fresh_world (chain 18) refl,
  allowed_runs fresh_world calls20 refl,
  refl,
  refl,
  refl,
  refl,
  refl,
  refl,
  refl,
  refl,
  refl,
)
