-- The piece rule: rounded up, the pieces are the fewest that hold all bytes.
use Rattle.std.proofs.Common.{arith}
use Rattle.keys.specs.Laws.{PiecesCover}

pub pieces_cover : PiecesCover
pieces_cover size = (omega arith, λ n h. omega arith)
