use Rattle.map_writing.proofs.Longer.{book_grows}
use Rattle.map_writing.proofs.book_growth_holds.Goals as goal

pub returns : goal.returns
returns g c = book_grows _
