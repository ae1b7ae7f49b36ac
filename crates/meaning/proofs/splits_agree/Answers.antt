use Rattle.meaning.proofs.splits_agree.Goals as goal
use Rattle.meaning.proofs.Writing.{split_stands, stands_spaced}

pub returns : goal.returns
returns c = record { split = split_stands; space = stands_spaced }
