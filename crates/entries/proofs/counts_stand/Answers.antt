use Rattle.entries.proofs.counts_stand.Goals as goal
use Rattle.entries.proofs.Counting.{put_adds_all, renamed_adds, split_halves}

pub returns : goal.returns
returns c = record { written = put_adds_all; renamed = renamed_adds; halves = split_halves }
