use Rattle.entries.proofs.reads_stand.Goals as goal
use Rattle.entries.proofs.Parting.{split_reads}
use Rattle.entries.proofs.Writing.{put_reads, keep_reads_all}
use Rattle.entries.proofs.Renaming.{renamed_reads}

pub returns : goal.returns
returns c = record { written = put_reads; added = keep_reads_all; renamed = renamed_reads; parted = split_reads }
