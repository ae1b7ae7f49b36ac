use Rattle.meaning.proofs.calls_agree.Goals as goal
use Rattle.meaning.proofs.Reading.{reads_agree}
use Rattle.meaning.proofs.Writing.{writes_agree}
use Rattle.meaning.proofs.Versions.{fresh_stands, versions_agree}

pub returns : goal.returns
returns c = record { fresh = fresh_stands; reads = reads_agree; writes = writes_agree; versions = versions_agree }
