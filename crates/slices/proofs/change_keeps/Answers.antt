use Rattle.slices.proofs.change_keeps.Goals as goal
use Rattle.slices.proofs.Changing.{changed_reads}
use Rattle.slices.proofs.FieldWrites.{set_field-slices}
use Rattle.slices.proofs.FieldWrites.{set_all-sound}

pub returns : goal.returns
returns c = record { copy = changed_reads; one = set_field-slices; all = set_all-sound }
