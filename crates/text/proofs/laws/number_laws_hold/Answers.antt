use Rattle.text.proofs.Inverse.{numbers_read_back, numbers_are_written, integers_read_back, integers_are_written}
use Rattle.text.proofs.laws.number_laws_hold.Goals as goal

pub returns : goal.returns
returns c = record { back = numbers_read_back; written = numbers_are_written; signed_back = integers_read_back; signed_written = integers_are_written }
