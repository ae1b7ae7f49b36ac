use Rattle.text.proofs.Joining.{parts_join, parts_split, pieces_read_back, pieces_are_written, jobs_read_back, jobs_are_written}
use Rattle.text.proofs.laws.key_text_laws_hold.Goals as goal

pub returns : goal.returns
returns c = record {
  join = parts_join;
  split = parts_split;
  piece_back = pieces_read_back;
  piece_written = pieces_are_written;
  job_back = jobs_read_back;
  job_written = jobs_are_written;
}
