-- Answers of a comparison as text.
--
--   answer_text    an answer to a line
--   refusal_text   why a line is refused
use Rattle.std.specs.Prelude.{ℕ, List, ◌++◌, codes, decimal, Ok, Err}
use Rattle.refusals.specs.Numbers.{book_number}
use Rattle.refusals.specs.Shown.{refused_text}
use Rattle.history.specs.Shown.{difference_text}
use Rattle.compare.specs.declared.answer.Answer.{Answer}
use Rattle.compare.specs.declared.answer.Answer.TheVariants.{Recorded, Judged}
use Rattle.compare.specs.declared.answer.LineRefusal.{LineRefusal}
use Rattle.compare.specs.declared.answer.LineRefusal.TheVariants.{WrongCount, AlreadyRecorded, NoRoom}

-- what is written behind the arrow: for a file of the new build that it is unchanged, or the first piece that is not as recorded
abbrev pub answer_text : Answer → List ℕ
answer_text (Recorded n) = decimal n ++ codes " pieces"
answer_text (Judged (Ok same)) = codes "unchanged"
answer_text (Judged (Err difference)) = codes "rebuild: " ++ difference_text difference

-- and where the line is refused
abbrev pub refusal_text : LineRefusal → List ℕ
refusal_text (WrongCount expected given) = decimal expected ++ (codes " pieces expected, " ++ (decimal given ++ codes " given"))
refusal_text AlreadyRecorded = codes "already recorded"
refusal_text (NoRoom below) = refused_text (book_number below)
