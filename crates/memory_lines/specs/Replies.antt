-- What a line comes to, as a step of the abstract memory with one type of answers.
--
--   replied                                                            the answer of a step, as a reply
--   move_step, question_step, write_step, pointer_step, version_step   the step that a line calls
use Rattle.std.specs.Prelude.{ℕ, Bool}
use Rattle.memory.specs.Memory.{Memory}
use Rattle.memory.specs.Steps.{Done, done, no, load_of, follow_of, move_of, key_of, number_of, nil_of, same_of, make_of, save_of, link_of, set_number_of, open_of, enter_of, close_of}
use Rattle.memory_lines.specs.declared.line.Move.{Move}
use Rattle.memory_lines.specs.declared.line.Move.TheVariants.{Load, Follow, Copy}
use Rattle.memory_lines.specs.declared.line.Question.{Question}
use Rattle.memory_lines.specs.declared.line.Question.TheVariants.{Key, Value, Mark, Nil, Same}
use Rattle.memory_lines.specs.declared.line.Write.{Write}
use Rattle.memory_lines.specs.declared.line.Write.TheVariants.{Make, Save, Link, SetValue, SetMark}
use Rattle.memory_lines.specs.declared.line.PointerLine.{PointerLine}
use Rattle.memory_lines.specs.declared.line.PointerLine.TheVariants.{Moves, Asks, Writes}
use Rattle.memory_lines.specs.declared.line.VersionLine.{VersionLine}
use Rattle.memory_lines.specs.declared.line.VersionLine.TheVariants.{Open, Enter, Close}
use Rattle.memory_lines.specs.declared.line.Reply.{Reply}
use Rattle.memory_lines.specs.declared.line.Reply.TheVariants as reply

abbrev pub replied : {A : Type 0} → (A → Reply) → Done A → Done Reply
replied f (done a m) = done (f a) m
replied f (no e) = no e

abbrev pub as_done : Unit {0} → Reply
as_done _ = reply.Done

abbrev pub as_number : ℕ → Reply
as_number x = reply.Number x

abbrev pub as_truth : Bool → Reply
as_truth x = reply.Truth x

abbrev pub as_version : ℕ → Reply
as_version x = reply.NewVersion x

abbrev pub move_step : Move → Memory → Done Reply
move_step (Load root reg) m = replied as_done (load_of root reg m)
move_step (Follow from side reg) m = replied as_done (follow_of from side reg m)
move_step (Copy from reg) m = replied as_done (move_of from reg m)

abbrev pub question_step : Question → Memory → Done Reply
question_step (Key reg) m = replied as_number (key_of reg m)
question_step (Value reg) m = replied as_number (number_of 0 reg m)
question_step (Mark reg) m = replied as_number (number_of 1 reg m)
question_step (Nil reg) m = replied as_truth (nil_of reg m)
question_step (Same a b) m = replied as_truth (same_of a b m)

abbrev pub write_step : Write → Memory → Done Reply
write_step (Make reg key value mark) m = replied as_done (make_of reg key value mark m)
write_step (Save root reg) m = replied as_done (save_of root reg m)
write_step (Link from side reg) m = replied as_done (link_of from side reg m)
write_step (SetValue reg x) m = replied as_done (set_number_of 0 reg x m)
write_step (SetMark reg x) m = replied as_done (set_number_of 1 reg x m)

abbrev pub pointer_step : PointerLine → Memory → Done Reply
pointer_step (Moves l) m = move_step l m
pointer_step (Asks l) m = question_step l m
pointer_step (Writes l) m = write_step l m

abbrev pub version_step : ℕ → VersionLine → Memory → Done Reply
version_step limit (Open a) m = replied as_version (open_of limit a m)
version_step limit (Enter v) m = replied as_done (enter_of v m)
version_step limit Close m = replied as_done (close_of m)
