-- The text of an answer, as bytes.
--
--   reply_text   done, a number, yes or no, or version and its number
use Rattle.std.specs.Prelude.{ℕ, true, false, List, ◌++◌, codes, decimal}
use Rattle.memory_lines.specs.declared.line.Reply.{Reply}
use Rattle.memory_lines.specs.declared.line.Reply.TheVariants.{Done, Number, Truth, NewVersion}

abbrev pub reply_text : Reply → List ℕ
reply_text Done = codes "done"
reply_text (Number n) = decimal n
reply_text (Truth true) = codes "yes"
reply_text (Truth false) = codes "no"
reply_text (NewVersion n) = codes "version " ++ decimal n
