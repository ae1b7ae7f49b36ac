-- Answers to lines of two keys as text.
--
--   which_text         which of two keys goes first
--   key_refusal_text   why a line has no such answer
use Rattle.std.specs.Prelude.{ℕ, List, codes}
use Rattle.refusals.specs.Numbers.{name_number}
use Rattle.refusals.specs.Shown.{refused_text}
use Rattle.key_lines.specs.declared.answer.Which.{Which}
use Rattle.key_lines.specs.declared.answer.Which.TheVariants.{First, Second, Equal}
use Rattle.key_lines.specs.declared.answer.KeyRefusal.{KeyRefusal}
use Rattle.key_lines.specs.declared.answer.KeyRefusal.TheVariants.{Name, NotALine}

abbrev pub which_text : Which → List ℕ
which_text First = codes "first"
which_text Second = codes "second"
which_text Equal = codes "equal"

-- refused and the number of the refusal, or that it is no line
abbrev pub key_refusal_text : KeyRefusal → List ℕ
key_refusal_text (Name e) = refused_text (name_number e)
key_refusal_text NotALine = codes "not a line"
