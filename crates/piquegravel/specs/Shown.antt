-- The text behind the arrow.
--
--   no_line         what a line is answered with that asks for no call
--   answered_text   what a line is answered with: the answer of its call, or the refusal, as its type prints it; or that it is no line
--   shown_text      what is written: the text that was made, or that it is no line
use Rattle.std.specs.Prelude.{ℕ, List, Option, Some, None, Result, Ok, Err, String, string_bytes, codes}

abbrev pub no_line : List ℕ
no_line = codes "not a line"

abbrev pub answered_text : {T E : Type 0} → (T → Option (List ℕ)) → (E → Option (List ℕ)) → Option (Result T E) → Option (List ℕ)
answered_text answer refusal (Some (Ok a)) = answer a
answered_text answer refusal (Some (Err e)) = refusal e
answered_text answer refusal None = Some no_line

abbrev pub shown_text : {A : Type 0} → Option (String A) → List ℕ
shown_text (Some text) = string_bytes text
shown_text None = no_line
