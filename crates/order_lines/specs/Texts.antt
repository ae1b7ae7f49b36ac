-- Lines and answers as text.
--
--   asked         the line of a word and the words behind it
--   begun         the line that words begin with, or nothing
--   behind_line   the words behind it
--   line_of       the line that words write, or nothing
--   answer_text   an answer
use Rattle.std.specs.Prelude.{ℕ, true, false, cond, List, Some, None, codes, decimal, Option}
use Rattle.std.specs.Str.{bytes_eq}
use Rattle.text.specs.Numbers.{number_of}
use Rattle.text.specs.Left.{first_of, behind_first, read_first, is_none, if_there}
use Rattle.order_lines.specs.declared.line.OrderLine.{OrderLine}
use Rattle.order_lines.specs.declared.line.OrderLine.TheVariants.{After, Before, Successor, Count, Label}
use Rattle.order_lines.specs.declared.line.OrderAnswer.{OrderAnswer}
use Rattle.order_lines.specs.declared.line.OrderAnswer.TheVariants.{NewItem, IsBefore, Next, Total, LabelIs}

-- the line of the word w and the numbers behind it, of 32 bits each
abbrev pub asked : List ℕ → List (List ℕ) → Option OrderLine
asked w ws =
    cond (bytes_eq w (codes "after")) (if_there (read_first (number_of 32) ws) (λ a. Some (After a)))
    (cond (bytes_eq w (codes "before")) (if_there (read_first (number_of 32) ws) (λ a. if_there (read_first (number_of 32) (behind_first ws)) (λ b. Some (Before a b))))
    (cond (bytes_eq w (codes "successor")) (if_there (read_first (number_of 32) ws) (λ a. Some (Successor a)))
    (cond (bytes_eq w (codes "count")) (Some Count)
    (cond (bytes_eq w (codes "label")) (if_there (read_first (number_of 32) ws) (λ a. Some (Label a))) None))))

-- a word, and the items that it needs
abbrev pub begun : List (List ℕ) → Option OrderLine
begun ws = if_there (first_of ws) (λ w. asked w (behind_first ws))

-- the words behind the word of a line and its items
abbrev pub behind_line : OrderLine → List (List ℕ) → List (List ℕ)
behind_line (After a) ws = behind_first (behind_first ws)
behind_line (Before a b) ws = behind_first (behind_first (behind_first ws))
behind_line (Successor a) ws = behind_first (behind_first ws)
behind_line Count ws = behind_first ws
behind_line (Label a) ws = behind_first (behind_first ws)

-- a word, the items that it needs, and no words behind them
abbrev pub line_of : List (List ℕ) → Option OrderLine
line_of ws = if_there (begun ws) (λ l. cond (is_none (behind_line l ws)) (Some l) None)

-- an answer: a number, yes or no, or nothing where there is no next item
abbrev pub answer_text : OrderAnswer → List ℕ
answer_text (NewItem n) = decimal n
answer_text (IsBefore true) = codes "yes"
answer_text (IsBefore false) = codes "no"
answer_text (Next (Some n)) = decimal n
answer_text (Next None) = codes "nothing"
answer_text (Total n) = decimal n
answer_text (LabelIs n) = decimal n
