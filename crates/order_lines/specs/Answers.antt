-- What an order answers to a line, and what the line makes of its items.
--
--   line_answer   the answer, by the items, the limit and the labels
--   items_by      the items after a line with that answer
--   Keeps         a fact that holds unless the answer is a new item
use Rattle.std.specs.Prelude.{ℕ, List, length, Ok, Err, Result}
use Rattle.refusals.specs.declared.kinds.OrderRefusal.{OrderRefusal}
use Rattle.order.specs.Items.{behind, after_answer, before_answer, successor_answer}
use Rattle.order_lines.specs.declared.line.OrderLine.{OrderLine}
use Rattle.order_lines.specs.declared.line.OrderLine.TheVariants.{After, Before, Successor, Count, Label}
use Rattle.order_lines.specs.declared.line.OrderAnswer.{OrderAnswer}
use Rattle.order_lines.specs.declared.line.OrderAnswer.TheVariants.{NewItem, IsBefore, Next, Total, LabelIs}

-- an answer of the order, or its refusal
abbrev pub answered : {A : Type 0} → (A → OrderAnswer) → Result A OrderRefusal → Result OrderAnswer OrderRefusal
answered f (Ok x) = Ok (f x)
answered f (Err e) = Err e

-- the answer of an order with the items xs, the limit and the labels
abbrev pub line_answer : List ℕ → ℕ → (ℕ → Result ℕ OrderRefusal) → OrderLine → Result OrderAnswer OrderRefusal
line_answer xs limit labels (After a) = answered (λ n. NewItem n) (after_answer xs limit a)
line_answer xs limit labels (Before a b) = answered (λ t. IsBefore t) (before_answer xs a b)
line_answer xs limit labels (Successor a) = answered (λ o. Next o) (successor_answer xs a)
line_answer xs limit labels Count = Ok (Total (length xs))
line_answer xs limit labels (Label a) = answered (λ l. LabelIs l) (labels a)

-- n right behind the item that the line names
abbrev pub items_with : OrderLine → ℕ → List ℕ → List ℕ
items_with (After a) n xs = behind xs a n
items_with (Before a b) n xs = xs
items_with (Successor a) n xs = xs
items_with Count n xs = xs
items_with (Label a) n xs = xs

-- the items xs after a line with that answer
abbrev pub items_by : Result OrderAnswer OrderRefusal → OrderLine → List ℕ → List ℕ
items_by (Ok (NewItem n)) line xs = items_with line n xs
items_by (Ok (IsBefore t)) line xs = xs
items_by (Ok (Next o)) line xs = xs
items_by (Ok (Total n)) line xs = xs
items_by (Ok (LabelIs l)) line xs = xs
items_by (Err e) line xs = xs

-- the fact holds unless the answer is a new item
abbrev pub Keeps : Result OrderAnswer OrderRefusal → Type 0 → Type 0
Keeps (Ok (NewItem n)) P = Unit {0}
Keeps (Ok (IsBefore t)) P = P
Keeps (Ok (Next o)) P = P
Keeps (Ok (Total n)) P = P
Keeps (Ok (LabelIs l)) P = P
Keeps (Err e) P = P
