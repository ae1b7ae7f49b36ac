-- What walks need of an order: its answers are about positions, and two known versions at one position are one.
use Rattle.std.proofs.Common.{◌≡◌, ℕ, ◌<◌, Bool, ltb, List, length, Ok, ap, ◌∙◌}
use Rattle.std.proofs.lemmas.Bool.{lt-ltb}
use Rattle.order.specs.Items.{member, Distinct, known, position, before_answer}
use Rattle.order.proofs.Positions.{position_apart, earlier_position}

pub apart : (xs : List ℕ) → ((a : ℕ) → member xs a ≡ known xs a) → (a b : ℕ) → a < length xs → b < length xs → position xs a ≡ position xs b → a ≡ b
apart xs k a b la lb e = position_apart xs a b (k a ∙ lt-ltb a (length xs) la) (k b ∙ lt-ltb b (length xs) lb) e

pub answered : (xs : List ℕ) → Distinct xs → ((a : ℕ) → member xs a ≡ known xs a) → (a b : ℕ) → a < length xs → b < length xs
    → before_answer xs a b ≡ Ok (ltb (position xs a) (position xs b))
answered xs d k a b la lb =
    let ka = lt-ltb a (length xs) la in
    let kb = lt-ltb b (length xs) lb in
    rw (ka, kb) (ap (λ (t : Bool). Ok t) (earlier_position xs a b d (k a ∙ ka) (k b ∙ kb)))
