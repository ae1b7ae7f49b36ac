-- A number that grows over 64 bits is none of them.
use Rattle.std.proofs.Common.{sym, ◌∙◌, arith}
use Rattle.text.proofs.Reading.{reading_grows_over}
use Rattle.text.proofs.numbers.U64Number.read.Goals as goal

pub returns-in_err-checked_mul : goal.returns-in_err-checked_mul
returns-in_err-checked_mul c =
    c.from_residual.ensures
    ∙ reading_grows_over c.args.text.now c.loop-b.b-index c.loop-b.n 64 c.loop-b.invariant.0 c.loop-b-test.true (sym c.if-not-is_ascii_digit.ensures.value)
    (omega (arith, c.in_err-checked_mul.ensures))

pub returns-in_err-n : goal.returns-in_err-n
returns-in_err-n c =
    c.from_residual-in_err-n.ensures
    ∙ reading_grows_over c.args.text.now c.loop-b.b-index c.loop-b.n 64 c.loop-b.invariant.0 c.loop-b-test.true (sym c.if-not-is_ascii_digit.ensures.value)
    (omega (arith, c.in_err-n.ensures, c.in_ok-checked_mul.ensures, c.from.ensures))
