use Rattle.std.proofs.Common.{arith}
use Rattle.chain_rows.proofs.Walks.{inside_step, chain_next}
use Rattle.chain_rows.proofs.Puts.{chain_length}
use Rattle.chains.proofs.Stepping.{inside}
use Rattle.chains.proofs.walk.WalkIterator.next.Goals as goal

pub invariant_of-self : goal.invariant_of-self
invariant_of-self c = record { inside = ∣ inside_step _ _ _ _ (omega arith) (inside c.args.self.now) ∣₁ }

pub returns-clause-steps : goal.returns-clause-steps
returns-clause-steps c = chain_next _ _ _ _ (omega arith) (inside c.args.self.now)

pub returns-clause-goes : goal.returns-clause-goes
returns-clause-goes c = record {
  on = λ _. (tt, tt, omega (arith, chain_length, c.if-len-eq0.false));
  keeps = tt;
  rests = λ _. tt;
}
