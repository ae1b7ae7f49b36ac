-- What a walk over a chain knows: its rows are in the table.
use mathlib.Core.Logic.{∥∥₁_elim}
use native.Mathlib.Bridge.{le_prop}
use Rattle.chains.specs.declared.walk.Walk.{Walk}
use Rattle.chain_rows.specs.Chains.{Inside}

pub inside : (w : Walk) → Inside w.rows.now w.rest.head w.rest.len
inside w = ∥∥₁_elim w.inside (λ p q i a l. le_prop (p a l) (q a l) i) (λ s. s)
