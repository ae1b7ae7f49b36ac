use Rattle.std.proofs.Common.{refl, arith}
use Rattle.chain_rows.proofs.Nodes.{chained_within}
use Rattle.chain_rows.proofs.Lengths.{chained_short}
use Rattle.chain_rows.proofs.Puts.{found_grows, puts_same, puts_first, puts_behind}
use Rattle.chain_rows.proofs.Stays.{grows_same, grows_first, grows_behind}
use Rattle.chains.proofs.walking.put_entry.Goals as goal

pub find-requires-clause-within : goal.find-requires-clause-within
find-requires-clause-within g c = chained_within _ c.args.used _ _ _ c.requires.chained c.requires.taken

pub overflow_add-len : goal.overflow_add-len
overflow_add-len g c =
    let s = chained_short _ c.args.used _ _ _ c.requires.chained in
    omega (arith, s)

pub returns-then-used-rows-clause-puts : goal.returns-then-used-rows-clause-puts
returns-then-used-rows-clause-puts g c =
    let G = found_grows _ _ _ _ _ _ _ c.in-Err.gap c.args.value c.in-Err.ensures in
    λ h. absurd (omega (arith, h, G))

pub returns-in-Ok-clause-puts : goal.returns-in-Ok-clause-puts
returns-in-Ok-clause-puts g c = λ _. puts_same _ _ _ _ _ _ _ _ c.args.value _ c.in-Ok.ensures c.requires.chained.2

pub returns-in-Ok-clause-grows : goal.returns-in-Ok-clause-grows
returns-in-Ok-clause-grows g c = grows_same _ _ _ _ _ _ _ c.args.value c.requires.chained c.requires.known _ _ c.in-Ok.ensures

pub returns-in-None-clause-puts : goal.returns-in-None-clause-puts
returns-in-None-clause-puts g c =
    λ _. puts_first _ _ _ _ _ _ _ c.in-Err.gap c.args.value c.in-Err.ensures c.args.used c.in-None.is c.requires.chained.0 c.if-used-rows.false

pub returns-in-None-clause-grows : goal.returns-in-None-clause-grows
returns-in-None-clause-grows g c =
    grows_first _ _ _ _ c.args.from _ _ c.args.value c.requires.chained c.requires.known c.in-Err.gap c.in-Err.ensures c.if-used-rows.false c.in-None.is

pub returns-in-Some-clause-puts : goal.returns-in-Some-clause-puts
returns-in-Some-clause-puts g c =
    λ _. puts_behind _ _ _ _ _ _ _ c.in-Err.gap c.args.value c.in-Err.ensures c.in-Some.prev c.in-Some.is _ c.args.used _ _ c.requires.chained c.if-used-rows.false refl

pub returns-in-Some-clause-grows : goal.returns-in-Some-clause-grows
returns-in-Some-clause-grows g c =
    grows_behind _ _ _ _ c.args.from _ _ c.args.value c.requires.chained c.requires.known c.in-Err.gap c.in-Err.ensures c.if-used-rows.false c.in-Some.prev c.in-Some.is _ _ refl
