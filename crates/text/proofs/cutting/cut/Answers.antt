-- The first part ends at the first separator.
use Rattle.std.proofs.Common.{◌≡◌, eqb, sym, ◌∙◌, rules, tests}
use Rattle.std.proofs.lemmas.Iterator.{YieldsList-from_slice}
use Rattle.std.proofs.lemmas.Iterator.Search.{position_from_yields_List}
use Rattle.std.specs.List.{position}
use Rattle.text.proofs.Cuts.{cut_at, cut_nowhere}
use Rattle.text.proofs.cutting.cut.Goals as goal

pub returns-in-Some : goal.returns-in-Some
returns-in-Some c =
    let is : c.position.result ≡ position (λ b. eqb b c.args.separator) c.args.text.now =
    position_from_yields_List (λ b. eqb b c.args.separator) _ _ c.position.result c.position.ensures.ran (YieldsList-from_slice c.args.text.now cc) (λ x b q k. search (rules, tests)) in
    let r = cut_at c.args.separator c.args.text.now c.in-Some.i (sym c.in-Some.is ∙ is) in
    record { part = r.0; rest = r.1 }

pub returns-in-None : goal.returns-in-None
returns-in-None c =
    let is : c.position.result ≡ position (λ b. eqb b c.args.separator) c.args.text.now =
    position_from_yields_List (λ b. eqb b c.args.separator) _ _ c.position.result c.position.ensures.ran (YieldsList-from_slice c.args.text.now cc) (λ x b q k. search (rules, tests)) in
    let r = cut_nowhere c.args.separator c.args.text.now (sym c.in-None.is ∙ is) in
    record { part = r.0; rest = r.1 }
