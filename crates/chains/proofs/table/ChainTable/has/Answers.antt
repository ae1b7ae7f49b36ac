use Rattle.std.proofs.Common.{rules, ℕ, ◌<◌, length, ◌∙◌, sym, subst, arith}
use Rattle.std.proofs.lemmas.Iterator.Search.{any_from_yields_List}
use Rattle.std.proofs.lemmas.Iterator.Consumers.{YieldsList-from_first}
use Rattle.std.proofs.lemmas.Grind.{common_steps}
use Rattle.fields.proofs.Numbers.{same_number, other_number}
use Rattle.entries.specs.Entries.{EachVersion}
use Rattle.chain_rows.specs.Chains.{entry_of}
use Rattle.chain_rows.proofs.Looking.{is_at, any_has}
use Rattle.chains.specs.Views.{entries_of}
use Rattle.chains.specs.Walks.{entries_left}
use Rattle.chains.proofs.Asked.{is_asked, asked_version}
use Rattle.chains.proofs.table.ChainTable.has.Goals as goal

pub returns-then-answers : goal.returns-then-answers
returns-then-answers g c = λ a.
    let t = c.args.self.now in
    let A = is_asked t (length (g.O.VersionOrder.items c.args.order.now)) c.args.i c.args.v (sym a) in
    any_from_yields_List (is_at c.args.field c.args.v) c.any.new.self _ c.any.result c.any.ensures.ran
    (YieldsList-from_first entry_of entries_left (entries_of t c.args.i) c.walk.ensures.entries)
    (λ x b q k. (search rules, grind (arith, common_steps, same_number x.field c.args.field, other_number x.field c.args.field, k)))
    ∙ any_has (g.O.VersionOrder.items c.args.order.now) (g.met.O.VersionOrder.numbered c.args.order.now) c.args.field c.args.v
    (asked_version t _ c.args.i c.args.v A) (entries_of t c.args.i) (subst (λ (n : ℕ). EachVersion (λ v. v < n) (entries_of t c.args.i)) A.same c.walk.ensures.known)
