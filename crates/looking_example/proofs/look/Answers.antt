use Rattle.looking_example.proofs.Back.{exit_look, whole_look, back_refused}
use Rattle.looking_example.proofs.look.Goals as goal

pub returns-in_err-enter : goal.returns-in_err-enter
returns-in_err-enter g c = λ m h R.
    exit_look (λ s. g.M.PointerMemory.means s (g.O.VersionOrder.items c.args.order.now)) c.args.v c.args.mem.now _ _ _ m c.from_residual.ensures.1 (c.in_err-enter.ensures.does m h)

pub returns-in_err-enter-2 : goal.returns-in_err-enter-2
returns-in_err-enter-2 g c = λ m h R.
    let items = g.O.VersionOrder.items c.args.order.now in
    back_refused (λ s. g.M.PointerMemory.means s items) g.M.PointerMemory.alike (λ s t m n. g.met.M.VersionedMemory.restored s t items m n)
    c.args.v c.args.back c.args.mem.now _ _ _ _ _ _ m R h c.in_ok-enter.ensures.does c.root_is_nil-empty.ensures.runs c.in_err-enter-2.ensures.does

pub returns : goal.returns
returns g c = λ m h R.
    let items = g.O.VersionOrder.items c.args.order.now in
    let s = c.args.mem.now in
    whole_look (λ s. g.M.PointerMemory.means s items) g.M.PointerMemory.alike (λ s t m n. g.met.M.VersionedMemory.restored s t items m n)
    c.args.v c.args.back s _ _ _ _ m R h
    (c.enter-2.ensures.alike s (c.root_is_nil-empty.ensures.alike s (c.enter.ensures.alike s (g.met.M.PointerMemory.likeness s))))
    c.in_ok-enter.ensures.does c.root_is_nil-empty.ensures.runs c.in_ok-enter-2.ensures.does
