use Rattle.order.specs.Items.{position}
use Rattle.std.proofs.Common.{◌≡◌, ◌-◌, length}
use Rattle.chain_rows.specs.Chains.{last_of}
use Rattle.chain_rows.specs.Spots.{Passed}
use Rattle.chains.proofs.walking.find.Given as goal

abbrev pub invariant-loop-step : goal.invariant-loop-step
invariant-loop-step g l =
    Passed (position (g.O.VersionOrder.items l.order)) (length (g.O.VersionOrder.items l.order)) l.rows l.fn.from.head l.fn.from.len l.field l.v l._step l.next (l.fn.from.len - l._step)
    × (l.prev ≡ last_of l.rows l.fn.from.head l._step)
