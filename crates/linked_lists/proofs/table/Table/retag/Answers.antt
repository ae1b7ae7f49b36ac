use Rattle.linked_lists.proofs.Open.{opened}
use Rattle.linked_lists.proofs.Tables.{sound_retagged}
use Rattle.linked_lists.proofs.table.Table.retag.Goals as goal

pub invariant_of-self : goal.invariant_of-self
invariant_of-self g c =
    record { sound = ∣ sound_retagged (opened c.args.self.now.sound) c.args.x c.args.tag c.requires c.index_mut.result.now c.index_mut.ensures.value ∣₁ }
