use Rattle.std.proofs.Common.{vec_len, sym, refl, arith, rules}
use Rattle.single.proofs.Table.{none_at}
use Rattle.single.proofs.Means.{make_none}
use Rattle.single.proofs.store.SingleMemory.make.Goals as goal

pub returns : goal.returns
returns c = rw (make_none c.args.nodes c.args.changes (vec_len c.args.table) (search rules) (search rules) (search rules) (search rules) (search rules)) (record {
  roots = λ i l. sym (none_at 3 i);
  regs = λ i l. sym (none_at 40 i);
  rows = record { node = λ k d l. let z : ⊥ = omega arith in absurd z; named = λ k d l. let z : ⊥ = omega arith in absurd z; unborn = λ k l. refl; unnamed = λ k l. refl };
  made = refl;
  changed = refl;
  node_limit = refl;
  change_limit = refl;
  writable = refl;
})
