-- What a walk over a chain has yet to give.
--
--   entries_left   the entries of the rows that are left
use Rattle.std.specs.Prelude.{List}
use Rattle.fields.specs.declared.kinds.Value.{Value}
use Rattle.entries.specs.Entries.{Entry}
use Rattle.chain_rows.specs.Chains.{chain}
use Rattle.chains.specs.declared.walk.Walk.{Walk}

abbrev pub entries_left : Walk → List (Entry Value)
entries_left w = chain w.rows.now w.rest.head w.rest.len
