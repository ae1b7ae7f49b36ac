use Rattle.memory.proofs.Laws.{makes_new, made_grows, serial_once, keeps_keys, nodes_of_path}
use Rattle.memory.proofs.theorems.serials_hold.Goals as goal

pub returns : goal.returns
returns c = record { new = makes_new; grows = made_grows; once = serial_once; keys = keeps_keys; path = nodes_of_path }
