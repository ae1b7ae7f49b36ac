-- All calls of a memory in one type, so that a law can speak of any call, and of any run of calls.
--
--   Call       a call with its arguments
--   left       the memory that a step leaves: refused, the one before
--   after      the memory after a call
--   run_of     the memory after a list of calls
--   is_lower   whether a call belongs to the pointer memory
use Rattle.std.specs.Prelude.{ℕ, Bool, true, false, List, [], ◌∷◌}
use Rattle.memory.specs.Memory.{Memory}
use Rattle.memory.specs.Steps.{Done, done, no, load_of, follow_of, move_of, key_of, number_of, nil_of, same_of, make_of, save_of, link_of, set_number_of, open_of, enter_of, close_of}

pub data Call : Type 0 where
  Load : ℕ → ℕ → Call
  Follow : ℕ → ℕ → ℕ → Call
  Move : ℕ → ℕ → Call
  Key : ℕ → Call
  -- value and mark, by their field
  Number : ℕ → ℕ → Call
  Nil : ℕ → Call
  Same : ℕ → ℕ → Call
  Make : ℕ → ℕ → ℕ → ℕ → Call
  Save : ℕ → ℕ → Call
  Link : ℕ → ℕ → ℕ → Call
  -- set value and set mark, by their field
  SetNumber : ℕ → ℕ → ℕ → Call
  -- with the order's limit of versions
  Open : ℕ → ℕ → Call
  Enter : ℕ → Call
  Close : Call

abbrev pub left : {A : Type 0} → Memory → Done A → Memory
left m (done a n) = n
left m (no e) = m

unfoldable pub after : Call → Memory → Memory
after (Load root reg) m = left m (load_of root reg m)
after (Follow from side reg) m = left m (follow_of from side reg m)
after (Move from reg) m = left m (move_of from reg m)
after (Key reg) m = left m (key_of reg m)
after (Number field reg) m = left m (number_of field reg m)
after (Nil reg) m = left m (nil_of reg m)
after (Same a b) m = left m (same_of a b m)
after (Make reg key value mark) m = left m (make_of reg key value mark m)
after (Save root reg) m = left m (save_of root reg m)
after (Link from side reg) m = left m (link_of from side reg m)
after (SetNumber field reg x) m = left m (set_number_of field reg x m)
after (Open limit a) m = left m (open_of limit a m)
after (Enter v) m = left m (enter_of v m)
after Close m = left m (close_of m)

unfoldable pub run_of : List Call → Memory → Memory
run_of [] m = m
run_of (c ∷ cs) m = run_of cs (after c m)

abbrev pub is_lower : Call → Bool
is_lower (Load root reg) = true
is_lower (Follow from side reg) = true
is_lower (Move from reg) = true
is_lower (Key reg) = true
is_lower (Number field reg) = true
is_lower (Nil reg) = true
is_lower (Same a b) = true
is_lower (Make reg key value mark) = true
is_lower (Save root reg) = true
is_lower (Link from side reg) = true
is_lower (SetNumber field reg x) = true
is_lower (Open limit a) = false
is_lower (Enter v) = false
is_lower Close = false
