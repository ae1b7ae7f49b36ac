-- A row of steps keeps a memory sound: each step does, and so do rows made of such steps.
use Rattle.std.proofs.Common.{◌≡◌, ℕ, Bool, true, false, cond}
use Rattle.memory.specs.Memory.{Memory, Sound}
use Rattle.memory.specs.Steps.{Done, done, no, then, load_of, follow_of, move_of, key_of, number_of, nil_of, same_of, make_of, save_of, link_of, set_number_of, open_of, enter_of, close_of}
use Rattle.memory.specs.Calls.{Load, Follow, Move, Key, Number, Nil, Same, Make, Save, Link, SetNumber, Open, Enter, Close, left, after}
use Rattle.memory.proofs.Kept.{stays_sound}

-- where the row is accepted, the memory after it is sound
abbrev pub Sounds : {A : Type 0} → Done A → Type 0
Sounds (done a m) = Sound m
Sounds (no e) = Unit {0}

from_left : {A : Type 0} (m : Memory) (d : Done A) → Sound (left m d) → Sounds d
from_left m (done a m') S = S
from_left m (no e) S = tt

pub sound_then : {A B : Type 0} (d : Done A) (k : A → Memory → Done B) → Sounds d → ((a : A) (m : Memory) → Sound m → Sounds (k a m)) → Sounds (then d k)
sound_then (done a m) k h f = f a m h
sound_then (no e) k h f = tt

pub sound_cond : {A : Type 0} (b : Bool) (x y : Done A) → Sounds x → Sounds y → Sounds (cond b x y)
sound_cond true x y f g = f
sound_cond false x y f g = g

-- the memory after an accepted row
pub sound_after : {A : Type 0} {d : Done A} {a : A} {m : Memory} → d ≡ done a m → Sounds d → Sound m
sound_after e h = rw e at h

module _ (m : Memory) (S : Sound m) where
  pub sound_load : (root reg : ℕ) → Sounds (load_of root reg m)
  unfolding after
  sound_load root reg = from_left m (load_of root reg m) (stays_sound (Load root reg) m S)

  pub sound_follow : (from side reg : ℕ) → Sounds (follow_of from side reg m)
  unfolding after
  sound_follow from side reg = from_left m (follow_of from side reg m) (stays_sound (Follow from side reg) m S)

  pub sound_move : (from reg : ℕ) → Sounds (move_of from reg m)
  unfolding after
  sound_move from reg = from_left m (move_of from reg m) (stays_sound (Move from reg) m S)

  pub sound_key : (reg : ℕ) → Sounds (key_of reg m)
  unfolding after
  sound_key reg = from_left m (key_of reg m) (stays_sound (Key reg) m S)

  pub sound_number : (field reg : ℕ) → Sounds (number_of field reg m)
  unfolding after
  sound_number field reg = from_left m (number_of field reg m) (stays_sound (Number field reg) m S)

  pub sound_nil : (reg : ℕ) → Sounds (nil_of reg m)
  unfolding after
  sound_nil reg = from_left m (nil_of reg m) (stays_sound (Nil reg) m S)

  pub sound_same : (a b : ℕ) → Sounds (same_of a b m)
  unfolding after
  sound_same a b = from_left m (same_of a b m) (stays_sound (Same a b) m S)

  pub sound_make : (reg key value mark : ℕ) → Sounds (make_of reg key value mark m)
  unfolding after
  sound_make reg key value mark = from_left m (make_of reg key value mark m) (stays_sound (Make reg key value mark) m S)

  pub sound_save : (root reg : ℕ) → Sounds (save_of root reg m)
  unfolding after
  sound_save root reg = from_left m (save_of root reg m) (stays_sound (Save root reg) m S)

  pub sound_link : (from side reg : ℕ) → Sounds (link_of from side reg m)
  unfolding after
  sound_link from side reg = from_left m (link_of from side reg m) (stays_sound (Link from side reg) m S)

  pub sound_set_number : (field reg x : ℕ) → Sounds (set_number_of field reg x m)
  unfolding after
  sound_set_number field reg x = from_left m (set_number_of field reg x m) (stays_sound (SetNumber field reg x) m S)

  pub sound_open : (limit a : ℕ) → Sounds (open_of limit a m)
  unfolding after
  sound_open limit a = from_left m (open_of limit a m) (stays_sound (Open limit a) m S)

  pub sound_enter : (v : ℕ) → Sounds (enter_of v m)
  unfolding after
  sound_enter v = from_left m (enter_of v m) (stays_sound (Enter v) m S)

  pub sound_close : Sounds (close_of m)
  unfolding after
  sound_close = from_left m (close_of m) (stays_sound Close m S)
