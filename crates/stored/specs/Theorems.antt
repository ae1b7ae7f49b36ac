-- What holds of the steps that all rows on trees are made of.
--
--   RotationTurns    a rotation makes of the tree under its register the rotated tree, by two link writes
--   IdleWritesHold   a link, number or root that holds what it should is not written
use Rattle.std.specs.Prelude.{◌≡◌, ℕ, ◌+◌, ◌<◌, ◌≤◌, Bool, true, ◌≢◌}
use Rattle.trees.specs.Trees.{Tree, is_node, child, rotated}
use Rattle.memory.specs.Memory.{Node, Memory, changed}
use Rattle.memory.specs.Effects.{Ends, Holds}
use Rattle.stored.specs.Stored.{side, NamedOnce}
use Rattle.stored.specs.Writes.{relink_of, renumber_of, resave_of, rotate_of}
use Rattle.stored.specs.Becomes.{cost, Ready, Becomes}

abbrev pub RotationTurns : Type 0 → Type 0
RotationTurns M = (enc : M → ℕ) (m : Memory) (d : ℕ) (s : Bool) (t : Tree M ℕ) → is_node (child s t) ≡ true → Ready enc m d t → NamedOnce m t → d < 30 → changed m + 2 ≤ m.change_limit
    → Ends (rotate_of d s m) (λ _ m'. Becomes enc m m' d t (rotated s t) (cost 2 0 0))

-- the state is the same, and nothing was counted as a change
pub record Idle (m m' : Memory) : Type 0 where
  pub state : m'.state ≡ m.state
  pub linked : m'.linked ≡ m.linked
  pub numbered : m'.numbered ≡ m.numbered

pub record IdleWrites (m : Memory) : Type 0 where
  pub link : (d : ℕ) (s : Bool) (r j : ℕ) (n : Node) → Holds m d j n → (r ≢ 32) → r < 40 → n.links (side s) ≡ m.regs r → Ends (relink_of d s r m) (λ _ m'. Idle m m')
  pub number : (field d v j : ℕ) (n : Node) → Holds m d j n → n.numbers field ≡ v → Ends (renumber_of field d v m) (λ _ m'. Idle m m')
  pub root : (root r : ℕ) → root < 3 → r < 40 → (r ≢ 32) → m.state.roots root ≡ m.regs r → Ends (resave_of root r m) (λ _ m'. Idle m m')

abbrev pub IdleWritesHold : Type 0
IdleWritesHold = (m : Memory) → IdleWrites m
