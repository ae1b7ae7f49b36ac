-- Writes that are made only where they alter something, and the rotation. Register 32 is used on the way.
--
--   relink_of, renumber_of, resave_of   the steps that write a link, a number or a root where it differs
--   rotate_of                           the steps that make a child the root of the tree under a register
--   blank_of                            both links of a node taken out become nil, even where they are
--   Edited                              one node has become another, by at most so many writes
--   Relinked, Renumbered, Resaved       a link, a number, a root holds what it should
--   Cleared                             a node has no links
use Rattle.std.specs.Prelude.{◌≡◌, ℕ, ◌+◌, ◌≤◌, Bool, cond, not, Some, None, Option, ◌==◌, ◌≢◌}
use Rattle.memory.specs.Memory.{Node, Memory, hits}
use Rattle.memory.specs.Steps.{Done, done, then, load_of, follow_of, move_of, number_of, same_of, save_of, link_of, set_number_of}
use Rattle.stored.specs.Stored.{side}

-- register r into the link on a side of register d's node
unfoldable pub relink_of : ℕ → Bool → ℕ → Memory → Done Unit
relink_of d s r m =
    then (follow_of d (side s) 32 m) (λ _ m1.
    then (same_of 32 r m1) (λ same m2.
    cond same (done tt m2) (link_of d (side s) r m2)))

-- x into a number of register d's node
unfoldable pub renumber_of : ℕ → ℕ → ℕ → Memory → Done Unit
renumber_of field d x m = then (number_of field d m) (λ old m1. cond (old == x) (done tt m1) (set_number_of field d x m1))

-- register r into a root
unfoldable pub resave_of : ℕ → ℕ → Memory → Done Unit
resave_of root r m =
    then (load_of root 32 m) (λ _ m1.
    then (same_of 32 r m1) (λ same m2.
    cond same (done tt m2) (save_of root r m2)))

-- The child on the side s of register d's node becomes the root. Both links that are written hold something else before.
unfoldable pub rotate_of : ℕ → Bool → Memory → Done Unit
rotate_of d s m =
    then (follow_of d (side s) 30 m) (λ _ m1.
    then (follow_of 30 (side (not s)) 31 m1) (λ _ m2.
    then (link_of d (side s) 31 m2) (λ _ m3.
    then (link_of 30 (side (not s)) d m3) (λ _ m4.
    move_of 30 d m4))))

-- register 35 is nil
unfoldable pub blank_of : ℕ → Memory → Done Unit
blank_of r m = then (link_of r 0 35 m) (λ _ m1. link_of r 1 35 m1)

-- the same memory but for its working state and register 32, after at most so many link and root writes and number writes
pub record Spends (links numbers : ℕ) (m m' : Memory) : Type 0 where
  pub regs : (r : ℕ) → (r ≢ 32) → m'.regs r ≡ m.regs r
  pub made : m'.made ≡ m.made
  pub linked : m'.linked ≤ m.linked + links
  pub numbered : m'.numbered ≤ m.numbered + numbers
  pub node_limit : m'.node_limit ≡ m.node_limit
  pub change_limit : m'.change_limit ≡ m.change_limit
  pub writable : m'.writable ≡ m.writable
  pub rest : m'.rest ≡ m.rest

-- the node k, and no other, has become y; the roots stay
pub record Edited (m m' : Memory) (k : ℕ) (y : Node) : Type 0 where
  pub here : m'.state.nodes k ≡ Some y
  pub else : (j : ℕ) → (k ≢ j) → m'.state.nodes j ≡ m.state.nodes j
  pub roots : (i : ℕ) → m'.state.roots i ≡ m.state.roots i

-- the node k, which was x, has the link v on the side s, and is else the same
pub record Relinked (m m' : Memory) (k : ℕ) (x : Node) (s : Bool) (v : Option ℕ) : Type 0 where
  pub y : Node
  pub edited : Edited m m' k y
  pub spends : Spends 1 0 m m'
  pub key : y.key ≡ x.key
  pub numbers : (i : ℕ) → y.numbers i ≡ x.numbers i
  pub near : y.links (side s) ≡ v
  pub far : y.links (side (not s)) ≡ x.links (side (not s))
  pub named : (i : ℕ) → m'.state.names i + hits i (x.links (side s)) ≡ m.state.names i + hits i v

-- the node k, which was x, has the number v, and is else the same
pub record Renumbered (m m' : Memory) (k : ℕ) (x : Node) (field v : ℕ) : Type 0 where
  pub y : Node
  pub edited : Edited m m' k y
  pub spends : Spends 0 1 m m'
  pub key : y.key ≡ x.key
  pub number : y.numbers field ≡ v
  pub others : (i : ℕ) → (field ≢ i) → y.numbers i ≡ x.numbers i
  pub links : (i : ℕ) → y.links i ≡ x.links i
  pub named : (i : ℕ) → m'.state.names i ≡ m.state.names i

-- the root i holds v, and the others and all nodes are the same
pub record Resaved (m m' : Memory) (i : ℕ) (v : Option ℕ) : Type 0 where
  pub here : m'.state.roots i ≡ v
  pub else : (j : ℕ) → (i ≢ j) → m'.state.roots j ≡ m.state.roots j
  pub nodes : (k : ℕ) → m'.state.nodes k ≡ m.state.nodes k
  pub spends : Spends 1 0 m m'
  pub named : (k : ℕ) → m'.state.names k + hits k (m.state.roots i) ≡ m.state.names k + hits k v

-- the node n, which was x, has no links, after at most so many writes
pub record Cleared (links : ℕ) (m m' : Memory) (n : ℕ) (x : Node) : Type 0 where
  pub y : Node
  pub edited : Edited m m' n y
  pub spends : Spends links 0 m m'
  pub key : y.key ≡ x.key
  pub numbers : (i : ℕ) → y.numbers i ≡ x.numbers i
  pub nil : (s : Bool) → y.links (side s) ≡ None
  pub named : (i : ℕ) → m'.state.names i + hits i (x.links 0) + hits i (x.links 1) ≡ m.state.names i
