-- A linked list under root 0, as an example of code over a memory: link 1 of each node leads to the next.
--
--   Listed        the values of a linked list, first to last
--   push_of       the steps that put a node in front
--   advance_of    the steps that go a number of nodes on, in register 0
--   value_at_of   the steps that read the value of the node at a place
--   two_of        the steps that push two values and read both
--   PushLists     a push puts its value in front
--   WalkAnswers   the value at a place is the one that stands there
use Rattle.std.specs.Prelude.{◌≡◌, ℕ, zero, suc, ◌+◌, ◌<◌, ◌≤◌, true, List, [], ◌∷◌, length, Some, None, Option, slice_index}
use Rattle.memory.specs.Memory.{Node, Memory, changed, Sound}
use Rattle.memory.specs.Steps.{Done, done, then, load_of, follow_of, number_of, make_of, save_of, link_of}
use Rattle.memory.specs.Effects.{Ends}

-- x leads to nodes with these values
abbrev pub Listed : (ℕ → Option Node) → Option ℕ → List ℕ → Type 0
Listed nodes x [] = x ≡ None
Listed nodes x (v ∷ vs) = (k : ℕ) × (n : Node) × (x ≡ Some k) × (nodes k ≡ Some n) × (n.numbers 0 ≡ v) × Listed nodes (n.links 1) vs

abbrev pub push_of : ℕ → ℕ → Memory → Done Unit
push_of key value m =
    then (make_of 0 key value 0 m) (λ _ m1.
    then (load_of 0 1 m1) (λ _ m2.
    then (link_of 0 1 1 m2) (λ _ m3.
    save_of 0 0 m3)))

unfoldable pub advance_of : ℕ → Memory → Done Unit
advance_of zero m = done tt m
advance_of (suc n) m = then (follow_of 0 1 0 m) (λ _ m1. advance_of n m1)

abbrev pub value_at_of : ℕ → Memory → Done ℕ
value_at_of place m =
    then (load_of 0 0 m) (λ _ m1.
    then (advance_of place m1) (λ _ m2.
    number_of 0 0 m2))

-- 7 is pushed, then 9, and the values at places 0 and 1 are read
abbrev pub two_of : Memory → Done (ℕ × ℕ)
two_of m =
    then (push_of 1 7 m) (λ _ m1.
    then (push_of 2 9 m1) (λ _ m2.
    then (value_at_of 0 m2) (λ a m3.
    then (value_at_of 1 m3) (λ b m4. done (a, b) m4))))

-- a push can be done: writes are allowed, a node and two changes are left, and the first node is named at most once
pub record Ready (m : Memory) : Type 0 where
  pub sound : Sound m
  pub writable : m.writable ≡ true
  pub room : m.made < m.node_limit
  pub changes : changed m + 2 ≤ m.change_limit
  pub named : (i : ℕ) → m.state.roots 0 ≡ Some i → m.state.names i ≤ 1

abbrev pub PushLists : Type 0
PushLists = (key value : ℕ) (vs : List ℕ) (m : Memory) → Ready m → Listed m.state.nodes (m.state.roots 0) vs →
    Ends (push_of key value m) (λ _ m'. Listed m'.state.nodes (m'.state.roots 0) (value ∷ vs))

abbrev pub WalkAnswers : Type 0
WalkAnswers = (place : ℕ) (vs : List ℕ) (m : Memory) → place < length vs → Listed m.state.nodes (m.state.roots 0) vs →
    Ends (value_at_of place m) (λ v m'. (v ≡ slice_index vs place) × (m'.state ≡ m.state))
