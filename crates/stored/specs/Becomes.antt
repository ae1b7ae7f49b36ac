-- What a row of steps makes of the tree under a register. Registers 0 to 25 hold a path down a tree, each the root of a subtree; those
-- from 26 on are used on the way, of which 35 to 37 are kept: 35 is nil.
--
--   Cost, cost, nothing, plus, writes   how many link and root writes, number writes and new nodes
--   Ready                               a tree under a register that may be changed
--   Shifts                              a tree under a register, made of given nodes, and all else as before
--   Becomes                             the tree under a register has become another
use Rattle.std.specs.Prelude.{◌≡◌, ℕ, ◌+◌, ◌<◌, ◌≤◌, true}
use Rattle.trees.specs.Trees.{Tree, root_of, occurrences, Distinct}
use Rattle.memory.specs.Memory.{Memory}
use Rattle.stored.specs.Stored.{Stored, inside}

pub record Cost : Type 0 where
  pub links : ℕ
  pub numbers : ℕ
  pub nodes : ℕ

abbrev pub cost : ℕ → ℕ → ℕ → Cost
cost p q r = record { links = p; numbers = q; nodes = r }

abbrev pub nothing : Cost
nothing = cost 0 0 0

abbrev pub plus : Cost → Cost → Cost
plus a b = record { links = a.links + b.links; numbers = a.numbers + b.numbers; nodes = a.nodes + b.nodes }

-- all writes
abbrev pub writes : Cost → ℕ
writes c = c.links + c.numbers

module _ {M : Type 0} where
  -- register d holds t, whose nodes stand in the memory, no two alike; the names of each node count the links inside t
  pub record Ready (enc : M → ℕ) (m : Memory) (d : ℕ) (t : Tree M ℕ) : Type 0 where
    pub reg : m.regs d ≡ root_of t
    pub stored : Stored enc m.state.nodes t
    pub distinct : Distinct t
    pub within : (i : ℕ) → 1 ≤ occurrences i t → i < m.made
    pub counted : (i : ℕ) → inside i t ≤ m.state.names i
    pub may : m.writable ≡ true

  -- register d holds u, made of the nodes that foot counts, inside which links counted the names; at most c was spent, and nothing else
  -- is changed
  pub record Shifts (enc : M → ℕ) (m m' : Memory) (d : ℕ) (foot links : ℕ → ℕ) (u : Tree M ℕ) (c : Cost) : Type 0 where
    pub reg : m'.regs d ≡ root_of u
    pub stored : Stored enc m'.state.nodes u
    pub others : (i : ℕ) → foot i ≡ 0 → i < m.made → m'.state.nodes i ≡ m.state.nodes i
    pub kept : (r : ℕ) → r < d → m'.regs r ≡ m.regs r
    pub still : (r : ℕ) → 34 < r → r < 38 → m'.regs r ≡ m.regs r
    pub named : (i : ℕ) → m'.state.names i + links i ≡ m.state.names i + inside i u
    pub roots : (i : ℕ) → m'.state.roots i ≡ m.state.roots i
    pub linked : m'.linked ≤ m.linked + c.links
    pub numbered : m'.numbered ≤ m.numbered + c.numbers
    pub made : m'.made ≡ m.made + c.nodes
    pub node_limit : m'.node_limit ≡ m.node_limit
    pub change_limit : m'.change_limit ≡ m.change_limit
    pub writable : m'.writable ≡ m.writable
    pub rest : m'.rest ≡ m.rest

  -- the tree t under register d has become u
  abbrev pub Becomes : (M → ℕ) → Memory → Memory → ℕ → Tree M ℕ → Tree M ℕ → Cost → Type 0
  Becomes enc m m' d t u c = Shifts enc m m' d (λ i. occurrences i t) (λ i. inside i t) u c
