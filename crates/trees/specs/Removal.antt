-- Removal from a red-black tree. A subtree may come back one black node short; its parent makes up for it or passes it on.
--
--   Shrunk           a tree, and whether it has one black node fewer on every way down
--   Shrinks          what removal from a subtree keeps
--   sibling_fixed    a tree whose side is one black node short, where the other child is black
--   short_fixed      the same, where the other child may be red
--   spliced          a node is gone, with its only child in its place
--   step_up          the child on a side replaced by what removal left of it
--   without_first    the tree without its first node
--   first_entry      the entry of the first node
--   first_serial     the serial number of the first node
--   without_root     the tree without its root
--   removed          the tree without a key
--   removed_serial   the serial number of the node with a key
use Rattle.std.specs.Prelude.{◌≡◌, ℕ, ◌+◌, Bool, true, false, cond, not, ◌&&◌, ◌||◌}
use Rattle.trees.specs.Trees.{Entry, Tree, leaf, node, is_node, child, with_child, with_mark, rotated}
use Rattle.trees.specs.RedBlack.{red, black_height, Balanced}

pub record Shrunk (K : Type 0) : Type 0 where
  pub tree : Tree Bool K
  pub short : Bool

module _ {K : Type 0} where
  pub record Shrinks (t : Tree Bool K) (x : Shrunk K) : Type 0 where
    pub balanced : Balanced x.tree
    pub level : black_height x.tree + cond x.short 1 0 ≡ black_height t
    pub black_stays : red t ≡ false → red x.tree ≡ false
    pub red_not_short : red t ≡ true → x.short ≡ false
    pub short_is_black : x.short ≡ true → red x.tree ≡ false

  -- The side s is short. Where the sibling has a red child, one or two rotations make up for it; else the sibling becomes red, and a
  -- black root passes the lack on.
  unfoldable pub sibling_fixed : Bool → Tree Bool K → Shrunk K
  sibling_fixed s t =
      let sibling = child (not s) t in
      let far = child (not s) sibling in
      let near = child s sibling in
      let turned = cond (red far) t (with_child (not s) t (rotated s (with_mark true (with_child s sibling (with_mark false near))))) in
      let high = child (not s) turned in
      let ready = with_mark false (with_child (not s) turned (with_child (not s) high (with_mark false (child (not s) high)))) in
      cond (red far || red near) (record { tree = with_mark (red t) (rotated (not s) ready); short = false })
      (record { tree = with_mark false (with_child (not s) t (with_mark true sibling)); short = not (red t) })

  -- The side s is short. A red sibling is first rotated above the root.
  unfoldable pub short_fixed : Bool → Tree Bool K → Shrunk K
  short_fixed s t =
      let sibling = child (not s) t in
      let top = rotated (not s) (with_mark true (with_child (not s) t (with_mark false sibling))) in
      cond (red sibling) (record { tree = with_child s top (sibling_fixed s (child s top)).tree; short = false }) (sibling_fixed s t)

  -- a node of the colour c is gone, with u in its place
  unfoldable pub spliced : Bool → Tree Bool K → Shrunk K
  spliced c u = record { tree = cond c u (with_mark false u); short = not c && not (red u) }

  unfoldable pub step_up : Bool → Tree Bool K → Shrunk K → Shrunk K
  step_up s t x = cond x.short (short_fixed s (with_child s t x.tree)) (record { tree = with_child s t x.tree; short = false })

  abbrev pub without_first : Tree Bool K → Shrunk K
  without_first leaf = record { tree = leaf; short = false }
  without_first (node n c e l r) = cond (is_node l) (step_up false (node n c e l r) (without_first l)) (spliced c r)

  -- of a tree without nodes, d
  abbrev pub first_entry : Tree Bool K → Entry K → Entry K
  first_entry leaf d = d
  first_entry (node n c e l r) d = first_entry l e

  abbrev pub first_serial : Tree Bool K → ℕ → ℕ
  first_serial leaf d = d
  first_serial (node n c e l r) d = first_serial l n

  -- a root with two children gives its place to the first node of its right subtree
  unfoldable pub without_root : Tree Bool K → Shrunk K
  without_root leaf = record { tree = leaf; short = false }
  without_root (node n c e l r) =
      cond (is_node l && is_node r) (step_up true (node (first_serial r n) c (first_entry r e) l r) (without_first r)) (spliced c (cond (is_node r) r l))

module _ {K : Type 0} (before : K → K → Bool) (k : K) where
  abbrev pub removed : Tree Bool K → Shrunk K
  removed leaf = record { tree = leaf; short = false }
  removed (node n c f l r) =
      cond (before k f.key) (step_up false (node n c f l r) (removed l))
      (cond (before f.key k) (step_up true (node n c f l r) (removed r)) (without_root (node n c f l r)))

  abbrev pub removed_serial : Tree Bool K → ℕ
  removed_serial leaf = 0
  removed_serial (node n c f l r) = cond (before k f.key) (removed_serial l) (cond (before f.key k) (removed_serial r) n)
