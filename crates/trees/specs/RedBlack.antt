-- Red-black trees: the mark of a node is its colour, true for red. Insertion.
--
--   red              whether the root is red; nil is black
--   blacks_on        the black nodes on a way down to nil
--   NoRedPair        no red node has a red child
--   RedBlack         the rules: a black root, no red child of a red node, as many black nodes on every way down
--   black_height     the black nodes on the way down to the left
--   Balanced         the rules but for the root's colour, stated for each subtree
--   AlmostBalanced   the same, but a red root may have one red child
--   holds            whether a key is in the tree
--   replaced         the tree with another value at a key
--   insert_fixed     a tree whose child on a side may be a red node with a red child, put right
--   inserted         the tree with a new entry
use Rattle.std.specs.Prelude.{◌≡◌, ℕ, suc, ◌+◌, Bool, true, false, cond, not, ◌&&◌, ◌||◌}
use Rattle.trees.specs.Trees.{entry, Tree, leaf, node, child, with_child, with_mark, rotated}

module _ {K : Type 0} where
  abbrev pub red : Tree Bool K → Bool
  red leaf = false
  red (node n c e l r) = c

  -- a way down takes at each depth the side that it gives
  abbrev pub blacks_on : (ℕ → Bool) → Tree Bool K → ℕ
  blacks_on way leaf = 0
  blacks_on way (node n c e l r) = cond c 0 1 + cond (way 0) (blacks_on (λ i. way (suc i)) r) (blacks_on (λ i. way (suc i)) l)

  abbrev pub NoRedPair : Tree Bool K → Type 0
  NoRedPair leaf = Unit {0}
  NoRedPair (node n c e l r) = NoRedPair l × NoRedPair r × (c && red l ≡ false) × (c && red r ≡ false)

  pub record RedBlack (t : Tree Bool K) : Type 0 where
    pub black_root : red t ≡ false
    pub no_red_pair : NoRedPair t
    pub level : (v w : ℕ → Bool) → blacks_on v t ≡ blacks_on w t

  abbrev pub black_height : Tree Bool K → ℕ
  black_height leaf = 0
  black_height (node n c e l r) = cond c (black_height l) (suc (black_height l))

  abbrev pub Balanced : Tree Bool K → Type 0
  Balanced leaf = Unit {0}
  Balanced (node n c e l r) = Balanced l × Balanced r × (black_height l ≡ black_height r) × (c && red l ≡ false) × (c && red r ≡ false)

  abbrev pub AlmostBalanced : Tree Bool K → Type 0
  AlmostBalanced leaf = ⊥
  AlmostBalanced (node n c e l r) = Balanced l × Balanced r × (black_height l ≡ black_height r) × (red l && red r && c ≡ false)

  -- Where a black root has a red child on the side s with a red child of its own: a red sibling is recoloured with it, else the tree is
  -- rotated, once or twice. Any other tree stays as it is.
  unfoldable pub insert_fixed : Bool → Tree Bool K → Tree Bool K
  insert_fixed s t =
      cond (red t || not (red (child s t)) || (not (red (child s (child s t))) && not (red (child (not s) (child s t))))) t
      (cond (red (child (not s) t)) (with_mark true (with_child (not s) (with_child s t (with_mark false (child s t))) (with_mark false (child (not s) t))))
      (with_mark false (rotated s (with_mark true (cond (red (child (not s) (child s t))) (with_child s t (rotated (not s) (child s t))) t)))))

module _ {K : Type 0} (before : K → K → Bool) (k : K) where
  abbrev pub holds : Tree Bool K → Bool
  holds leaf = false
  holds (node m c f l r) = cond (before k f.key) (holds l) (cond (before f.key k) (holds r) true)

  -- a key that is there gets the value v
  abbrev pub replaced : ℕ → Tree Bool K → Tree Bool K
  replaced v leaf = leaf
  replaced v (node m c f l r) =
      cond (before k f.key) (node m c f (replaced v l) r) (cond (before f.key k) (node m c f l (replaced v r)) (node m c (entry f.key v) l r))

  -- a key that is not there is added with the value v, as a red node with the serial number n
  abbrev pub inserted : ℕ → ℕ → Tree Bool K → Tree Bool K
  inserted v n leaf = node n true (entry k v) leaf leaf
  inserted v n (node m c f l r) =
      cond (before k f.key) (insert_fixed false (node m c f (inserted v n l) r)) (insert_fixed true (node m c f l (inserted v n r)))
