-- A tree and its children, whichever the side: nodes counted, and nodes that stand in a memory.
use Rattle.std.proofs.Common.{◌≡◌, ℕ, ◌+◌, ◌<◌, ◌≤◌, Bool, true, false, cond, not, eqb, Some, None, Option, sym, refl, ap, ◌∙◌, arith}
use Rattle.trees.specs.Trees.{Entry, Tree, leaf, node, is_node, root_of, child, with_child, with_mark, node_on, rotated, sum_over, occurrences}
use Rattle.memory.specs.Memory.{Node, hits}
use Rattle.memory.proofs.Numbers.{hits_some}
use Rattle.stored.specs.Stored.{side, NodeAt, Stored, inside}

-- a serial number stands once in its own node
pub self : (j : ℕ) → cond {A = ℕ} (eqb j j) 1 0 ≡ 1
self j = hits_some j (Some j) refl

pub side_low : (s : Bool) → side s < 2
side_low true = omega arith
side_low false = omega arith

pub no_node : {A : Type 0} {n : ℕ} → ◌≡◌ {A = Option ℕ} None (Some n) → A
no_node h = let z : ◌≡◌ {A = ℕ} 0 1 = cc in absurd (omega arith)

pub no_test : {A : Type 0} → false ≡ true → A
no_test h = let z : ◌≡◌ {A = ℕ} 0 1 = cc in absurd (omega arith)

module _ {M : Type 0} where
  pub hits_root : (i : ℕ) (t : Tree M ℕ) → hits i (root_of t) + inside i t ≡ occurrences i t
  hits_root i leaf = refl
  hits_root i (node n c e l r) = omega (arith, hits_root i l, hits_root i r)

  pub of_children : (i : ℕ) (s : Bool) (t : Tree M ℕ) → occurrences i t ≡ hits i (root_of t) + occurrences i (child s t) + occurrences i (child (not s) t)
  of_children i true leaf = refl
  of_children i false leaf = refl
  of_children i true (node n c e l r) = omega arith
  of_children i false (node n c e l r) = omega arith

  pub inside_children : (i : ℕ) (s : Bool) (t : Tree M ℕ) → inside i t ≡ occurrences i (child s t) + occurrences i (child (not s) t)
  inside_children i s t = omega (arith, hits_root i t, of_children i s t)

  pub of-with_child : (i : ℕ) (s : Bool) (t u : Tree M ℕ) → is_node t ≡ true → occurrences i (with_child s t u) ≡ hits i (root_of t) + occurrences i u + occurrences i (child (not s) t)
  of-with_child i s leaf u h = no_test h
  of-with_child i true (node n c e l r) u h = omega arith
  of-with_child i false (node n c e l r) u h = omega arith

  pub root-with_child : (s : Bool) (t u : Tree M ℕ) → root_of (with_child s t u) ≡ root_of t
  root-with_child s leaf u = refl
  root-with_child true (node n c e l r) u = refl
  root-with_child false (node n c e l r) u = refl

  pub node-with_child : (s : Bool) (t u : Tree M ℕ) → is_node (with_child s t u) ≡ is_node t
  node-with_child s leaf u = refl
  node-with_child true (node n c e l r) u = refl
  node-with_child false (node n c e l r) u = refl

  pub child-with_child : (s : Bool) (t u : Tree M ℕ) → is_node t ≡ true → child s (with_child s t u) ≡ u
  child-with_child s leaf u h = no_test h
  child-with_child true (node n c e l r) u h = refl
  child-with_child false (node n c e l r) u h = refl

  pub other-with_child : (s : Bool) (t u : Tree M ℕ) → child (not s) (with_child s t u) ≡ child (not s) t
  other-with_child s leaf u = refl
  other-with_child true (node n c e l r) u = refl
  other-with_child false (node n c e l r) u = refl

  pub root-with_mark : (c : M) (t : Tree M ℕ) → root_of (with_mark c t) ≡ root_of t
  root-with_mark c leaf = refl
  root-with_mark c (node n d e l r) = refl

  pub of-with_mark : (i : ℕ) (c : M) (t : Tree M ℕ) → occurrences i (with_mark c t) ≡ occurrences i t
  of-with_mark i c leaf = refl
  of-with_mark i c (node n d e l r) = refl

  pub node-with_mark : (c : M) (t : Tree M ℕ) → is_node (with_mark c t) ≡ is_node t
  node-with_mark c leaf = refl
  node-with_mark c (node n d e l r) = refl

  pub child-with_mark : (s : Bool) (c : M) (t : Tree M ℕ) → child s (with_mark c t) ≡ child s t
  child-with_mark s c leaf = refl
  child-with_mark s c (node n d e l r) = refl

  pub is_node_lem : (t : Tree M ℕ) (n : ℕ) → root_of t ≡ Some n → is_node t ≡ true
  is_node_lem leaf n h = no_node h
  is_node_lem (node m c e l r) n h = refl

  pub root_of_lem : (t : Tree M ℕ) → is_node t ≡ true → (n : ℕ) × (root_of t ≡ Some n)
  root_of_lem leaf h = no_test h
  root_of_lem (node m c e l r) h = (m, refl)

  pub no_nodes : (t : Tree M ℕ) → is_node t ≡ false → t ≡ leaf
  no_nodes leaf h = refl
  no_nodes (node n c e l r) h = no_test (sym h)

  pub parent_node : (s : Bool) (t : Tree M ℕ) → is_node (child s t) ≡ true → is_node t ≡ true
  parent_node s leaf h = h
  parent_node s (node n c e l r) h = refl

  pub sum_rotated : (f : ℕ → Entry ℕ → ℕ) (s : Bool) (t : Tree M ℕ) → is_node (child s t) ≡ true → sum_over f (rotated s t) ≡ sum_over f t
  sum_rotated f s leaf h = refl
  sum_rotated f true (node n c e l leaf) h = no_test h
  sum_rotated f true (node n c e l (node m d g a b)) h = omega arith
  sum_rotated f false (node n c e leaf r) h = no_test h
  sum_rotated f false (node n c e (node m d g a b) r) h = omega arith

  pub of_rotated : (i : ℕ) (s : Bool) (t : Tree M ℕ) → is_node (child s t) ≡ true → occurrences i (rotated s t) ≡ occurrences i t
  of_rotated i s t h = sum_rotated (λ n e. cond (eqb i n) 1 0) s t h

  pub node_rotated : (s : Bool) (t : Tree M ℕ) → is_node (child s t) ≡ true → is_node (rotated s t) ≡ true
  node_rotated s t h = node-with_child (not s) (child s t) _ ∙ h

  -- the tree by its root and children
  pub as_node : (s : Bool) (t : Tree M ℕ) → is_node t ≡ true → (n : ℕ) × (c : M) × (e : Entry ℕ) × (t ≡ node_on s n c e (child s t) (child (not s) t))
  as_node s leaf h = no_test h
  as_node true (node n c e l r) h = (n, c, e, refl)
  as_node false (node n c e l r) h = (n, c, e, refl)

  module _ (enc : M → ℕ) where
    -- from the side s
    pub node_on_lem : (nodes : ℕ → Option Node) (s : Bool) (n : ℕ) (c : M) (e : Entry ℕ) (a b : Tree M ℕ) → Stored enc nodes (node_on s n c e a b) → NodeAt enc nodes s n c e a b × Stored enc nodes a × Stored enc nodes b
    node_on_lem nodes true n c e a b h = let x = h.0 in (record { it = x.it; there = x.there; key = x.key; value = x.value; mark = x.mark; near = x.far; far = x.near }, h.2, h.1)
    node_on_lem nodes false n c e a b h = h

    pub on_node_lem : (nodes : ℕ → Option Node) (s : Bool) (n : ℕ) (c : M) (e : Entry ℕ) (a b : Tree M ℕ) → NodeAt enc nodes s n c e a b → Stored enc nodes a → Stored enc nodes b → Stored enc nodes (node_on s n c e a b)
    on_node_lem nodes true n c e a b x p q = (record { it = x.it; there = x.there; key = x.key; value = x.value; mark = x.mark; near = x.far; far = x.near }, q, p)
    on_node_lem nodes false n c e a b x p q = (x, p, q)

    -- what a tree does not hold may change
    pub keep : (nodes nodes' : ℕ → Option Node) (t : Tree M ℕ) → ((i : ℕ) → 1 ≤ occurrences i t → nodes' i ≡ nodes i) → Stored enc nodes t → Stored enc nodes' t
    keep nodes nodes' leaf a h = tt
    keep nodes nodes' (node n c e l r) a h =
        let x = h.0 in (
          record { it = x.it; there = a n (omega (arith, self n)) ∙ x.there; key = x.key; value = x.value; mark = x.mark; near = x.near; far = x.far },
          keep nodes nodes' l (λ i p. a i (omega arith)) h.1,
          keep nodes nodes' r (λ i p. a i (omega arith)) h.2,
        )

    -- one node that the tree does not hold has changed
    pub keep_else : (nodes nodes' : ℕ → Option Node) (k : ℕ) (t : Tree M ℕ) → ((j : ℕ) → (k ≡ j → ⊥) → nodes' j ≡ nodes j) → occurrences k t ≡ 0 → Stored enc nodes t → Stored enc nodes' t
    keep_else nodes nodes' k t a z h = keep nodes nodes' t (λ i p. a i (λ e. let q : occurrences i t ≡ 0 = ap (λ (x : ℕ). occurrences x t) (sym e) ∙ z in omega arith)) h

    pub stored_child : (nodes : ℕ → Option Node) (s : Bool) (t : Tree M ℕ) → Stored enc nodes t → Stored enc nodes (child s t)
    stored_child nodes s leaf h = tt
    stored_child nodes true (node n c e l r) h = h.2
    stored_child nodes false (node n c e l r) h = h.1

    -- the root of a tree, and its links on both sides
    pub stored_root : (nodes : ℕ → Option Node) (s : Bool) (t : Tree M ℕ) (n : ℕ) → root_of t ≡ Some n → Stored enc nodes t → (x : Node) × (nodes n ≡ Some x) × (x.links (side s) ≡ root_of (child s t)) × (x.links (side (not s)) ≡ root_of (child (not s) t))
    stored_root nodes s leaf n e h = no_node e
    stored_root nodes true (node m c f l r) n e h = let q : n ≡ m = cc in let x = h.0 in (x.it, ap nodes q ∙ x.there, x.far, x.near)
    stored_root nodes false (node m c f l r) n e h = let q : n ≡ m = cc in let x = h.0 in (x.it, ap nodes q ∙ x.there, x.near, x.far)
