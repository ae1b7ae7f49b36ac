-- One node of a tree is written: the tree that stands there then.
use Rattle.std.proofs.Common.{◌≡◌, ℕ, ◌+◌, ◌≤◌, Bool, true, false, not, Some, Option, sym, refl, ap, ◌∙◌, arith}
use Rattle.trees.specs.Trees.{Entry, entry, Tree, leaf, node, root_of, child, with_child, with_mark, node_on, occurrences, Distinct}
use Rattle.memory.specs.Memory.{Node, hits}
use Rattle.memory.proofs.Numbers.{some_same}
use Rattle.stored.specs.Stored.{side, NodeAt, Stored, inside}
use Rattle.stored.proofs.Parts.{self, no_node, node_on_lem, on_node_lem, keep, keep_else}

module _ {M : Type 0} where
  pub root_on : (s : Bool) (n : ℕ) (c : M) (e : Entry ℕ) (a b : Tree M ℕ) → root_of (node_on s n c e a b) ≡ Some n
  root_on true n c e a b = refl
  root_on false n c e a b = refl

  pub of_on : (i : ℕ) (s : Bool) (n : ℕ) (c : M) (e : Entry ℕ) (a b : Tree M ℕ) → occurrences i (node_on s n c e a b) ≡ hits i (Some n) + occurrences i a + occurrences i b
  of_on i true n c e a b = omega arith
  of_on i false n c e a b = omega arith

  pub inside_on : (i : ℕ) (s : Bool) (n : ℕ) (c : M) (e : Entry ℕ) (a b : Tree M ℕ) → inside i (node_on s n c e a b) ≡ hits i (root_of a) + hits i (root_of b) + inside i a + inside i b
  inside_on i true n c e a b = omega arith
  inside_on i false n c e a b = omega arith

module _ {M : Type 0} (enc : M → ℕ) where
  -- the link on the side s leads to u
  pub link_node : (nodes nodes' : ℕ → Option Node) (s : Bool) (n : ℕ) (c : M) (e : Entry ℕ) (a b u : Tree M ℕ) (x y : Node) → NodeAt enc nodes s n c e a b → nodes n ≡ Some x → nodes' n ≡ Some y
      → y.key ≡ x.key → ((i : ℕ) → y.numbers i ≡ x.numbers i) → y.links (side s) ≡ root_of u → y.links (side (not s)) ≡ x.links (side (not s)) → NodeAt enc nodes' s n c e u b
  link_node nodes nodes' s n c e a b u x y h p q k num near far =
      let same : x ≡ h.it = some_same (sym p ∙ h.there) in
      record {
        it = y;
        there = q;
        key = k ∙ ap (λ (z : Node). z.key) same ∙ h.key;
        value = num 0 ∙ ap (λ (z : Node). z.numbers 0) same ∙ h.value;
        mark = num 1 ∙ ap (λ (z : Node). z.numbers 1) same ∙ h.mark;
        near = near;
        far = far ∙ ap (λ (z : Node). z.links (side (not s))) same ∙ h.far;
      }

  -- the mark is d
  pub mark_node : (nodes nodes' : ℕ → Option Node) (s : Bool) (n : ℕ) (c d : M) (e : Entry ℕ) (a b : Tree M ℕ) (x y : Node) → NodeAt enc nodes s n c e a b → nodes n ≡ Some x → nodes' n ≡ Some y
      → y.key ≡ x.key → y.numbers 1 ≡ enc d → ((i : ℕ) → (1 ≡ i → ⊥) → y.numbers i ≡ x.numbers i) → ((i : ℕ) → y.links i ≡ x.links i) → NodeAt enc nodes' s n d e a b
  mark_node nodes nodes' s n c d e a b x y h p q k num others links =
      let same : x ≡ h.it = some_same (sym p ∙ h.there) in
      record {
        it = y;
        there = q;
        key = k ∙ ap (λ (z : Node). z.key) same ∙ h.key;
        value = others 0 (λ z. omega arith) ∙ ap (λ (z : Node). z.numbers 0) same ∙ h.value;
        mark = num;
        near = links (side s) ∙ ap (λ (z : Node). z.links (side s)) same ∙ h.near;
        far = links (side (not s)) ∙ ap (λ (z : Node). z.links (side (not s))) same ∙ h.far;
      }

  -- the value is v
  pub value_node : (nodes nodes' : ℕ → Option Node) (s : Bool) (n : ℕ) (c : M) (e : Entry ℕ) (v : ℕ) (a b : Tree M ℕ) (x y : Node) → NodeAt enc nodes s n c e a b → nodes n ≡ Some x → nodes' n ≡ Some y
      → y.key ≡ x.key → y.numbers 0 ≡ v → ((i : ℕ) → (0 ≡ i → ⊥) → y.numbers i ≡ x.numbers i) → ((i : ℕ) → y.links i ≡ x.links i) → NodeAt enc nodes' s n c (entry e.key v) a b
  value_node nodes nodes' s n c e v a b x y h p q k num others links =
      let same : x ≡ h.it = some_same (sym p ∙ h.there) in
      record {
        it = y;
        there = q;
        key = k ∙ ap (λ (z : Node). z.key) same ∙ h.key;
        value = num;
        mark = others 1 (λ z. omega arith) ∙ ap (λ (z : Node). z.numbers 1) same ∙ h.mark;
        near = links (side s) ∙ ap (λ (z : Node). z.links (side s)) same ∙ h.near;
        far = links (side (not s)) ∙ ap (λ (z : Node). z.links (side (not s))) same ∙ h.far;
      }

  pub move_node : (nodes nodes' : ℕ → Option Node) (s : Bool) (n : ℕ) (c : M) (e : Entry ℕ) (a b : Tree M ℕ) → nodes' n ≡ nodes n → NodeAt enc nodes s n c e a b → NodeAt enc nodes' s n c e a b
  move_node nodes nodes' s n c e a b p h = record { it = h.it; there = p ∙ h.there; key = h.key; value = h.value; mark = h.mark; near = h.near; far = h.far }

  link_on : (nodes₀ nodes₁ nodes₂ : ℕ → Option Node) (s : Bool) (n : ℕ) (c : M) (e : Entry ℕ) (a b u : Tree M ℕ) (x y : Node)
      → Stored enc nodes₀ (node_on s n c e a b) → ((i : ℕ) → 1 ≤ occurrences i b → nodes₁ i ≡ nodes₀ i) → nodes₀ n ≡ Some x → nodes₂ n ≡ Some y → ((j : ℕ) → (n ≡ j → ⊥) → nodes₂ j ≡ nodes₁ j)
      → y.key ≡ x.key → ((i : ℕ) → y.numbers i ≡ x.numbers i) → y.links (side s) ≡ root_of u → y.links (side (not s)) ≡ x.links (side (not s))
      → occurrences n b ≡ 0 → occurrences n u ≡ 0 → Stored enc nodes₁ u → Stored enc nodes₂ (node_on s n c e u b)
  link_on nodes₀ nodes₁ nodes₂ s n c e a b u x y h ob p q else k num near far zb zu hu =
      let g = node_on_lem enc nodes₀ s n c e a b h in
      on_node_lem enc nodes₂ s n c e u b
      (link_node nodes₀ nodes₂ s n c e a b u x y g.0 p q k num near far)
      (keep_else enc nodes₁ nodes₂ n u else zu hu)
      (keep_else enc nodes₁ nodes₂ n b else zb (keep enc nodes₀ nodes₁ b ob g.2))

  -- The child on the side s has become u, and the link to it is written. The root was x before both.
  pub link_stored : (nodes₀ nodes₁ nodes₂ : ℕ → Option Node) (s : Bool) (t u : Tree M ℕ) (n : ℕ) (x y : Node) → root_of t ≡ Some n → Distinct t
      → ((i : ℕ) → (n ≡ i → ⊥) → occurrences i (child s t) ≡ 0 → 1 ≤ occurrences i t → nodes₁ i ≡ nodes₀ i) → nodes₀ n ≡ Some x → nodes₂ n ≡ Some y → ((j : ℕ) → (n ≡ j → ⊥) → nodes₂ j ≡ nodes₁ j)
      → y.key ≡ x.key → ((i : ℕ) → y.numbers i ≡ x.numbers i) → y.links (side s) ≡ root_of u → y.links (side (not s)) ≡ x.links (side (not s))
      → occurrences n u ≡ 0 → Stored enc nodes₀ t → Stored enc nodes₁ u → Stored enc nodes₂ (with_child s t u)
  link_stored nodes₀ nodes₁ nodes₂ s leaf u n x y e dis o p q else k num near far zu h hu = no_node e
  link_stored nodes₀ nodes₁ nodes₂ true (node m c f l r) u n x y e dis o p q else k num near far zu h hu =
      let same : m ≡ n = some_same e in
      let dm = dis m in
      let one = self m in
      let none : occurrences m l ≡ 0 = omega arith in
      let apart : (i : ℕ) → 1 ≤ occurrences i l → m ≡ i → ⊥ = λ i w z. (let y : occurrences i l ≡ 0 = ap (λ (j : ℕ). occurrences j l) (sym z) ∙ none in omega arith) in
      link_on nodes₀ nodes₁ nodes₂ true m c f r l u x y h (λ i w. let di = dis i in o i (λ z. apart i w (same ∙ z)) (omega arith) (omega arith)) (ap nodes₀ same ∙ p) (ap nodes₂ same ∙ q) (λ j w. else j (λ z. w (same ∙ z))) k num near far (omega arith) (ap (λ (j : ℕ). occurrences j u) same ∙ zu) hu
  link_stored nodes₀ nodes₁ nodes₂ false (node m c f l r) u n x y e dis o p q else k num near far zu h hu =
      let same : m ≡ n = some_same e in
      let dm = dis m in
      let one = self m in
      let none : occurrences m r ≡ 0 = omega arith in
      let apart : (i : ℕ) → 1 ≤ occurrences i r → m ≡ i → ⊥ = λ i w z. (let y : occurrences i r ≡ 0 = ap (λ (j : ℕ). occurrences j r) (sym z) ∙ none in omega arith) in
      link_on nodes₀ nodes₁ nodes₂ false m c f l r u x y h (λ i w. let di = dis i in o i (λ z. apart i w (same ∙ z)) (omega arith) (omega arith)) (ap nodes₀ same ∙ p) (ap nodes₂ same ∙ q) (λ j w. else j (λ z. w (same ∙ z))) k num near far (omega arith) (ap (λ (j : ℕ). occurrences j u) same ∙ zu) hu

  -- a child has changed and kept its root
  pub under_stored : (nodes₀ nodes₁ : ℕ → Option Node) (s : Bool) (t u : Tree M ℕ) → root_of u ≡ root_of (child s t) → Distinct t
      → ((i : ℕ) → occurrences i (child s t) ≡ 0 → 1 ≤ occurrences i t → nodes₁ i ≡ nodes₀ i) → Stored enc nodes₀ t → Stored enc nodes₁ u → Stored enc nodes₁ (with_child s t u)
  under_stored nodes₀ nodes₁ s leaf u e dis o h hu = tt
  under_stored nodes₀ nodes₁ true (node m c f l r) u e dis o h hu =
      let x = h.0 in (
        record { it = x.it; there = o m (omega (arith, dis m, self m)) (omega (arith, self m)) ∙ x.there; key = x.key; value = x.value; mark = x.mark; near = x.near; far = x.far ∙ sym e },
        keep enc nodes₀ nodes₁ l (λ i p. o i (omega (arith, dis i)) (omega arith)) h.1,
        hu,
      )
  under_stored nodes₀ nodes₁ false (node m c f l r) u e dis o h hu =
      let x = h.0 in (
        record { it = x.it; there = o m (omega (arith, dis m, self m)) (omega (arith, self m)) ∙ x.there; key = x.key; value = x.value; mark = x.mark; near = x.near ∙ sym e; far = x.far },
        hu,
        keep enc nodes₀ nodes₁ r (λ i p. o i (omega (arith, dis i)) (omega arith)) h.2,
      )

  -- the root's mark is written
  pub mark_stored : (nodes nodes' : ℕ → Option Node) (d : M) (t : Tree M ℕ) (n : ℕ) (x y : Node) → root_of t ≡ Some n → Distinct t → nodes n ≡ Some x → nodes' n ≡ Some y → ((j : ℕ) → (n ≡ j → ⊥) → nodes' j ≡ nodes j)
      → y.key ≡ x.key → y.numbers 1 ≡ enc d → ((i : ℕ) → (1 ≡ i → ⊥) → y.numbers i ≡ x.numbers i) → ((i : ℕ) → y.links i ≡ x.links i) → Stored enc nodes t → Stored enc nodes' (with_mark d t)
  mark_stored nodes nodes' d leaf n x y e dis p q else k num others links h = no_node e
  mark_stored nodes nodes' d (node m c f l r) n x y e dis p q else k num others links h =
      let same : m ≡ n = some_same e in
      let dm = dis m in
      let one = self m in
      let away : (j : ℕ) → (m ≡ j → ⊥) → nodes' j ≡ nodes j = λ j w. else j (λ z. w (same ∙ z)) in (
        mark_node nodes nodes' false m c d f l r x y h.0 (ap nodes same ∙ p) (ap nodes' same ∙ q) k num others links,
        keep_else enc nodes nodes' m l away (omega arith) h.1,
        keep_else enc nodes nodes' m r away (omega arith) h.2,
      )
