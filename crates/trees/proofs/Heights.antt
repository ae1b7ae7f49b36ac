-- How high a red-black tree is, and how large the rank of a leftist heap.
use Rattle.std.proofs.Common.{◌≡◌, ℕ, suc, ◌+◌, ◌*◌, ◌^◌, ◌≤◌, Bool, true, false, cond, ltb, sym, refl, ap, ◌∙◌, subst, arith, ltb-true}
use native.Mathlib.Nat.{two-pow-succ, pow-le-pow_right}
use Rattle.trees.specs.Trees.{Tree, leaf, node, height, size}
use Rattle.trees.specs.RedBlack.{red, black_height, Balanced}
use Rattle.trees.specs.Leftist.{rank, Leftist}
use Rattle.trees.specs.Theorems.{MapIsLow, HeapIsLow}
use Rattle.trees.proofs.Rules.{to_balanced}

module _ {K : Type 0} where
  pub height_by_black : (t : Tree Bool K) → Balanced t → height t ≤ 2 * black_height t + cond (red t) 1 0
  height_by_black leaf h = omega arith
  height_by_black (node m true e l r) h = let a = height_by_black l h.0 in let b = height_by_black r h.1 in grind arith
  height_by_black (node m false e l r) h = let a = height_by_black l h.0 in let b = height_by_black r h.1 in grind arith

  pub size_by_black : (t : Tree Bool K) → Balanced t → 2 ^ black_height t ≤ suc (size t)
  size_by_black leaf h = omega arith
  size_by_black (node m true e l r) h = let a = size_by_black l h.0 in omega arith
  size_by_black (node m false e l r) h =
      let a = size_by_black l h.0 in
      let b : 2 ^ black_height l ≤ suc (size r) = subst (λ (q : ℕ). 2 ^ q ≤ suc (size r)) (sym h.2) (size_by_black r h.1) in
      omega (arith, two-pow-succ (black_height l))

  pub size_by_rank : (t : Tree ℕ K) → Leftist t → 2 ^ rank t ≤ suc (size t)
  size_by_rank leaf h = omega arith
  size_by_rank (node n m e l r) h =
      let a = size_by_rank l h.0 in
      let b = size_by_rank r h.1 in
      let p : 2 ^ rank r ≤ 2 ^ rank l = pow-le-pow_right (omega arith) h.2 in
      let d : m ≡ suc (rank r) = omega (arith, h.2, h.3) in
      let q : 2 ^ m ≡ 2 ^ rank r + 2 ^ rank r = ap (λ (x : ℕ). 2 ^ x) d ∙ two-pow-succ (rank r) in
      omega arith

pub low_power : (b : ℕ) → 2 ^ b ≤ 4097 → b ≤ 12
low_power b h = go (ltb 12 b) refl
  where
    go : (x : Bool) → ltb 12 b ≡ x → b ≤ 12
    go true e = let p : 13 ≤ b = omega (arith, ltb-true) in let z : 2 ^ 13 ≤ 2 ^ b = pow-le-pow_right (omega arith) p in omega arith
    go false e = grind arith

pub low_height : {K : Type 0} (t : Tree Bool K) → Balanced t → red t ≡ false → size t ≤ 4096 → height t ≤ 24
low_height t h b n = let x = height_by_black t h in let y = low_power (black_height t) (let z = size_by_black t h in omega arith) in grind arith

pub low_rank : (K : Type 0) → HeapIsLow K
low_rank K t h n = let a = size_by_rank t h in low_power (rank t) (omega arith)

pub low_map : (K : Type 0) → MapIsLow K
low_map K t h n = low_height t (to_balanced t h) h.black_root n
