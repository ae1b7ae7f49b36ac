-- The rules of red-black trees as they are stated, and as proofs carry them, say the same.
use Rattle.std.proofs.Common.{◌≡◌, ℕ, zero, suc, ◌+◌, Bool, true, false, cond, sym, refl, ◌∙◌, arith}
use Rattle.trees.specs.Trees.{Tree, leaf, node}
use Rattle.trees.specs.RedBlack.{red, blacks_on, NoRedPair, RedBlack, black_height, Balanced}
use Rattle.trees.specs.Theorems.{RulesAreBalanced}

-- the way that takes the side s first
abbrev turn : Bool → (ℕ → Bool) → ℕ → Bool
turn s way zero = s
turn s way (suc i) = way i

module _ {K : Type 0} where
  pub leftmost : (t : Tree Bool K) → blacks_on (λ _. false) t ≡ black_height t
  leftmost leaf = refl
  leftmost (node n true e l r) = omega (arith, leftmost l)
  leftmost (node n false e l r) = omega (arith, leftmost l)

  pub every_way : (t : Tree Bool K) (way : ℕ → Bool) → Balanced t → blacks_on way t ≡ black_height t
  every_way leaf way h = refl
  every_way (node n c e l r) way h = go c (way 0) (every_way l (λ i. way (suc i)) h.0) (every_way r (λ i. way (suc i)) h.1)
    where
      go : (c s : Bool) → blacks_on (λ i. way (suc i)) l ≡ black_height l → blacks_on (λ i. way (suc i)) r ≡ black_height r
          → cond c 0 1 + cond s (blacks_on (λ i. way (suc i)) r) (blacks_on (λ i. way (suc i)) l) ≡ cond c (black_height l) (suc (black_height l))
      go true true x y = omega (arith, h.2)
      go true false x y = omega arith
      go false true x y = omega (arith, h.2)
      go false false x y = omega arith

  pub no_red_pair_lem : (t : Tree Bool K) → Balanced t → NoRedPair t
  no_red_pair_lem leaf h = tt
  no_red_pair_lem (node n c e l r) h = (no_red_pair_lem l h.0, no_red_pair_lem r h.1, h.3, h.4)

  pub balanced : (t : Tree Bool K) → NoRedPair t → ((v w : ℕ → Bool) → blacks_on v t ≡ blacks_on w t) → Balanced t
  balanced leaf p h = tt
  balanced (node n c e l r) p h =
      let hl : (v w : ℕ → Bool) → blacks_on v l ≡ blacks_on w l = λ v w. let x = h (turn false v) (turn false w) in omega arith in
      let hr : (v w : ℕ → Bool) → blacks_on v r ≡ blacks_on w r = λ v w. let x = h (turn true v) (turn true w) in omega arith in
      let both = h (turn false (λ _. false)) (turn true (λ _. false)) in
      let level : black_height l ≡ black_height r = omega (arith, leftmost l, leftmost r) in
      (balanced l p.0 hl, balanced r p.1 hr, level, p.2, p.3)

pub to_balanced : {K : Type 0} (t : Tree Bool K) → RedBlack t → Balanced t
to_balanced t h = balanced t h.no_red_pair h.level

pub to_rules : {K : Type 0} (t : Tree Bool K) → Balanced t → red t ≡ false → RedBlack t
to_rules t h b = record { black_root = b; no_red_pair = no_red_pair_lem t h; level = λ v w. every_way t v h ∙ sym (every_way t w h) }

pub rules_are_balanced : (K : Type 0) → RulesAreBalanced K
rules_are_balanced K t = (to_balanced t, to_rules t)
