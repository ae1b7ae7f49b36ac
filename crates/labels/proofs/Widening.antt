-- Some range always has room, the first that is found is taken, and it lies among the labels.
use Rattle.std.proofs.Common.{◌≡◌, ℕ, zero, suc, ◌+◌, ◌-◌, ◌*◌, ◌/◌, ◌%◌, ◌^◌, ◌<◌, ◌≤◌, Bool, true, false, cond, leb, [], ◌∷◌, length, sym, refl, ap, ◌∙◌, subst, inl, inr, mul-le-mul_right, suc-mul, one-mul, div-mul-le_self, arith, lit≤, leb→le, pow_pos, pow-add, shl_exact, shr_lt}
use native.Mathlib.Nat.{lt-div-mul-add}
use Rattle.std.proofs.lemmas.Bool.{cases_Bool, cases_eq, leb-true, leb-false, lt-leb, le-leb}
use Rattle.labels.proofs.Capacities.{table}
use Rattle.labels.proofs.Table.{at}
use Rattle.labels.specs.Capacity.{capacity}
use Rattle.labels.specs.Laws.{AlwaysRoom, SmallestRange}
use Rattle.labels.specs.Labels.{Entries, in_range, count_in, base_of, crowd, widen, width}

pub count_le : (base size : ℕ) (es : Entries) → count_in base size es ≤ length es
count_le base size [] = omega arith
count_le base size (e ∷ es) = pick (count_le base size es) (in_range base size e.1)
  where
    pick : count_in base size es ≤ length es → (b : Bool) → cond b (suc (count_in base size es)) (count_in base size es) ≤ suc (length es)
    pick h true = omega arith
    pick h false = omega arith

-- no more than as many items as labels
small : ℕ → ℕ → Bool
small k x = leb (capacity k) (2 ^ k)

pub capacity_le : (i : ℕ) → i < 32 → capacity i ≤ 2 ^ i
unfolding small
capacity_le i h = leb→le (capacity i) (2 ^ i) (at small table tt i h)

pub widen_fits : (es : Entries) (l i fuel : ℕ) → length es ≤ 4096 → i + fuel ≡ 31 →
    (crowd es l (widen es l i fuel) ≤ capacity (widen es l i fuel)) × (widen es l i fuel < 32)
widen_fits es l i zero few e =
    let is : i ≡ 31 = omega arith in
    (subst (λ (k : ℕ). crowd es l k ≤ capacity k) (sym is) (let c = count_le (base_of 31 l) (2 ^ 31) es in let q : 4097 ≤ capacity 31 = lit≤ tt in omega arith), omega arith)
widen_fits es l i (suc fuel) few e =
    elim (cases_Bool (leb (crowd es l i) (capacity i))) [
      | inl t ↦ simp t (leb-true _ _ t, omega arith)
      | inr f ↦ simp f (widen_fits es l (suc i) fuel few (omega arith))
    ]

pub base_le : (i l : ℕ) → base_of i l ≤ l
base_le i l = div-mul-le_self l (2 ^ i)

pub below_base : (i l : ℕ) → l < base_of i l + 2 ^ i
below_base i l = lt-div-mul-add (pow_pos i)

pub base_top : (i l : ℕ) → i < 32 → l < 2 ^ 31 → base_of i l + 2 ^ i ≤ 2 ^ 31
base_top i l h lt =
    let j : ℕ = 31 - i in
    let split : 2 ^ (j + i) ≡ 2 ^ j * 2 ^ i = pow-add 2 j i in
    let whole : j + i ≡ 31 = omega arith in
    let quot : l / 2 ^ i < 2 ^ j = shr_lt j i (subst (λ (k : ℕ). l < 2 ^ k) (sym whole) lt) in
    let prod : suc (l / 2 ^ i) * 2 ^ i ≤ 2 ^ j * 2 ^ i = mul-le-mul_right (2 ^ i) quot in
    let one = suc-mul (l / 2 ^ i) (2 ^ i) in
    let all : 2 ^ j * 2 ^ i ≡ 2 ^ 31 = sym split ∙ ap (λ (k : ℕ). 2 ^ k) whole in
    omega arith

pub width_start : (es : Entries) (l : ℕ) → width es l ≡ widen es l 0 31
unfolding width
width_start es l = refl

pub width_fits : (es : Entries) (l : ℕ) → length es ≤ 4096 → (crowd es l (width es l) ≤ capacity (width es l)) × (width es l < 32)
unfolding width
width_fits es l few = widen_fits es l 0 31 few refl

-- what lies below the number that is taken has no room
widen_least : (es : Entries) (l i fuel j : ℕ) → i ≤ j → j < widen es l i fuel → capacity j < crowd es l j
widen_least es l i zero j h k = absurd (omega arith)
widen_least es l i (suc fuel) j h k =
    elim (cases_Bool (leb (crowd es l i) (capacity i))) [
      | inl t ↦ let q : j < i = simp t at k in absurd (omega arith)
      | inr f ↦
          let q : j < widen es l (suc i) fuel = simp f at k in
          let u = leb-false _ _ f in
          elim (cases_eq i j) [
            | inl e ↦ subst (λ (z : ℕ). capacity z < crowd es l z) e u
            | inr d ↦ widen_least es l (suc i) fuel j (omega arith) q
          ]
    ]

pub smallest_range : SmallestRange
unfolding width
smallest_range es l i h = widen_least es l 0 31 i (omega arith) h

pub always_room : AlwaysRoom
always_room es l few = width_fits es l few

pub widen_stop : (es : Entries) (l i fuel : ℕ) → crowd es l i ≤ capacity i → widen es l i fuel ≡ i
widen_stop es l i zero h = refl
widen_stop es l i (suc fuel) h = simp (le-leb (crowd es l i) (capacity i) h)

pub widen_more : (es : Entries) (l i : ℕ) → i < 31 → capacity i < crowd es l i → widen es l i (31 - i) ≡ widen es l (i + 1) (31 - (i + 1))
widen_more es l i h k =
    let e : 31 - i ≡ suc (31 - (i + 1)) = omega arith in
    let s : suc i ≡ i + 1 = omega arith in
    ap (widen es l i) e ∙ (step ∙ ap (λ (n : ℕ). widen es l n (31 - (i + 1))) s)
  where
    step : widen es l i (suc (31 - (i + 1))) ≡ widen es l (suc i) (31 - (i + 1))
    step = simp (lt-leb (crowd es l i) (capacity i) k)

-- the code's 1 << i
pub shifted : (i : ℕ) → i < 32 → (1 * 2 ^ i) % 4294967296 ≡ 2 ^ i
shifted i h = shl_exact 1 i 32 (lit≤ tt) (omega arith) ∙ one-mul (2 ^ i)

pub shifted_top : (i l : ℕ) → i < 32 → l < 2 ^ 31 → (l / ((1 * 2 ^ i) % 4294967296)) * ((1 * 2 ^ i) % 4294967296) + (1 * 2 ^ i) % 4294967296 ≤ 2 ^ 31
shifted_top i l h lt = subst (λ (s : ℕ). (l / s) * s + s ≤ 2 ^ 31) (sym (shifted i h)) (base_top i l h lt)
