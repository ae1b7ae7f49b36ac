-- Spread labels rise strictly and stay inside the range, so the whole list stays sorted.
use Rattle.std.proofs.Common.{◌≡◌, ℕ, suc, ◌+◌, ◌*◌, ◌/◌, ◌^◌, ◌<◌, ◌≤◌, Bool, true, false, cond, [], ◌∷◌, refl, ap, subst, inl, inr, suc-mul, mul_comm, mul-lt-mul_of_pos_right, div-mul-le_self, arith}
use Rattle.std.proofs.lemmas.Bool.{cases_eq, cases_lt, eq-eqb, ne_eqb, le-leb, lt-leb, lt-ltb, le-ltb, and_left, and_right, and_from, false≢true}
use Rattle.std.proofs.lemmas.Nat.{div_below, le-div}
use Rattle.labels.specs.Labels.{Entries, in_range, count_in, spread, placed, label_of, items_of}
use Rattle.labels.specs.Laws.{Rising}
use Rattle.labels.specs.Ranges.{next_low, Loose}
use Rattle.order.proofs.Members.{member_cases}
use Rattle.order.specs.Items.{member}

-- the two facts of the division: the next label is larger, and each lies inside the range
pub spread_step : (size m j : ℕ) → 0 < m → m ≤ size → suc ((j * size) / m) ≤ (suc j * size) / m
spread_step size m j pos fits =
    le-div (suc ((j * size) / m)) (suc j * size) m pos
    (let p = suc-mul ((j * size) / m) m in let q = suc-mul j size in let r = div-mul-le_self (j * size) m in omega arith)

pub spread_inside : (size m j : ℕ) → j < m → m ≤ size → (j * size) / m < size
spread_inside size m j h fits =
    div_below (j * size) m size (omega arith)
    (subst (λ (k : ℕ). j * size < k) (mul_comm m size) (mul-lt-mul_of_pos_right h (omega arith)))

module _ (base size : ℕ) where
  pub in_range_lem : (l : ℕ) → base ≤ l → l < base + size → in_range base size l ≡ true
  in_range_lem l h k = and_from _ _ (le-leb base l h) (lt-ltb l (base + size) k)

  pub below_range : (l : ℕ) → l < base → in_range base size l ≡ false
  below_range l h = and_left _ _ (lt-leb base l h)

  pub past_range : (l : ℕ) → base + size ≤ l → in_range base size l ≡ false
  past_range l h = and_right _ _ (le-ltb l (base + size) h)

  pub loose_weaker : (lo lo' : ℕ) (es : Entries) → lo' ≤ lo → Loose base size lo es → Loose base size lo' es
  loose_weaker lo lo' [] k h = omega arith
  loose_weaker lo lo' (e ∷ es) k h = (let u = h.0 in omega arith, h.1)

  next_low_le : (l : ℕ) → next_low base size l ≤ suc l
  next_low_le l = pick (in_range base size l)
    where
      pick : (b : Bool) → cond b l (suc l) ≤ suc l
      pick true = omega arith
      pick false = omega arith

  pub rising_loose : (lo lo' : ℕ) (es : Entries) → lo' ≤ lo → Rising lo es → Loose base size lo' es
  rising_loose lo lo' [] k h = omega arith
  rising_loose lo lo' (e ∷ es) k h = (let u = h.0 in omega arith, rising_loose (suc e.1) (next_low base size e.1) es (next_low_le e.1) h.1)

  pub loose_placed : (lo : ℕ) (es : Entries) (a n l : ℕ) → label_of es a ≡ l → base ≤ l → l < base + size → Rising lo es → Loose base size lo (placed es a n l)
  loose_placed lo [] a n l e b t h = h
  loose_placed lo (x ∷ es) a n l e b t h =
      elim (cases_eq x.0 a) [
        | inl d ↦
            let same : x.1 ≡ l = simp (eq-eqb x.0 a d) at e in
            let low : in_range base size x.1 ≡ true = in_range_lem x.1 (omega arith) (omega arith) in
            simp (eq-eqb x.0 a d, low, in_range_lem l b t)
            (h.0, (omega arith, rising_loose (suc x.1) l es (omega arith) h.1))
        | inr d ↦
            let e' : label_of es a ≡ l = simp (ne_eqb x.0 a d) at e in
            simp (ne_eqb x.0 a d)
            (h.0, loose_weaker (suc x.1) (next_low base size x.1) (placed es a n l) (next_low_le x.1) (loose_placed (suc x.1) es a n l e' b t h.1))
      ]

  pub count_placed : (es : Entries) (a n l : ℕ) → member (items_of es) a ≡ true → base ≤ l → l < base + size →
      count_in base size (placed es a n l) ≡ suc (count_in base size es)
  count_placed [] a n l m b t = absurd (false≢true m)
  count_placed (x ∷ es) a n l m b t =
      elim (member_cases x.0 (items_of es) a m) [
        | inl d ↦ simp (eq-eqb x.0 a d, in_range_lem l b t) (swap (count_in base size es) (in_range base size x.1))
        | inr d ↦ simp (ne_eqb x.0 a d.0, count_placed es a n l d.1 b t) (swap (count_in base size es) (in_range base size x.1))
      ]
    where
      swap : (k : ℕ) (t : Bool) → cond t (suc (suc k)) (suc k) ≡ suc (cond t (suc k) k)
      swap k true = refl
      swap k false = refl

  pub past_count : (lo : ℕ) (es : Entries) → base + size ≤ lo → Loose base size lo es → count_in base size es ≡ 0
  past_count lo [] k h = refl
  past_count lo (e ∷ es) k h =
      let out : in_range base size e.1 ≡ false = past_range e.1 (let u = h.0 in omega arith) in
      simp out (past_count (suc e.1) es (let u = h.0 in omega arith) (simp out at h.1))

  pub past_spread : (m lo j : ℕ) (es : Entries) → base + size ≤ lo → Loose base size lo es → spread base size m j es ≡ es
  past_spread m lo j [] k h = refl
  past_spread m lo j (e ∷ es) k h =
      let out : in_range base size e.1 ≡ false = past_range e.1 (let u = h.0 in omega arith) in
      simp out (ap (λ (r : Entries). e ∷ r) (past_spread m (suc e.1) j es (let u = h.0 in omega arith) (simp out at h.1)))

  pub past_rising : (lo : ℕ) (es : Entries) → base + size ≤ lo → Loose base size lo es → Rising lo es
  past_rising lo [] k h = h
  past_rising lo (e ∷ es) k h =
      let out : in_range base size e.1 ≡ false = past_range e.1 (let u = h.0 in omega arith) in
      (h.0, past_rising (suc e.1) es (let u = h.0 in omega arith) (simp out at h.1))

  module _ (m : ℕ) (pos : 0 < m) (fits : m ≤ size) (top : base + size ≤ 2 ^ 31) where
    spread_mid : (lo bd j : ℕ) (es : Entries) → base ≤ lo → Loose base size lo es → j + count_in base size es ≡ m → bd ≤ base + (j * size) / m → bd ≤ base + size →
        Rising bd (spread base size m j es)
    spread_mid lo bd j [] b h c first last = omega arith
    spread_mid lo bd j (e ∷ es) b h c first last =
        elim (cases_lt e.1 (base + size)) [
          | inl t ↦
              let inside : in_range base size e.1 ≡ true = in_range_lem e.1 (let u = h.0 in omega arith) t in
              let c' : j + suc (count_in base size es) ≡ m = simp inside at c in
              let v = spread_inside size m j (omega arith) fits in
              let w = spread_step size m j pos fits in
              simp inside
              (first, spread_mid e.1 (suc (base + (j * size) / m)) (suc j) es (let u = h.0 in omega arith) (simp inside at h.1) (omega arith) (omega arith) (omega arith))
          | inr t ↦
              let out : in_range base size e.1 ≡ false = past_range e.1 t in
              let rest : Loose base size (suc e.1) es = simp out at h.1 in
              simp (out, past_spread m (suc e.1) j es (omega arith) rest)
              (omega arith, past_rising (suc e.1) es (omega arith) rest)
        ]

    pub spread_rising : (lo : ℕ) (es : Entries) → lo ≤ base → Loose base size lo es → count_in base size es ≡ m → Rising lo (spread base size m 0 es)
    spread_rising lo [] b h c = h
    spread_rising lo (e ∷ es) b h c =
        elim (cases_lt e.1 base) [
          | inl t ↦
              let out : in_range base size e.1 ≡ false = below_range e.1 t in
              simp out (h.0, spread_rising (suc e.1) es (omega arith) (simp out at h.1) (simp out at c))
          | inr t ↦ spread_mid base lo 0 (e ∷ es) (omega arith) (t, h.1) (omega arith) (omega arith) (omega arith)
        ]
