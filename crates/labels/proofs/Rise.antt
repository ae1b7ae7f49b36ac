-- A new item leaves the labels rising.
use Rattle.std.proofs.Common.{◌≡◌, ℕ, suc, ◌+◌, ◌-◌, ◌/◌, ◌^◌, ◌<◌, ◌≤◌, true, leb, [], ◌∷◌, length, sym, refl, subst, inl, inr, arith}
use Rattle.std.proofs.lemmas.Bool.{cases_lt, eq-eqb, ne_eqb, le-leb, lt-leb, false≢true, cond-true, cond-false}
use Rattle.order.specs.Items.{member}
use Rattle.order.proofs.Members.{member_cases}
use Rattle.labels.specs.Capacity.{capacity}
use Rattle.labels.specs.Labels.{Entries, items_of, label_of, head_label, next_label, placed, base_of, crowd, width, relabelled, inserted_by}
use Rattle.labels.specs.Laws.{Rising, LabelsRise}
use Rattle.labels.proofs.Spreading.{loose_placed, count_placed, spread_rising}
use Rattle.labels.proofs.Widening.{width_fits, capacity_le, base_le, below_base, base_top}

-- labels that rise from lo on start at lo or above
rising_head : (lo : ℕ) (es : Entries) → Rising lo es → lo ≤ head_label es
rising_head lo [] h = h
rising_head lo (e ∷ es) h = h.0

rising_le : (lo : ℕ) (es : Entries) → Rising lo es → lo ≤ 2 ^ 31
rising_le lo [] h = h
rising_le lo (e ∷ es) h = let u = h.0 in let v = rising_le (suc e.1) es h.1 in omega arith

rising_from : (lo v : ℕ) (es : Entries) → Rising lo es → v < head_label es → Rising (suc v) es
rising_from lo v [] h k = k
rising_from lo v (e ∷ es) h k = (k, h.1)

-- the label of an item lies below that behind it, and below the top
label_below : (lo : ℕ) (es : Entries) (a : ℕ) → Rising lo es → member (items_of es) a ≡ true → label_of es a < next_label es a
label_below lo [] a h m = absurd (false≢true m)
label_below lo (e ∷ es) a h m =
    elim (member_cases e.0 (items_of es) a m) [
      | inl d ↦ simp (eq-eqb e.0 a d) (rising_head (suc e.1) es h.1)
      | inr d ↦ simp (ne_eqb e.0 a d.0) (label_below (suc e.1) es a h.1 d.1)
    ]

label_top : (lo : ℕ) (es : Entries) (a : ℕ) → Rising lo es → member (items_of es) a ≡ true → label_of es a < 2 ^ 31
label_top lo [] a h m = absurd (false≢true m)
label_top lo (e ∷ es) a h m =
    elim (member_cases e.0 (items_of es) a m) [
      | inl d ↦ simp (eq-eqb e.0 a d) (rising_le (suc e.1) es h.1)
      | inr d ↦ simp (ne_eqb e.0 a d.0) (label_top (suc e.1) es a h.1 d.1)
    ]

-- a label between those of an item and the one behind it
rising_placed : (lo : ℕ) (es : Entries) (a n v : ℕ) → Rising lo es → member (items_of es) a ≡ true → label_of es a < v → v < next_label es a → Rising lo (placed es a n v)
rising_placed lo [] a n v h m lower upper = absurd (false≢true m)
rising_placed lo (e ∷ es) a n v h m lower upper =
    elim (member_cases e.0 (items_of es) a m) [
      | inl d ↦
          let low : e.1 < v = simp (eq-eqb e.0 a d) at lower in
          let high : v < head_label es = simp (eq-eqb e.0 a d) at upper in
          simp (eq-eqb e.0 a d) (h.0, (low, rising_from (suc e.1) v es h.1 high))
      | inr d ↦
          let low : label_of es a < v = simp (ne_eqb e.0 a d.0) at lower in
          let high : v < next_label es a = simp (ne_eqb e.0 a d.0) at upper in
          simp (ne_eqb e.0 a d.0) (h.0, rising_placed (suc e.1) es a n v h.1 d.1 low high)
    ]

module _ (es : Entries) (a n : ℕ) (few : length es ≤ 4096) (m : member (items_of es) a ≡ true) (h : Rising 0 es) where
  far_rises : (i : ℕ) → crowd es (label_of es a) i ≤ capacity i → i < 32 → Rising 0 (relabelled es a n (label_of es a) i)
  far_rises i fits lt =
      let low = base_le i (label_of es a) in
      let high = below_base i (label_of es a) in
      let c = capacity_le i lt in
      spread_rising (base_of i (label_of es a)) (2 ^ i) (crowd es (label_of es a) i) (omega arith) (omega arith) (base_top i (label_of es a) lt (label_top 0 es a h m))
      0 (placed es a n (label_of es a)) (omega arith) (loose_placed (base_of i (label_of es a)) (2 ^ i) 0 es a n (label_of es a) refl low high h)
      (count_placed (base_of i (label_of es a)) (2 ^ i) es a n (label_of es a) m low high)

  rises : (g : ℕ) → label_of es a + g ≡ next_label es a → Rising 0 (inserted_by es a n (label_of es a) g)
  rises g e =
      elim (cases_lt g 2) [
        | inl t ↦
            let w = width_fits es (label_of es a) few in
            subst (Rising 0) (sym (cond-false (leb 2 g) _ _ (lt-leb 2 g t))) (far_rises (width es (label_of es a)) w.0 w.1)
        | inr t ↦
            subst (Rising 0) (sym (cond-true (leb 2 g) _ _ (le-leb 2 g t)))
            (rising_placed 0 es a n (label_of es a + g / 2) h m (omega arith) (omega arith))
      ]

pub labels_rise : LabelsRise
labels_rise es a n few m h = rises es a n few m h (next_label es a - label_of es a) (let k = label_below 0 es a h m in omega arith)
