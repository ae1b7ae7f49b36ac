-- Walks along the links: back to a range's first item, and forward through the range.
use Rattle.std.proofs.Common.{◌≡◌, ℕ, zero, suc, ◌+◌, ◌^◌, ◌<◌, ◌≤◌, true, List, [], ◌∷◌, length, Some, None, Option, sym, refl, ap, ◌∙◌, subst, inl, inr, arith}
use Rattle.std.proofs.lemmas.Bool.{cases_lt, le-leb, lt-leb, false≢true}
use Rattle.labels.proofs.Spreading.{in_range_lem, below_range, past_count, rising_loose}
use Rattle.labels.proofs.Widening.{count_le}
use Rattle.labels.specs.Labels.{count_in, in_range, marked}
use Rattle.labels.specs.Ranges.{first_from}
use Rattle.linked_lists.proofs.Chains.{Chained}
use Rattle.linked_lists.proofs.Insert.{same_some}
use Rattle.linked_lists.proofs.Marked.{above_rising}
use Rattle.linked_lists.specs.Chain.{Linked, Backed, Above, listed, labelled, label_at, next_at, prev_at}
use Rattle.linked_lists.specs.Passing.{Carries, Passed, Led, Run, Back}
use Rattle.linked_lists.specs.declared.row.Row.{Row}
use Rattle.order.proofs.Members.{member_cases}
use Rattle.order.specs.Items.{member}
use Rattle.std.proofs.lemmas.List.{length-map}

backed_low : (p : ℕ → Option ℕ) (lab : ℕ → ℕ) (z : ℕ) (zs : List ℕ) (x : ℕ) → Backed p (Some z) zs → Above lab (suc (lab z)) zs → member zs x ≡ true →
    (y : ℕ) × ((p x ≡ Some y) × (lab z ≤ lab y))
backed_low p lab z [] x b ab m = absurd (false≢true m)
backed_low p lab z (w ∷ ws) x b ab m =
    elim (member_cases w ws x m) [
      | inl d ↦ (z, (ap p (sym d) ∙ b.0, omega arith))
      | inr d ↦ let r = backed_low p lab w ws x b.1 ab.1 d.1 in let u = ab.0 in (r.0, (r.1.0, let v = r.1.1 in omega arith))
    ]

pub first_is : (p : ℕ → Option ℕ) (lab : ℕ → ℕ) (o : Option ℕ) (lo base : ℕ) (xs : List ℕ) (x : ℕ) → Backed p o xs → Above lab lo xs → member xs x ≡ true →
    base ≤ lab x → ((y : ℕ) → p x ≡ Some y → lab y < base) → x ≡ first_from base (marked lab xs)
first_is p lab o lo base [] x b ab m h low = absurd (false≢true m)
first_is p lab o lo base (z ∷ zs) x b ab m h low =
    elim (member_cases z zs x m) [
      | inl d ↦ let u : base ≤ lab z = subst (λ (k : ℕ). base ≤ lab k) (sym d) h in simp (le-leb base (lab z) u) (sym d)
      | inr d ↦
          let r = backed_low p lab z zs x b.1 ab.1 d.1 in
          let u = low r.0 r.1.0 in
          let v = r.1.1 in
          let w : lab z < base = omega arith in
          simp (lt-leb base (lab z) w) (first_is p lab (Some z) (suc (lab z)) base zs x b.1 ab.1 d.1 h low)
    ]

first_at : (rows : List (Row ℕ)) (n x base : ℕ) → Chained rows (label_at rows) n → x < n → base ≤ label_at rows x → ((y : ℕ) → prev_at rows x ≡ Some y → label_at rows y < base) →
    x ≡ first_from base (labelled rows n)
first_at rows n x base ch h from low =
    first_is (prev_at rows) (label_at rows) None 0 base (listed rows n) x ch.links.backed ch.rising (ch.links.known x h) from low

led_from : (rows : List (Row ℕ)) (Yes : ℕ → Type 0) (base k a x : ℕ) → Led (prev_at rows) (Carries Yes rows) k a x → ((l : ℕ) → Yes l → base ≤ l) → base ≤ label_at rows a → base ≤ label_at rows x
led_from rows Yes base zero a x h above b = subst (λ (i : ℕ). base ≤ label_at rows i) h b
led_from rows Yes base (suc k) a x h above b = led_from rows Yes base k h.0 x h.3 above (above (label_at rows h.0) (h.2.tag 0))

-- as a walk back finds it
module _ {rows : List (Row ℕ)} {Yes No : ℕ → Type 0} {a x : ℕ} (k : Back Yes No rows a x) (n base : ℕ) (above : (l : ℕ) → Yes l → base ≤ l) (below : (l : ℕ) → No l → l < base) (b : base ≤ label_at rows a) where
  pub back_from : base ≤ label_at rows x
  back_from = led_from rows Yes base k.steps a x k.led above b

  pub back_first : Chained rows (label_at rows) n → x < n → x ≡ first_from base (labelled rows n)
  back_first ch h = first_at rows n x base ch h back_from (λ y e. below (label_at rows y) ((k.stops y e).tag 0))

-- what is left of a walk through a range: k items are counted, and `next` leads on
pub record Tail (rows : List (Row ℕ)) (n base size k : ℕ) (next : Option ℕ) : Type 0 where
  pub rest : List ℕ
  pub linked : Linked (next_at rows) next rest
  pub low : ℕ
  pub from : base ≤ low
  pub rising : Above (label_at rows) low rest
  pub counted : count_in base size (labelled rows n) ≡ k + count_in base size (marked (label_at rows) rest)

module _ (rows : List (Row ℕ)) (n base size : ℕ) where
  from_first : (o : Option ℕ) (lo : ℕ) (xs : List ℕ) (x : ℕ) → Linked (next_at rows) o xs → Above (label_at rows) lo xs → member xs x ≡ true → base ≤ label_at rows x →
      (rest : List ℕ) × (Linked (next_at rows) (Some (first_from base (marked (label_at rows) xs))) rest × Above (label_at rows) base rest
      × (count_in base size (marked (label_at rows) xs) ≡ count_in base size (marked (label_at rows) rest)))
  from_first o lo [] x h ab m b = absurd (false≢true m)
  from_first o lo (z ∷ zs) x h ab m b =
      elim (cases_lt (label_at rows z) base) [
        | inl t ↦
            elim (member_cases z zs x m) [
              | inl d ↦ let v = ap (label_at rows) d in absurd (omega arith)
              | inr d ↦
                  let r = from_first (next_at rows z) (suc (label_at rows z)) zs x h.1 ab.1 d.1 b in
                  simp (lt-leb base (label_at rows z) t, below_range base size (label_at rows z) t)
                  (r.0, (r.1.0, r.1.1, r.1.2))
            ]
        | inr t ↦
            let e : first_from base (marked (label_at rows) (z ∷ zs)) ≡ z = simp (le-leb base (label_at rows z) t) in
            (z ∷ zs, ((ap (λ (k : ℕ). Some k) e, h.1), (t, ab.1), refl))
      ]

  pub tail_start : (first : ℕ) → Chained rows (label_at rows) n → first < n → base ≤ label_at rows first → first ≡ first_from base (labelled rows n) → Tail rows n base size 0 (Some first)
  tail_start first ch h b e =
      let r = from_first (Some 0) 0 (listed rows n) first ch.links.linked ch.rising (ch.links.known first h) b in
      record {
        rest = r.0;
        linked = subst (λ (k : ℕ). Linked (next_at rows) (Some k) r.0) (sym e) r.1.0;
        low = base;
        from = omega arith;
        rising = r.1.1;
        counted = let c = r.1.2 in omega arith;
      }

  tail_more : (k x : ℕ) → Tail rows n base size k (Some x) → label_at rows x < base + size → Tail rows n base size (k + 1) (next_at rows x)
  tail_more k x t lt = go t.rest t.linked t.rising t.counted
    where
      go : (xs : List ℕ) → Linked (next_at rows) (Some x) xs → Above (label_at rows) t.low xs →
          count_in base size (labelled rows n) ≡ k + count_in base size (marked (label_at rows) xs) → Tail rows n base size (k + 1) (next_at rows x)
      go [] h ab c = let z : ◌≡◌ {A = ℕ} 0 1 = cc in absurd (omega arith)
      go (y ∷ ys) h ab c =
          let is : y ≡ x = same_some y x (sym h.0) in
          let v = ap (label_at rows) is in
          let f = t.from in
          let u = ab.0 in
          let inside : in_range base size (label_at rows y) ≡ true = in_range_lem base size (label_at rows y) (omega arith) (omega arith) in
          let c' : count_in base size (labelled rows n) ≡ k + suc (count_in base size (marked (label_at rows) ys)) = simp inside at c in
          record {
            rest = ys;
            linked = subst (λ (i : ℕ). Linked (next_at rows) (next_at rows i) ys) is h.1;
            low = suc (label_at rows y);
            from = omega arith;
            rising = ab.1;
            counted = omega arith;
          }

  tail_none : (k : ℕ) → Tail rows n base size k None → k ≡ count_in base size (labelled rows n)
  tail_none k t = go t.rest t.linked t.counted
    where
      go : (xs : List ℕ) → Linked (next_at rows) None xs → count_in base size (labelled rows n) ≡ k + count_in base size (marked (label_at rows) xs) →
          k ≡ count_in base size (labelled rows n)
      go [] h c = omega arith
      go (y ∷ ys) h c = let z : ◌≡◌ {A = ℕ} 0 1 = cc in absurd (omega arith)

  tail_past : (k x : ℕ) → Tail rows n base size k (Some x) → base + size ≤ label_at rows x → k ≡ count_in base size (labelled rows n)
  tail_past k x t le = go t.rest t.linked t.rising t.counted
    where
      go : (xs : List ℕ) → Linked (next_at rows) (Some x) xs → Above (label_at rows) t.low xs →
          count_in base size (labelled rows n) ≡ k + count_in base size (marked (label_at rows) xs) → k ≡ count_in base size (labelled rows n)
      go [] h ab c = let z : ◌≡◌ {A = ℕ} 0 1 = cc in absurd (omega arith)
      go (y ∷ ys) h ab c =
          let is : y ≡ x = same_some y x (sym h.0) in
          let v = ap (label_at rows) is in
          let none = past_count base size (label_at rows y) (marked (label_at rows) (y ∷ ys)) (omega arith)
          (rising_loose base size (label_at rows y) (label_at rows y) (marked (label_at rows) (y ∷ ys)) (omega arith)
          (above_rising (label_at rows) (label_at rows y) (y ∷ ys) (omega arith, ab.1))) in
          omega arith

  module _ (Yes No : ℕ → Type 0) (inside : (l : ℕ) → Yes l → l < base + size) (past : (l : ℕ) → No l → base + size ≤ l) where
    tail_passed : (k j : ℕ) (o e : Option ℕ) → Passed (next_at rows) (Carries Yes rows) k o e → Tail rows n base size j o → Tail rows n base size (j + k) e
    tail_passed zero j o e h t = let z : j ≡ j + 0 = omega arith in subst (λ (q : ℕ). Tail rows n base size q e) z (subst (λ (q : Option ℕ). Tail rows n base size j q) h t)
    tail_passed (suc k) j o e h t =
        let z : j + 1 + k ≡ j + suc k = omega arith in
        subst (λ (q : ℕ). Tail rows n base size q e) z
        (tail_passed k (j + 1) (next_at rows h.0) e h.3
        (tail_more j h.0 (subst (λ (q : Option ℕ). Tail rows n base size j q) h.1 t) (inside (label_at rows h.0) (h.2.tag 0))))

    tail_stops : (k : ℕ) (o : Option ℕ) → Tail rows n base size k o → ((x : ℕ) → o ≡ Some x → Carries No rows x) → k ≡ count_in base size (labelled rows n)
    tail_stops k None t h = tail_none k t
    tail_stops k (Some x) t h = tail_past k x t (past (label_at rows x) ((h x refl).tag 0))

    -- as a walk through the range counts
    pub run_counted : (first k : ℕ) → Run Yes No rows (Some first) k → Chained rows (label_at rows) n → first < n → base ≤ label_at rows first → first ≡ first_from base (labelled rows n) →
        k ≡ count_in base size (labelled rows n)
    run_counted first k r ch h b e = let z : 0 + k ≡ k = omega arith in tail_stops k r.end (subst (λ (q : ℕ). Tail rows n base size q r.end) z (tail_passed k 0 (Some first) r.end r.passed (tail_start first ch h b e))) r.stops

above_le : (lab : ℕ → ℕ) (lo : ℕ) (xs : List ℕ) → Above lab lo xs → lo ≤ 2 ^ 31
above_le lab lo [] h = h
above_le lab lo (x ∷ xs) h = let r = above_le lab (suc (lab x)) xs h.1 in let u = h.0 in omega arith

member_top : (lab : ℕ → ℕ) (lo : ℕ) (xs : List ℕ) (a : ℕ) → Above lab lo xs → member xs a ≡ true → lab a < 2 ^ 31
member_top lab lo [] a h m = absurd (false≢true m)
member_top lab lo (x ∷ xs) a h m =
    elim (member_cases x xs a m) [
      | inl e ↦ subst (λ (k : ℕ). lab k < 2 ^ 31) e (above_le lab (suc (lab x)) xs h.1)
      | inr d ↦ member_top lab (suc (lab x)) xs a h.1 d.1
    ]

pub label_top : (rows : List (Row ℕ)) (n a : ℕ) → Chained rows (label_at rows) n → a < n → label_at rows a < 2 ^ 31
label_top rows n a ch h = member_top (label_at rows) 0 (listed rows n) a ch.rising (ch.links.known a h)

pub length_labelled : (rows : List (Row ℕ)) (n : ℕ) → Chained rows (label_at rows) n → length (labelled rows n) ≡ n
length_labelled rows n ch = length-map (listed rows n) (λ i. (i, label_at rows i)) ∙ ch.links.long

pub count_few : (rows : List (Row ℕ)) (n base size r : ℕ) → Chained rows (label_at rows) n → r ≡ count_in base size (labelled rows n) → r ≤ n
count_few rows n base size r ch e = let k = count_le base size (labelled rows n) in let m = length_labelled rows n ch in omega arith
