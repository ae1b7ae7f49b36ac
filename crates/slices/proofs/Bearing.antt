-- Making a node; a born serial number has exactly one serving copy.
use Rattle.std.proofs.Common.{◌≡◌, ℕ, zero, suc, ◌-◌, ◌<◌, ◌≤◌, true, ◌⊎◌, sym, refl, ap, ◌∙◌, subst, inl, inr, not-suc-le-zero, arith}
use Rattle.std.proofs.lemmas.Bool.{cases_lt, cases_eq, eq-eqb, ne_eqb, lt-ltb, le-ltb}
use Rattle.fields.specs.declared.kinds.Value.TheVariants.{Number, Nil, To, From}
use Rattle.fields.specs.Fields.{suits}
use Rattle.entries.specs.Entries.{EachVersion}
use Rattle.entries.proofs.Versions.{each_like}
use Rattle.slices.specs.Slices.{swap}
use Rattle.slices.specs.Copies.{Copy, Copies, value_at, Serves, serving, CoherentAt, CopyOk, Shaped, Sound}
use Rattle.slices.specs.Splits.{split}
use Rattle.slices.specs.Openings.{opened, down}
use Rattle.slices.specs.Births.{first_values, new_copy, make_node, MakeSound, Born, Served, OneServes, BirthsStay}
use Rattle.slices.proofs.Swapping.{swap_swap}
use Rattle.slices.proofs.Splitting.{split_sound, split_serial, split_swap}
use Rattle.slices.proofs.Opening.{open_sound, down_lt}

firsts : (numbers : ℕ → ℕ) (f : ℕ) → ((f < 5) × (first_values numbers f ≡ Nil)) ⊎ ((5 ≤ f) × (first_values numbers f ≡ Number (numbers (f - 5))))
firsts numbers f = elim (cases_lt f 5) [ inl l ↦ inl (l, rw (lt-ltb f 5 l) refl) | inr g ↦ inr (g, rw (le-ltb f 5 g) refl) ]

new_not_to : (P : Type 0) (numbers : ℕ → ℕ) (f k : ℕ) → first_values numbers f ≡ To k → P
new_not_to P numbers f k e =
    elim (firsts numbers f) [
      | inl h ↦ absurd (let q : Nil ≡ To k = sym h.1 ∙ e in let z : ◌≡◌ {A = ℕ} 0 1 = cc in omega arith)
      | inr h ↦ absurd (let q : Number (numbers (f - 5)) ≡ To k = sym h.1 ∙ e in let z : ◌≡◌ {A = ℕ} 0 1 = cc in omega arith)
    ]

new_not_from : (P : Type 0) (numbers : ℕ → ℕ) (f k l : ℕ) → first_values numbers f ≡ From k l → P
new_not_from P numbers f k l e =
    elim (firsts numbers f) [
      | inl h ↦ absurd (let q : Nil ≡ From k l = sym h.1 ∙ e in let z : ◌≡◌ {A = ℕ} 0 1 = cc in omega arith)
      | inr h ↦ absurd (let q : Number (numbers (f - 5)) ≡ From k l = sym h.1 ∙ e in let z : ◌≡◌ {A = ℕ} 0 1 = cc in omega arith)
    ]

-- a new node's fields hold what they may
nil_suits : (i f : ℕ) → f < 5 → suits i f Nil ≡ true
nil_suits i f l = grind arith

number_suits : (i f w : ℕ) → (i ≡ 0 → ⊥) → 5 ≤ f → suits i f (Number w) ≡ true
number_suits i f w n g = grind arith

new_suits : (i f : ℕ) (numbers : ℕ → ℕ) → (i ≡ 0 → ⊥) → suits i f (first_values numbers f) ≡ true
new_suits i f numbers n =
    elim (firsts numbers f) [
      | inl h ↦ ap (suits i f) h.1 ∙ nil_suits i f h.0
      | inr h ↦ ap (suits i f) h.1 ∙ number_suits i f (numbers (f - 5)) n h.0
    ]

module _ (pos : ℕ → ℕ) (M : Copies) (u k : ℕ) (numbers : ℕ → ℕ) (S : Sound pos M) (hu : pos u < M.versions) where
  at_new : (make_node u k numbers M).copy M.total ≡ new_copy (suc M.made) k u numbers
  at_new = rw (eq-eqb M.total M.total refl)

  at_old : (i : ℕ) → i < M.total → (make_node u k numbers M).copy i ≡ M.copy i
  at_old i h = let n : i ≡ M.total → ⊥ = λ e. omega (arith, h, e) in rw (ne_eqb i M.total n)

  below : (i : ℕ) → i < suc M.total → (i < M.total) ⊎ (i ≡ M.total)
  below i h = elim (cases_lt i M.total) [ inl l ↦ inl l | inr g ↦ inr (omega arith) ]

  serial_old : (i : ℕ) → i < M.total → ((make_node u k numbers M).copy i).serial ≡ (M.copy i).serial
  serial_old i h = ap (λ (c : Copy). c.serial) (at_old i h)

  lo_old : (i : ℕ) → i < M.total → pos ((make_node u k numbers M).copy i).lo ≡ pos (M.copy i).lo
  lo_old i h = ap (λ (c : Copy). pos c.lo) (at_old i h)

  serial_new : (i : ℕ) → i ≡ M.total → ((make_node u k numbers M).copy i).serial ≡ suc M.made
  serial_new i e = ap (λ (z : ℕ). ((make_node u k numbers M).copy z).serial) e ∙ ap (λ (c : Copy). c.serial) at_new

  lo_new : (i : ℕ) → i ≡ M.total → pos ((make_node u k numbers M).copy i).lo ≡ pos u
  lo_new i e = ap (λ (z : ℕ). pos ((make_node u k numbers M).copy z).lo) e ∙ ap (λ (c : Copy). pos c.lo) at_new

  -- the new serial is no old copy's
  fresh : (i j : ℕ) → i < M.total → j ≡ M.total → ((make_node u k numbers M).copy j).serial ≡ ((make_node u k numbers M).copy i).serial → ⊥
  fresh i j h e same =
      let a = S.shape.fewer i h in
      let b = serial_old i h in
      let c = serial_new j e in
      omega (arith, a, b, c, same)

  fwd : (p i : ℕ) → Serves pos M p i → Serves pos (make_node u k numbers M) p i
  fwd p i s =
      let li = lo_old i s.0 in
      let low = s.1 in (
        omega (arith, s.0),
        omega (arith, li, low),
        (λ j hj same less.
            elim (below j hj) [
              | inl l ↦
                  let lj = lo_old j l in
                  let r = s.2 j l (sym (serial_old j l) ∙ (same ∙ serial_old i s.0)) (omega (arith, li, lj, less)) in
                  omega (arith, r, lj)
              | inr e ↦ absurd (fresh i j s.0 e same)
            ]),
        s.3,
      )

  bwd_old : (p i : ℕ) → i < M.total → Serves pos (make_node u k numbers M) p i → Serves pos M p i
  bwd_old p i h s =
      let li = lo_old i h in
      let low = s.1 in (
        h,
        omega (arith, li, low),
        (λ j hj same less.
            let lj = lo_old j hj in
            let r = s.2 j (omega (arith, hj)) (serial_old j hj ∙ (same ∙ sym (serial_old i h))) (omega (arith, li, lj, less)) in
            omega (arith, r, lj)),
        s.3,
      )

  bwd : (p i : ℕ) → Serves pos (make_node u k numbers M) p i → Serves pos M p i ⊎ ((i ≡ M.total) × (pos u ≤ p))
  bwd p i s =
      elim (below i s.0) [
        | inl l ↦ inl (bwd_old p i l s)
        | inr e ↦ inr (e, (let a = lo_new i e in let b = s.1 in omega (arith, a, b)))
      ]

  new_serves : (p : ℕ) → pos u ≤ p → p < M.versions → Serves pos (make_node u k numbers M) p M.total
  new_serves p h l =
      let a = lo_new M.total refl in (
        omega arith,
        omega (arith, a, h),
        (λ j hj same less.
            elim (below j hj) [
              | inl b ↦ absurd (fresh j M.total b refl (sym same))
              | inr e ↦ let b = lo_new j e in omega (arith, a, b, less)
            ]),
        l,
      )

  new_field : (p i f : ℕ) → i ≡ M.total → value_at pos p ((make_node u k numbers M).copy i) f ≡ first_values numbers f
  new_field p i f e = ap (λ (z : ℕ). value_at pos p ((make_node u k numbers M).copy z) f) e ∙ ap (λ (c : Copy). value_at pos p c f) at_new

  old_field : (p i f : ℕ) → i < M.total → value_at pos p ((make_node u k numbers M).copy i) f ≡ value_at pos p (M.copy i) f
  old_field p i f h = ap (λ (c : Copy). value_at pos p c f) (at_old i h)

  n_not : (i : ℕ) → i ≡ M.total → i ≡ 0 → ⊥
  n_not i e z = let h = S.shape.some in omega (arith, e, z, h)

  good : (p : ℕ) → CoherentAt pos (make_node u k numbers M) p
  good p = record {
    named = λ i l j s e.
        elim (bwd p i s) [
          | inl o ↦
              let h = (S.good p).named i l j o (sym (old_field p i l o.0) ∙ e) in
              (fwd p j h.0, elim h.1 [ inl q ↦ inl (old_field p j 3 h.0.0 ∙ q) | inr q ↦ inr (old_field p j 4 h.0.0 ∙ q) ])
          | inr o ↦ new_not_to _ numbers l j (sym (new_field p i l o.0) ∙ e)
        ];
    backed = λ j b i l s e.
        elim (bwd p j s) [
          | inl o ↦
              let h = (S.good p).backed j b i l o (sym (old_field p j b o.0) ∙ e) in
              (fwd p i h.0, old_field p i l h.0.0 ∙ h.1)
          | inr o ↦ new_not_from _ numbers b i l (sym (new_field p j b o.0) ∙ e)
        ];
    single = λ j s e.
        elim (bwd p j s) [
          | inl o ↦ old_field p j 3 o.0 ∙ (S.good p).single j o (sym (old_field p j 3 o.0) ∙ (e ∙ old_field p j 4 o.0))
          | inr o ↦ new_field p j 3 o.0
        ];
    typed = λ i f s.
        elim (bwd p i s) [
          | inl o ↦ ap (suits i f) (old_field p i f o.0) ∙ (S.good p).typed i f o
          | inr o ↦ ap (suits i f) (new_field p i f o.0) ∙ new_suits i f numbers (n_not i o.0)
        ];
  }

  shape : Shaped pos (make_node u k numbers M)
  shape = record {
    copies = λ i h.
        elim (below i h) [
          | inl l ↦ subst (λ (c : Copy). CopyOk pos c) (sym (at_old i l)) (S.shape.copies i l)
          | inr e ↦ subst (λ (z : ℕ). CopyOk pos ((make_node u k numbers M).copy z)) (sym e) (subst (λ (c : Copy). CopyOk pos c) (sym at_new) (record { sorted = tt; once = tt; late = tt }))
        ];
    apart = λ i j hi hj same at.
        elim (below i hi) [
          | inl li ↦ elim (below j hj) [
            | inl lj ↦ S.shape.apart i j li lj (sym (serial_old i li) ∙ (same ∙ serial_old j lj)) (sym (lo_old i li) ∙ (at ∙ lo_old j lj))
            | inr ej ↦ absurd (fresh i j li ej (sym same))
          ]
          | inr ei ↦ elim (below j hj) [
            | inl lj ↦ absurd (fresh j i lj ei same)
            | inr ej ↦ ei ∙ sym ej
          ]
        ];
    hosted = λ i h.
        elim (below i h) [
          | inl l ↦ subst (λ (c : Copy). EachVersion (λ z. Serves pos (make_node u k numbers M) (pos z) i) c.entries) (sym (at_old i l)) (each_like (λ z. Serves pos M (pos z) i) (λ z. Serves pos (make_node u k numbers M) (pos z) i) _ (λ z. fwd (pos z) i) (S.shape.hosted i l))
          | inr e ↦ subst (λ (z : ℕ). EachVersion (λ y. Serves pos (make_node u k numbers M) (pos y) i) ((make_node u k numbers M).copy z).entries) (sym e) (subst (λ (c : Copy). EachVersion (λ y. Serves pos (make_node u k numbers M) (pos y) i) c.entries) (sym at_new) tt)
        ];
    known = λ i h.
        elim (below i h) [
          | inl l ↦ subst (λ (z : ℕ). z < M.versions) (sym (lo_old i l)) (S.shape.known i l)
          | inr e ↦ subst (λ (z : ℕ). z < M.versions) (sym (lo_new i e)) hu
        ];
    fewer = λ i h.
        elim (below i h) [
          | inl l ↦ let a = S.shape.fewer i l in let b = serial_old i l in omega (arith, a, b)
          | inr e ↦ let b = serial_new i e in omega (arith, b)
        ];
    some = omega arith;
    root_serial = serial_old 0 S.shape.some ∙ S.shape.root_serial;
    root_lo = lo_old 0 S.shape.some ∙ S.shape.root_lo;
    root_only = λ i h z.
        elim (below i h) [
          | inl l ↦ S.shape.root_only i l (sym (serial_old i l) ∙ z)
          | inr e ↦ absurd (let b = serial_new i e in omega (arith, b, z))
        ];
  }

pub make_sound : MakeSound
make_sound pos M u k numbers S hu = (
  record { shape = shape pos M u k numbers S hu; good = good pos M u k numbers S hu },
  at_new pos M u k numbers S hu,
  at_old pos M u k numbers S hu,
  new_serves pos M u k numbers S hu,
  fwd pos M u k numbers S hu,
  bwd pos M u k numbers S hu,
)

-- of the copies below m with the serial s that began at p or before, the last to begin
last_begun : (pos : ℕ → ℕ) (M : Copies) (p s m : ℕ)
    → ((i : ℕ) → i < m → (M.copy i).serial ≡ s → pos (M.copy i).lo ≤ p → ⊥)
    ⊎ ((i : ℕ) × (i < m) × ((M.copy i).serial ≡ s) × (pos (M.copy i).lo ≤ p)
    × ((j : ℕ) → j < m → (M.copy j).serial ≡ s → pos (M.copy i).lo < pos (M.copy j).lo → p < pos (M.copy j).lo))
last_begun pos M p s zero = inl (λ i h _ _. not-suc-le-zero h)
last_begun pos M p s (suc m) =
    let cut : (j : ℕ) → j < suc m → (j < m) ⊎ (j ≡ m) = λ j h. elim (cases_lt j m) [ inl l ↦ inl l | inr g ↦ inr (omega (arith, h, g)) ] in
    elim (cases_eq (M.copy m).serial s) [
      | inr ne ↦
          elim (last_begun pos M p s m) [
            | inl none ↦ inl (λ j h e l. elim (cut j h) [ inl b ↦ none j b e l | inr b ↦ ne (ap (λ (z : ℕ). (M.copy z).serial) (sym b) ∙ e) ])
            | inr r ↦ inr (r.0, (let b = r.1 in omega (arith, b)), r.2, r.3, (λ j h e l. elim (cut j h) [ inl b ↦ r.4 j b e l | inr b ↦ absurd (ne (ap (λ (z : ℕ). (M.copy z).serial) (sym b) ∙ e)) ]))
          ]
      | inl eq ↦
          elim (cases_lt p (pos (M.copy m).lo)) [
            | inl late ↦
                elim (last_begun pos M p s m) [
                  | inl none ↦ inl (λ j h e l. elim (cut j h) [ inl b ↦ none j b e l | inr b ↦ let q = ap (λ (z : ℕ). pos (M.copy z).lo) b in omega (arith, q, l, late) ])
                  | inr r ↦ inr (r.0, (let b = r.1 in omega (arith, b)), r.2, r.3, (λ j h e l. elim (cut j h) [ inl b ↦ r.4 j b e l | inr b ↦ let q = ap (λ (z : ℕ). pos (M.copy z).lo) b in omega (arith, q, late) ]))
                ]
            | inr begun ↦
                elim (last_begun pos M p s m) [
                  | inl none ↦
                      inr (
                        m,
                        omega arith,
                        eq,
                        begun,
                        (λ j h e l. elim (cut j h) [
                          | inl b ↦ elim (cases_lt p (pos (M.copy j).lo)) [ inl y ↦ y | inr y ↦ absurd (none j b e y) ]
                          | inr b ↦ let q = ap (λ (z : ℕ). pos (M.copy z).lo) b in absurd (omega (arith, q, l))
                        ]),
                      )
                  | inr r ↦
                      elim (cases_lt (pos (M.copy r.0).lo) (pos (M.copy m).lo)) [
                        | inl y ↦
                            inr (
                              m,
                              omega arith,
                              eq,
                              begun,
                              (λ j h e l. elim (cut j h) [
                                | inl b ↦ r.4 j b e (omega (arith, y, l))
                                | inr b ↦ let q = ap (λ (z : ℕ). pos (M.copy z).lo) b in absurd (omega (arith, q, l))
                              ]),
                            )
                        | inr y ↦
                            inr (
                              r.0,
                              (let b = r.1 in omega (arith, b)),
                              r.2,
                              r.3,
                              (λ j h e l. elim (cut j h) [
                                | inl b ↦ r.4 j b e l
                                | inr b ↦ let q = ap (λ (z : ℕ). pos (M.copy z).lo) b in absurd (omega (arith, q, l, y))
                              ]),
                            )
                      ]
                ]
          ]
    ]

pub born_served : (pos : ℕ → ℕ) (M : Copies) (p s : ℕ) → p < M.versions → Born pos M p s → Served pos M p s
born_served pos M p s h b =
    elim (last_begun pos M p s M.total) [
      | inl none ↦ absurd (none b.0 b.1 b.2 b.3)
      | inr r ↦ (r.0, (r.1, r.3, (λ j hj same l. r.4 j hj (same ∙ r.2) l), h), r.2)
    ]

pub one_only : (pos : ℕ → ℕ) (M : Copies) → Shaped pos M → (p i j : ℕ) → Serves pos M p i → Serves pos M p j → (M.copy i).serial ≡ (M.copy j).serial → i ≡ j
one_only pos M S p i j si sj same =
    elim (cases_lt (pos (M.copy i).lo) (pos (M.copy j).lo)) [
      | inl l ↦ absurd (let a = si.2 j sj.0 (sym same) l in let b = sj.1 in omega (arith, a, b))
      | inr g ↦
          elim (cases_lt (pos (M.copy j).lo) (pos (M.copy i).lo)) [
            | inl l ↦ absurd (let a = sj.2 i si.0 same l in let b = si.1 in omega (arith, a, b))
            | inr g' ↦ S.apart i j si.0 sj.0 same (omega (arith, g, g'))
          ]
    ]

pub one_serves : OneServes
one_serves pos M S p s h =
    (born_served pos M p s h, (λ b. (b.0, b.1.0, b.2, b.1.1)), (λ i j si sj ei ej. one_only pos M S.shape p i j si sj (ei ∙ sym ej)))

-- births where the serving copies of the two memories answer each other, each by one of the same serial
pub births_stay : BirthsStay
births_stay = (
  (λ pos M u k numbers S hu p s. (
    (λ b. (b.0, (let l = b.1 in omega (arith, l)), serial_old pos M u k numbers S hu b.0 b.1 ∙ b.2, (let a = lo_old pos M u k numbers S hu b.0 b.1 in let c = b.3 in omega (arith, a, c)))),
    (λ l. (M.total, omega arith, serial_new pos M u k numbers S hu M.total refl, (let a = lo_new pos M u k numbers S hu M.total refl in omega (arith, a, l)))),
    (λ b.
        elim (below pos M u k numbers S hu b.0 b.1) [
          | inl l ↦ inl (b.0, l, sym (serial_old pos M u k numbers S hu b.0 l) ∙ b.2, (let a = lo_old pos M u k numbers S hu b.0 l in let c = b.3 in omega (arith, a, c)))
          | inr e ↦ inr (sym b.2 ∙ serial_new pos M u k numbers S hu b.0 e, (let a = lo_new pos M u k numbers S hu b.0 e in let c = b.3 in omega (arith, a, c)))
        ]),
  )),
  (λ pos M c x S nc sv lt p s hp.
      let R = split_sound pos M c x S nc sv lt in (
        (λ b.
            let l : b.0 < M.total = b.1 in
            elim (cases_lt p (pos x)) [
              | inl h ↦ let t = born_served pos M p s hp b in let r = (R.1 p t.0 h t.1).0 in (t.0, r.0, split_serial pos M (serving pos M (pos x)) c x t.0 t.1.0 ∙ t.2, r.1)
              | inr h ↦ let t = born_served pos M p s hp b in let r = (R.2 p t.0 h t.1).0 in (swap c M.total t.0, r.0, split_swap pos M (serving pos M (pos x)) c x sv.0 t.0 t.1.0 ∙ t.2, r.1)
            ]),
        (λ b.
            let t = born_served pos (split pos c x M) p s hp b in
            elim (cases_lt p (pos x)) [
              | inl h ↦ let r = R.3 p t.0 h t.1 in (t.0, r.0, sym (split_serial pos M (serving pos M (pos x)) c x t.0 r.0) ∙ t.2, r.1)
              | inr h ↦
                  let r = R.4 p t.0 h t.1 in (
                    swap c M.total t.0,
                    r.0,
                    sym (split_swap pos M (serving pos M (pos x)) c x sv.0 (swap c M.total t.0) r.0) ∙ (ap (λ (z : ℕ). ((split pos c x M).copy z).serial) (swap_swap c M.total t.0) ∙ t.2),
                    r.1,
                  )
            ]),
      )),
  (λ pos pos' q M h0 hq shift S p s hp.
      let R = (open_sound pos pos' q M h0 hq shift S).1 in (
        (λ b. let t = born_served pos M (down q p) s (down_lt q p M.versions h0 hq hp) b in let r = (R p t.0).1 t.1 in (t.0, r.0, t.2, r.1)),
        (λ b. let t = born_served pos' (opened M) p s hp b in let r = (R p t.0).0 t.1 in (t.0, r.0, t.2, r.1)),
      )),
)
