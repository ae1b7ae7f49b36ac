-- The next copy of each copy, and what each step does to it.
use Rattle.std.proofs.Common.{◌≡◌, ℕ, suc, ◌<◌, ◌≤◌, Bool, true, leb, ◌⊎◌, Some, None, Option, sym, refl, ap, ◌∙◌, subst, inl, inr, arith}
use Rattle.std.proofs.lemmas.Bool.{cases_lt, cases_Bool, cases_eq, eq-eqb, ne_eqb, lt-ltb}
use Rattle.slices.specs.Copies.{Copy, Copies, Serves, serving, Sound}
use Rattle.slices.specs.Splits.{naming, renamed_copy, split}
use Rattle.slices.specs.Openings.{opened, up}
use Rattle.slices.specs.Births.{make_node}
use Rattle.slices.specs.Threads.{NextIs, Threaded, owns, OwnsServes, split_next, make_next, ThreadsStay}
use Rattle.slices.proofs.Serving.{lt_is}
use Rattle.slices.proofs.Splitting.{copy_new, copy_old, copy_else, split_serial, split_new}
use Rattle.slices.proofs.Opening.{up_mono, up_cancel, up_mono_le}

owns_none : (pos : ℕ → ℕ) (M : Copies) (p i : ℕ) → i < M.total → pos (M.copy i).lo ≤ p → p < M.versions → (o : Option ℕ) → NextIs pos M i o
    → (Serves pos M p i → owns pos M p o ≡ true) × (owns pos M p o ≡ true → Serves pos M p i)
owns_none pos M p i hi lo hp None h = ((λ _. refl), (λ _. (hi, lo, (λ j hj same less. absurd (h j hj same less)), hp)))
owns_none pos M p i hi lo hp (Some n) h = (
  (λ s. lt-ltb p (pos (M.copy n).lo) (s.2 n h.0 h.1 h.2)),
  (λ t.
      let l = lt_is p (pos (M.copy n).lo) t in
      (hi, lo, (λ j hj same less. let q = h.3 j hj same less in omega (arith, q, l)), hp)),
)

pub owns_serves : OwnsServes
owns_serves pos M next T p i hi lo hp = owns_none pos M p i hi lo hp (next i) (T i hi)

-- copies that keep serial numbers and first versions
like : (pos : ℕ → ℕ) (M D : Copies) (i : ℕ) → D.total ≡ M.total → ((j : ℕ) → (D.copy j).serial ≡ (M.copy j).serial) → ((j : ℕ) → (D.copy j).lo ≡ (M.copy j).lo)
    → (o : Option ℕ) → NextIs pos M i o → NextIs pos D i o
like pos M D i et es el None h = λ j hj same less.
    let a = ap pos (el i) in let b = ap pos (el j) in
    h j (omega (arith, hj, et)) (sym (es j) ∙ (same ∙ es i)) (omega (arith, less, a, b))
like pos M D i et es el (Some n) h =
    let a = ap pos (el i) in let b = ap pos (el n) in let h0 = h.0 in let h2 = h.2 in (
      omega (arith, h0, et),
      es n ∙ (h.1 ∙ sym (es i)),
      omega (arith, h2, a, b),
      (λ j hj same less.
          let e = ap pos (el j) in
          let q = h.3 j (omega (arith, hj, et)) (sym (es j) ∙ (same ∙ es i)) (omega (arith, less, a, e)) in
          omega (arith, q, b, e)),
    )

-- the first versions after a split
renamed_lo : (pos : ℕ → ℕ) (c d x : ℕ) (here : Bool) (k : Copy) → (renamed_copy pos naming c d x here k).lo ≡ k.lo
renamed_lo pos c d x here k = elim (cases_Bool (leb (pos x) (pos k.lo))) [ inl t ↦ rw t refl | inr t ↦ rw t refl ]

module _ (pos : ℕ → ℕ) (M : Copies) (c x : ℕ) (next : ℕ → Option ℕ) (S : Sound pos M) (sv : Serves pos M (pos x) c) (lt : pos (M.copy c).lo < pos x) (T : Threaded pos M next) where
  abbrev here : ℕ → Bool
  here = serving pos M (pos x)

  abbrev D : Copies
  D = split pos c x M

  lo_old : (i : ℕ) → i < M.total → (D.copy i).lo ≡ (M.copy i).lo
  lo_old i h =
      elim (cases_eq i c) [
        | inl e ↦ subst (λ (z : ℕ). (D.copy z).lo ≡ (M.copy z).lo) (sym e) (ap (λ (k : Copy). k.lo) (copy_old pos M here c x sv.0) ∙ renamed_lo pos c M.total x (here c) (M.copy c))
        | inr n ↦ ap (λ (k : Copy). k.lo) (copy_else pos M here c x i h n) ∙ renamed_lo pos c M.total x (here i) (M.copy i)
      ]

  lo_new : (D.copy M.total).lo ≡ x
  lo_new = ap (λ (k : Copy). k.lo) (copy_new pos M here c x)

  ser_old : (i : ℕ) → i < M.total → (D.copy i).serial ≡ (M.copy i).serial
  ser_old i h = split_serial pos M here c x i h

  ser_new : (D.copy M.total).serial ≡ (M.copy c).serial
  ser_new = split_new pos M here c x

  below : (j : ℕ) → j < suc M.total → (j < M.total) ⊎ (j ≡ M.total)
  below j h = elim (cases_lt j M.total) [ inl l ↦ inl l | inr g ↦ inr (omega (arith, h, g)) ]

  -- an old copy of c's serial number that begins behind c begins behind x
  far : (j : ℕ) → j < M.total → (M.copy j).serial ≡ (M.copy c).serial → pos (M.copy c).lo < pos (M.copy j).lo → pos x < pos (M.copy j).lo
  far j hj same less = sv.2 j hj same less

  n_apart : (i : ℕ) → i < M.total → (i ≡ c → ⊥) → (M.copy c).serial ≡ (M.copy i).serial → pos (M.copy i).lo ≡ pos (M.copy c).lo → ⊥
  n_apart i hi n same e = n (S.shape.apart i c hi sv.0 (sym same) e)

  from_c : (o : Option ℕ) → NextIs pos M c o → NextIs pos D M.total o
  from_c None h = λ j hj same less.
      elim (below j hj) [
        | inl l ↦ let a = ap pos lo_new in let b = ap pos (lo_old j l) in h j l (sym (ser_old j l) ∙ (same ∙ ser_new)) (omega (arith, less, a, b, lt))
        | inr e ↦ let a = ap (λ (z : ℕ). pos (D.copy z).lo) e in omega (arith, less, a)
      ]
  from_c (Some n) h =
      let a = ap pos lo_new in let b = ap pos (lo_old n h.0) in let h0 = h.0 in let f = far n h.0 h.1 h.2 in (
        omega (arith, h0),
        ser_old n h.0 ∙ (h.1 ∙ sym ser_new),
        omega (arith, a, b, f),
        (λ j hj same less.
            elim (below j hj) [
              | inl l ↦ let e = ap pos (lo_old j l) in let q = h.3 j l (sym (ser_old j l) ∙ (same ∙ ser_new)) (omega (arith, less, a, e, lt)) in omega (arith, q, b, e)
              | inr e ↦ let z = ap (λ (z : ℕ). pos (D.copy z).lo) e in absurd (omega (arith, less, z))
            ]),
      )

  of_c : NextIs pos D c (Some M.total)
  of_c =
      let a = ap pos lo_new in let b = ap pos (lo_old c sv.0) in (
        omega arith,
        ser_new ∙ sym (ser_old c sv.0),
        omega (arith, a, b, lt),
        (λ j hj same less.
            elim (below j hj) [
              | inl l ↦ let e = ap pos (lo_old j l) in let q = far j l (sym (ser_old j l) ∙ (same ∙ ser_old c sv.0)) (omega (arith, less, b, e)) in omega (arith, q, a, e)
              | inr e ↦ let z = ap (λ (z : ℕ). pos (D.copy z).lo) e in omega (arith, z)
            ]),
      )

  of_other : (i : ℕ) → i < M.total → (i ≡ c → ⊥) → (o : Option ℕ) → NextIs pos M i o → NextIs pos D i o
  of_other i hi n None h = λ j hj same less.
      let b = ap pos (lo_old i hi) in
      elim (below j hj) [
        | inl l ↦ let e = ap pos (lo_old j l) in h j l (sym (ser_old j l) ∙ (same ∙ ser_old i hi)) (omega (arith, less, b, e))
        | inr e ↦
            let z = ap (λ (z : ℕ). pos (D.copy z).lo) e in
            let a = ap pos lo_new in
            let same' : (M.copy c).serial ≡ (M.copy i).serial = sym ser_new ∙ (ap (λ (z : ℕ). (D.copy z).serial) (sym e) ∙ (same ∙ ser_old i hi)) in
            elim (cases_lt (pos (M.copy i).lo) (pos (M.copy c).lo)) [
              | inl l ↦ h c sv.0 same' l
              | inr g ↦
                  elim (cases_lt (pos (M.copy c).lo) (pos (M.copy i).lo)) [
                    | inl l ↦ let q = far i hi (sym same') l in omega (arith, q, less, z, a, b)
                    | inr g' ↦ n_apart i hi n same' (omega (arith, g, g'))
                  ]
            ]
      ]
  of_other i hi n (Some m) h =
      let b = ap pos (lo_old i hi) in let e0 = ap pos (lo_old m h.0) in let h0 = h.0 in let h2 = h.2 in (
        omega (arith, h0),
        ser_old m h.0 ∙ (h.1 ∙ sym (ser_old i hi)),
        omega (arith, h2, b, e0),
        (λ j hj same less.
            elim (below j hj) [
              | inl l ↦ let e = ap pos (lo_old j l) in let q = h.3 j l (sym (ser_old j l) ∙ (same ∙ ser_old i hi)) (omega (arith, less, b, e)) in omega (arith, q, e0, e)
              | inr e ↦
                  let z = ap (λ (z : ℕ). pos (D.copy z).lo) e in
                  let a = ap pos lo_new in
                  let same' : (M.copy c).serial ≡ (M.copy i).serial = sym ser_new ∙ (ap (λ (z : ℕ). (D.copy z).serial) (sym e) ∙ (same ∙ ser_old i hi)) in
                  elim (cases_lt (pos (M.copy i).lo) (pos (M.copy c).lo)) [
                    | inl l ↦ let q = h.3 c sv.0 same' l in omega (arith, q, z, a, e0, lt)
                    | inr g ↦
                        elim (cases_lt (pos (M.copy c).lo) (pos (M.copy i).lo)) [
                          | inl l ↦ absurd (let q = far i hi (sym same') l in omega (arith, q, less, z, a, b))
                          | inr g' ↦ absurd (n_apart i hi n same' (omega (arith, g, g')))
                        ]
                  ]
            ]),
      )

  split_threaded : Threaded pos D (split_next c M.total next)
  split_threaded i hi =
      elim (below i hi) [
        | inr e ↦ subst (λ (z : ℕ). NextIs pos D z (split_next c M.total next z)) (sym e) (rw (eq-eqb M.total M.total refl) (from_c (next c) (T c sv.0)))
        | inl l ↦
            let nt : i ≡ M.total → ⊥ = λ e. omega (arith, l, e) in
            rw (ne_eqb i M.total nt)
            (elim (cases_eq i c) [
              | inl e ↦ rw (eq-eqb i c e) (subst (λ (z : ℕ). NextIs pos D z (Some M.total)) (sym e) of_c)
              | inr n ↦ rw (ne_eqb i c n) (of_other i l n (next i) (T i l))
            ])
      ]

-- a new node
module _ (pos : ℕ → ℕ) (M : Copies) (u k : ℕ) (numbers : ℕ → ℕ) (next : ℕ → Option ℕ) (S : Sound pos M) (T : Threaded pos M next) where
  abbrev E : Copies
  E = make_node u k numbers M

  old_is : (i : ℕ) → i < M.total → E.copy i ≡ M.copy i
  old_is i h = rw (ne_eqb i M.total (λ e. omega (arith, h, e))) refl

  new_serial : (E.copy M.total).serial ≡ suc M.made
  new_serial = rw (eq-eqb M.total M.total refl) refl

  under : (j : ℕ) → j < suc M.total → (j < M.total) ⊎ (j ≡ M.total)
  under j h = elim (cases_lt j M.total) [ inl l ↦ inl l | inr g ↦ inr (omega (arith, h, g)) ]

  unlike : (i j : ℕ) → i < M.total → j ≡ M.total → (E.copy j).serial ≡ (E.copy i).serial → ⊥
  unlike i j h e same =
      let a = S.shape.fewer i h in
      let b = ap (λ (c : Copy). c.serial) (old_is i h) in
      let d = ap (λ (z : ℕ). (E.copy z).serial) e ∙ new_serial in
      omega (arith, a, b, d, same)

  keeps : (i : ℕ) → i < M.total → (o : Option ℕ) → NextIs pos M i o → NextIs pos E i o
  keeps i hi None h = λ j hj same less.
      elim (under j hj) [
        | inl l ↦
            let a = ap (λ (c : Copy). pos c.lo) (old_is i hi) in let b = ap (λ (c : Copy). pos c.lo) (old_is j l) in
            h j l (sym (ap (λ (c : Copy). c.serial) (old_is j l)) ∙ (same ∙ ap (λ (c : Copy). c.serial) (old_is i hi))) (omega (arith, less, a, b))
        | inr e ↦ unlike i j hi e same
      ]
  keeps i hi (Some n) h =
      let a = ap (λ (c : Copy). pos c.lo) (old_is i hi) in let b = ap (λ (c : Copy). pos c.lo) (old_is n h.0) in let h0 = h.0 in let h2 = h.2 in (
        omega (arith, h0),
        ap (λ (c : Copy). c.serial) (old_is n h.0) ∙ (h.1 ∙ sym (ap (λ (c : Copy). c.serial) (old_is i hi))),
        omega (arith, h2, a, b),
        (λ j hj same less.
            elim (under j hj) [
              | inl l ↦
                  let e = ap (λ (c : Copy). pos c.lo) (old_is j l) in
                  let q = h.3 j l (sym (ap (λ (c : Copy). c.serial) (old_is j l)) ∙ (same ∙ ap (λ (c : Copy). c.serial) (old_is i hi))) (omega (arith, less, a, e)) in
                  omega (arith, q, b, e)
              | inr e ↦ absurd (unlike i j hi e same)
            ]),
      )

  make_threaded : Threaded pos E (make_next M.total next)
  make_threaded i hi =
      elim (under i hi) [
        | inr e ↦
            rw (eq-eqb i M.total e)
            (λ j hj same less.
            elim (under j hj) [
              | inl l ↦ unlike j i l e (sym same)
              | inr q ↦ let z = ap (λ (y : ℕ). pos (E.copy y).lo) (q ∙ sym e) in omega (arith, less, z)
            ])
        | inl l ↦ rw (ne_eqb i M.total (λ e. omega (arith, l, e))) (keeps i l (next i) (T i l))
      ]

-- a new version
moved : (pos pos' : ℕ → ℕ) (q : ℕ) (M : Copies) → Sound pos M → ((v : ℕ) → pos v < M.versions → pos' v ≡ up q (pos v)) → (i : ℕ) → i < M.total → (o : Option ℕ) → NextIs pos M i o
    → NextIs pos' (opened M) i o
moved pos pos' q M S shift i hi None h = λ j hj same less.
    let a = shift (M.copy i).lo (S.shape.known i hi) in let b = shift (M.copy j).lo (S.shape.known j hj) in
    h j hj same (up_cancel q (pos (M.copy i).lo) (pos (M.copy j).lo) (omega (arith, less, a, b)))
moved pos pos' q M S shift i hi (Some n) h =
    let a = shift (M.copy i).lo (S.shape.known i hi) in let b = shift (M.copy n).lo (S.shape.known n h.0) in
    let u = up_mono q (pos (M.copy i).lo) (pos (M.copy n).lo) h.2 in (
      h.0,
      h.1,
      omega (arith, u, a, b),
      (λ j hj same less.
          let e = shift (M.copy j).lo (S.shape.known j hj) in
          let z = up_mono_le q (pos (M.copy n).lo) (pos (M.copy j).lo) (h.3 j hj same (up_cancel q (pos (M.copy i).lo) (pos (M.copy j).lo) (omega (arith, less, a, e)))) in
          omega (arith, z, b, e)),
    )

pub threads_stay : ThreadsStay
threads_stay = (
  (λ pos M D next et es el T i hi. like pos M D i et es el (next i) (T i (omega (arith, hi, et)))),
  split_threaded,
  (λ pos M u k numbers next S T. make_threaded pos M u k numbers next S T),
  (λ pos pos' q M next S shift T i hi. moved pos pos' q M S shift i hi (next i) (T i hi)),
)
