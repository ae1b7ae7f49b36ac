-- Changes of fields at one version: every other slice stays.
use Rattle.std.proofs.Common.{◌≡◌, ℕ, suc, ◌<◌, ◌≤◌, Bool, true, false, cond, eqb, List, [], ◌∷◌, sym, refl, ap, ◌∙◌, subst, inl, inr, arith}
use Rattle.std.proofs.lemmas.Bool.{cases_lt, cases_Bool, cases_eq, eq-eqb, ne_eqb}
use Rattle.fields.specs.declared.kinds.Value.{Value}
use Rattle.entries.specs.Entries.{keep, has, EachVersion}
use Rattle.entries.proofs.Versions.{each_like, each_put}
use Rattle.slices.specs.Slices.{with_value}
use Rattle.slices.specs.Copies.{Copy, Copies, value_at, Serves, CopyOk, CoherentAt, Shaped}
use Rattle.slices.specs.Changes.{changed, NextServed, set_field, SetFieldSlices, FieldWrite, set_all, with_values, EachTarget, SetAllSound}
use Rattle.slices.proofs.Swapping.{good_agree}
use Rattle.slices.proofs.Cells.{with_cases, with_other}
use Rattle.slices.proofs.Changing.{changed_reads}

module _ (pos : ℕ → ℕ) (M : Copies) (u s i f : ℕ) (more : Bool) (w : Value) (S : Shaped pos M) (sv : Serves pos M (pos u) i) (next : NextServed pos M u s more i) where
  here : (set_field pos u s more i f w M).copy i ≡ changed pos u s more f w (M.copy i)
  here = rw (eq-eqb i i refl)

  there : (j : ℕ) → (j ≡ i → ⊥) → (set_field pos u s more i f w M).copy j ≡ M.copy j
  there j n = rw (ne_eqb j i n)

  serial_kept : (j : ℕ) → ((set_field pos u s more i f w M).copy j).serial ≡ (M.copy j).serial
  serial_kept j =
      elim (cases_eq j i) [
        | inl e ↦ subst (λ (z : ℕ). ((set_field pos u s more i f w M).copy z).serial ≡ (M.copy z).serial) (sym e) (ap (λ (k : Copy). k.serial) here)
        | inr n ↦ ap (λ (k : Copy). k.serial) (there j n)
      ]

  lo_kept : (j : ℕ) → ((set_field pos u s more i f w M).copy j).lo ≡ (M.copy j).lo
  lo_kept j =
      elim (cases_eq j i) [
        | inl e ↦ subst (λ (z : ℕ). ((set_field pos u s more i f w M).copy z).lo ≡ (M.copy z).lo) (sym e) (ap (λ (k : Copy). k.lo) here)
        | inr n ↦ ap (λ (k : Copy). k.lo) (there j n)
      ]

  to_new : (p j : ℕ) → Serves pos M p j → Serves pos (set_field pos u s more i f w M) p j
  to_new p j r =
      let lj = ap pos (lo_kept j) in (
        r.0,
        subst (λ (z : ℕ). z ≤ p) (sym lj) r.1,
        (λ t ht same less.
            let lt = ap pos (lo_kept t) in
            subst (λ (z : ℕ). p < z) (sym lt) (r.2 t ht (sym (serial_kept t) ∙ (same ∙ serial_kept j)) (omega (arith, less, lj, lt)))),
        r.3,
      )

  to_old : (p j : ℕ) → Serves pos (set_field pos u s more i f w M) p j → Serves pos M p j
  to_old p j r =
      let lj = ap pos (lo_kept j) in (
        r.0,
        subst (λ (z : ℕ). z ≤ p) lj r.1,
        (λ t ht same less.
            let lt = ap pos (lo_kept t) in
            subst (λ (z : ℕ). p < z) lt (r.2 t ht (serial_kept t ∙ (same ∙ sym (serial_kept j))) (omega (arith, less, lj, lt)))),
        r.3,
      )

  -- a position that i serves past u is served by more than u
  no_more : (p : ℕ) → Serves pos M p i → more ≡ false → p < suc (pos u)
  no_more p r m =
      elim (cases_lt p (suc (pos u))) [
        | inl l ↦ l
        | inr g ↦
            let low = sv.1 in
            let top = r.3 in
            let t = next.1.0 (sv.0, omega (arith, low), (λ j hj same less. let z = r.2 j hj same less in omega (arith, z, g)), omega (arith, top, g)) in
            absurd (let z : ◌≡◌ {A = ℕ} 0 1 = cc in omega arith)
      ]

  each_changed : (P : ℕ → Type 0) → P u → (more ≡ true → P s) → EachVersion P (M.copy i).entries → EachVersion P (changed pos u s more f w (M.copy i)).entries
  each_changed P pu ps h =
      let K : EachVersion P (cond more (keep pos f s (value_at pos (pos u) (M.copy i) f) (M.copy i).entries) (M.copy i).entries) =
      elim (cases_Bool more) [
        | inl m ↦ rw m (elim (cases_Bool (has pos f (pos s) (M.copy i).entries)) [ inl t ↦ rw t h | inr t ↦ rw t (each_put P pos f s _ _ (ps m) h) ])
        | inr m ↦ rw m h
      ] in
      elim (cases_Bool (eqb (pos u) (pos (M.copy i).lo))) [ inl t ↦ rw t K | inr t ↦ rw t (each_put P pos f u w _ pu K) ]

  shaped : Shaped pos (set_field pos u s more i f w M)
  shaped = record {
    copies = λ j h.
        elim (cases_eq j i) [
          | inl e ↦ subst (λ (z : ℕ). CopyOk pos ((set_field pos u s more i f w M).copy z)) (sym e) (subst (λ (k : Copy). CopyOk pos k) (sym here) (changed_reads pos (M.copy i) u s f more w (S.copies i sv.0) sv.1 next.0).0)
          | inr n ↦ subst (λ (k : Copy). CopyOk pos k) (sym (there j n)) (S.copies j h)
        ];
    known = λ j h. subst (λ (z : ℕ). pos z < M.versions) (sym (lo_kept j)) (S.known j h);
    fewer = λ j h. subst (λ (z : ℕ). z ≤ M.made) (sym (serial_kept j)) (S.fewer j h);
    some = S.some;
    root_serial = serial_kept 0 ∙ S.root_serial;
    root_lo = ap pos (lo_kept 0) ∙ S.root_lo;
    root_only = λ j h e. S.root_only j h (sym (serial_kept j) ∙ e);
    apart = λ a b ha hb same e. S.apart a b ha hb (sym (serial_kept a) ∙ (same ∙ serial_kept b)) (sym (ap pos (lo_kept a)) ∙ (e ∙ ap pos (lo_kept b)));
    hosted = λ j h.
        elim (cases_eq j i) [
          | inl e ↦
              subst (λ (z : ℕ). EachVersion (λ v. Serves pos (set_field pos u s more i f w M) (pos v) z) ((set_field pos u s more i f w M).copy z).entries) (sym e)
              (subst (λ (k : Copy). EachVersion (λ v. Serves pos (set_field pos u s more i f w M) (pos v) i) k.entries) (sym here)
              (each_changed (λ v. Serves pos (set_field pos u s more i f w M) (pos v) i) (to_new (pos u) i sv) (λ m. subst (λ (z : ℕ). Serves pos (set_field pos u s more i f w M) z i) (sym (next.0 m)) (to_new (suc (pos u)) i (next.1.1 m)))
              (each_like _ _ _ (λ v. to_new (pos v) i) (S.hosted i sv.0))))
          | inr n ↦
              subst (λ (k : Copy). EachVersion (λ v. Serves pos (set_field pos u s more i f w M) (pos v) j) k.entries) (sym (there j n))
              (each_like (λ v. Serves pos M (pos v) j) (λ v. Serves pos (set_field pos u s more i f w M) (pos v) j) _ (λ v. to_new (pos v) j) (S.hosted j h))
        ];
  }

  elsewhere : (p j g : ℕ) → Serves pos M p j → (p ≡ pos u → j ≡ i → g ≡ f → ⊥) → value_at pos p ((set_field pos u s more i f w M).copy j) g ≡ value_at pos p (M.copy j) g
  elsewhere p j g r n =
      elim (cases_eq j i) [
        | inl e ↦
            let ri = subst (λ (z : ℕ). Serves pos M p z) e r in
            subst (λ (z : ℕ). value_at pos p ((set_field pos u s more i f w M).copy z) g ≡ value_at pos p (M.copy z) g) (sym e)
            (ap (λ (k : Copy). value_at pos p k g) here
            ∙ elim (cases_eq g f) [
              | inl q ↦
                  subst (λ (z : ℕ). value_at pos p (changed pos u s more f w (M.copy i)) z ≡ value_at pos p (M.copy i) z) (sym q)
                  ((changed_reads pos (M.copy i) u s f more w (S.copies i sv.0) sv.1 next.0).2 p ri.1 (λ z. n z e q) (no_more p ri))
              | inr q ↦ (changed_reads pos (M.copy i) u s f more w (S.copies i sv.0) sv.1 next.0).3 p g (λ z. q (sym z))
            ])
        | inr m ↦ ap (λ (k : Copy). value_at pos p k g) (there j m)
      ]

pub set_field-slices : SetFieldSlices
set_field-slices pos M u s i f more w S sv next = (
  shaped pos M u s i f more w S sv next,
  (λ p j. (to_new pos M u s i f more w S sv next p j, to_old pos M u s i f more w S sv next p j)),
  (ap (λ (k : Copy). value_at pos (pos u) k f) (here pos M u s i f more w S sv next) ∙ (changed_reads pos (M.copy i) u s f more w (S.copies i sv.0) sv.1 next.0).1),
  elsewhere pos M u s i f more w S sv next,
)

-- what one write leaves at u, as an update
one_write : (pos : ℕ → ℕ) (M : Copies) (u s i f : ℕ) (more : Bool) (w : Value) (S : Shaped pos M) (sv : Serves pos M (pos u) i) (next : NextServed pos M u s more i)
    (j g : ℕ) → Serves pos M (pos u) j → value_at pos (pos u) ((set_field pos u s more i f w M).copy j) g ≡ with_value (λ a c. value_at pos (pos u) (M.copy a) c) i f w j g
one_write pos M u s i f more w S sv next j g r =
    let R = set_field-slices pos M u s i f more w S sv next in
    elim (with_cases (λ a c. value_at pos (pos u) (M.copy a) c) i f w j g) [
      | inl h ↦
          subst (λ (z : ℕ). value_at pos (pos u) ((set_field pos u s more i f w M).copy z) g ≡ with_value (λ a c. value_at pos (pos u) (M.copy a) c) i f w j g) (sym h.0)
          (subst (λ (z : ℕ). value_at pos (pos u) ((set_field pos u s more i f w M).copy i) z ≡ with_value (λ a c. value_at pos (pos u) (M.copy a) c) i f w j g) (sym h.1) (R.2 ∙ sym h.2))
      | inr h ↦ R.3 (pos u) j g r (λ _. h.0) ∙ sym h.1
    ]

-- updates of two tables that agree on a row agree on it
values_agree : (P : ℕ → Type 0) (ws : List FieldWrite) (get get' : ℕ → ℕ → Value) → ((j g : ℕ) → P j → get' j g ≡ get j g) → (j g : ℕ) → P j → with_values ws get' j g ≡ with_values ws get j g
values_agree P [] get get' same j g h = same j g h
values_agree P (w ∷ ws) get get' same j g h =
    values_agree P ws (with_value get w.copy w.field w.value) (with_value get' w.copy w.field w.value)
    (λ a c q.
    elim (with_cases get w.copy w.field w.value a c) [
      | inl e ↦
          elim (with_cases get' w.copy w.field w.value a c)
          [ inl e' ↦ e'.2 ∙ sym e.2 | inr e' ↦ absurd (e'.0 e.0 e.1) ]
      | inr e ↦ with_other get' w.copy w.field w.value a c e.0 ∙ (same a c q ∙ sym e.1)
    ])
    j g h

targets_like : (P Q : ℕ → Type 0) (ws : List FieldWrite) → ((i : ℕ) → P i → Q i) → EachTarget P ws → EachTarget Q ws
targets_like P Q [] g h = tt
targets_like P Q (w ∷ ws) g h = (g w.copy h.0, targets_like P Q ws g h.1)

pub record Wrote (pos : ℕ → ℕ) (u : ℕ) (ws : List FieldWrite) (M D : Copies) : Type 0 where
  pub shape : Shaped pos D
  pub fwd : (p j : ℕ) → Serves pos M p j → Serves pos D p j
  pub bwd : (p j : ℕ) → Serves pos D p j → Serves pos M p j
  pub here : (j g : ℕ) → Serves pos M (pos u) j → value_at pos (pos u) (D.copy j) g ≡ with_values ws (λ a c. value_at pos (pos u) (M.copy a) c) j g
  pub there : (p j g : ℕ) → (p ≡ pos u → ⊥) → Serves pos M p j → value_at pos p (D.copy j) g ≡ value_at pos p (M.copy j) g

pub wrote : (pos : ℕ → ℕ) (u s : ℕ) (more : ℕ → Bool) (ws : List FieldWrite) (M : Copies) → Shaped pos M
    → ((i : ℕ) → i < M.total → NextServed pos M u s (more i) i) → EachTarget (Serves pos M (pos u)) ws → Wrote pos u ws M (set_all pos u s more ws M)
wrote pos u s more [] M S next on = record { shape = S; fwd = λ p j r. r; bwd = λ p j r. r; here = λ j g r. refl; there = λ p j g n r. refl }
wrote pos u s more (w ∷ ws) M S next on =
    let A = set_field-slices pos M u s w.copy w.field (more w.copy) w.value S on.0 (next w.copy on.0.0) in
    let N = set_field pos u s (more w.copy) w.copy w.field w.value M in
    let next' : (i : ℕ) → i < N.total → NextServed pos N u s (more i) i =
    λ i h. ((next i h).0, ((λ r. (next i h).1.0 ((A.1 (suc (pos u)) i).1 r)), (λ e. (A.1 (suc (pos u)) i).0 ((next i h).1.1 e)))) in
    let B = wrote pos u s more ws N A.0 next' (targets_like (Serves pos M (pos u)) (Serves pos N (pos u)) ws (λ i r. (A.1 (pos u) i).0 r) on.1) in
    record {
      shape = B.shape;
      fwd = λ p j r. B.fwd p j ((A.1 p j).0 r);
      bwd = λ p j r. (A.1 p j).1 (B.bwd p j r);
      here = λ j g r.
          B.here j g ((A.1 (pos u) j).0 r)
          ∙ values_agree (Serves pos M (pos u)) ws (with_value (λ a c. value_at pos (pos u) (M.copy a) c) w.copy w.field w.value) (λ a c. value_at pos (pos u) (N.copy a) c)
          (λ a c q. one_write pos M u s w.copy w.field (more w.copy) w.value S on.0 (next w.copy on.0.0) a c q) j g r;
      there = λ p j g n r. B.there p j g n ((A.1 p j).0 r) ∙ A.3 p j g r (λ e. absurd (n e));
    }

pub set_all-sound : SetAllSound
set_all-sound pos u s more ws M S next on G =
    let W = wrote pos u s more ws M S.shape next on in
    let D = set_all pos u s more ws M in (
      record {
        shape = W.shape;
        good = λ p.
            elim (cases_eq p (pos u)) [
              | inl e ↦
                  subst (λ (z : ℕ). CoherentAt pos D z) (sym e)
                  (good_agree (Serves pos M (pos u)) (Serves pos D (pos u))
                  (with_values ws (λ a c. value_at pos (pos u) (M.copy a) c)) (λ a c. value_at pos (pos u) (D.copy a) c)
                  (W.fwd (pos u)) (W.bwd (pos u)) (λ a c r. W.here a c r) G)
              | inr n ↦
                  good_agree (Serves pos M p) (Serves pos D p) (λ a c. value_at pos p (M.copy a) c) (λ a c. value_at pos p (D.copy a) c)
                  (W.fwd p) (W.bwd p) (λ a c r. W.there p a c n r) (S.good p)
            ];
      },
      (λ p i. (W.fwd p i, W.bwd p i)),
      (λ i f r. W.here i f r),
      (λ p i f n r. W.there p i f n r),
    )
