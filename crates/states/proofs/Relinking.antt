-- The change of a link and of a number keeps soundness; a third link is exactly what is crowded.
use Rattle.std.proofs.Common.{◌≡◌, ℕ, suc, ◌<◌, true, false, eqb, ◌⊎◌, List, [], ◌∷◌, ◌++◌, sym, refl, ap, ◌∙◌, subst, inl, inr, arith}
use Rattle.std.proofs.lemmas.Bool.{cases_Bool}
use Rattle.fields.specs.declared.kinds.Value.{Value}
use Rattle.fields.specs.declared.kinds.Value.TheVariants.{Number, Nil, To, From}
use Rattle.fields.specs.Fields.{number, is_nil, is_link, suits, HasLink, Shown}
use Rattle.entries.specs.Entries.{both}
use Rattle.slices.specs.Slices.{Coherent, with_value}
use Rattle.slices.specs.Copies.{Copies, Serves, serving}
use Rattle.slices.specs.Changes.{NextServed, FieldWrite, with_values, EachTarget}
use Rattle.slices.proofs.Swapping.{good_agree, nil_is}
use Rattle.slices.proofs.Serving.{both_true, both_false, serving_tells}
use Rattle.slices.proofs.Cells.{with_cases, with_same, with_other}
use Rattle.slices.proofs.FieldWrites.{set_all-sound}
use Rattle.states.specs.Relinks.{not, is_from, write, saying, free, emptied, relinked, taken, crowded, slice, Behind, RelinkSound, TwoOthers, CrowdedMeans, SetNumberSound}
use Rattle.states.proofs.Linking.{clash, from_same, good_link, good_unlink, good_number}

pub from_is : (i l : ℕ) (v : Value) → is_from i l v ≡ true → v ≡ From i l
from_is i l (Number n) h = absurd (let z : ◌≡◌ {A = ℕ} 0 1 = cc in omega arith)
from_is i l Nil h = absurd (let z : ◌≡◌ {A = ℕ} 0 1 = cc in omega arith)
from_is i l (To k) h = absurd (let z : ◌≡◌ {A = ℕ} 0 1 = cc in omega arith)
from_is i l (From a m) h =
    let p : a ≡ i = grind arith in
    let q : m ≡ l = grind arith in
    ap (λ (z : ℕ). From z m) p ∙ ap (From i) q

pub is_from_lem : (i l : ℕ) (v : Value) → v ≡ From i l → is_from i l v ≡ true
is_from_lem i l v e = ap (is_from i l) e ∙ (let z : both (eqb i i) (eqb l l) ≡ true = grind arith in z)

-- what the link's place holds is nil or a copy
spot_link : (i l : ℕ) (v : Value) → HasLink i l → suits i l v ≡ true → is_link v ≡ true
spot_link i l v s h = grind arith

link_is : (v : Value) → is_link v ≡ true → (v ≡ Nil) ⊎ ((k : ℕ) × (v ≡ To k))
link_is (Number n) h = absurd (let z : ◌≡◌ {A = ℕ} 0 1 = cc in omega arith)
link_is Nil h = inl refl
link_is (To k) h = inr (k, refl)
link_is (From a m) h = absurd (let z : ◌≡◌ {A = ℕ} 0 1 = cc in omega arith)

-- a slot that no other link has taken is nil, or says i and l
not_taken : (i l : ℕ) (v : Value) → taken i l v ≡ false → (v ≡ Nil) ⊎ (v ≡ From i l)
not_taken i l v h =
    elim (cases_Bool (is_nil v)) [
      | inl t ↦ inl (nil_is v t)
      | inr t ↦
          elim (cases_Bool (is_from i l v)) [
            | inl y ↦ inr (from_is i l v y)
            | inr y ↦ absurd (let q : taken i l v ≡ true = rw (t, y) in let z : ◌≡◌ {A = ℕ} 0 1 = cc in omega arith)
          ]
    ]

taken_by : (i l a m : ℕ) (v : Value) → v ≡ From a m → (a ≡ i → m ≡ l → ⊥) → taken i l v ≡ true
taken_by i l a m v e n = ap (taken i l) e ∙ (let z : both true (not (both (eqb a i) (eqb m l))) ≡ true = grind arith in z)

module _ (on : ℕ → Type 0) (get : ℕ → ℕ → Value) (G : Coherent on get) (i l : ℕ) (oi : on i) (hl : HasLink i l) where
  -- the slot that says i and l
  said : (k : ℕ) → get i l ≡ To k → on k × (get k (saying get k i l) ≡ From i l) × ((saying get k i l ≡ 3) ⊎ (saying get k i l ≡ 4))
  said k e =
      let h = G.named i l k oi e in
      elim (cases_Bool (is_from i l (get k 3))) [
        | inl t ↦ rw t (h.0, from_is i l (get k 3) t, inl refl)
        | inr t ↦ rw t (h.0, (elim h.1 [ inl q ↦ absurd (let y = is_from_lem i l (get k 3) q in let z : ◌≡◌ {A = ℕ} 0 1 = cc in omega arith) | inr q ↦ q ]), inr refl)
      ]

  -- the slot of k that says i and l is the one that is emptied
  saying_is : (k b : ℕ) → on k → (b ≡ 3) ⊎ (b ≡ 4) → get k b ≡ From i l → saying get k i l ≡ b
  saying_is k b ok hb e =
      elim hb [
        | inl q ↦ let t : is_from i l (get k 3) ≡ true = is_from_lem i l (get k 3) (ap (get k) (sym q) ∙ e) in rw t (sym q)
        | inr q ↦
            elim (cases_Bool (is_from i l (get k 3))) [
              | inl t ↦ clash _ i l (get k 3) (G.single k ok (from_is i l (get k 3) t ∙ sym (ap (get k) (sym q) ∙ e))) (from_is i l (get k 3) t)
              | inr t ↦ rw t (sym q)
            ]
      ]

  abbrev mid : ℕ → ℕ → Value
  mid = with_values (emptied get i l (get i l)) get

  nil_nothing : get i l ≡ Nil → (j f : ℕ) → mid j f ≡ get j f
  nil_nothing e j f = ap (λ (v : Value). with_values (emptied get i l v) get j f) e

  to_emptied : (k : ℕ) → get i l ≡ To k → (j f : ℕ) → mid j f ≡ with_value get k (saying get k i l) Nil j f
  to_emptied k e j f = ap (λ (v : Value). with_values (emptied get i l v) get j f) e

  held : (get i l ≡ Nil) ⊎ ((k : ℕ) × (get i l ≡ To k))
  held = link_is (get i l) (spot_link i l (get i l) hl (G.typed i l oi))

  with_like : (g g' : ℕ → ℕ → Value) (a c : ℕ) (v : Value) → ((j f : ℕ) → g j f ≡ g' j f) → (j f : ℕ) → with_value g a c v j f ≡ with_value g' a c v j f
  with_like g g' a c v same j f =
      elim (with_cases g a c v j f) [
        | inl h ↦ elim (with_cases g' a c v j f) [ inl h' ↦ h.2 ∙ sym h'.2 | inr h' ↦ absurd (h'.0 h.0 h.1) ]
        | inr h ↦ elim (with_cases g' a c v j f) [ inl h' ↦ absurd (h.0 h'.0 h'.1) | inr h' ↦ h.1 ∙ (same j f ∙ sym h'.1) ]
      ]

  with_twice : (g : ℕ → ℕ → Value) (a c : ℕ) (v w : Value) (j f : ℕ) → with_value (with_value g a c v) a c w j f ≡ with_value g a c w j f
  with_twice g a c v w j f =
      elim (with_cases g a c w j f) [
        | inl h ↦ elim (with_cases (with_value g a c v) a c w j f) [ inl h' ↦ h'.2 ∙ sym h.2 | inr h' ↦ absurd (h'.0 h.0 h.1) ]
        | inr h ↦ with_other (with_value g a c v) a c w j f h.0 ∙ (with_other g a c v j f h.0 ∙ sym h.1)
      ]

  with_idle : (g : ℕ → ℕ → Value) (a c : ℕ) (v : Value) → g a c ≡ v → (j f : ℕ) → with_value g a c v j f ≡ g j f
  with_idle g a c v e j f =
      elim (with_cases g a c v j f) [
        | inl h ↦ h.2 ∙ sym (ap (λ (z : ℕ). g z f) h.0 ∙ (ap (g a) h.1 ∙ e))
        | inr h ↦ h.1
      ]

  -- the link taken away
  good_cut : Coherent on (with_value mid i l Nil)
  good_cut =
      elim held [
        | inl e ↦
            good_agree on on get (with_value mid i l Nil) (λ j h. h) (λ j h. h)
            (λ j f _. with_like mid get i l Nil (nil_nothing e) j f ∙ with_idle get i l Nil e j f) G
        | inr h ↦
            let k = h.0 in
            let e = h.1 in
            let s = said k e in
            good_agree on on (with_value (with_value get k (saying get k i l) Nil) i l Nil) (with_value mid i l Nil) (λ j h. h) (λ j h. h)
            (λ j f _. with_like mid (with_value get k (saying get k i l) Nil) i l Nil (to_emptied k e) j f)
            (good_unlink on get G i l k (saying get k i l) oi hl e s.0 s.2 s.1)
      ]

  -- a slot that was free, or said i and l, is free now
  freed : (k b : ℕ) → on k → (b ≡ 3) ⊎ (b ≡ 4) → taken i l (get k b) ≡ false → mid k b ≡ Nil
  freed k b ok hb t =
      elim (not_taken i l (get k b) t) [
        | inl e ↦
            elim held [
              | inl q ↦ nil_nothing q k b ∙ e
              | inr h ↦
                  to_emptied h.0 h.1 k b
                  ∙ elim (with_cases get h.0 (saying get h.0 i l) Nil k b) [ inl z ↦ z.2 | inr z ↦ z.1 ∙ e ]
            ]
        | inr e ↦
            let q = (G.backed k b i l ok e).1 in
            to_emptied k q k b ∙ (ap (with_value get k (saying get k i l) Nil k) (sym (saying_is k b ok hb e)) ∙ with_same get k (saying get k i l) Nil)
      ]

  free_one : (k : ℕ) → on k → crowded get i l (To k) ≡ false → (mid k (free mid k) ≡ Nil) × ((free mid k ≡ 3) ⊎ (free mid k ≡ 4))
  free_one k ok c =
      elim (cases_Bool (is_nil (mid k 3))) [
        | inl t ↦ rw t (nil_is (mid k 3) t, inl refl)
        | inr t ↦
            rw t (
              (elim (both_false (taken i l (get k 3)) (taken i l (get k 4)) c) [
                | inl y ↦ absurd (let q : is_nil (mid k 3) ≡ true = ap is_nil (freed k 3 ok (inl refl) y) in let z : ◌≡◌ {A = ℕ} 0 1 = cc in omega arith)
                | inr y ↦ freed k 4 ok (inr refl) y
              ]),
              inr refl,
            )
      ]

  slot_not_spot : (b : ℕ) → (b ≡ 3) ⊎ (b ≡ 4) → b ≡ l → ⊥
  slot_not_spot b hb e = grind arith

  values_app : (xs ys : List FieldWrite) (g : ℕ → ℕ → Value) (j f : ℕ) → with_values (xs ++ ys) g j f ≡ with_values ys (with_values xs g) j f
  values_app [] ys g j f = refl
  values_app (x ∷ xs) ys g j f = values_app xs ys (with_value g x.copy x.field x.value) j f

  good_nil : Coherent on (with_values (relinked get i l Nil) get)
  good_nil =
      good_agree on on (with_value mid i l Nil) (with_values (relinked get i l Nil) get) (λ j h. h) (λ j h. h)
      (λ j f _. values_app (emptied get i l (get i l)) (write i l Nil ∷ []) get j f) good_cut

  good_to : (k : ℕ) → on k → (k ≡ 0 → ⊥) → crowded get i l (To k) ≡ false → Coherent on (with_values (relinked get i l (To k)) get)
  good_to k ok nk c =
      let fr = free_one k ok c in
      let b = free mid k in
      let free' : with_value mid i l Nil k b ≡ Nil = with_other mid i l Nil k b (λ _ e. slot_not_spot b fr.1 e) ∙ fr.0 in
      good_agree on on (with_value (with_value (with_value mid i l Nil) i l (To k)) k b (From i l)) (with_values (relinked get i l (To k)) get) (λ j h. h) (λ j h. h)
      (λ j f _.
      values_app (emptied get i l (get i l)) (write i l (To k) ∷ write k b (From i l) ∷ []) get j f
      ∙ with_like (with_value mid i l (To k)) (with_value (with_value mid i l Nil) i l (To k)) k b (From i l) (λ a g. sym (with_twice mid i l Nil (To k) a g)) j f)
      (good_link on (with_value mid i l Nil) good_cut i l k b oi hl (with_same mid i l Nil) ok nk fr.1 free')

  emptied_on : EachTarget on (emptied get i l (get i l))
  emptied_on =
      elim held [
        | inl e ↦ subst (λ (v : Value). EachTarget on (emptied get i l v)) (sym e) tt
        | inr h ↦ subst (λ (v : Value). EachTarget on (emptied get i l v)) (sym h.1) ((said h.0 h.1).0, tt)
      ]

  targets_app : (xs ys : List FieldWrite) → EachTarget on xs → EachTarget on ys → EachTarget on (xs ++ ys)
  targets_app [] ys a b = b
  targets_app (x ∷ xs) ys a b = (a.0, targets_app xs ys a.1 b)

  pub relinked_on : (v : Value) → (v ≡ Nil) ⊎ ((k : ℕ) × (v ≡ To k) × on k × (k ≡ 0 → ⊥)) → EachTarget on (relinked get i l v)
  relinked_on v h =
      elim h [
        | inl e ↦ subst (λ (z : Value). EachTarget on (relinked get i l z)) (sym e) (targets_app (emptied get i l (get i l)) (write i l Nil ∷ []) emptied_on (oi, tt))
        | inr q ↦ subst (λ (z : Value). EachTarget on (relinked get i l z)) (sym q.1) (targets_app (emptied get i l (get i l)) (write i l (To q.0) ∷ write q.0 (free mid q.0) (From i l) ∷ []) emptied_on (oi, (q.2, tt)))
      ]

  pub good_relinked : (v : Value) → (v ≡ Nil) ⊎ ((k : ℕ) × (v ≡ To k) × on k × (k ≡ 0 → ⊥)) → crowded get i l v ≡ false → Coherent on (with_values (relinked get i l v) get)
  good_relinked v h c =
      elim h [
        | inl e ↦ subst (λ (z : Value). Coherent on (with_values (relinked get i l z) get)) (sym e) good_nil
        | inr q ↦ subst (λ (z : Value). Coherent on (with_values (relinked get i l z) get)) (sym q.1) (good_to q.0 q.2 q.3 (subst (λ (z : Value). crowded get i l z ≡ false) q.1 c))
      ]

  -- a link or number other than the link l of i is not written
  emptied_far : (j f : ℕ) → Shown f → mid j f ≡ get j f
  emptied_far j f h =
      elim held [
        | inl e ↦ nil_nothing e j f
        | inr q ↦ to_emptied q.0 q.1 j f ∙ with_other get q.0 (saying get q.0 i l) Nil j f (λ _ e. elim (said q.0 q.1).2 [ inl s ↦ h.0 (e ∙ s) | inr s ↦ h.1 (e ∙ s) ])
      ]

  free_slot : (g : ℕ → ℕ → Value) (k : ℕ) → (free g k ≡ 3) ⊎ (free g k ≡ 4)
  free_slot g k = elim (cases_Bool (is_nil (g k 3))) [ inl t ↦ rw t (inl refl) | inr t ↦ rw t (inr refl) ]

  relinked_at : (v : Value) (j f : ℕ) → Shown f → with_values (relinked get i l v) get j f ≡ with_value mid i l v j f
  relinked_at (Number n) j f h = values_app (emptied get i l (get i l)) (write i l (Number n) ∷ []) get j f
  relinked_at Nil j f h = values_app (emptied get i l (get i l)) (write i l Nil ∷ []) get j f
  relinked_at (To k) j f h =
      values_app (emptied get i l (get i l)) (write i l (To k) ∷ write k (free mid k) (From i l) ∷ []) get j f
      ∙ with_other (with_value mid i l (To k)) k (free mid k) (From i l) j f (λ _ e. elim (free_slot mid k) [ inl s ↦ h.0 (e ∙ s) | inr s ↦ h.1 (e ∙ s) ])
  relinked_at (From a m) j f h = values_app (emptied get i l (get i l)) (write i l (From a m) ∷ []) get j f

  -- a copy that is not written
  emptied_away : (j f : ℕ) → (get i l ≡ To j → ⊥) → mid j f ≡ get j f
  emptied_away j f n =
      elim held [
        | inl e ↦ nil_nothing e j f
        | inr q ↦ to_emptied q.0 q.1 j f ∙ with_other get q.0 (saying get q.0 i l) Nil j f (λ e _. n (q.1 ∙ ap To (sym e)))
      ]

  relinked_away : (v : Value) (j f : ℕ) → (j ≡ i → ⊥) → (v ≡ To j → ⊥) → (get i l ≡ To j → ⊥) → with_values (relinked get i l v) get j f ≡ get j f
  relinked_away (Number n) j f ni nv ng = values_app (emptied get i l (get i l)) (write i l (Number n) ∷ []) get j f ∙ (with_other mid i l (Number n) j f (λ e _. ni e) ∙ emptied_away j f ng)
  relinked_away Nil j f ni nv ng = values_app (emptied get i l (get i l)) (write i l Nil ∷ []) get j f ∙ (with_other mid i l Nil j f (λ e _. ni e) ∙ emptied_away j f ng)
  relinked_away (To k) j f ni nv ng =
      values_app (emptied get i l (get i l)) (write i l (To k) ∷ write k (free mid k) (From i l) ∷ []) get j f
      ∙ (with_other (with_value mid i l (To k)) k (free mid k) (From i l) j f (λ e _. nv (ap To (sym e)))
      ∙ (with_other mid i l (To k) j f (λ e _. ni e) ∙ emptied_away j f ng))
  relinked_away (From a m) j f ni nv ng = values_app (emptied get i l (get i l)) (write i l (From a m) ∷ []) get j f ∙ (with_other mid i l (From a m) j f (λ e _. ni e) ∙ emptied_away j f ng)

  link_shown : Shown l
  link_shown =
      elim hl [
        | inl a ↦ ((λ e. omega (arith, a, e)), (λ e. omega (arith, a, e)))
        | inr a ↦ let b = a.1 in ((λ e. omega (arith, b, e)), (λ e. omega (arith, b, e)))
      ]

-- the serving test tells what a change needs to know of the version behind
pub next_served : (pos : ℕ → ℕ) (M : Copies) (u s : ℕ) → Behind pos M u s → (i : ℕ) → i < M.total → NextServed pos M u s (serving pos M (suc (pos u)) i) i
next_served pos M u s b i h = ((λ t. b ((serving_tells pos M (suc (pos u)) i).1 t).3), serving_tells pos M (suc (pos u)) i)

pub relink_sound : RelinkSound
relink_sound pos M u s i l v S next sv hl tg c =
    let on = Serves pos M (pos u) in
    let get = slice pos u M in
    let G = S.good (pos u) in
    let R = set_all-sound pos u s (serving pos M (suc (pos u))) (relinked get i l v) M S (next_served pos M u s next) (relinked_on on get G i l sv hl v tg) (good_relinked on get G i l sv hl v tg c) in (
      R.0,
      R.1,
      (R.2 i l sv ∙ (relinked_at on get G i l sv hl v i l (link_shown on get G i l sv hl) ∙ with_same (mid on get G i l sv hl) i l v)),
      (λ j f h n r. R.2 j f r ∙ (relinked_at on get G i l sv hl v j f h ∙ (with_other (mid on get G i l sv hl) i l v j f n ∙ emptied_far on get G i l sv hl j f h))),
      (λ j f ni nv ng r. R.2 j f r ∙ relinked_away on get G i l sv hl v j f ni nv ng),
      R.3,
    )

taken_from : (i l : ℕ) (v : Value) → taken i l v ≡ true → suits 1 3 v ≡ true → (a : ℕ) × (m : ℕ) × (v ≡ From a m) × (a ≡ i → m ≡ l → ⊥)
taken_from i l (Number n) h t = absurd (let z : ◌≡◌ {A = ℕ} 0 1 = cc in omega arith)
taken_from i l Nil h t = absurd (let z : ◌≡◌ {A = ℕ} 0 1 = cc in omega arith)
taken_from i l (To k) h t = absurd (let z : ◌≡◌ {A = ℕ} 0 1 = cc in omega arith)
taken_from i l (From a m) h t = (a, m, refl, (λ e f. let z : ⊥ = grind arith in z))

-- a back slot holds nil or a back link, whichever copy it is
slot_suits : (k b : ℕ) (v : Value) → (b ≡ 3) ⊎ (b ≡ 4) → suits k b v ≡ true → suits 1 3 v ≡ true
slot_suits k b (Number n) h t = grind arith
slot_suits k b Nil h t = refl
slot_suits k b (To a) h t = grind arith
slot_suits k b (From a m) h t = refl

crowded_both : (on : ℕ → Type 0) (get : ℕ → ℕ → Value) (i l k : ℕ) → Coherent on get → on k
    → (crowded get i l (To k) ≡ true → TwoOthers on get i l k) × (TwoOthers on get i l k → crowded get i l (To k) ≡ true)
crowded_both on get i l k G ok = (
  (λ c.
      let t = both_true (taken i l (get k 3)) (taken i l (get k 4)) c in
      let x = taken_from i l (get k 3) t.0 (slot_suits k 3 (get k 3) (inl refl) (G.typed k 3 ok)) in
      let y = taken_from i l (get k 4) t.1 (slot_suits k 4 (get k 4) (inr refl) (G.typed k 4 ok)) in
      let p = G.backed k 3 x.0 x.1 ok x.2 in
      let q = G.backed k 4 y.0 y.1 ok y.2 in (
        x.0,
        x.1,
        y.0,
        y.1,
        p.0,
        q.0,
        p.1,
        q.1,
        (λ e f. clash ⊥ x.0 x.1 (get k 3) (G.single k ok (x.2 ∙ (ap (λ (z : ℕ). From z x.1) e ∙ (ap (From y.0) f ∙ sym y.2)))) x.2),
        x.3,
        y.3,
      )),
  (λ h.
      let a = h.0 in let m = h.1 in let b = h.2 in let o = h.3 in
      let p = (G.named a m k h.4 h.6).1 in
      let q = (G.named b o k h.5 h.7).1 in
      let same : (v : Value) → v ≡ From a m → v ≡ From b o → ⊥ = λ v e f. let r = from_same a m b o v e f in h.8 r.0 r.1 in
      elim p [
        | inl e ↦ elim q [
          | inl f ↦ absurd (same (get k 3) e f)
          | inr f ↦ rw (taken_by i l a m (get k 3) e h.9, taken_by i l b o (get k 4) f h.10) refl
        ]
        | inr e ↦ elim q [
          | inl f ↦ rw (taken_by i l b o (get k 3) f h.10, taken_by i l a m (get k 4) e h.9) refl
          | inr f ↦ absurd (same (get k 4) e f)
        ]
      ]),
)

pub crowded_means : CrowdedMeans
crowded_means pos M u i l k S sv = crowded_both (Serves pos M (pos u)) (slice pos u M) i l k (S.good (pos u)) sv

pub set_number-sound : SetNumberSound
set_number-sound pos M u s i n w S next sv ni =
    let get = slice pos u M in
    let R = set_all-sound pos u s (serving pos M (suc (pos u))) (write i (number n) (Number w) ∷ []) M S (next_served pos M u s next) (sv, tt) (good_number (Serves pos M (pos u)) get (S.good (pos u)) i (number n) w ni (omega arith)) in (
      R.0,
      R.1,
      (R.2 i (number n) sv ∙ with_same get i (number n) (Number w)),
      (λ j g d r. R.2 j g r ∙ with_other get i (number n) (Number w) j g d),
      R.3,
    )
