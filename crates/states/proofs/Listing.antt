-- The steps over the list of an order, and the third link in the words of the states.
use Rattle.std.proofs.Common.{◌≡◌, ℕ, suc, ◌<◌, true, ◌⊎◌, List, length, Some, None, Option, sym, refl, ap, ◌∙◌, inl, inr, arith}
use Rattle.std.proofs.lemmas.Bool.{cases_Bool, cases_eq}
use Rattle.fields.specs.declared.kinds.Value.TheVariants.{To}
use Rattle.fields.specs.Fields.{suits, Shown}
use Rattle.order.specs.Items.{Distinct, position, following, behind}
use Rattle.slices.specs.Copies.{Copies, value_at, Serves, Sound}
use Rattle.slices.specs.Openings.{up}
use Rattle.slices.proofs.Swapping.{to_spot}
use Rattle.slices.proofs.Opening.{open_sound}
use Rattle.slices.proofs.Bearing.{one_only}
use Rattle.states.specs.Relinks.{slice, TwoOthers}
use Rattle.states.specs.Nodes.{NodeState, Shows, by_serial}
use Rattle.states.specs.Listed.{next_of, BehindListed, OpenListed, TwoNames, ThirdLink}
use Rattle.states.proofs.Linking.{clash_to}
use Rattle.states.proofs.Relinking.{crowded_means}
use Rattle.states.proofs.Meaning.{open_means, raised_to}
use Rattle.states.proofs.Places.{positions_stand}

next_from : (xs : List ℕ) (M : Copies) (u : ℕ) → M.versions ≡ length xs → Distinct xs → position xs u < length xs → (o : Option ℕ) → following xs u ≡ o
    → suc (position xs u) < M.versions → position xs (next_of o) ≡ suc (position xs u)
next_from xs M u c d h (Some s) e b = (positions_stand xs).2 d u s h e
next_from xs M u c d h None e b = absurd (let a = (positions_stand xs).3 d u h e in omega (arith, a, b, c))

pub behind_listed : BehindListed
behind_listed xs M u c d h =
    ((λ v hv e. (positions_stand xs).1 v u (omega (arith, hv, c)) e), next_from xs M u c d h (following xs u) refl)

pub open_listed : OpenListed
open_listed xs M A a n c ha hn S me =
    let P = (positions_stand xs).4 a n ha hn in
    let ha' : position xs a < M.versions = omega (arith, ha, c) in
    let shift : (v : ℕ) → position xs v < M.versions → position (behind xs a n) v ≡ up (suc (position xs a)) (position xs v) = λ v hv. P.2 v (omega (arith, hv, c)) in (
      (open_sound (position xs) (position (behind xs a n)) (suc (position xs a)) M (omega arith) ha' shift S).0,
      open_means (position xs) (position (behind xs a n)) M A a n ha' P.1 shift
          (λ v hv. elim (P.3 v (omega (arith, hv, c))) [ inl e ↦ inl e | inr k ↦ inr (omega (arith, k, c)) ]) S me,
      (ap suc c ∙ sym P.0),
    )

link_shown : (i l : ℕ) → (l < 2) ⊎ ((i ≡ 0) × (l ≡ 2)) → Shown l
link_shown i l h =
    elim h [
      | inl a ↦ ((λ e. omega (arith, a, e)), (λ e. omega (arith, a, e)))
      | inr a ↦ let b = a.1 in ((λ e. omega (arith, b, e)), (λ e. omega (arith, b, e)))
    ]

spot_low : (i l : ℕ) → (i ≡ 0 → ⊥) → (l < 2) ⊎ ((i ≡ 0) × (l ≡ 2)) → l < 2
spot_low i l n h = elim h [ inl a ↦ a | inr a ↦ absurd (n a.0) ]

module _ (pos : ℕ → ℕ) (M : Copies) (u : ℕ) (st : NodeState) (S : Sound pos M) (sh : Shows pos M (pos u) st) where
  -- a copy that names another is held
  namer_held : (a m k : ℕ) → Serves pos M (pos u) a → value_at pos (pos u) (M.copy a) m ≡ To k → (st.has (M.copy a).serial ≡ true) × Shown m
  namer_held a m k sa e =
      let sp = to_spot a m k (sym (ap (suits a m) e) ∙ (S.good (pos u)).typed a m sa) in
      elim (cases_Bool (st.has (M.copy a).serial)) [
        | inl t ↦ (t, link_shown a m sp)
        | inr t ↦
            elim (cases_eq a 0) [
              | inl z ↦ (ap (λ (y : ℕ). st.has (M.copy y).serial) z ∙ (ap st.has S.shape.root_serial ∙ sh.root), link_shown a m sp)
              | inr n ↦
                  let l = spot_low a m n sp in
                  clash_to _ k (value_at pos (pos u) (M.copy a) m) (sh.blank a m sa t (omega (arith, l))) e
            ]
      ]

  raised_up : (a m k : ℕ) → Serves pos M (pos u) a → value_at pos (pos u) (M.copy a) m ≡ To k → st.get (M.copy a).serial m ≡ To (M.copy k).serial
  raised_up a m k sa e = let h = namer_held a m k sa e in sh.holds a m sa h.0 h.1 ∙ ap (by_serial M) e

  -- a link of the state is a link of the slice
  down_to : (s m k : ℕ) → Serves pos M (pos u) k → st.has s ≡ true → Shown m → st.get s m ≡ To (M.copy k).serial
      → (a : ℕ) × Serves pos M (pos u) a × ((M.copy a).serial ≡ s) × (value_at pos (pos u) (M.copy a) m ≡ To k)
  down_to s m k sk hs lm e =
      let q = sh.held s hs in
      let a = q.0 in
      let r = raised_to M (value_at pos (pos u) (M.copy a) m) (M.copy k).serial
      (sym (sh.holds a m q.1 (ap st.has q.2 ∙ hs) lm) ∙ (ap (λ (z : ℕ). st.get z m) q.2 ∙ e)) in
      let sk' = ((S.good (pos u)).named a m r.0 q.1 r.1).0 in
      (a, q.1, q.2, r.1 ∙ ap To (one_only pos M S.shape (pos u) r.0 k sk' sk r.2))

  two_up : (i l k : ℕ) → Serves pos M (pos u) i → TwoOthers (Serves pos M (pos u)) (slice pos u M) i l k → TwoNames st (M.copy i).serial l (M.copy k).serial
  two_up i l k si h =
      let a = h.0 in let m = h.1 in let b = h.2 in let o = h.3 in
      let ha = namer_held a m k h.4 h.6 in
      let hb = namer_held b o k h.5 h.7 in (
        (M.copy a).serial,
        m,
        (M.copy b).serial,
        o,
        ha.0,
        hb.0,
        ha.1,
        hb.1,
        raised_up a m k h.4 h.6,
        raised_up b o k h.5 h.7,
        (λ e f. h.8 (one_only pos M S.shape (pos u) a b h.4 h.5 e) f),
        (λ e f. h.9 (one_only pos M S.shape (pos u) a i h.4 si e) f),
        (λ e f. h.10 (one_only pos M S.shape (pos u) b i h.5 si e) f),
      )

  two_down : (i l k : ℕ) → Serves pos M (pos u) k → TwoNames st (M.copy i).serial l (M.copy k).serial → TwoOthers (Serves pos M (pos u)) (slice pos u M) i l k
  two_down i l k sk h =
      let p = down_to h.0 h.1 k sk h.4 h.6 h.8 in
      let q = down_to h.2 h.3 k sk h.5 h.7 h.9 in (
        p.0,
        h.1,
        q.0,
        h.3,
        p.1,
        q.1,
        p.3,
        q.3,
        (λ e f. h.10 (sym p.2 ∙ (ap (λ (z : ℕ). (M.copy z).serial) e ∙ q.2)) f),
        (λ e f. h.11 (sym p.2 ∙ ap (λ (z : ℕ). (M.copy z).serial) e) f),
        (λ e f. h.12 (sym q.2 ∙ ap (λ (z : ℕ). (M.copy z).serial) e) f),
      )

pub third_link : ThirdLink
third_link pos M u i l k st S sh si sk =
    let C = crowded_means pos M u i l k S sk in
    ((λ t. two_up pos M u st S sh i l k si (C.0 t)), (λ h. C.1 (two_down pos M u st S sh i l k sk h)))
