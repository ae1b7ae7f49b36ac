-- Every run keeps the copies sound, every version its state, and the space within its bounds; splits end.
use Rattle.std.proofs.Common.{◌≡◌, ℕ, zero, suc, ◌+◌, ◌-◌, ◌*◌, ◌<◌, ◌≤◌, Bool, true, false, eqb, ltb, List, [], ◌∷◌, length, sym, refl, ap, ◌∙◌, subst, inl, inr, le_refl, not-suc-le-zero, arith}
use Rattle.std.proofs.lemmas.Bool.{cases_lt, cases_Bool, cases_eq, eq-eqb, ne_eqb, lt-ltb, le-ltb, both_ways}
use Rattle.fields.specs.declared.kinds.Value.{Value}
use Rattle.fields.specs.declared.kinds.Value.TheVariants.{Number, Nil, To, From}
use Rattle.fields.specs.Fields.{number, suits, HasLink}
use Rattle.entries.specs.Entries.{both}
use Rattle.order.specs.Items.{member, Distinct, known, position, behind}
use Rattle.order.proofs.Members.{long_behind, member_behind_new, member_others}
use Rattle.slices.specs.Copies.{Copy, Copies, serving, Sound}
use Rattle.slices.specs.Splits.{split}
use Rattle.slices.specs.Changes.{FieldWrite, set_all, set_field}
use Rattle.slices.specs.Births.{make_node, new_copy}
use Rattle.slices.proofs.Serving.{both_true, lt_is, eq_is, serving_tells}
use Rattle.slices.proofs.Splitting.{split_sound}
use Rattle.slices.proofs.Bearing.{make_sound}
use Rattle.states.specs.Relinks.{not, slice, relinked, write, crowded, LinkTarget}
use Rattle.states.specs.Nodes.{Means, Held}
use Rattle.states.proofs.Linking.{to_same}
use Rattle.states.proofs.Relinking.{relink_sound, set_number-sound}
use Rattle.states.proofs.Meaning.{make_means, relink_means, set_number-means, split_means, set_all-versions}
use Rattle.states.proofs.Places.{member_far}
use Rattle.states.proofs.Listing.{behind_listed, open_listed}
use Rattle.space.specs.Space.{size, all_entries, except, surplus, split_version}
use Rattle.space.specs.Runs.{World, Move, next_in, after, May, Runs, last, fresh_copies, fresh_state, fresh_world, Kept, Spaced, RunKeeps, StepKeeps, KeptSpaced, has_link, may_name, allowed, all_allowed, AllowedRuns, overfull, split_overfull, CascadeEnds}
use Rattle.space.specs.Runs.Move.{opening, making, linking, numbering, splitting}
use Rattle.space.proofs.Counting.{sum_le, sum_one, change_adds, relink_three, split_version_fits, split_adds}

-- the copy found, or none
overfull_none : (M : Copies) (m : ℕ) → overfull M m ≡ 0 → (i : ℕ) → i < m → (i ≡ 0 → ⊥) → size M i ≤ 18
overfull_none M zero h i l n = absurd (not-suc-le-zero l)
overfull_none M (suc m) h i l n =
    elim (cases_Bool (both (not (eqb m 0)) (ltb 18 (size M m)))) [
      | inl t ↦
          let z : m ≡ 0 = rw t at h in
          let b = both_true (not (eqb m 0)) (ltb 18 (size M m)) t in
          absurd (let q : not (eqb m 0) ≡ false = rw (eq-eqb m 0 z) refl in let y : ◌≡◌ {A = ℕ} 0 1 = cc in omega arith)
      | inr t ↦
          let r : overfull M m ≡ 0 = rw t at h in
          elim (cases_eq i m) [
            | inl e ↦
                elim (cases_lt 18 (size M i)) [
                  | inl big ↦
                      let nm : m ≡ 0 → ⊥ = λ z. n (e ∙ z) in
                      let bg : ltb 18 (size M m) ≡ true = lt-ltb 18 (size M m) (subst (λ (z : ℕ). 18 < size M z) e big) in
                      absurd (let q : both (not (eqb m 0)) (ltb 18 (size M m)) ≡ true = rw (ne_eqb m 0 nm, bg) refl in let y : ◌≡◌ {A = ℕ} 0 1 = cc in omega arith)
                  | inr le ↦ le
                ]
            | inr ne ↦ overfull_none M m r i (omega (arith, l, ne)) n
          ]
    ]

overfull_some : (M : Copies) (m : ℕ) → (overfull M m ≡ 0 → ⊥) → (overfull M m < m) × (18 < size M (overfull M m))
overfull_some M zero h = absurd (h refl)
overfull_some M (suc m) h =
    elim (cases_Bool (both (not (eqb m 0)) (ltb 18 (size M m)))) [
      | inl t ↦ let b = both_true (not (eqb m 0)) (ltb 18 (size M m)) t in rw t (omega arith, lt_is 18 (size M m) b.1)
      | inr t ↦
          let h' : overfull M m ≡ 0 → ⊥ = rw t at h in
          let r = overfull_some M m h' in
          let r0 = r.0 in
          rw t (omega (arith, r0), r.1)
    ]

pub cascade_ends : CascadeEnds
cascade_ends pos zero M S h = (
  S,
  (λ i l n.
      elim (cases_lt 18 (size M i)) [
        | inr le ↦ le
        | inl big ↦
            -- a copy above 18 would have ten in store
            let a = (sum_one M.total i (except 0 (λ j. size M j - 9))).1 l in
            let b : except 0 (λ j. size M j - 9) i ≡ size M i - 9 = rw (ne_eqb i 0 n) refl in
            absurd (omega (arith, a, b, big, h))
      ]),
  (λ A me. me),
  le_refl (surplus M + 6 * M.total),
)
cascade_ends pos (suc k) M S h =
    elim (cases_eq (overfull M M.total) 0) [
      | inl e ↦ rw (eq-eqb (overfull M M.total) 0 e) (S, overfull_none M M.total e, (λ A me. me), le_refl (surplus M + 6 * M.total))
      | inr n ↦
          let c = overfull M M.total in
          let f = overfull_some M M.total n in
          let fit = split_version_fits pos M c S f.0 f.1 in
          let R = split_sound pos M c (split_version M c) S n fit.0 fit.1 in
          let P = (split_adds pos M c S n f.0 f.1).3 in
          let r = cascade_ends pos k (split_overfull pos c M) R.0 (omega (arith, P, h)) in
          let r3 = r.3 in
          rw (ne_eqb (overfull M M.total) 0 n) (
            r.0,
            r.1,
            (λ A me. r.2 A (split_means pos M A c (split_version M c) S n fit.0 fit.1 me)),
            omega (arith, r3, P),
          )
    ]

made_old : (u k : ℕ) (numbers : ℕ → ℕ) (M : Copies) (i : ℕ) → i < M.total → (make_node u k numbers M).copy i ≡ M.copy i
made_old u k numbers M i h = let n : i ≡ M.total → ⊥ = λ e. omega (arith, h, e) in rw (ne_eqb i M.total n)

made_new : (u k : ℕ) (numbers : ℕ → ℕ) (M : Copies) → (make_node u k numbers M).copy M.total ≡ new_copy (suc M.made) k u numbers
made_new u k numbers M = rw (eq-eqb M.total M.total refl)

except_same : (c i : ℕ) (g h : ℕ → ℕ) → g i ≡ h i → except c g i ≤ except c h i
except_same c i g h e = elim (cases_eq i c) [ inl q ↦ rw (eq-eqb i c q) (le_refl 0) | inr q ↦ rw (ne_eqb i c q) (omega (arith, e)) ]

except_zero : (c i : ℕ) (g : ℕ → ℕ) → g i ≡ 0 → except c g i ≡ 0
except_zero c i g e = elim (cases_eq i c) [ inl q ↦ rw (eq-eqb i c q) refl | inr q ↦ rw (ne_eqb i c q) e ]

pub set_all-total : (pos : ℕ → ℕ) (u s : ℕ) (more : ℕ → Bool) (ws : List FieldWrite) (M : Copies) → (set_all pos u s more ws M).total ≡ M.total
set_all-total pos u s more [] M = refl
set_all-total pos u s more (w ∷ ws) M = set_all-total pos u s more ws (set_field pos u s (more w.copy) w.copy w.field w.value M)

pub set_all-made : (pos : ℕ → ℕ) (u s : ℕ) (more : ℕ → Bool) (ws : List FieldWrite) (M : Copies) → (set_all pos u s more ws M).made ≡ M.made
set_all-made pos u s more [] M = refl
set_all-made pos u s more (w ∷ ws) M = set_all-made pos u s more ws (set_field pos u s (more w.copy) w.copy w.field w.value M)

nil_suits : (f : ℕ) → suits 0 f Nil ≡ true
nil_suits f = grind arith

pub fresh_any : (pos : ℕ → ℕ) → pos 0 ≡ 0 → Sound pos fresh_copies
fresh_any pos e0 = record {
  shape = record {
    copies = λ i h. record { sorted = tt; once = tt; late = tt };
    apart = λ i j hi hj _ _. omega (arith, hi, hj);
    hosted = λ i h. tt;
    known = λ i h. omega (arith, e0);
    fewer = λ i h. omega arith;
    some = omega arith;
    root_serial = refl;
    root_lo = e0;
    root_only = λ i h _. omega (arith, h);
  };
  good = λ p. record {
    named = λ i l k s e. absurd (let z : ◌≡◌ {A = ℕ} 0 1 = cc in omega arith);
    backed = λ k b i l s e. absurd (let z : ◌≡◌ {A = ℕ} 0 1 = cc in omega arith);
    single = λ k s e. refl;
    typed = λ i f s. let l = s.0 in let z : i ≡ 0 = omega (arith, l) in subst (λ (y : ℕ). suits y f Nil ≡ true) (sym z) (nil_suits f);
  };
}

surplus_made : (u k : ℕ) (numbers : ℕ → ℕ) (M : Copies) → (surplus (make_node u k numbers M) ≤ surplus M) × (all_entries (make_node u k numbers M) ≤ all_entries M)
surplus_made u k numbers M =
    let old : (i : ℕ) → i < M.total → size (make_node u k numbers M) i ≡ size M i = λ i l. ap (λ (c : Copy). length c.entries) (made_old u k numbers M i l) in
    let new : size (make_node u k numbers M) M.total ≡ 0 = ap (λ (c : Copy). length c.entries) (made_new u k numbers M) in
    let a = sum_le M.total (except 0 (λ i. size (make_node u k numbers M) i - 9)) (except 0 (λ i. size M i - 9)) (λ i l. except_same 0 i (λ i. size (make_node u k numbers M) i - 9) (λ i. size M i - 9) (ap (λ (z : ℕ). z - 9) (old i l))) in
    let b = sum_le M.total (size (make_node u k numbers M)) (size M) (λ i l. let z = old i l in omega (arith, z)) in
    let d = except_zero 0 M.total (λ i. size (make_node u k numbers M) i - 9) (ap (λ (z : ℕ). z - 9) new) in
    (omega (arith, a, d), omega (arith, b, new))

-- what the order's list keeps
near_member : (xs : List ℕ) (a : ℕ) → position xs a < length xs → member xs a ≡ true
near_member xs a h = elim (cases_Bool (member xs a)) [ inl t ↦ t | inr f ↦ absurd (let z = member_far xs a f in omega (arith, z, h)) ]

member_zero : (xs : List ℕ) (a : ℕ) → member xs a ≡ known xs a → length xs ≤ a → member xs a ≡ false
member_zero xs a e h = e ∙ le-ltb a (length xs) h

distinct_behind : (xs : List ℕ) (a n : ℕ) → Distinct xs → member xs n ≡ false → Distinct (behind xs a n)
distinct_behind [] a n d m = tt
distinct_behind (x ∷ xs) a n d m =
    let nx : x ≡ n → ⊥ = λ e. both_ways (member (x ∷ xs) n) m (rw (eq-eqb x n e) refl) in
    let mn : member xs n ≡ false = rw (ne_eqb x n nx) at m in
    elim (cases_eq x a) [
      | inl e ↦ rw (eq-eqb x a e) (rw (ne_eqb n x (λ z. nx (sym z))) d.0, (mn, d.1))
      | inr ne ↦ rw (ne_eqb x a ne) (member_others xs a n x nx ∙ d.0, distinct_behind xs a n d.1 mn)
    ]

known_behind : (xs : List ℕ) (a : ℕ) → member xs a ≡ true → ((b : ℕ) → member xs b ≡ known xs b)
    → (b : ℕ) → member (behind xs a (length xs)) b ≡ known (behind xs a (length xs)) b
known_behind xs a ma k b =
    let len = long_behind xs a (length xs) ma in
    elim (cases_eq b (length xs)) [
      | inl e ↦
          subst (λ (z : ℕ). member (behind xs a (length xs)) z ≡ known (behind xs a (length xs)) z) (sym e)
          (member_behind_new xs a (length xs) ma ∙ sym (lt-ltb (length xs) (length (behind xs a (length xs))) (omega (arith, len))))
      | inr n ↦
          member_others xs a (length xs) b n ∙ (k b
          ∙ elim (cases_lt b (length xs)) [
            | inl l ↦ lt-ltb b (length xs) l ∙ sym (lt-ltb b (length (behind xs a (length xs))) (omega (arith, len, l)))
            | inr g ↦ le-ltb b (length xs) g ∙ sym (le-ltb b (length (behind xs a (length xs))) (omega (arith, len, g, n)))
          ])
    ]

opening_kept : (W : World) (a : ℕ) → Kept W → May W (opening a) → Kept (after W (opening a))
opening_kept W a K h =
    let xs = W.order in
    let n = length W.order in
    let ma = near_member xs a h in
    let none = member_zero xs n (K.known n) (le_refl n) in
    let R = open_listed xs W.copies W.states a n K.counted h (member_far xs n none) K.sound K.means in
    record {
      distinct = distinct_behind xs a n K.distinct none;
      known = known_behind xs a ma K.known;
      counted = R.2;
      sound = R.0;
      means = R.1;
      paid = K.paid;
      copied = K.copied;
      held = K.held;
      rows = K.rows;
    }

making_kept : (W : World) (u key : ℕ) (numbers : ℕ → ℕ) → Kept W → May W (making u key numbers) → Kept (after W (making u key numbers))
making_kept W u key numbers K h =
    let hc : position W.order u < W.copies.versions = let c = K.counted in omega (arith, h, c) in
    let B = behind_listed W.order W.copies u K.counted K.distinct h in
    let z = surplus_made u key numbers W.copies in
    let z0 = z.0 in let z1 = z.1 in
    let p = K.paid in let c = K.copied in let e = K.held in
    record {
      distinct = K.distinct;
      known = K.known;
      counted = K.counted;
      sound = (make_sound (position W.order) W.copies u key numbers K.sound hc).0;
      means = make_means (position W.order) W.copies W.states u key numbers K.sound hc B.0 K.means;
      paid = omega (arith, p, z0);
      copied = omega (arith, c);
      held = omega (arith, e, z1);
      rows = K.rows;
    }

linking_kept : (W : World) (u i l : ℕ) (v : Value) → Kept W → May W (linking u i l v) → Kept (after W (linking u i l v))
linking_kept W u i l v K may =
    let pos = position W.order in
    let hc = may.0.3 in
    let h : pos u < length W.order = let c = K.counted in omega (arith, hc, c) in
    let B = behind_listed W.order W.copies u K.counted K.distinct h in
    let s = next_in W u in
    let ws = relinked (slice pos u W.copies) i l v in
    let more = serving pos W.copies (suc (pos u)) in
    let z = change_adds pos u s more ws W.copies in
    let z0 = z.0 in let z1 = z.1 in let z2 = z.2 in
    let n = relink_three (slice pos u W.copies) i l v in
    let p = K.paid in let e = K.held in let r = K.rows in
    record {
      distinct = K.distinct;
      known = K.known;
      counted = set_all-versions pos u s more ws W.copies ∙ K.counted;
      sound = (relink_sound pos W.copies u s i l v K.sound B.1 may.0 may.1 may.2 may.5).0;
      means = relink_means pos W.copies W.states u s i l v K.sound B.0 B.1 may.0 may.1 may.2 may.3 may.4 may.5 K.means;
      paid = omega (arith, p, z2, n);
      copied = set_all-total pos u s more ws W.copies ∙ (K.copied ∙ ap (λ (k : ℕ). suc (k + W.splits)) (sym (set_all-made pos u s more ws W.copies)));
      held = omega (arith, e, z1);
      rows = omega (arith, r, z0, n);
    }

numbering_kept : (W : World) (u i n w : ℕ) → Kept W → May W (numbering u i n w) → Kept (after W (numbering u i n w))
numbering_kept W u i n w K may =
    let pos = position W.order in
    let hc = may.0.3 in
    let h : pos u < length W.order = let c = K.counted in omega (arith, hc, c) in
    let B = behind_listed W.order W.copies u K.counted K.distinct h in
    let s = next_in W u in
    let ws = write i (number n) (Number w) ∷ [] in
    let more = serving pos W.copies (suc (pos u)) in
    let z = change_adds pos u s more (write i (number n) (Number w) ∷ []) W.copies in
    let z0 = z.0 in let z1 = z.1 in let z2 = z.2 in
    let p = K.paid in let e = K.held in let r = K.rows in
    record {
      distinct = K.distinct;
      known = K.known;
      counted = set_all-versions pos u s more (write i (number n) (Number w) ∷ []) W.copies ∙ K.counted;
      sound = (set_number-sound pos W.copies u s i n w K.sound B.1 may.0 may.1).0;
      means = set_number-means pos W.copies W.states u s i n w K.sound B.0 B.1 may.0 may.1 may.2 K.means;
      paid = omega (arith, p, z2);
      copied = set_all-total pos u s more (write i (number n) (Number w) ∷ []) W.copies ∙ (K.copied ∙ ap (λ (k : ℕ). suc (k + W.splits)) (sym (set_all-made pos u s more (write i (number n) (Number w) ∷ []) W.copies)));
      held = omega (arith, e, z1);
      rows = omega (arith, r, z0);
    }

splitting_kept : (W : World) (c : ℕ) → Kept W → May W (splitting c) → Kept (after W (splitting c))
splitting_kept W c K may =
    let pos = position W.order in
    let M = W.copies in
    let x = split_version M c in
    let fit = split_version_fits pos M c K.sound may.1 may.2 in
    let D = split pos c x M in
    let a = split_adds pos M c K.sound may.0 may.1 may.2 in
    let a0 = a.0 in let a2 = a.2 in let a3 = a.3 in
    let p = K.paid in let c0 = K.copied in let h = K.held in let r = K.rows in
    let s1 = (sum_one M.total c (size M)).1 may.1 in
    let s2 = (sum_one M.total c (size D)).1 may.1 in
    record {
      distinct = K.distinct;
      known = K.known;
      counted = K.counted;
      sound = (split_sound pos M c x K.sound may.0 fit.0 fit.1).0;
      means = split_means pos M W.states c x K.sound may.0 fit.0 fit.1 K.means;
      paid = omega (arith, p, a3);
      copied = omega (arith, c0);
      held = omega (arith, h, a0, s1, s2);
      rows = omega (arith, r, a2);
    }

pub step_keeps : StepKeeps
step_keeps W (opening a) K may = opening_kept W a K may
step_keeps W (making u key numbers) K may = making_kept W u key numbers K may
step_keeps W (linking u i l v) K may = linking_kept W u i l v K may
step_keeps W (numbering u i n w) K may = numbering_kept W u i n w K may
step_keeps W (splitting c) K may = splitting_kept W c K may

-- the bounds, from what was paid
spaced : (W : World) → Kept W → Spaced (W.copies.total - 1) W.used W.copies.made W.linked W.numbered
spaced W K =
    let p = K.paid in let c = K.copied in let r = K.rows in
    record { few_copies = omega (arith, p, c); few_entries = omega (arith, p, r) }

pub kept_spaced : KeptSpaced
kept_spaced W K =
    let pos = position W.order in
    let M = W.copies in (
      spaced W K,
      (λ u i l v.
          let z = (change_adds pos u (next_in W u) (serving pos M (suc (pos u))) (relinked (slice pos u M) i l v) M).0 in
          let n = relink_three (slice pos u M) i l v in
          omega (arith, z, n)),
      (λ u i n w.
          let z = (change_adds pos u (next_in W u) (serving pos M (suc (pos u))) (write i (number n) (Number w) ∷ []) M).0 in
          omega (arith, z)),
      (λ c may. let a = (split_adds pos M c K.sound may.0 may.1 may.2).2 in omega (arith, a)),
    )

runs_keep : (W : World) (ms : List Move) → Kept W → Runs W ms → Kept (last W ms)
runs_keep W [] K r = K
runs_keep W (m ∷ ms) K r = runs_keep (after W m) ms (step_keeps W m K r.0) r.1

zero_is : (s : ℕ) → eqb s 0 ≡ true → s ≡ 0
zero_is s h = grind arith

fresh_means : (pos : ℕ → ℕ) → pos 0 ≡ 0 → Means pos fresh_copies (λ _. fresh_state)
fresh_means pos e v hv = record {
  root = refl;
  held = λ s t. (0, (omega arith, omega (arith, e), (λ j hj same less. absurd (omega (arith, less))), hv), sym (zero_is s t));
  keyed = λ i si t. refl;
  holds = λ i f si t lf. refl;
  blank = λ i f si t low. refl;
}

known_one : (a : ℕ) → member (0 ∷ []) a ≡ known (0 ∷ []) a
known_one a =
    elim (cases_eq 0 a) [
      | inl e ↦ rw (eq-eqb 0 a e) (sym (lt-ltb a 1 (omega (arith, e))))
      | inr n ↦ rw (ne_eqb 0 a n) (sym (le-ltb a 1 (omega (arith, n))))
    ]

pub fresh_kept : Kept fresh_world
fresh_kept = record {
  distinct = (refl, tt);
  known = known_one;
  counted = refl;
  sound = fresh_any (position (0 ∷ [])) refl;
  means = fresh_means (position (0 ∷ [])) refl;
  paid = omega arith;
  copied = refl;
  held = omega arith;
  rows = omega arith;
}

pub run_keeps : RunKeeps
run_keeps ms r =
    let K = runs_keep fresh_world ms fresh_kept r in
    let S = spaced (last fresh_world ms) K in
    let a = S.few_copies in let b = S.few_entries in
    (K, S, omega (arith, a), omega (arith, b))

-- the tests tell
not-true : (b : Bool) → not b ≡ true → b ≡ false
not-true true h = absurd (let z : ◌≡◌ {A = ℕ} 0 1 = cc in omega arith)
not-true false h = refl

not_zero : (k : ℕ) → not (eqb k 0) ≡ true → k ≡ 0 → ⊥
not_zero k h e = let t = not-true (eqb k 0) h in let q = eq-eqb k 0 e in let z : ◌≡◌ {A = ℕ} 0 1 = cc in omega arith

has_link_lem : (i l : ℕ) → has_link i l ≡ true → HasLink i l
has_link_lem i l h =
    elim (cases_lt l 2) [
      | inl t ↦ inl t
      | inr g ↦ let b : both (eqb i 0) (eqb l 2) ≡ true = rw (le-ltb l 2 g) at h in let p = both_true (eqb i 0) (eqb l 2) b in inr (eq_is i 0 p.0, eq_is l 2 p.1)
    ]

may_name_lem : (W : World) (u : ℕ) (v : Value) → may_name W u v ≡ true
    → LinkTarget (position W.order) W.copies u v × Held W.copies (W.states u) v
may_name_lem W u (Number n) h = absurd (let z : ◌≡◌ {A = ℕ} 0 1 = cc in omega arith)
may_name_lem W u Nil h = (inl refl, (λ k e. absurd (let z : ◌≡◌ {A = ℕ} 0 1 = cc in omega arith)))
may_name_lem W u (To k) h =
    let a = both_true _ _ h in
    let b = both_true _ _ a.1 in (
      inr (k, refl, (serving_tells (position W.order) W.copies (position W.order u) k).1 a.0, not_zero k b.0),
      (λ j e. let q : k ≡ j = to_same k j (To k) refl e in subst (λ (z : ℕ). (W.states u).has (W.copies.copy z).serial ≡ true) q b.1),
    )
may_name_lem W u (From a l) h = absurd (let z : ◌≡◌ {A = ℕ} 0 1 = cc in omega arith)

allowed_may : (W : World) (m : Move) → allowed W m ≡ true → May W m
allowed_may W (opening a) h = lt_is _ _ h
allowed_may W (making u key numbers) h = lt_is _ _ h
allowed_may W (linking u i l v) h =
    let a = both_true _ _ h in
    let b = both_true _ _ a.1 in
    let c = both_true _ _ b.1 in
    let d = both_true _ _ c.1 in
    let n = may_name_lem W u v c.0 in (
      (serving_tells (position W.order) W.copies (position W.order u) i).1 a.0,
      has_link_lem i l b.0,
      n.0,
      d.0,
      n.1,
      not-true (crowded (slice (position W.order) u W.copies) i l v) d.1,
    )
allowed_may W (numbering u i n w) h =
    let a = both_true _ _ h in
    let b = both_true _ _ a.1 in
    ((serving_tells (position W.order) W.copies (position W.order u) i).1 a.0, not_zero i b.0, b.1)
allowed_may W (splitting c) h =
    let a = both_true _ _ h in
    let b = both_true _ _ a.1 in
    (not_zero c a.0, lt_is _ _ b.0, lt_is _ _ b.1)

pub allowed_runs : AllowedRuns
allowed_runs W [] h = tt
allowed_runs W (m ∷ ms) h =
    let a = both_true (allowed W m) (all_allowed (after W m) ms) h in
    (allowed_may W m a.0, allowed_runs (after W m) ms a.1)
