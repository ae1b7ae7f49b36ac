-- The loops over the items of a group: back to its first, counting them, numbering them.
use Rattle.std.proofs.Common.{◌≡◌, ℕ, zero, suc, ◌+◌, ◌-◌, ◌<◌, ◌≤◌, true, cond, ltb, List, [], ◌∷◌, length, get_or, Some, None, Option, sym, refl, ap, ◌∙◌, subst, arith}
use Rattle.std.proofs.lemmas.Bool.{eq-eqb, ne_eqb, both_ways}
use Rattle.std.proofs.lemmas.List.{get_or-map, get_or-set_other, length-set}
use Rattle.grouping.specs.Groups.{Item, first_seat, seat_at, group_at, back_to, back_step, first_of, run_of, regrouped}
use Rattle.grouping.specs.declared.item.Seat.{Seat}
use Rattle.linked_lists.specs.Chain.{RowOf, blank, walk, next_at, prev_at, retagged}
use Rattle.linked_lists.specs.Passing.{Carries, Passed, Led, Run, Back}
use Rattle.order.proofs.Members.{member_here, member_there}
use Rattle.order.specs.Items.{member, Distinct}

module _ (p : ℕ → Option ℕ) (grp : ℕ → ℕ) (g : ℕ) where
  pub back_start : (x : ℕ) → back_to p grp g 32 x ≡ first_of p grp g x
  unfolding first_of
  back_start x = refl

  pub back_first : (left x : ℕ) → p x ≡ None → x ≡ back_to p grp g left x
  back_first zero x e = refl
  back_first (suc k) x e = sym (ap (back_step grp g (back_to p grp g k) x) e)

  pub back_out : (left x y : ℕ) → p x ≡ Some y → (grp y ≡ g → ⊥) → x ≡ back_to p grp g left x
  back_out zero x y e d = refl
  back_out (suc k) x y e d = sym (ap (back_step grp g (back_to p grp g k) x) e ∙ simp (ne_eqb (grp y) g d))

module _ (f : ℕ → Option ℕ) (grp : ℕ → ℕ) (g : ℕ) where
  pub run_out : (k x : ℕ) (o : Option ℕ) → o ≡ Some x → (grp x ≡ g → ⊥) → run_of f grp g k o ≡ []
  run_out zero x o e d = refl
  run_out (suc k) x o e d = ap (run_of f grp g (suc k)) e ∙ simp (ne_eqb (grp x) g d)

  pub run_none : (k : ℕ) (o : Option ℕ) → o ≡ None → run_of f grp g k o ≡ []
  run_none zero o e = refl
  run_none (suc k) o e = ap (run_of f grp g (suc k)) e

-- walks along links of rows, Yes being what the items of the group g carry, and No the others
module _ (rows : List Item) (Yes No : Seat → Type 0) (g : ℕ) (inside : (t : Seat) → Yes t → t.group ≡ g) (outside : (t : Seat) → No t → t.group ≡ g → ⊥) where
  -- a walk back finds what that of at most k steps finds, if that stops before the k are spent
  back_same : (k i a x : ℕ) → Led (prev_at rows) (Carries Yes rows) i a x → ((y : ℕ) → prev_at rows x ≡ Some y → Carries No rows y) →
      ((y : ℕ) → prev_at rows (back_to (prev_at rows) (group_at rows) g k a) ≡ Some y → group_at rows y ≡ g → ⊥) → x ≡ back_to (prev_at rows) (group_at rows) g k a
  back_same zero zero a x h stops rests = sym h
  back_same zero (suc i) a x h stops rests = absurd (rests h.0 h.1 (inside (seat_at rows h.0) (h.2.tag first_seat)))
  back_same (suc k) zero a x h stops rests =
      sym h ∙ stay (suc k) a (prev_at rows a) refl (λ y e. outside (seat_at rows y) ((stops y (ap (prev_at rows) (sym h) ∙ e)).tag first_seat))
    where
      stay : (k y : ℕ) (o : Option ℕ) → prev_at rows y ≡ o → ((x : ℕ) → prev_at rows y ≡ Some x → group_at rows x ≡ g → ⊥) → y ≡ back_to (prev_at rows) (group_at rows) g k y
      stay k y None e w = back_first (prev_at rows) (group_at rows) g k y e
      stay k y (Some x) e w = back_out (prev_at rows) (group_at rows) g k y x e (w x e)
  back_same (suc k) (suc i) a x h stops rests =
      let e : back_to (prev_at rows) (group_at rows) g (suc k) a ≡ back_to (prev_at rows) (group_at rows) g k h.0 =
      ap (back_step (group_at rows) g (back_to (prev_at rows) (group_at rows) g k) a) h.1 ∙ simp (eq-eqb (group_at rows h.0) g (inside (seat_at rows h.0) (h.2.tag first_seat))) in
      back_same k i h.0 x h.3 stops (λ y q. rests y (ap (prev_at rows) e ∙ q)) ∙ sym e

  pub back_is : (a x : ℕ) → Back Yes No rows a x → ((y : ℕ) → prev_at rows (first_of (prev_at rows) (group_at rows) g a) ≡ Some y → group_at rows y ≡ g → ⊥) →
      x ≡ first_of (prev_at rows) (group_at rows) g a
  unfolding first_of
  back_is a x b rests = back_same 32 b.steps a x b.led b.stops rests

  -- a count of the items of the group is that of at most k, if it is less
  run_same : (k i : ℕ) (o e : Option ℕ) → Passed (next_at rows) (Carries Yes rows) i o e → ((x : ℕ) → e ≡ Some x → Carries No rows x) →
      length (run_of (next_at rows) (group_at rows) g k o) < k → i ≡ length (run_of (next_at rows) (group_at rows) g k o)
  run_same zero i o e h stops less = absurd (omega arith)
  run_same (suc k) zero None e h stops less = refl
  run_same (suc k) zero (Some x) e h stops less =
      sym (ap length (run_out (next_at rows) (group_at rows) g (suc k) x (Some x) refl (outside (seat_at rows x) ((stops x (sym h)).tag first_seat))))
  run_same (suc k) (suc i) o e h stops less =
      let r : run_of (next_at rows) (group_at rows) g (suc k) o ≡ h.0 ∷ run_of (next_at rows) (group_at rows) g k (next_at rows h.0) =
      ap (run_of (next_at rows) (group_at rows) g (suc k)) h.1 ∙ simp (eq-eqb (group_at rows h.0) g (inside (seat_at rows h.0) (h.2.tag first_seat))) in
      let l = ap length r in
      let j = run_same k i (next_at rows h.0) e h.3 stops (omega arith) in
      omega arith

  pub run_is : (k i : ℕ) (o : Option ℕ) → Run Yes No rows o i → length (run_of (next_at rows) (group_at rows) g k o) < k → i ≡ length (run_of (next_at rows) (group_at rows) g k o)
  run_is k i o r less = run_same k i o r.end r.passed r.stops less

-- the rows R' once j of the items ys have their numbers, from the rows R; o leads to the rest
pub record Numbering (R R' : List Item) (n size h j : ℕ) (o : Option ℕ) (final : List Item) : Type 0 where
  pub some : j ≤ size
  pub room : n ≤ length R
  pub long : length R' ≡ length R
  pub distinct : Distinct (walk (next_at R) (size - j) o)
  pub within : (x : ℕ) → member (walk (next_at R) (size - j) o) x ≡ true → x < n
  pub old : (x : ℕ) → member (walk (next_at R) (size - j) o) x ≡ true → get_or R' x (blank first_seat) ≡ get_or R x (blank first_seat)
  pub rest : regrouped R' (walk (next_at R) (size - j) o) j h ≡ final

module _ (R R' : List Item) (n size h j : ℕ) (o : Option ℕ) (final : List Item) (s : Numbering R R' n size h j o final) where
  module _ (x : ℕ) (lt : j < size) (e : o ≡ Some x) where
    opens : walk (next_at R) (size - j) o ≡ x ∷ walk (next_at R) (size - (j + 1)) (next_at R x)
    opens =
        let z : size - j ≡ suc (size - (j + 1)) = omega arith in
        ap (λ (q : ℕ). walk (next_at R) q o) z ∙ ap (walk (next_at R) (suc (size - (j + 1)))) e

    here : member (walk (next_at R) (size - j) o) x ≡ true
    here = subst (λ (l : List ℕ). member l x ≡ true) (sym opens) (member_here x (walk (next_at R) (size - (j + 1)) (next_at R x)))

    pub numbering_in : x < n
    numbering_in = s.within x here

    there : (y : ℕ) → member (walk (next_at R) (size - (j + 1)) (next_at R x)) y ≡ true → member (walk (next_at R) (size - j) o) y ≡ true
    there y m = subst (λ (l : List ℕ). member l y ≡ true) (sym opens) (member_there x (walk (next_at R) (size - (j + 1)) (next_at R x)) y m)

    apart : Distinct (x ∷ walk (next_at R) (size - (j + 1)) (next_at R x))
    apart = subst Distinct opens s.distinct

    in_table : x < length R'
    in_table = let w = numbering_in in let r = s.room in let l = s.long in omega arith

    old_next : next_at R' x ≡ next_at R x
    old_next = sym (read R' in_table) ∙ (ap (λ (r : Item). r.next) (s.old x here) ∙ read R (let l = s.long in let k = in_table in omega arith))
      where
        read : (rows : List Item) → x < length rows → (get_or rows x (blank first_seat)).next ≡ next_at rows x
        read rows k = sym (get_or-map (λ (r : Item). r.next) rows x (blank first_seat) None k)

    -- r being the row that the code read, and F the rows that it leaves
    pub numbering_more : (r : Item) (v : ℕ) (F : List Item) → RowOf R' x r → v ≡ cond (ltb j 16) r.tag.group h → F ≡ retagged R' x (record { group = v; rank = j }) →
        Numbering R F n size h (j + 1) r.next final
    numbering_more r v F is ev ef =
        let seat : ◌≡◌ {A = Seat} (record { group = v; rank = j }) (record { group = cond (ltb j 16) (group_at R' x) h; rank = j }) =
        ap (λ (k : ℕ). record { group = k; rank = j }) (ev ∙ ap (λ (t : Seat). cond (ltb j 16) t.group h) (is.tag first_seat)) in
        let fr : F ≡ retagged R' x (record { group = cond (ltb j 16) (group_at R' x) h; rank = j }) = ef ∙ ap (retagged R' x) seat in
        let jj : suc j ≡ j + 1 = omega arith in
        subst (λ (G : List Item). Numbering R G n size h (j + 1) r.next final) (sym fr)
        (subst (λ (q : Option ℕ). Numbering R (retagged R' x (record { group = cond (ltb j 16) (group_at R' x) h; rank = j })) n size h (j + 1) q final)
        (sym (is.next ∙ old_next))
        (record {
          some = omega arith;
          room = s.room;
          long = length-set R' x _ ∙ s.long;
          distinct = apart.1;
          within = λ y m. s.within y (there y m);
          old = λ y m. get_or-set_other R' x y _ (blank first_seat)
              (λ d. both_ways (member (walk (next_at R) (size - (j + 1)) (next_at R x)) x) apart.0
              (subst (λ (k : ℕ). member (walk (next_at R) (size - (j + 1)) (next_at R x)) k ≡ true) d m)) ∙ s.old y (there y m);
          rest = ap (λ (k : ℕ). regrouped (retagged R' x (record { group = cond (ltb j 16) (group_at R' x) h; rank = j }))
              (walk (next_at R) (size - (j + 1)) (next_at R x)) k h) (sym jj)
              ∙ (ap (λ (ys : List ℕ). regrouped R' ys j h) (sym opens) ∙ s.rest);
        }))
