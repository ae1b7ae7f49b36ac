-- What numbering the items of a group anew leaves.
use Rattle.std.proofs.Common.{◌≡◌, ℕ, suc, ◌<◌, true, cond, ltb, List, [], ◌∷◌, length, map, get_or, sym, refl, ap, ◌∙◌, subst, arith}
use Rattle.std.proofs.lemmas.Bool.{both_ways}
use Rattle.std.proofs.lemmas.List.{length-set}
use Rattle.grouping.proofs.Found.{inside_same, Numbered, Parted}
use Rattle.grouping.specs.Blocks.{Inside}
use Rattle.grouping.specs.Groups.{Item, first_seat, seat_at, group_at, rank_at, regrouped}
use Rattle.grouping.specs.declared.item.Seat.{Seat}
use Rattle.linked_lists.proofs.Linking.{next_retagged}
use Rattle.linked_lists.proofs.Rows.{field_same, field_other}
use Rattle.linked_lists.specs.Chain.{next_at, prev_at, retagged}
use Rattle.order.proofs.Members.{member_here, member_there}
use Rattle.order.specs.Items.{member, Distinct}

abbrev seated : List Item → ℕ → ℕ → ℕ → Seat
seated R y j h = record { group = cond (ltb j 16) (group_at R y) h; rank = j }

pub regrouped_out : {A : Type 0} (f : Item → A) (d : A) (R : List Item) (ys : List ℕ) (j h x : ℕ) → (member ys x ≡ true → ⊥) →
    get_or (map f (regrouped R ys j h)) x d ≡ get_or (map f R) x d
regrouped_out f d R [] j h x n = refl
regrouped_out f d R (y ∷ ys) j h x n =
    regrouped_out f d (retagged R y (seated R y j h)) ys (suc j) h x (λ m. n (member_there y ys x m))
    ∙ field_other f d R y x _ (λ e. n (subst (λ (k : ℕ). member (y ∷ ys) k ≡ true) (sym e) (member_here y ys)))

inner : (R : List Item) (y : ℕ) (t : Seat) (ys : List ℕ) → ((x : ℕ) → member (y ∷ ys) x ≡ true → x < length R) → (x : ℕ) → member ys x ≡ true → x < length (retagged R y t)
inner R y t ys h x m = let k = h x (member_there y ys x m) in let l = length-set R y (record { tag = t; next = next_at R y; prev = prev_at R y }) in omega arith

pub regrouped_next : (R : List Item) (ys : List ℕ) (j h : ℕ) → ((x : ℕ) → member ys x ≡ true → x < length R) → (x : ℕ) → next_at (regrouped R ys j h) x ≡ next_at R x
regrouped_next R [] j h w x = refl
regrouped_next R (y ∷ ys) j h w x =
    regrouped_next (retagged R y (seated R y j h)) ys (suc j) h (inner R y (seated R y j h) ys w) x ∙ next_retagged R y (seated R y j h) (w y (member_here y ys)) x

first_seat_of : (R : List Item) (y : ℕ) (ys : List ℕ) (j h : ℕ) → ((x : ℕ) → member (y ∷ ys) x ≡ true → x < length R) → Distinct (y ∷ ys) →
    seat_at (regrouped R (y ∷ ys) j h) y ≡ record { group = cond (ltb j 16) (group_at R y) h; rank = j }
first_seat_of R y ys j h w d =
    regrouped_out (λ (r : Item). r.tag) first_seat (retagged R y (seated R y j h)) ys (suc j) h y (λ m. both_ways (member ys y) d.0 m)
    ∙ field_same (λ (r : Item). r.tag) first_seat R y _ (w y (member_here y ys))

pub regrouped_numbered : (R : List Item) (ys : List ℕ) (j h : ℕ) → ((x : ℕ) → member ys x ≡ true → x < length R) → Distinct ys → Numbered (rank_at (regrouped R ys j h)) j ys
regrouped_numbered R [] j h w d = tt
regrouped_numbered R (y ∷ ys) j h w d =
    (ap (λ (s : Seat). s.rank) (first_seat_of R y ys j h w d), regrouped_numbered (retagged R y (seated R y j h)) ys (suc j) h (inner R y (seated R y j h) ys w) d.1)

pub regrouped_parted : (R : List Item) (ys : List ℕ) (g j h : ℕ) → ((x : ℕ) → member ys x ≡ true → x < length R) → Distinct ys → Inside (group_at R) g ys →
    Parted (group_at (regrouped R ys j h)) g h j ys
regrouped_parted R [] g j h w d i = tt
regrouped_parted R (y ∷ ys) g j h w d i = (
  ap (λ (s : Seat). s.group) (first_seat_of R y ys j h w d) ∙ ap (λ (k : ℕ). cond (ltb j 16) k h) i.0,
  regrouped_parted (retagged R y (seated R y j h)) ys g (suc j) h (inner R y (seated R y j h) ys w) d.1
      (inside_same (group_at R) (group_at (retagged R y (seated R y j h))) g ys
      (λ x m. ap (λ (s : Seat). s.group) (field_other (λ (r : Item). r.tag) first_seat R y x _ (λ e. both_ways (member ys y) d.0 (subst (λ (k : ℕ). member ys k ≡ true) e m)))) i.1),
)
