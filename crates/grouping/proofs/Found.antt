-- The group that has an item, what stands around it, and what stays grouped.
use Rattle.std.proofs.Common.{◌≡◌, ℕ, zero, suc, ◌+◌, ◌-◌, ◌<◌, ◌≤◌, Bool, true, false, cond, ltb, ◌⊎◌, List, [], ◌∷◌, ◌++◌, length, take, drop, sym, refl, ap, ◌∙◌, subst, inl, inr, append_assoc, arith}
use Rattle.std.proofs.lemmas.Bool.{cases_Bool, eq-eqb, ne_eqb, lt-ltb, le-ltb, false≢true, both_ways}
use Rattle.std.proofs.lemmas.List.{length-take-le, length-drop}
use Rattle.grouping.proofs.Blocks.{member_append, member_left, member_right, inside_at, group_in}
use Rattle.grouping.specs.Blocks.{flat, divided, blocks_with, home, Inside, Ranks, Block, Grouped}
use Rattle.order.proofs.Members.{member_here, member_there, member_behind_cases, long_behind, behind_right}
use Rattle.order.specs.Items.{member, behind, Distinct}

-- the group that has a, and what stands around it
pub record Found (grp rank : ℕ → ℕ) (gs : List ℕ) (bs : List (List ℕ)) (a : ℕ) : Type 0 where
  pub gl : List ℕ
  pub gr : List ℕ
  pub bl : List (List ℕ)
  pub b : List ℕ
  pub br : List (List ℕ)
  pub gs_is : gs ≡ gl ++ (grp a ∷ gr)
  pub bs_is : bs ≡ bl ++ (b ∷ br)
  pub left : Grouped grp rank gl bl
  pub mid : Block grp rank (grp a) b
  pub right : Grouped grp rank gr br
  pub here : member b a ≡ true
  pub new_left : member gl (grp a) ≡ false
  pub apart_left : (x : ℕ) → member (flat bl) x ≡ true → grp x ≡ grp a → ⊥
  pub apart_right : (x : ℕ) → member (flat br) x ≡ true → grp x ≡ grp a → ⊥

pub find : (grp rank : ℕ → ℕ) (gs : List ℕ) (bs : List (List ℕ)) (a : ℕ) → Distinct gs → Grouped grp rank gs bs → member (flat bs) a ≡ true → Found grp rank gs bs a
find grp rank [] [] a d h m = absurd (false≢true m)
find grp rank [] (b ∷ bs) a d h m = absurd h
find grp rank (g ∷ gs) [] a d h m = absurd h
find grp rank (g ∷ gs) (b ∷ bs) a d h m =
    elim (member_append b (flat bs) a m) [
      | inl k ↦
          let e : grp a ≡ g = inside_at grp g b a h.0.all k in
          record {
            gl = [];
            gr = gs;
            bl = [];
            b = b;
            br = bs;
            gs_is = ap (λ (q : ℕ). q ∷ gs) (sym e);
            bs_is = refl;
            left = tt;
            mid = subst (λ (q : ℕ). Block grp rank q b) (sym e) h.0;
            right = h.1;
            here = k;
            new_left = refl;
            apart_left = λ x q _. absurd (false≢true q);
            apart_right = λ x q t. both_ways (member gs g) d.0 (subst (λ (w : ℕ). member gs w ≡ true) (t ∙ e) (group_in grp rank gs bs x h.1 q));
          }
      | inr k ↦
          let r = find grp rank gs bs a d.1 h.1 k in
          let ne : g ≡ grp a → ⊥ = λ e. both_ways (member gs g) d.0 (subst (λ (w : ℕ). member gs w ≡ true) (sym e) (group_in grp rank gs bs a h.1 k)) in
          record {
            gl = g ∷ r.gl;
            gr = r.gr;
            bl = b ∷ r.bl;
            b = r.b;
            br = r.br;
            gs_is = ap (λ (q : List ℕ). g ∷ q) r.gs_is;
            bs_is = ap (λ (q : List (List ℕ)). b ∷ q) r.bs_is;
            left = (h.0, r.left);
            mid = r.mid;
            right = r.right;
            here = r.here;
            new_left = simp (ne_eqb g (grp a) ne) r.new_left;
            apart_left = λ x q t. elim (member_append b (flat r.bl) x q)
                [ inl w ↦ ne (sym (inside_at grp g b x h.0.all w) ∙ t) | inr w ↦ r.apart_left x w t ];
            apart_right = r.apart_right;
          }
    ]

pub grouped_append : (grp rank : ℕ → ℕ) (gl gr : List ℕ) (bl br : List (List ℕ)) → Grouped grp rank gl bl → Grouped grp rank gr br → Grouped grp rank (gl ++ gr) (bl ++ br)
grouped_append grp rank [] gr [] br h k = k
grouped_append grp rank [] gr (b ∷ bl) br h k = absurd h
grouped_append grp rank (g ∷ gl) gr [] br h k = absurd h
grouped_append grp rank (g ∷ gl) gr (b ∷ bl) br h k = (h.0, grouped_append grp rank gl gr bl br h.1 k)

pub inside_same : (grp grp' : ℕ → ℕ) (g : ℕ) (b : List ℕ) → ((x : ℕ) → member b x ≡ true → grp' x ≡ grp x) → Inside grp g b → Inside grp' g b
inside_same grp grp' g [] e h = tt
inside_same grp grp' g (y ∷ ys) e h = (e y (member_here y ys) ∙ h.0, inside_same grp grp' g ys (λ x m. e x (member_there y ys x m)) h.1)

ranks_same : (rank rank' : ℕ → ℕ) (lo : ℕ) (b : List ℕ) → ((x : ℕ) → member b x ≡ true → rank' x ≡ rank x) → Ranks rank lo b → Ranks rank' lo b
ranks_same rank rank' lo [] e h = h
ranks_same rank rank' lo (y ∷ ys) e h =
    let q = e y (member_here y ys) in (
      subst (λ (k : ℕ). lo ≤ k) (sym q) h.0,
      subst (λ (k : ℕ). Ranks rank' (suc k) ys) (sym q) (ranks_same rank rank' (suc (rank y)) ys (λ x m. e x (member_there y ys x m)) h.1),
    )

pub grouped_same : (grp rank grp' rank' : ℕ → ℕ) (gs : List ℕ) (bs : List (List ℕ)) → ((x : ℕ) → member (flat bs) x ≡ true → (grp' x ≡ grp x) × (rank' x ≡ rank x)) →
    Grouped grp rank gs bs → Grouped grp' rank' gs bs
grouped_same grp rank grp' rank' [] [] e h = tt
grouped_same grp rank grp' rank' [] (b ∷ bs) e h = absurd h
grouped_same grp rank grp' rank' (g ∷ gs) [] e h = absurd h
grouped_same grp rank grp' rank' (g ∷ gs) (b ∷ bs) e h = (
  record {
    all = inside_same grp grp' g b (λ x m. (e x (member_left b (flat bs) x m)).0) h.0.all;
    ranks = ranks_same rank rank' 0 b (λ x m. (e x (member_left b (flat bs) x m)).1) h.0.ranks;
    some = h.0.some;
    few = h.0.few;
  },
  grouped_same grp rank grp' rank' gs bs (λ x m. e x (member_right b (flat bs) x m)) h.1,
)

-- the ranks are j, j + 1, ..
abbrev pub Numbered : (ℕ → ℕ) → ℕ → List ℕ → Type 0
Numbered rank j [] = Unit {0}
Numbered rank j (y ∷ ys) = (rank y ≡ j) × Numbered rank (suc j) ys

-- from 16 on they lie in h
abbrev pub Parted : (ℕ → ℕ) → ℕ → ℕ → ℕ → List ℕ → Type 0
Parted grp g h j [] = Unit {0}
Parted grp g h j (y ∷ ys) = (grp y ≡ cond (ltb j 16) g h) × Parted grp g h (suc j) ys

numbered_ranks : (rank : ℕ → ℕ) (lo j : ℕ) (ys : List ℕ) → lo ≤ j → j + length ys ≤ 64 → Numbered rank j ys → Ranks rank lo ys
numbered_ranks rank lo j [] l t h = omega arith
numbered_ranks rank lo j (y ∷ ys) l t h =
    let e = h.0 in (omega arith, numbered_ranks rank (suc (rank y)) (suc j) ys (omega arith) (omega arith) h.1)

ranks_take : (rank : ℕ → ℕ) (lo j k : ℕ) (ys : List ℕ) → lo ≤ j → j + length ys ≤ 64 → Numbered rank j ys → Ranks rank lo (take k ys)
ranks_take rank lo j zero ys l t h = omega arith
ranks_take rank lo j (suc k) [] l t h = omega arith
ranks_take rank lo j (suc k) (y ∷ ys) l t h =
    let e = h.0 in (omega arith, ranks_take rank (suc (rank y)) (suc j) k ys (omega arith) (omega arith) h.1)

ranks_drop : (rank : ℕ → ℕ) (lo j k : ℕ) (ys : List ℕ) → lo ≤ j → j + length ys ≤ 64 → Numbered rank j ys → Ranks rank lo (drop k ys)
ranks_drop rank lo j zero ys l t h = numbered_ranks rank lo j ys l t h
ranks_drop rank lo j (suc k) [] l t h = omega arith
ranks_drop rank lo j (suc k) (y ∷ ys) l t h = ranks_drop rank lo (suc j) k ys (omega arith) (omega arith) h.1

parted_same : (grp : ℕ → ℕ) (g j : ℕ) (ys : List ℕ) → Parted grp g g j ys → Inside grp g ys
parted_same grp g j [] h = tt
parted_same grp g j (y ∷ ys) h = (h.0 ∙ either (ltb j 16), parted_same grp g (suc j) ys h.1)
  where
    either : (t : Bool) → cond t g g ≡ g
    either true = refl
    either false = refl

parted_take : (grp : ℕ → ℕ) (g h j k : ℕ) (ys : List ℕ) → j + k ≤ 16 → Parted grp g h j ys → Inside grp g (take k ys)
parted_take grp g h j zero ys l p = tt
parted_take grp g h j (suc k) [] l p = tt
parted_take grp g h j (suc k) (y ∷ ys) l p =
    (p.0 ∙ simp (lt-ltb j 16 (omega arith)), parted_take grp g h (suc j) k ys (omega arith) p.1)

parted_all : (grp : ℕ → ℕ) (g h j : ℕ) (ys : List ℕ) → 16 ≤ j → Parted grp g h j ys → Inside grp h ys
parted_all grp g h j [] l p = tt
parted_all grp g h j (y ∷ ys) l p = (p.0 ∙ simp (le-ltb j 16 l), parted_all grp g h (suc j) ys (omega arith) p.1)

parted_drop : (grp : ℕ → ℕ) (g h j k : ℕ) (ys : List ℕ) → 16 ≤ j + k → Parted grp g h j ys → Inside grp h (drop k ys)
parted_drop grp g h j zero ys l p = parted_all grp g h j ys (omega arith) p
parted_drop grp g h j (suc k) [] l p = tt
parted_drop grp g h j (suc k) (y ∷ ys) l p = parted_drop grp g h (suc j) k ys (omega arith) p.1

pub flat_append : (bl br : List (List ℕ)) (x : ℕ) → member (flat (bl ++ br)) x ≡ true → (member (flat bl) x ≡ true) ⊎ (member (flat br) x ≡ true)
flat_append [] br x m = inr m
flat_append (b ∷ bl) br x m =
    elim (member_append b (flat (bl ++ br)) x m) [
      | inl k ↦ inl (member_left b (flat bl) x k)
      | inr k ↦ elim (flat_append bl br x k) [ inl q ↦ inl (member_right b (flat bl) x q) | inr q ↦ inr q ]
    ]

pub in_left : (bl br : List (List ℕ)) (x : ℕ) → member (flat bl) x ≡ true → member (flat (bl ++ br)) x ≡ true
in_left [] br x m = absurd (false≢true m)
in_left (b ∷ bl) br x m =
    elim (member_append b (flat bl) x m) [ inl k ↦ member_left b (flat (bl ++ br)) x k | inr k ↦ member_right b (flat (bl ++ br)) x (in_left bl br x k) ]

pub in_right : (bl br : List (List ℕ)) (x : ℕ) → member (flat br) x ≡ true → member (flat (bl ++ br)) x ≡ true
in_right [] br x m = m
in_right (b ∷ bl) br x m = member_right b (flat (bl ++ br)) x (in_right bl br x m)

pub flat_parts : (bl : List (List ℕ)) (b : List ℕ) (br : List (List ℕ)) → flat (bl ++ (b ∷ br)) ≡ flat bl ++ (b ++ flat br)
flat_parts [] b br = refl
flat_parts (c ∷ cs) b br = ap (λ (l : List ℕ). c ++ l) (flat_parts cs b br) ∙ sym (append_assoc c (flat cs) (b ++ flat br))

not_in : (c cs : List ℕ) (a : ℕ) → (member (c ++ cs) a ≡ true → ⊥) → member c a ≡ false
not_in c cs a h = elim (cases_Bool (member c a)) [ inl t ↦ absurd (h (member_left c cs a t)) | inr f ↦ f ]

pub after_parts : (bl : List (List ℕ)) (b : List ℕ) (br : List (List ℕ)) (a n : ℕ) → (member (flat bl) a ≡ true → ⊥) → member b a ≡ true →
    blocks_with (bl ++ (b ∷ br)) a n ≡ bl ++ divided (behind b a n) br
after_parts [] b br a n h m = simp m
after_parts (c ∷ cs) b br a n h m =
    simp (not_in c (flat cs) a h) (ap (λ (l : List (List ℕ)). c ∷ l) (after_parts cs b br a n (λ k. h (member_right c (flat cs) a k)) m))

pub home_parts : (bl : List (List ℕ)) (b : List ℕ) (br : List (List ℕ)) (a : ℕ) → (member (flat bl) a ≡ true → ⊥) → member b a ≡ true → home (bl ++ (b ∷ br)) a ≡ b
home_parts [] b br a h m = simp m
home_parts (c ∷ cs) b br a h m = simp (not_in c (flat cs) a h) (home_parts cs b br a (λ k. h (member_right c (flat cs) a k)) m)

-- what is grouped anew
module _ (grp rank grp' rank' : ℕ → ℕ) (gs : List ℕ) (bs : List (List ℕ)) (a n h : ℕ) (fd : Found grp rank gs bs a)
    (new : member (flat bs) n ≡ true → ⊥)
    (out : (x : ℕ) → (member (behind fd.b a n) x ≡ true → ⊥) → (grp' x ≡ grp x) × (rank' x ≡ rank x))
    (num : Numbered rank' 0 (behind fd.b a n))
    (part : Parted grp' (grp a) h 0 (behind fd.b a n)) where
  long : length (behind fd.b a n) ≡ suc (length fd.b)
  long = long_behind fd.b a n fd.here

  new_parts : member (flat (fd.bl ++ (fd.b ∷ fd.br))) n ≡ true → ⊥
  new_parts m = new (subst (λ (l : List (List ℕ)). member (flat l) n ≡ true) (sym fd.bs_is) m)

  away : (x : ℕ) → (n ≡ x → ⊥) → (grp x ≡ grp a → ⊥) → member (behind fd.b a n) x ≡ true → ⊥
  away x dn dg m =
      elim (member_behind_cases fd.b a n x m) [ inl e ↦ dn e | inr k ↦ dg (inside_at grp (grp a) fd.b x fd.mid.all k) ]

  left' : Grouped grp' rank' fd.gl fd.bl
  left' = grouped_same grp rank grp' rank' fd.gl fd.bl
      (λ x m. out x (away x (λ e. new_parts (in_left fd.bl (fd.b ∷ fd.br) n (subst (λ (k : ℕ). member (flat fd.bl) k ≡ true) (sym e) m))) (fd.apart_left x m)))
      fd.left

  right' : Grouped grp' rank' fd.gr fd.br
  right' = grouped_same grp rank grp' rank' fd.gr fd.br
      (λ x m. out x (away x (λ e. new_parts (in_right fd.bl (fd.b ∷ fd.br) n (member_right fd.b (flat fd.br) n (subst (λ (k : ℕ). member (flat fd.br) k ≡ true) (sym e) m))))
      (fd.apart_right x m)))
      fd.right

  after_is : blocks_with bs a n ≡ fd.bl ++ divided (behind fd.b a n) fd.br
  after_is = ap (λ (l : List (List ℕ)). blocks_with l a n) fd.bs_is ∙ after_parts fd.bl fd.b fd.br a n (λ m. fd.apart_left a m refl) fd.here

  whole_block : length fd.b < 32 → h ≡ grp a → Block grp' rank' (grp a) (behind fd.b a n)
  whole_block l e =
      let q = long in
      record {
        all = parted_same grp' (grp a) 0 (behind fd.b a n) (subst (λ (k : ℕ). Parted grp' (grp a) k 0 (behind fd.b a n)) e part);
        ranks = numbered_ranks rank' 0 0 (behind fd.b a n) (omega arith) (omega arith) num;
        some = omega arith;
        few = omega arith;
      }

  pub same_groups : length fd.b < 32 → h ≡ grp a → Grouped grp' rank' gs (blocks_with bs a n)
  same_groups l e =
      let q = long in
      let c : divided (behind fd.b a n) fd.br ≡ behind fd.b a n ∷ fd.br = simp (le-ltb 32 (length (behind fd.b a n)) (omega arith)) in
      subst (λ (bs' : List (List ℕ)). Grouped grp' rank' gs bs') (sym (after_is ∙ ap (λ (l : List (List ℕ)). fd.bl ++ l) c))
      (subst (λ (gs' : List ℕ). Grouped grp' rank' gs' (fd.bl ++ (behind fd.b a n ∷ fd.br))) (sym fd.gs_is)
      (grouped_append grp' rank' fd.gl (grp a ∷ fd.gr) fd.bl (behind fd.b a n ∷ fd.br) left' (whole_block l e, right')))

  groups_behind : behind gs (grp a) h ≡ fd.gl ++ (grp a ∷ (h ∷ fd.gr))
  groups_behind =
      ap (λ (l : List ℕ). behind l (grp a) h) fd.gs_is
      ∙ (behind_right fd.gl (grp a ∷ fd.gr) (grp a) h fd.new_left
      ∙ ap (λ (l : List ℕ). fd.gl ++ l) (simp (eq-eqb (grp a) (grp a) refl)))

  pub more_groups : 32 ≤ length fd.b → Grouped grp' rank' (behind gs (grp a) h) (blocks_with bs a n)
  more_groups l =
      let q = long in
      let f = fd.mid.few in
      let ys : List ℕ = behind fd.b a n in
      let t : length (take 16 ys) ≡ 16 = length-take-le 16 ys (omega arith) in
      let d : length (drop 16 ys) ≡ length ys - 16 = length-drop 16 ys in
      let c : divided ys fd.br ≡ take 16 ys ∷ (drop 16 ys ∷ fd.br) = simp (lt-ltb 32 (length ys) (omega arith)) in
      let one : Block grp' rank' (grp a) (take 16 ys) = record {
        all = parted_take grp' (grp a) h 0 16 ys (omega arith) part;
        ranks = ranks_take rank' 0 0 16 ys (omega arith) (omega arith) num;
        some = omega arith;
        few = omega arith;
      } in
      let two : Block grp' rank' h (drop 16 ys) = record {
        all = parted_drop grp' (grp a) h 0 16 ys (omega arith) part;
        ranks = ranks_drop rank' 0 0 16 ys (omega arith) (omega arith) num;
        some = omega arith;
        few = omega arith;
      } in
      subst (λ (bs' : List (List ℕ)). Grouped grp' rank' (behind gs (grp a) h) bs') (sym (after_is ∙ ap (λ (l : List (List ℕ)). fd.bl ++ l) c))
      (subst (λ (gs' : List ℕ). Grouped grp' rank' gs' (fd.bl ++ (take 16 ys ∷ (drop 16 ys ∷ fd.br)))) (sym groups_behind)
      (grouped_append grp' rank' fd.gl (grp a ∷ (h ∷ fd.gr)) fd.bl (take 16 ys ∷ (drop 16 ys ∷ fd.br)) left' (one, (two, right'))))
