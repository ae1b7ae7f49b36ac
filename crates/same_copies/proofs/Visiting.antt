-- The copies after visits and a cut are those of the split.
use Rattle.std.proofs.Common.{◌≡◌, ℕ, ◌<◌, Bool, false, leb, sym, refl, ap, ◌∙◌, subst, inl, inr, arith}
use Rattle.std.proofs.lemmas.Bool.{cases_Bool, cases_eq}
use Rattle.slices.specs.Copies.{Copy, Copies, Serves, serving, Sound}
use Rattle.slices.specs.Splits.{naming, renamed_copy, front_half, back_half, split}
use Rattle.slices.specs.Partners.{redirected_copy}
use Rattle.slices.proofs.Redirecting.{split_redirects, partners_found}
use Rattle.slices.proofs.Partnering.{split_idle}
use Rattle.slices.proofs.Splitting.{copy_new, copy_old, copy_else}
use Rattle.same_copies.specs.Visits.{Suffices, VisitsSplit}

copy_is : (j k : Copy) → j.serial ≡ k.serial → j.key ≡ k.key → j.lo ≡ k.lo → ((f : ℕ) → j.first f ≡ k.first f) → j.entries ≡ k.entries → j ≡ k
copy_is j k s y l f e = λ i. record { serial = s i; key = y i; lo = l i; first = λ g. f g i; entries = e i }

-- what a split never alters of a copy
record Marked (j k : Copy) : Type 0 where
  serial : j.serial ≡ k.serial
  key : j.key ≡ k.key
  lo : j.lo ≡ k.lo

renamed_marked : (pos : ℕ → ℕ) (c d x : ℕ) (here : Bool) (k : Copy) → Marked (renamed_copy pos naming c d x here k) k
renamed_marked pos c d x here k =
    elim (cases_Bool (leb (pos x) (pos k.lo)))
    [ inl t ↦ rw t (record { serial = refl; key = refl; lo = refl }) | inr t ↦ rw t (record { serial = refl; key = refl; lo = refl }) ]

redirected_marked : (pos : ℕ → ℕ) (c d x : ℕ) (here : Bool) (k : Copy) → Marked (redirected_copy pos naming c d x here k) k
redirected_marked pos c d x here k =
    elim (cases_Bool (leb (pos x) (pos k.lo)))
    [ inl t ↦ rw t (record { serial = refl; key = refl; lo = refl }) | inr t ↦ rw t (record { serial = refl; key = refl; lo = refl }) ]

redirected_is : (pos : ℕ → ℕ) (M : Copies) (c x i : ℕ) (here : Bool) → Sound pos M → i < M.total
    → redirected_copy pos naming c M.total x here (M.copy i) ≡ renamed_copy pos naming c M.total x here (M.copy i)
redirected_is pos M c x i here S l =
    let a = redirected_marked pos c M.total x here (M.copy i) in
    let b = renamed_marked pos c M.total x here (M.copy i) in
    let r = split_redirects pos M c x i here S l in
    copy_is (redirected_copy pos naming c M.total x here (M.copy i)) (renamed_copy pos naming c M.total x here (M.copy i))
    (a.serial ∙ sym b.serial) (a.key ∙ sym b.key) (a.lo ∙ sym b.lo) (λ f. sym (r.1 f)) (sym r.0)

module _ (pos : ℕ → ℕ) (c x : ℕ) (M : Copies) (S : Sound pos M) (sv : Serves pos M (pos x) c) where
  left_is : (visited : ℕ → Bool) → Suffices pos visited c x M → (i : ℕ) → i < M.total → (i ≡ c → ⊥) → visited i ≡ false → M.copy i ≡ (split pos c x M).copy i
  left_is visited F i l n v =
      let q = F i l n v in
      let r = split_idle pos M c x i S l n (λ p f h s. partners_found pos M c x i S sv q.0 q.1 p f h s) in
      let b = renamed_marked pos c M.total x (serving pos M (pos x) i) (M.copy i) in
      let e = copy_else pos M (serving pos M (pos x)) c x i l n in
      copy_is (M.copy i) ((split pos c x M).copy i)
      (sym b.serial ∙ ap (λ (k : Copy). k.serial) (sym e)) (sym b.key ∙ ap (λ (k : Copy). k.key) (sym e)) (sym b.lo ∙ ap (λ (k : Copy). k.lo) (sym e))
      (λ f. sym (r.1 f)) (sym r.0)

pub visits_split_lem : VisitsSplit
visits_split_lem pos visited c x M D S sv F P =
    let R = redirected_is pos M c x c (serving pos M (pos x) c) S sv.0 in
    record {
      total = P.total;
      made = P.made;
      versions = P.versions;
      copy = λ i l.
          elim (cases_eq i M.total) [
            | inl e ↦
                subst (λ (z : ℕ). D.copy z ≡ (split pos c x M).copy z) (sym e) (P.new ∙ (ap (back_half pos x) R ∙ sym (copy_new pos M (serving pos M (pos x)) c x)))
            | inr m ↦
                elim (cases_eq i c) [
                  | inl e ↦
                      subst (λ (z : ℕ). D.copy z ≡ (split pos c x M).copy z) (sym e) (P.old ∙ (ap (front_half pos x) R ∙ sym (copy_old pos M (serving pos M (pos x)) c x sv.0)))
                  | inr n ↦
                      let lt : i < M.total = omega (arith, l, m) in
                      elim (cases_Bool (visited i)) [
                        | inl v ↦ P.redirected i lt n v ∙ (redirected_is pos M c x i (serving pos M (pos x) i) S lt ∙ sym (copy_else pos M (serving pos M (pos x)) c x i lt n))
                        | inr v ↦ P.left i lt n v ∙ left_is pos c x M S sv visited F i lt n v
                      ]
                ]
          ];
    }
