-- The loop that spreads labels: what it has done, and what is left.
use Rattle.std.proofs.Common.{◌≡◌, ℕ, suc, ◌+◌, ◌*◌, ◌/◌, ◌<◌, ◌≤◌, true, false, ◌⊎◌, List, [], ◌∷◌, ◌++◌, length, Some, None, Option, sym, refl, ap, ◌∙◌, subst, inl, inr, append_assoc, arith}
use Rattle.std.proofs.lemmas.Bool.{cases_lt, cases_Bool, le-leb, lt-leb, false≢true, both_ways}
use Rattle.std.proofs.lemmas.List.{length-set, map-append}
use Rattle.labels.proofs.Spreading.{in_range_lem, below_range, past_count}
use Rattle.labels.specs.Labels.{Entries, count_in, in_range, spread, marked}
use Rattle.labels.specs.Ranges.{first_from, Loose}
use Rattle.linked_lists.proofs.Marked.{marked_same}
use Rattle.linked_lists.proofs.Linking.{next_retagged}
use Rattle.linked_lists.proofs.Rows.{field_same, field_other}
use Rattle.linked_lists.proofs.Insert.{same_some, walk_same}
use Rattle.linked_lists.specs.Chain.{Linked, listed, labelled, label_at, next_at, retagged}
use Rattle.linked_lists.specs.Ranges.{Spreadable}
use Rattle.linked_lists.specs.declared.range.Range.{Range}
use Rattle.linked_lists.specs.declared.row.Row.{Row}
use Rattle.order.proofs.Members.{member_cases, member_here, member_there}
use Rattle.order.specs.Items.{member, Distinct}

none_spread : (base size m j : ℕ) (es : Entries) → count_in base size es ≡ 0 → spread base size m j es ≡ es
none_spread base size m j [] c = refl
none_spread base size m j (e ∷ es) c =
    elim (cases_Bool (in_range base size e.1)) [
      | inl t ↦ let z : suc (count_in base size es) ≡ 0 = simp t at c in absurd (omega arith)
      | inr f ↦ simp f (ap (λ (r : Entries). e ∷ r) (none_spread base size m j es (simp f at c)))
    ]

-- the rows R', once j items of the range have their new labels, from the rows R
pub record Progress (R R' : List (Row ℕ)) (n base size m j : ℕ) (next : Option ℕ) : Type 0 where
  pub did : List ℕ
  pub rest : List ℕ
  pub whole : listed R n ≡ did ++ rest
  pub linked : Linked (next_at R) next rest
  pub nexts : (x : ℕ) → next_at R' x ≡ next_at R x
  pub long : length R' ≡ length R
  pub fresh : marked (label_at R') did ++ spread base size m j (marked (label_at R) rest) ≡ spread base size m 0 (labelled R n)
  pub old : (x : ℕ) → member rest x ≡ true → label_at R' x ≡ label_at R x
  pub apart : (x : ℕ) → member did x ≡ true → member rest x ≡ true → ⊥
  pub distinct : Distinct rest
  pub low : ℕ
  pub from : base ≤ low
  pub loose : Loose base size low (marked (label_at R) rest)
  pub counted : j + count_in base size (marked (label_at R) rest) ≡ m
  pub within : (x : ℕ) → member rest x ≡ true → x < n

-- the part before the range, and from its first item on
begins : (R : List (Row ℕ)) (base size m : ℕ) (o : Option ℕ) (lo : ℕ) (xs : List ℕ) → Linked (next_at R) o xs → Loose base size lo (marked (label_at R) xs) → Distinct xs →
    0 < count_in base size (marked (label_at R) xs) →
    (did : List ℕ) × ((rest : List ℕ) × ((xs ≡ did ++ rest)
    × (Linked (next_at R) (Some (first_from base (marked (label_at R) xs))) rest
    × ((marked (label_at R) did ++ spread base size m 0 (marked (label_at R) rest) ≡ spread base size m 0 (marked (label_at R) xs))
    × (((x : ℕ) → member did x ≡ true → member rest x ≡ true → ⊥)
    × (Distinct rest
    × (Loose base size base (marked (label_at R) rest)
    × ((count_in base size (marked (label_at R) rest) ≡ count_in base size (marked (label_at R) xs))
    × ((x : ℕ) → member rest x ≡ true → member xs x ≡ true)))))))))
begins R base size m o lo [] h l d c = absurd (omega arith)
begins R base size m o lo (z ∷ zs) h l d c =
    elim (cases_lt (label_at R z) base) [
      | inl t ↦
          let out : in_range base size (label_at R z) ≡ false = below_range base size (label_at R z) t in
          let r = begins R base size m (next_at R z) (suc (label_at R z)) zs h.1 (simp out at l.1) d.1 (simp out at c) in
          let f : first_from base (marked (label_at R) (z ∷ zs)) ≡ first_from base (marked (label_at R) zs) = simp (lt-leb base (label_at R z) t) in (
            z ∷ r.0,
            (
              r.1.0,
              (
                ap (λ (q : List ℕ). z ∷ q) r.1.1.0,
                (
                  subst (λ (k : ℕ). Linked (next_at R) (Some k) r.1.0) (sym f) r.1.1.1.0,
                  (
                    simp out (ap (λ (q : Entries). (z, label_at R z) ∷ q) r.1.1.1.1.0),
                    (
                      (λ x md mr. elim (member_cases z r.0 x md) [
                        | inl e ↦ both_ways (member zs z) d.0 (subst (λ (k : ℕ). member zs k ≡ true) (sym e) (r.1.1.1.1.1.1.1.1.1 x mr))
                        | inr k ↦ r.1.1.1.1.1.0 x k.1 mr
                      ]),
                      (
                        r.1.1.1.1.1.1.0,
                        (
                          r.1.1.1.1.1.1.1.0,
                          (
                            simp out r.1.1.1.1.1.1.1.1.0,
                            λ x k. member_there z zs x (r.1.1.1.1.1.1.1.1.1 x k),
                          ),
                        ),
                      ),
                    ),
                  ),
                ),
              ),
            ),
          )
      | inr t ↦
          let f : first_from base (marked (label_at R) (z ∷ zs)) ≡ z = simp (le-leb base (label_at R z) t) in
          ([], (z ∷ zs, (refl, ((ap (λ (k : ℕ). Some k) f, h.1), (refl, ((λ x md mr. absurd (false≢true md)), (d, ((t, l.1), (refl, λ x k. k)))))))))
    ]

pub progress_start : (R : List (Row ℕ)) (n : ℕ) (r : Range) → Spreadable R n r → Progress R R n r.base r.size r.crowd 0 (Some r.first)
progress_start R n r s =
    let c : 0 < count_in r.base r.size (marked (label_at R) (listed R n)) = let f = s.full in let p = s.some in omega arith in
    let b = begins R r.base r.size r.crowd (Some 0) 0 (listed R n) s.linked s.loose s.distinct c in
    record {
      did = b.0;
      rest = b.1.0;
      whole = b.1.1.0;
      linked = subst (λ (k : ℕ). Linked (next_at R) (Some k) b.1.0) (sym s.starts) b.1.1.1.0;
      nexts = λ x. refl;
      long = refl;
      fresh = b.1.1.1.1.0;
      old = λ x m. refl;
      apart = b.1.1.1.1.1.0;
      distinct = b.1.1.1.1.1.1.0;
      low = r.base;
      from = omega arith;
      loose = b.1.1.1.1.1.1.1.0;
      counted = let e = b.1.1.1.1.1.1.1.1.0 in let f = s.full in omega arith;
      within = λ x m. s.within x (b.1.1.1.1.1.1.1.1.1 x m);
    }

module _ (R R' : List (Row ℕ)) (n base size m j : ℕ) where
  -- the next item to be labelled
  pub progress_known : (x : ℕ) (o : Option ℕ) → Progress R R' n base size m j o → o ≡ Some x → x < n
  progress_known x o p e = go p.rest p.linked p.within
    where
      go : (xs : List ℕ) → Linked (next_at R) o xs → ((y : ℕ) → member xs y ≡ true → y < n) → x < n
      go [] h w = let z : ◌≡◌ {A = ℕ} 0 1 = cc in absurd (omega arith)
      go (y ∷ ys) h w = w x (subst (λ (i : ℕ). member (y ∷ ys) i ≡ true) (same_some y x (sym h.0 ∙ e)) (member_here y ys))

  pub progress_end : (o : Option ℕ) → Progress R R' n base size m j o → (m ≤ j) ⊎ (o ≡ None) →
      marked (label_at R') (listed R n) ≡ spread base size m 0 (labelled R n)
  progress_end o p e =
      let none : count_in base size (marked (label_at R) p.rest) ≡ 0 = elim e [ inl h ↦ let c = p.counted in omega arith | inr d ↦ empty p.rest p.linked d ] in
      let same : marked (label_at R') p.rest ≡ marked (label_at R) p.rest = marked_same (label_at R) (label_at R') p.rest p.old in
      ap (marked (label_at R')) p.whole
      ∙ (map-append (λ i. (i, label_at R' i)) p.did p.rest
      ∙ (ap (λ (q : Entries). marked (label_at R') p.did ++ q) (same ∙ sym (none_spread base size m j (marked (label_at R) p.rest) none)) ∙ p.fresh))
    where
      empty : (xs : List ℕ) → Linked (next_at R) o xs → o ≡ None → count_in base size (marked (label_at R) xs) ≡ 0
      empty [] h d = refl
      empty (y ∷ ys) h d = let z : ◌≡◌ {A = ℕ} 0 1 = cc in absurd (omega arith)

  module _ (x : ℕ) (o : Option ℕ) (p : Progress R R' n base size m j o) (is : o ≡ Some x) (lt : j < m) (room : n ≤ length R) where
    v : ℕ
    v = base + (j * size) / m

    R'' : List (Row ℕ)
    R'' = retagged R' x v

    xn : x < length R'
    xn = let k = progress_known x o p is in let l = p.long in omega arith

    nexts'' : (y : ℕ) → next_at R'' y ≡ next_at R' y
    unfolding R''
    nexts'' = next_retagged R' x v xn

    label_x : label_at R'' x ≡ v
    unfolding R''
    label_x = field_same (λ (r : Row ℕ). r.tag) 0 R' x _ xn

    label_y : (y : ℕ) → (y ≡ x → ⊥) → label_at R'' y ≡ label_at R' y
    unfolding R''
    label_y y d = field_other (λ (r : Row ℕ). r.tag) 0 R' x y _ d

    more_long : length R'' ≡ length R
    unfolding R''
    more_long = length-set R' x _ ∙ p.long

    first : (y : ℕ) (ys : List ℕ) → in_range base size (label_at R y) ≡ true →
        marked (label_at R') p.did ++ spread base size m j (marked (label_at R) (y ∷ ys)) ≡ spread base size m 0 (labelled R n) →
        marked (label_at R') p.did ++ ((y, v) ∷ spread base size m (suc j) (marked (label_at R) ys)) ≡ spread base size m 0 (labelled R n)
    unfolding v
    first y ys t f = sym (ap (λ (q : Entries). marked (label_at R') p.did ++ q) (simp t)) ∙ f

    joined : (y : ℕ) (ys : List ℕ) → y ≡ x → marked (label_at R'') p.did ≡ marked (label_at R') p.did →
        marked (label_at R') p.did ++ ((y, v) ∷ spread base size m (suc j) (marked (label_at R) ys)) ≡ spread base size m 0 (labelled R n) →
        marked (label_at R'') (p.did ++ (y ∷ [])) ++ spread base size m (j + 1) (marked (label_at R) ys) ≡ spread base size m 0 (labelled R n)
    joined y ys e same f =
        let k : j + 1 ≡ suc j = omega arith in
        let lab : label_at R'' y ≡ v = ap (label_at R'') e ∙ label_x in
        let one : marked (label_at R'') (p.did ++ (y ∷ [])) ≡ marked (label_at R') p.did ++ ((y, v) ∷ []) =
        map-append (λ i. (i, label_at R'' i)) p.did (y ∷ [])
        ∙ (ap (λ (q : Entries). q ++ ((y, label_at R'' y) ∷ [])) same ∙ ap (λ (q : ℕ). marked (label_at R') p.did ++ ((y, q) ∷ [])) lab) in
        ap (λ (q : Entries). q ++ spread base size m (j + 1) (marked (label_at R) ys)) one
        ∙ (append_assoc (marked (label_at R') p.did) ((y, v) ∷ []) (spread base size m (j + 1) (marked (label_at R) ys))
        ∙ (ap (λ (q : ℕ). marked (label_at R') p.did ++ ((y, v) ∷ spread base size m q (marked (label_at R) ys))) k ∙ f))

    pushed : (ds : List ℕ) (y i : ℕ) → member (ds ++ (y ∷ [])) i ≡ true → (member ds i ≡ true) ⊎ (y ≡ i)
    pushed [] y i k = elim (member_cases y [] i k) [ inl e ↦ inr e | inr d ↦ absurd (false≢true d.1) ]
    pushed (d ∷ ds) y i k =
        elim (member_cases d (ds ++ (y ∷ [])) i k) [
          | inl e ↦ inl (subst (λ (q : ℕ). member (d ∷ ds) q ≡ true) e (member_here d ds))
          | inr q ↦ elim (pushed ds y i q.1) [ inl a ↦ inl (member_there d ds i a) | inr e ↦ inr e ]
        ]

    step : (rest : List ℕ) → listed R n ≡ p.did ++ rest → Linked (next_at R) o rest →
        marked (label_at R') p.did ++ spread base size m j (marked (label_at R) rest) ≡ spread base size m 0 (labelled R n) →
        ((y : ℕ) → member rest y ≡ true → label_at R' y ≡ label_at R y) → ((y : ℕ) → member p.did y ≡ true → member rest y ≡ true → ⊥) → Distinct rest →
        Loose base size p.low (marked (label_at R) rest) → j + count_in base size (marked (label_at R) rest) ≡ m → ((y : ℕ) → member rest y ≡ true → y < n) →
        Progress R R'' n base size m (j + 1) (next_at R x)
    step [] whole linked fresh old apart distinct loose counted within = let z : ◌≡◌ {A = ℕ} 0 1 = cc in absurd (omega arith)
    step (y ∷ ys) whole linked fresh old apart distinct loose counted within =
        let e : y ≡ x = same_some y x (sym linked.0 ∙ is) in
        let b = p.from in
        let u = loose.0 in
        let inside : in_range base size (label_at R y) ≡ true =
        elim (cases_lt (label_at R y) (base + size)) [
          | inl t ↦ in_range_lem base size (label_at R y) (omega arith) t
          | inr t ↦ let z = past_count base size (label_at R y) (marked (label_at R) (y ∷ ys)) t (omega arith, loose.1) in absurd (omega arith)
        ] in
        let counted' : j + suc (count_in base size (marked (label_at R) ys)) ≡ m = simp inside at counted in
        let fresh' : marked (label_at R') p.did ++ ((y, v) ∷ spread base size m (suc j) (marked (label_at R) ys)) ≡ spread base size m 0 (labelled R n) = first y ys inside fresh in
        let same : marked (label_at R'') p.did ≡ marked (label_at R') p.did =
        marked_same (label_at R') (label_at R'') p.did
        (λ i k. label_y i (λ d. apart i k (subst (λ (q : ℕ). member (y ∷ ys) q ≡ true) (e ∙ sym d) (member_here y ys)))) in
        record {
          did = p.did ++ (y ∷ []);
          rest = ys;
          whole = whole ∙ sym (append_assoc p.did (y ∷ []) ys);
          linked = subst (λ (k : ℕ). Linked (next_at R) (next_at R k) ys) e linked.1;
          nexts = λ i. nexts'' i ∙ p.nexts i;
          long = more_long;
          fresh = joined y ys e same fresh';
          old = λ i k. label_y i (λ d. both_ways (member ys y) distinct.0 (subst (λ (q : ℕ). member ys q ≡ true) (d ∙ sym e) k)) ∙ old i (member_there y ys i k);
          apart = λ i k q. elim (pushed p.did y i k) [
            | inl d ↦ apart i d (member_there y ys i q)
            | inr d ↦ both_ways (member ys y) distinct.0 (subst (λ (w : ℕ). member ys w ≡ true) (sym d) q)
          ];
          distinct = distinct.1;
          low = label_at R y;
          from = omega arith;
          loose = simp inside at loose.1;
          counted = omega arith;
          within = λ i k. within i (member_there y ys i k);
        }

    progress_more : Progress R (retagged R' x (base + (j * size) / m)) n base size m (j + 1) (next_at R x)
    unfolding R'' v
    progress_more = step p.rest p.whole p.linked p.fresh p.old p.apart p.distinct p.loose p.counted p.within

    -- with the rows F and the link as the code has them
    pub progress_code : (F : List (Row ℕ)) (next : Option ℕ) → F ≡ retagged R' x (base + (j * size) / m) → next ≡ next_at F x →
        Progress R F n base size m (j + 1) next
    progress_code F next e g =
        let to : next ≡ next_at R x = g ∙ (ap (λ (G : List (Row ℕ)). next_at G x) e ∙ (next_retagged R' x (base + (j * size) / m) xn x ∙ p.nexts x)) in
        subst (λ (o' : Option ℕ). Progress R F n base size m (j + 1) o') (sym to)
        (subst (λ (G : List (Row ℕ)). Progress R G n base size m (j + 1) (next_at R x)) (sym e) progress_more)

module _ (R R' : List (Row ℕ)) (n base size m j : ℕ) (o : Option ℕ) (p : Progress R R' n base size m j o) where
  pub progress_items : listed R' n ≡ listed R n
  progress_items = walk_same (next_at R) (next_at R') n (Some 0) p.nexts

  pub progress_labels : (m ≤ j) ⊎ (o ≡ None) → labelled R' n ≡ spread base size m 0 (labelled R n)
  progress_labels e = ap (marked (label_at R')) progress_items ∙ progress_end R R' n base size m j o p e
