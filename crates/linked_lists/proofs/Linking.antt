-- What linking a new item in leaves: the chain with that item right behind another, whatever the items carry.
use Rattle.std.proofs.Common.{◌≡◌, ℕ, ◌+◌, ◌<◌, true, List, length, get_or, map, set, IfSome, Some, None, Option, sym, refl, ap, ◌∙◌, subst, inl, inr, arith}
use Rattle.std.proofs.lemmas.Bool.{cases_eq}
use Rattle.std.proofs.lemmas.List.{length-set, length-map, get_or_default}
use Rattle.linked_lists.proofs.Insert.{walk_same, linked_walk, linked_same, backed_same, linked_next_member, backed_prev_member, distinct_behind, linked_behind, backed_behind, above_behind, end_of}
use Rattle.linked_lists.proofs.Rows.{field_same, field_other, field_kept}
use Rattle.linked_lists.specs.Chain.{Linked, Above, walk, Links, listed, tag_at, next_at, prev_at, back_row, linked_rows, retagged}
use Rattle.linked_lists.specs.declared.row.Row.{Row}
use Rattle.order.proofs.Members.{long_behind, member_behind_new, member_behind_old, member_behind_cases}
use Rattle.order.specs.Items.{member, behind}

-- a link leads to a row below n, or nowhere
abbrev pub Fits : Option ℕ → ℕ → Type 0
Fits o n = IfSome o (λ b. b < n)

pub fits_at : (o : Option ℕ) (n x : ℕ) → Fits o n → o ≡ Some x → x < n
fits_at o n x h e = subst (λ (q : Option ℕ). Fits q n) e h

-- the link back of the item behind
module _ {T : Type 0} (t : T) where
  back_length : (o : Option ℕ) (n : ℕ) (rows : List (Row T)) → length (back_row t o n rows) ≡ length rows
  back_length None n rows = refl
  back_length (Some b) n rows = length-set rows b _

  back_next : (o : Option ℕ) (n : ℕ) (rows : List (Row T)) → Fits o (length rows) → (x : ℕ) → next_at (back_row t o n rows) x ≡ next_at rows x
  back_next None n rows h x = refl
  back_next (Some b) n rows h x = field_kept (λ (r : Row T). r.next) None rows b _ h refl x

  back_tag : (d : T) (o : Option ℕ) (n : ℕ) (rows : List (Row T)) → Fits o (length rows) → (x : ℕ) → tag_at d (back_row t o n rows) x ≡ tag_at d rows x
  back_tag d None n rows h x = refl
  back_tag d (Some b) n rows h x =
      field_kept (λ (r : Row T). r.tag) d rows b _ h
      (get_or_default (map (λ (r : Row T). r.tag) rows) b t d (let e = length-map rows (λ (r : Row T). r.tag) in omega arith)) x

  back_prev : (o : Option ℕ) (n : ℕ) (rows : List (Row T)) (x : ℕ) → (o ≡ Some x → ⊥) → prev_at (back_row t o n rows) x ≡ prev_at rows x
  back_prev None n rows x d = refl
  back_prev (Some b) n rows x d = field_other (λ (r : Row T). r.prev) None rows b x _ (λ e. d (ap (λ (k : ℕ). Some k) (sym e)))

  back_prev_at : (o : Option ℕ) (n : ℕ) (rows : List (Row T)) → Fits o (length rows) → (b : ℕ) → o ≡ Some b → prev_at (back_row t o n rows) b ≡ Some n
  back_prev_at None n rows h b e = cc
  back_prev_at (Some y) n rows h b e =
      let d : y ≡ b = cc in
      subst (λ (k : ℕ). prev_at (back_row t (Some y) n rows) k ≡ Some n) d (field_same (λ (r : Row T). r.prev) None rows y _ h)

module _ {T : Type 0} (rows : List (Row T)) (a n : ℕ) (t : T) (ha : a < n) (hn : n < length rows) (ho : Fits (next_at rows a) n) where
  rn : Row T
  rn = record { tag = t; next = next_at rows a; prev = Some a }

  ra : Row T
  ra = record { tag = tag_at t rows a; next = Some n; prev = prev_at rows a }

  two : List (Row T)
  two = set (set rows n rn) a ra

  two_length : length two ≡ length rows
  unfolding two
  two_length = simp length-set

  inner : a < length (set rows n rn)
  inner = let e = length-set rows n rn in omega arith

  two_n : {A : Type 0} (f : Row T → A) (d : A) → get_or (map f two) n d ≡ f rn
  unfolding two
  two_n f d = field_other f d (set rows n rn) a n ra (omega arith) ∙ field_same f d rows n rn hn

  two_x : {A : Type 0} (f : Row T → A) (d : A) (x : ℕ) → (x ≡ n → ⊥) → (x ≡ a → ⊥) → get_or (map f two) x d ≡ get_or (map f rows) x d
  unfolding two
  two_x f d x dn da = field_other f d (set rows n rn) a x ra da ∙ field_other f d rows n x rn dn

  -- a field that the row of a keeps
  two_kept : {A : Type 0} (f : Row T → A) (d : A) → f ra ≡ get_or (map f rows) a d → (x : ℕ) → (x ≡ n → ⊥) → get_or (map f two) x d ≡ get_or (map f rows) x d
  unfolding two
  two_kept f d e x dn =
      field_kept f d (set rows n rn) a ra inner (e ∙ sym (field_other f d rows n a rn (omega arith))) x ∙ field_other f d rows n x rn dn

  fits : Fits (next_at rows a) (length two)
  fits = widen (next_at rows a) ho
    where
      widen : (o : Option ℕ) → Fits o n → Fits o (length two)
      widen None h = tt
      widen (Some b) h = let e = two_length in omega arith

  is : linked_rows rows a n t ≡ back_row t (next_at rows a) n two
  unfolding two rn ra
  is = refl

  next_x : (x : ℕ) → (x ≡ n → ⊥) → (x ≡ a → ⊥) → next_at (linked_rows rows a n t) x ≡ next_at rows x
  next_x x dn da =
      ap (λ (r : List (Row T)). next_at r x) is ∙ (back_next t (next_at rows a) n two fits x ∙ two_x (λ (r : Row T). r.next) None x dn da)

  next_a : next_at (linked_rows rows a n t) a ≡ Some n
  unfolding two ra
  next_a =
      ap (λ (r : List (Row T)). next_at r a) is
      ∙ (back_next t (next_at rows a) n two fits a ∙ field_same (λ (r : Row T). r.next) None (set rows n rn) a ra inner)

  next_n : next_at (linked_rows rows a n t) n ≡ next_at rows a
  unfolding rn
  next_n = ap (λ (r : List (Row T)). next_at r n) is ∙ (back_next t (next_at rows a) n two fits n ∙ two_n (λ (r : Row T). r.next) None)

  pub tag_x : (d : T) (x : ℕ) → (x ≡ n → ⊥) → tag_at d (linked_rows rows a n t) x ≡ tag_at d rows x
  unfolding ra
  tag_x d x dn =
      ap (λ (r : List (Row T)). tag_at d r x) is
      ∙ (back_tag t d (next_at rows a) n two fits x
      ∙ two_kept (λ (r : Row T). r.tag) d
      (get_or_default (map (λ (r : Row T). r.tag) rows) a t d (let e = length-map rows (λ (r : Row T). r.tag) in omega arith)) x dn)

  pub tag_n : (d : T) → tag_at d (linked_rows rows a n t) n ≡ t
  unfolding rn
  tag_n d = ap (λ (r : List (Row T)). tag_at d r n) is ∙ (back_tag t d (next_at rows a) n two fits n ∙ two_n (λ (r : Row T). r.tag) d)

  prev_x : (x : ℕ) → (x ≡ n → ⊥) → (next_at rows a ≡ Some x → ⊥) → prev_at (linked_rows rows a n t) x ≡ prev_at rows x
  unfolding ra
  prev_x x dn db =
      ap (λ (r : List (Row T)). prev_at r x) is ∙ (back_prev t (next_at rows a) n two x db ∙ two_kept (λ (r : Row T). r.prev) None refl x dn)

  prev_n : prev_at (linked_rows rows a n t) n ≡ Some a
  unfolding rn
  prev_n =
      ap (λ (r : List (Row T)). prev_at r n) is
      ∙ (back_prev t (next_at rows a) n two n (λ e. let h = fits_at (next_at rows a) n n ho e in omega arith) ∙ two_n (λ (r : Row T). r.prev) None)

  prev_b : (b : ℕ) → next_at rows a ≡ Some b → prev_at (linked_rows rows a n t) b ≡ Some n
  prev_b b e = ap (λ (r : List (Row T)). prev_at r b) is ∙ back_prev_at t (next_at rows a) n two fits b e

  pub length_linked : length (linked_rows rows a n t) ≡ length rows
  length_linked = ap length is ∙ (back_length t (next_at rows a) n two ∙ two_length)

  module _ (ls : Links (next_at rows) (prev_at rows) n (listed rows n)) where
    new : member (listed rows n) n ≡ true → ⊥
    new m = let h = ls.within n m in omega arith

    linked_new : Linked (next_at (linked_rows rows a n t)) (Some 0) (behind (listed rows n) a n)
    linked_new =
        linked_behind (next_at rows) _ (prev_at rows) _ a n next_x next_a next_n prev_x prev_n prev_b (Some 0) (listed rows n) new ls.distinct ls.linked

    long_new : length (behind (listed rows n) a n) ≡ n + 1
    long_new = let e = long_behind (listed rows n) a n (ls.known a ha) in let l = ls.long in omega arith

    pub listed_linked : listed (linked_rows rows a n t) (n + 1) ≡ behind (listed rows n) a n
    listed_linked =
        ap (λ (k : ℕ). walk (next_at (linked_rows rows a n t)) k (Some 0)) (sym long_new)
        ∙ linked_walk (next_at (linked_rows rows a n t)) (Some 0) (behind (listed rows n) a n) linked_new

    pub links_behind : Links (next_at (linked_rows rows a n t)) (prev_at (linked_rows rows a n t)) (n + 1) (behind (listed rows n) a n)
    links_behind = record {
      linked = linked_new;
      backed = backed_behind (next_at rows) _ (prev_at rows) _ a n next_x next_a next_n prev_x prev_n prev_b
          (Some 0) None (listed rows n) new (ls.known a ha) ls.distinct ls.linked ls.backed;
      distinct = distinct_behind (listed rows n) a n new ls.distinct;
      long = long_new;
      known = λ b h. elim (cases_eq n b) [
        | inl e ↦ subst (λ (k : ℕ). member (behind (listed rows n) a n) k ≡ true) e (member_behind_new (listed rows n) a n (ls.known a ha))
        | inr d ↦ member_behind_old (listed rows n) a n b (ls.known b (omega arith))
      ];
      within = λ b m. elim (member_behind_cases (listed rows n) a n b m) [ inl e ↦ omega arith | inr k ↦ let h = ls.within b k in omega arith ];
    }

    pub links_linked : Links (next_at (linked_rows rows a n t)) (prev_at (linked_rows rows a n t)) (n + 1) (listed (linked_rows rows a n t) (n + 1))
    links_linked =
        subst (λ (xs : List ℕ). Links (next_at (linked_rows rows a n t)) (prev_at (linked_rows rows a n t)) (n + 1) xs) (sym listed_linked) links_behind

    -- the labels lab', where those of the others stay and that of n lies in the gap behind a
    pub rising_linked : (lab lab' : ℕ → ℕ) (l : ℕ) → ((x : ℕ) → (x ≡ n → ⊥) → lab' x ≡ lab x) → lab' n ≡ l → lab a < l → l < end_of lab (next_at rows a) →
        Above lab 0 (listed rows n) → Above lab' 0 (listed (linked_rows rows a n t) (n + 1))
    rising_linked lab lab' l lx ln lower upper ab =
        subst (λ (xs : List ℕ). Above lab' 0 xs) (sym listed_linked)
        (above_behind (next_at rows) lab lab' a n l lx ln (Some 0) 0 (listed rows n) new lower upper ls.linked ab)

-- where the links of a table lead are items
module _ {T : Type 0} (rows : List (Row T)) (n a : ℕ) (ls : Links (next_at rows) (prev_at rows) n (listed rows n)) (h : a < n) where
  pub next_fits : Fits (next_at rows a) n
  next_fits = step (next_at rows a) refl
    where
      step : (o : Option ℕ) → next_at rows a ≡ o → Fits o n
      step None e = tt
      step (Some b) e = ls.within b (linked_next_member (next_at rows) (Some 0) (listed rows n) a b ls.linked (ls.known a h) e)

  pub prev_fits : Fits (prev_at rows a) n
  prev_fits = step (prev_at rows a) refl
    where
      step : (o : Option ℕ) → prev_at rows a ≡ o → Fits o n
      step None e = tt
      step (Some y) e =
          elim (backed_prev_member (prev_at rows) None (listed rows n) a y ls.backed (ls.known a h) e)
          [ inl q ↦ let z : ◌≡◌ {A = ℕ} 0 1 = cc in absurd (omega arith) | inr m ↦ ls.within y m ]

-- a table with another tag in one row has the links that it had
module _ {T : Type 0} (rows : List (Row T)) (x : ℕ) (t : T) (h : x < length rows) where
  pub next_retagged : (y : ℕ) → next_at (retagged rows x t) y ≡ next_at rows y
  next_retagged = field_kept (λ (r : Row T). r.next) None rows x _ h refl

  prev_retagged : (y : ℕ) → prev_at (retagged rows x t) y ≡ prev_at rows y
  prev_retagged = field_kept (λ (r : Row T). r.prev) None rows x _ h refl

  pub links_retagged : (n : ℕ) → Links (next_at rows) (prev_at rows) n (listed rows n) →
      Links (next_at (retagged rows x t)) (prev_at (retagged rows x t)) n (listed (retagged rows x t) n)
  links_retagged n ls =
      subst (λ (xs : List ℕ). Links (next_at (retagged rows x t)) (prev_at (retagged rows x t)) n xs)
      (sym (walk_same (next_at rows) (next_at (retagged rows x t)) n (Some 0) next_retagged))
      (record {
        linked = linked_same (next_at rows) _ (Some 0) (listed rows n) (λ y m. next_retagged y) ls.linked;
        backed = backed_same (prev_at rows) _ None (listed rows n) (λ y m. prev_retagged y) ls.backed;
        distinct = ls.distinct;
        long = ls.long;
        known = ls.known;
        within = ls.within;
      })
