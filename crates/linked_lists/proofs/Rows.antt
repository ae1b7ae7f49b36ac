-- Reading and writing one row of a table: what each field of its rows then is.
use Rattle.std.proofs.Common.{◌≡◌, ℕ, ◌<◌, List, length, map, get_or, set, None, sym, ap, ◌∙◌, subst, inl, inr, arith}
use Rattle.std.proofs.lemmas.Bool.{cases_eq}
use Rattle.std.proofs.lemmas.List.{get_or-map, get_or-set_same, get_or-set_other, length-map, map-set}
use Rattle.linked_lists.specs.Chain.{RowOf}
use Rattle.linked_lists.specs.declared.row.Row.{Row}

-- f is a field, and d what a missing row would hold
module _ {T A : Type 0} (f : Row T → A) (d : A) where
  field_read : (rows : List (Row T)) (i : ℕ) (x : Row T) → i < length rows → x ≡ get_or rows i x → f x ≡ get_or (map f rows) i d
  field_read rows i x h e = ap f e ∙ sym (get_or-map f rows i x d h)

  pub field_same : (rows : List (Row T)) (i : ℕ) (r : Row T) → i < length rows → get_or (map f (set rows i r)) i d ≡ f r
  field_same rows i r h =
      ap (λ (l : List A). get_or l i d) (map-set f rows i r) ∙ get_or-set_same (map f rows) i (f r) d (let e = length-map rows f in omega arith)

  pub field_other : (rows : List (Row T)) (i x : ℕ) (r : Row T) → (x ≡ i → ⊥) → get_or (map f (set rows i r)) x d ≡ get_or (map f rows) x d
  field_other rows i x r n = ap (λ (l : List A). get_or l x d) (map-set f rows i r) ∙ get_or-set_other (map f rows) i x (f r) d n

  -- a write that keeps the field
  pub field_kept : (rows : List (Row T)) (i : ℕ) (r : Row T) → i < length rows → f r ≡ get_or (map f rows) i d →
      (x : ℕ) → get_or (map f (set rows i r)) x d ≡ get_or (map f rows) x d
  field_kept rows i r h e x =
      elim (cases_eq x i) [
        | inl k ↦ subst (λ (y : ℕ). get_or (map f (set rows i r)) y d ≡ get_or (map f rows) y d) (sym k) (field_same rows i r h ∙ e)
        | inr n ↦ field_other rows i x r n
      ]

-- what a read of a row gives
pub row_read : {T : Type 0} (rows : List (Row T)) (i : ℕ) (x : Row T) → i < length rows → x ≡ get_or rows i x → RowOf rows i x
row_read {T} rows i x h e = record {
  tag = λ d. field_read (λ (r : Row T). r.tag) d rows i x h e;
  next = field_read (λ (r : Row T). r.next) None rows i x h e;
  prev = field_read (λ (r : Row T). r.prev) None rows i x h e;
}
