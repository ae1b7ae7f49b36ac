-- What the calls answer.
use Rattle.std.proofs.Common.{◌≡◌, ℕ, ◌<◌, ◌≤◌, Bool, true, false, ltb, ◌⊎◌, List, length, Some, Ok, Err, Option, sym, ap, ◌∙◌, subst, inl, inr, arith}
use Rattle.std.proofs.lemmas.Bool.{lt-ltb, le-ltb, and_left, and_right, and_from, cond-true, cond-false}
use Rattle.labels.specs.Labels.{label_answer}
use Rattle.linked_lists.proofs.Chains.{Rising, chained}
use Rattle.linked_lists.proofs.Looks.{above_earlier, linked_following}
use Rattle.linked_lists.proofs.Marked.{label_marked}
use Rattle.linked_lists.proofs.Walks.{length_labelled}
use Rattle.linked_lists.specs.Chain.{Sound, RowOf, listed, labelled, label_at, next_at}
use Rattle.linked_lists.specs.declared.row.Row.{Row}
use Rattle.order.specs.Items.{known, before_answer, successor_answer}
use Rattle.refusals.specs.declared.kinds.OrderRefusal.TheVariants.{UnknownItem}

-- whatever the items carry
module _ {T : Type 0} {rows : List (Row T)} {n limit : ℕ} (s : Sound rows n limit) where
  pub is_known : (a : ℕ) → a < n → known (listed rows n) a ≡ true
  is_known a h = lt-ltb a (length (listed rows n)) (subst (λ (k : ℕ). a < k) (sym s.links.long) h)

  pub not_known : (a : ℕ) → n ≤ a → known (listed rows n) a ≡ false
  not_known a h = le-ltb a (length (listed rows n)) (subst (λ (k : ℕ). k ≤ a) (sym s.links.long) h)

  pub in_rows : (a : ℕ) → a < n → a < length rows
  in_rows a h = let f = s.few in let r = s.room in omega arith

  pub all_in_rows : n ≤ length rows
  all_in_rows = let f = s.few in let r = s.room in omega arith

  pub successor_ok : (a : ℕ) (x : Row T) → a < n → RowOf rows a x → Ok x.next ≡ successor_answer (listed rows n) a
  successor_ok a x h e =
      ap (λ (o : Option ℕ). Ok o) (e.next ∙ linked_following (next_at rows) (Some 0) (listed rows n) a s.links.linked (s.links.known a h))
      ∙ sym (cond-true _ _ _ (is_known a h))

  pub before_unknown : (a b : ℕ) → (n ≤ a) ⊎ (n ≤ b) → Err UnknownItem ≡ before_answer (listed rows n) a b
  before_unknown a b (inl h) = sym (cond-false _ _ _ (and_left _ _ (not_known a h)))
  before_unknown a b (inr h) = sym (cond-false _ _ _ (and_right _ _ (not_known b h)))

-- where labels rise, standing earlier is having the smaller one
pub before_is : {T : Type 0} {rows : List (Row T)} {lab : ℕ → ℕ} {n limit : ℕ} → Rising rows lab n limit → (a b : ℕ) (t : Bool) → a < n → b < n →
    t ≡ ltb (lab a) (lab b) → Ok t ≡ before_answer (listed rows n) a b
before_is {T} {rows} {lab} {n} s a b t ha hb e =
    ap (λ (q : Bool). Ok q) (e ∙ above_earlier lab 0 (listed rows n) a b s.rising (s.table.links.known a ha) (s.table.links.known b hb))
    ∙ sym (cond-true _ _ _ (and_from _ _ (is_known s.table a ha) (is_known s.table b hb)))

-- where the items carry labels
module _ {rows : List (Row ℕ)} {n limit : ℕ} (s : Rising rows (label_at rows) n limit) where
  pub before_ok : (a b : ℕ) (x y : Row ℕ) → a < n → b < n → RowOf rows a x → RowOf rows b y → Ok (ltb x.tag y.tag) ≡ before_answer (listed rows n) a b
  before_ok a b x y ha hb ex ey =
      before_is s a b (ltb x.tag y.tag) ha hb (ap (λ (k : ℕ). ltb k y.tag) (ex.tag 0) ∙ ap (λ (k : ℕ). ltb (label_at rows a) k) (ey.tag 0))

  pub label_ok : (a : ℕ) (x : Row ℕ) → a < n → RowOf rows a x → Ok x.tag ≡ label_answer (labelled rows n) a
  label_ok a x h e =
      ap (λ (k : ℕ). Ok k) (e.tag 0 ∙ sym (label_marked (label_at rows) (listed rows n) a (s.table.links.known a h)))
      ∙ sym (cond-true _ _ _ (lt-ltb a (length (labelled rows n)) (subst (λ (k : ℕ). a < k) (sym (length_labelled rows n (chained s))) h)))
