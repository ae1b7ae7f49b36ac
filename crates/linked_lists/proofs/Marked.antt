-- Items with their labels: what the list-level definitions read of the links and labels.
use Rattle.std.proofs.Common.{◌≡◌, ℕ, suc, ◌<◌, true, List, [], ◌∷◌, Some, Option, sym, refl, ap, ◌∙◌, inl, inr}
use Rattle.std.proofs.lemmas.Bool.{cases_eq, eq-eqb, ne_eqb, false≢true}
use Rattle.labels.specs.Laws.{Rising}
use Rattle.labels.specs.Labels.{marked, items_of, label_of, next_label, head_label, placed}
use Rattle.linked_lists.proofs.Chains.{Chained}
use Rattle.linked_lists.proofs.Insert.{end_of}
use Rattle.linked_lists.specs.Chain.{Linked, Above, listed, labelled, label_at, next_at}
use Rattle.linked_lists.specs.declared.row.Row.{Row}
use Rattle.order.proofs.Members.{member_cases, member_here, member_there}
use Rattle.order.specs.Items.{member, behind}

pub label_marked : (lab : ℕ → ℕ) (xs : List ℕ) (a : ℕ) → member xs a ≡ true → label_of (marked lab xs) a ≡ lab a
label_marked lab [] a m = absurd (false≢true m)
label_marked lab (x ∷ xs) a m =
    elim (member_cases x xs a m)
    [ inl e ↦ simp (eq-eqb x a e) (ap lab e) | inr d ↦ simp (ne_eqb x a d.0) (label_marked lab xs a d.1) ]

head_marked : (f : ℕ → Option ℕ) (lab : ℕ → ℕ) (o : Option ℕ) (xs : List ℕ) → Linked f o xs → head_label (marked lab xs) ≡ end_of lab o
head_marked f lab o [] h = ap (end_of lab) (sym h)
head_marked f lab o (x ∷ xs) h = ap (end_of lab) (sym h.0)

pub next_marked : (f : ℕ → Option ℕ) (lab : ℕ → ℕ) (o : Option ℕ) (xs : List ℕ) (a : ℕ) → Linked f o xs → member xs a ≡ true →
    next_label (marked lab xs) a ≡ end_of lab (f a)
next_marked f lab o [] a h m = absurd (false≢true m)
next_marked f lab o (x ∷ xs) a h m =
    elim (member_cases x xs a m) [
      | inl e ↦ simp (eq-eqb x a e) (head_marked f lab (f x) xs h.1 ∙ ap (λ (k : ℕ). end_of lab (f k)) e)
      | inr d ↦ simp (ne_eqb x a d.0) (next_marked f lab (f x) xs a h.1 d.1)
    ]

pub marked_same : (lab lab' : ℕ → ℕ) (xs : List ℕ) → ((x : ℕ) → member xs x ≡ true → lab' x ≡ lab x) → marked lab' xs ≡ marked lab xs
marked_same lab lab' [] same = refl
marked_same lab lab' (x ∷ xs) same =
    let e = same x (member_here x xs) in
    let r = marked_same lab lab' xs (λ y m. same y (member_there x xs y m)) in cc

pub marked_behind : (lab lab' : ℕ → ℕ) (xs : List ℕ) (a n l : ℕ) → ((x : ℕ) → member xs x ≡ true → lab' x ≡ lab x) → lab' n ≡ l →
    marked lab' (behind xs a n) ≡ placed (marked lab xs) a n l
marked_behind lab lab' [] a n l same new = refl
marked_behind lab lab' (x ∷ xs) a n l same new =
    let e = same x (member_here x xs) in
    let r = marked_same lab lab' xs (λ y m. same y (member_there x xs y m)) in
    let i = marked_behind lab lab' xs a n l (λ y m. same y (member_there x xs y m)) new in
    elim (cases_eq x a) [ inl d ↦ simp (eq-eqb x a d) (cc) | inr d ↦ simp (ne_eqb x a d) (cc) ]

pub unmark : (lab : ℕ → ℕ) (xs : List ℕ) → items_of (marked lab xs) ≡ xs
unmark lab [] = refl
unmark lab (x ∷ xs) = ap (λ (l : List ℕ). x ∷ l) (unmark lab xs)

-- rising labels, of items and of entries
pub above_rising : (lab : ℕ → ℕ) (lo : ℕ) (xs : List ℕ) → Above lab lo xs → Rising lo (marked lab xs)
above_rising lab lo [] h = h
above_rising lab lo (x ∷ xs) h = (h.0, above_rising lab (suc (lab x)) xs h.1)

pub rising_above : (lab : ℕ → ℕ) (lo : ℕ) (xs : List ℕ) → Rising lo (marked lab xs) → Above lab lo xs
rising_above lab lo [] h = h
rising_above lab lo (x ∷ xs) h = (h.0, rising_above lab (suc (lab x)) xs h.1)

-- the label behind an item, o being the link that leads there
pub next_label_is : (rows : List (Row ℕ)) (n a : ℕ) (o : Option ℕ) → Chained rows (label_at rows) n → a < n → next_at rows a ≡ o →
    next_label (labelled rows n) a ≡ end_of (label_at rows) o
next_label_is rows n a o ch h e =
    next_marked (next_at rows) (label_at rows) (Some 0) (listed rows n) a ch.links.linked (ch.links.known a h) ∙ ap (end_of (label_at rows)) e
