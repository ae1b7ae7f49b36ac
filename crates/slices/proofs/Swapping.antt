-- Two copies exchanged in a slice, and what a field may hold, read off.
use Rattle.std.proofs.Common.{◌≡◌, ℕ, ◌<◌, ◌≤◌, true, eqb, ◌⊎◌, sym, refl, ap, ◌∙◌, inl, inr, arith}
use Rattle.fields.specs.declared.kinds.Value.{Value}
use Rattle.fields.specs.declared.kinds.Value.TheVariants.{Number, Nil, To, From}
use Rattle.fields.specs.Fields.{suits, is_nil}
use Rattle.slices.specs.Slices.{Coherent, swap, swapped}

pub swap_swap : (c d i : ℕ) → swap c d (swap c d i) ≡ i
swap_swap c d i = grind arith

pub swapped_swapped : (c d : ℕ) (v : Value) → swapped c d (swapped c d v) ≡ v
swapped_swapped c d (Number n) = refl
swapped_swapped c d Nil = refl
swapped_swapped c d (To k) = ap To (swap_swap c d k)
swapped_swapped c d (From k l) = ap (λ (n : ℕ). From n l) (swap_swap c d k)

-- a value by its exchange
back : (c d : ℕ) (v w : Value) → swapped c d v ≡ w → v ≡ swapped c d w
back c d v w e = sym (swapped_swapped c d v) ∙ ap (swapped c d) e

pub suits_swapped : (c d i f : ℕ) (v : Value) → suits i f (swapped c d v) ≡ suits i f v
suits_swapped c d i f (Number n) = refl
suits_swapped c d i f Nil = refl
suits_swapped c d i f (To k) = refl
suits_swapped c d i f (From k l) = refl

root_swap : (c d i : ℕ) → (c ≡ 0 → ⊥) → (d ≡ 0 → ⊥) → eqb (swap c d i) 0 ≡ eqb i 0
root_swap c d i n m = grind arith

suits_like : (i j f : ℕ) (v : Value) → eqb i 0 ≡ eqb j 0 → suits i f v ≡ suits j f v
suits_like i j f v e = rw e

-- a slice is as coherent with two copies of nodes exchanged, wherever they are named
abbrev CoherentSwapped : Type 1
CoherentSwapped = (c d : ℕ) (on : ℕ → Type 0) (get : ℕ → ℕ → Value) → (c ≡ 0 → ⊥) → (d ≡ 0 → ⊥) → Coherent on get
    → Coherent (λ i. on (swap c d i)) (λ i f. swapped c d (get (swap c d i) f))

pub good_swapped : CoherentSwapped
good_swapped c d on get nc nd g = record {
  named = λ i l k oi e.
      let h = g.named (swap c d i) l (swap c d k) oi (back c d (get (swap c d i) l) (To k) e) in
      (h.0, elim h.1 [ inl q ↦ inl (ap (swapped c d) q ∙ ap (λ (n : ℕ). From n l) (swap_swap c d i)) | inr q ↦ inr (ap (swapped c d) q ∙ ap (λ (n : ℕ). From n l) (swap_swap c d i)) ]);
  backed = λ k b i l ok e.
      let h = g.backed (swap c d k) b (swap c d i) l ok (back c d (get (swap c d k) b) (From i l) e) in
      (h.0, ap (swapped c d) h.1 ∙ ap To (swap_swap c d k));
  single = λ k ok e.
      ap (swapped c d) (g.single (swap c d k) ok (sym (swapped_swapped c d (get (swap c d k) 3)) ∙ (ap (swapped c d) e ∙ swapped_swapped c d (get (swap c d k) 4))));
  typed = λ i f oi.
      suits_swapped c d i f (get (swap c d i) f)
      ∙ (suits_like i (swap c d i) f (get (swap c d i) f) (sym (root_swap c d i nc nd)) ∙ g.typed (swap c d i) f oi);
}

-- a slice is good by what its serving copies hold
pub good_agree : (on on' : ℕ → Type 0) (get get' : ℕ → ℕ → Value)
    → ((i : ℕ) → on i → on' i) → ((i : ℕ) → on' i → on i) → ((i f : ℕ) → on i → get' i f ≡ get i f)
    → Coherent on get → Coherent on' get'
good_agree on on' get get' to' fro same g = record {
  named = λ i l k oi e.
      let h = g.named i l k (fro i oi) (sym (same i l (fro i oi)) ∙ e) in
      (to' k h.0, elim h.1 [ inl q ↦ inl (same k 3 h.0 ∙ q) | inr q ↦ inr (same k 4 h.0 ∙ q) ]);
  backed = λ k b i l ok e.
      let h = g.backed k b i l (fro k ok) (sym (same k b (fro k ok)) ∙ e) in
      (to' i h.0, same i l h.0 ∙ h.1);
  single = λ k ok e.
      same k 3 (fro k ok) ∙ g.single k (fro k ok) (sym (same k 3 (fro k ok)) ∙ (e ∙ same k 4 (fro k ok)));
  typed = λ i f oi. ap (suits i f) (same i f (fro i oi)) ∙ g.typed i f (fro i oi);
}

-- what a field may hold, read off
pub nil_is : (v : Value) → is_nil v ≡ true → v ≡ Nil
nil_is (Number n) h = absurd (let z : ◌≡◌ {A = ℕ} 0 1 = cc in omega arith)
nil_is Nil h = refl
nil_is (To k) h = absurd (let z : ◌≡◌ {A = ℕ} 0 1 = cc in omega arith)
nil_is (From k l) h = absurd (let z : ◌≡◌ {A = ℕ} 0 1 = cc in omega arith)

-- a number field names no copy
pub suits_far : (c d i f : ℕ) (v : Value) → 5 ≤ f → suits i f v ≡ true → swapped c d v ≡ v
suits_far c d i f (Number n) h t = refl
suits_far c d i f Nil h t = refl
suits_far c d i f (To k) h t = absurd (let z : ⊥ = grind arith in z)
suits_far c d i f (From k l) h t = absurd (let z : ⊥ = grind arith in z)

-- a link that names a copy is one that its copy has
pub to_spot : (i f k : ℕ) → suits i f (To k) ≡ true → (f < 2) ⊎ ((i ≡ 0) × (f ≡ 2))
to_spot i f k h = grind arith

-- a back link stands in one of the two fields for it
pub from_spot : (i f a l : ℕ) → suits i f (From a l) ≡ true → (f ≡ 3) ⊎ (f ≡ 4)
from_spot i f a l h = grind arith
