-- Two strings of bytes compared from left to right, place by place: where the comparison stands, and how it ends.
use Rattle.std.specs.Prelude.{◌≡◌, ℕ, ◌+◌, ◌<◌, ◌≤◌, true, false, cond, List, [], length, drop, ◌==◌, ◌≢◌, nat_lt, slice_index, refl}
use Rattle.std.proofs.Common.{sym, ap, ap₂, ◌∙◌, inl, inr, arith}
use Rattle.std.proofs.lemmas.List.{drop_more, drop_all}
use Rattle.std.proofs.lemmas.Bool.{cases_lt, eq-eqb, ne_eqb, lt-ltb, le-ltb, cases_Bool}
use Rattle.keys.specs.Bytes.{bytes_first}

-- what is left at the place i decides as the whole strings do
pub record Left (a b : List ℕ) (i : ℕ) : Type 0 where
  pub same : bytes_first a b ≡ bytes_first (drop i a) (drop i b)
  pub within : i ≤ length b

pub left_start : (a b : List ℕ) → Left a b 0
left_start a b = record { same = refl; within = omega arith }

-- b has ended and a has not
pub left_ended : (a b : List ℕ) (i : ℕ) → Left a b i → i < length a → length b ≤ i → bytes_first a b ≡ false
left_ended a b i h la lb = h.same ∙ ap₂ bytes_first (drop_more a i 0 la) (drop_all i b lb)

-- two different bytes decide
pub left_differs : (a b : List ℕ) (i : ℕ) → Left a b i → i < length a → i < length b → (slice_index a i ≢ slice_index b i) → bytes_first a b ≡ nat_lt (slice_index a i) (slice_index b i)
left_differs a b i h la lb ne =
    h.same ∙ ap₂ bytes_first (drop_more a i 0 la) (drop_more b i 0 lb) ∙ decided
  where
    decided : cond (nat_lt (slice_index a i) (slice_index b i)) true (cond (slice_index a i == slice_index b i) (bytes_first (drop (i + 1) a) (drop (i + 1) b)) false) ≡ nat_lt (slice_index a i) (slice_index b i)
    decided = elim (cases_Bool (nat_lt (slice_index a i) (slice_index b i))) [ inl t ↦ simp t | inr f ↦ simp (f, ne_eqb _ _ ne) ]

-- two equal bytes leave the rest to decide
pub left_more : (a b : List ℕ) (i : ℕ) → Left a b i → i < length a → i < length b → slice_index a i ≡ slice_index b i → Left a b (i + 1)
left_more a b i h la lb e = record {
  same = h.same ∙ ap₂ bytes_first (drop_more a i 0 la) (drop_more b i 0 lb)
      ∙ simp (le-ltb (slice_index a i) (slice_index b i) (omega arith), eq-eqb (slice_index a i) (slice_index b i) e);
  within = omega arith;
}

-- a has ended
pub left_all : (a b : List ℕ) (i : ℕ) → Left a b i → i ≡ length a → bytes_first a b ≡ nat_lt (length a) (length b)
left_all a b i h e =
    h.same ∙ ap (λ (l : List ℕ). bytes_first l (drop i b)) (drop_all i a (omega arith))
    ∙ elim (cases_lt (length a) (length b)) [
      | inl t ↦ ap (bytes_first []) (drop_more b i 0 (omega arith)) ∙ sym (lt-ltb _ _ t)
      | inr t ↦ ap (bytes_first []) (drop_all i b (omega arith)) ∙ sym (le-ltb _ _ t)
    ]
