-- The order of strings of bytes: it is the library's order of slices, whose laws it has, and what it comes to without a recursion.
use Rattle.std.specs.Prelude.{◌≡◌, ℕ, ◌<◌, Bool, true, false, ◌⊎◌, List, [], ◌∷◌, ◌++◌, Some, refl}
use Rattle.std.specs.Cmp.Lexicographic.{slice_cmp, slice_partial_cmp}
use Rattle.std.specs.Ordering.{nat_cmp, ordering_reverse, is_lt, is_some_and}
use Rattle.std.specs.declared.cmp.Ordering.{Ordering}
use Rattle.std.specs.declared.cmp.Ordering.TheVariants.{Less, Equal, Greater}
use Rattle.std.proofs.Common.{sym, ap, ap₂, subst, ◌∙◌, inl, inr, arith}
use Rattle.std.proofs.lemmas.Bool.{cases_order, eq-eqb, ne_eqb, lt-ltb, le-ltb, true≢false, false≢true}
use Rattle.std.proofs.lemmas.Bool.Decides.{nat_tests}
use Rattle.std.proofs.lemmas.Map.Lookups.{exact_bytes}
use Rattle.std.proofs.lemmas.Cmp.{nat_list_cmp_total, tied_itself, same_from_slice_cmp, same_from_slice_cmp_tested}
use Rattle.keys.specs.Bytes.{bytes_first}
use Rattle.keys.specs.Laws.{SmallerByte, ProperPrefix, NamesByFirstDifference}

-- what `<` answers of two slices of bytes
pub first_if_less : (a b : List ℕ) (r : Bool) → r ≡ is_some_and is_lt (slice_partial_cmp (λ x y. Some (nat_cmp x y)) a b) → r ≡ bytes_first a b
first_if_less = same_from_slice_cmp_tested nat_cmp is_lt bytes_first refl (λ _ _. refl) (λ _ _. refl) (λ x y a b o h. grind (arith, nat_tests))

-- the first is the lesser one
is_first : (a b : List ℕ) → is_lt (slice_cmp nat_cmp a b) ≡ bytes_first a b
is_first a b = same_from_slice_cmp nat_cmp is_lt bytes_first refl (λ _ _. refl) (λ _ _. refl) (λ x y a b o h. grind (arith, nat_tests)) a b _ refl

pub bytes_irreflexive : (a : List ℕ) → bytes_first a a ≡ false
bytes_irreflexive a = sym (is_first a a) ∙ ap is_lt (tied_itself nat_list_cmp_total a)

less : (o : Ordering) → is_lt o ≡ true → o ≡ Less
less Less e = refl
less Equal e = absurd (false≢true e)
less Greater e = absurd (false≢true e)

pub bytes_transitive : (a b c : List ℕ) → bytes_first a b ≡ true → bytes_first b c ≡ true → bytes_first a c ≡ true
bytes_transitive a b c p q =
    sym (is_first a c)
    ∙ ap is_lt (nat_list_cmp_total.trans a b c (less _ (is_first a b ∙ p)) (less _ (is_first b c ∙ q)))

-- where neither goes first, they tie
tied : (o p : Ordering) → o ≡ ordering_reverse p → is_lt o ≡ false → is_lt p ≡ false → o ≡ Equal
tied o Less e p q = absurd (true≢false q)
tied o Equal e p q = e
tied o Greater e p q = absurd (true≢false (ap is_lt (sym e) ∙ p))

pub bytes_total : (a b : List ℕ) → bytes_first a b ≡ false → bytes_first b a ≡ false → a ≡ b
bytes_total a b p q =
    exact_bytes a b (tied _ _ (nat_list_cmp_total.antisymm a b) (is_first a b ∙ p) (is_first b a ∙ q))

-- a byte in front of both strings changes nothing
longer_prefix : (x : ℕ) (a b : List ℕ) → ProperPrefix a b → ProperPrefix (x ∷ a) (x ∷ b)
longer_prefix x a b h = record { y = h.y; rest = h.rest; b_is = ap (λ (l : List ℕ). x ∷ l) h.b_is }

longer_front : (x : ℕ) (a b : List ℕ) → SmallerByte a b → SmallerByte (x ∷ a) (x ∷ b)
longer_front x a b h = record {
  front = x ∷ h.front;
  x = h.x;
  y = h.y;
  a_rest = h.a_rest;
  b_rest = h.b_rest;
  a_is = ap (λ (l : List ℕ). x ∷ l) h.a_is;
  b_is = ap (λ (l : List ℕ). x ∷ l) h.b_is;
  smaller = h.smaller;
}

first_told : (a b : List ℕ) → bytes_first a b ≡ true → ProperPrefix a b ⊎ SmallerByte a b
first_told [] [] p = absurd (false≢true p)
first_told [] (y ∷ b) p = inl (record { y = y; rest = b; b_is = refl })
first_told (x ∷ a) [] p = absurd (false≢true p)
first_told (x ∷ a) (y ∷ b) p =
    elim (cases_order x y) [
      | inl e ↦
          subst (λ (z : ℕ). ProperPrefix (x ∷ a) (z ∷ b) ⊎ SmallerByte (x ∷ a) (z ∷ b)) e
          (elim (first_told a b (simp (le-ltb x y (omega arith), eq-eqb x y e) at p))
          [ inl h ↦ inl (longer_prefix x a b h) | inr h ↦ inr (longer_front x a b h) ])
      | inr (inl e) ↦ inr (record { front = []; x = x; y = y; a_rest = a; b_rest = b; a_is = refl; b_is = refl; smaller = e })
      | inr (inr e) ↦
          let w : x ≡ y → ⊥ = λ h. omega arith in
          absurd (false≢true (simp (le-ltb x y (omega arith), ne_eqb x y w) at p))
    ]

prefix_first : (a : List ℕ) (y : ℕ) (rest : List ℕ) → bytes_first a (a ++ (y ∷ rest)) ≡ true
prefix_first [] y rest = refl
prefix_first (x ∷ a) y rest = simp (le-ltb x x (omega arith), eq-eqb x x refl) (prefix_first a y rest)

smaller_first : (front : List ℕ) (x y : ℕ) (a b : List ℕ) → x < y → bytes_first (front ++ (x ∷ a)) (front ++ (y ∷ b)) ≡ true
smaller_first [] x y a b h = simp (lt-ltb x y h)
smaller_first (z ∷ front) x y a b h = simp (le-ltb z z (omega arith), eq-eqb z z refl) (smaller_first front x y a b h)

pub names_by_first_difference : NamesByFirstDifference
names_by_first_difference a b = (first_told a b, back)
  where
    back : ProperPrefix a b ⊎ SmallerByte a b → bytes_first a b ≡ true
    back (inl h) = ap (bytes_first a) h.b_is ∙ prefix_first a h.y h.rest
    back (inr h) = ap₂ bytes_first h.a_is h.b_is ∙ smaller_first h.front h.x h.y h.a_rest h.b_rest h.smaller
