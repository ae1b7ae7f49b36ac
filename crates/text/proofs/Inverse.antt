-- Reading and writing numbers are inverse.
use Rattle.std.proofs.Common.{◌≡◌, ℕ, suc, ◌-◌, ◌^◌, ◌<◌, ◌≤◌, Bool, true, false, cond, not, ◌&&◌, eqb, ltb, leb, List, [], ◌∷◌, length, get_or, drop, ℤ, pos, negsuc, Some, None, decimal, Option, sym, refl, ap, ◌∙◌, subst, inl, inr, arith, pow_mono, w32, SFits, rules}
use Rattle.std.specs.Fmt.{signed_decimal}
use Rattle.std.specs.Str.{all_ascii_digits}
use Rattle.std.proofs.lemmas.Str.Parse.{IsNumeralModel, numerals_by_fold, tells_all_ascii_digits, not_in_digits}
use Rattle.std.proofs.lemmas.Fmt.{digits_decimal, digits_value-decimal, decimal-digits_value, decimal_nonempty, first_decimal, length-decimal-le}
use Rattle.std.proofs.lemmas.Bool.{cases_Bool, cases_lt, cases_eq, lt-ltb, le-ltb, ltb-true, le-leb, leb-true, eq-eqb, ne_eqb, eqb-true, eqb-false, and_parts, and_from, not-true}
use Rattle.text.specs.Numbers.{worth, well_begun, numeral, number_of, negated, unsigned}
use Rattle.text.specs.Laws.{NumbersReadBack, NumbersAreWritten, IntegersReadBack, IntegersAreWritten}

-- what is something is not nothing, and is one thing
pub some_same : {A : Type 0} (a b : A) → ◌≡◌ {A = Option A} (Some a) (Some b) → a ≡ b
some_same a b e = cc

pub none_some : {A : Type 0} (b : A) → ◌≡◌ {A = Option A} None (Some b) → ⊥
none_some b e = let z : ◌≡◌ {A = ℕ} 0 1 = cc in omega arith

own : IsNumeralModel (λ ds. all_ascii_digits ds ≡ true) (worth 0)
own = numerals_by_fold _ tells_all_ascii_digits worth (search rules)

below_64 : (k n : ℕ) → k ≤ 64 → n < 2 ^ k → n < 2 ^ 64
below_64 k n h lt = omega (arith, pow_mono h)

-- what is written of a number below 2 ^ 64 is digits
pub decimal_digits : (n : ℕ) → n < 2 ^ 64 → all_ascii_digits (decimal n) ≡ true
decimal_digits n lt = digits_decimal own n lt

-- and begins as a numeral does
decimal_begins : (n : ℕ) → n < 2 ^ 64 → well_begun (decimal n) ≡ true
decimal_begins n lt =
    elim (cases_lt (length (decimal n)) 2) [
      | inl t ↦ simp (lt-ltb _ _ t) (eq-eqb _ _ (omega (arith, decimal_nonempty n lt)))
      | inr t ↦ simp (le-ltb _ _ t) (ap not (ne_eqb _ _ (leading n lt t)))
    ]
  where
    leading : (n : ℕ) → n < 2 ^ 64 → 2 ≤ length (decimal n) → get_or (decimal n) 0 0 ≡ 48 → ⊥
    leading n lt two e =
        elim (cases_eq n 0) [
          | inl z ↦ let one : length (decimal n) ≤ 1 = length-decimal-le 1 n (omega arith) (omega arith) lt in omega arith
          | inr z ↦ omega (arith, first_decimal n (omega arith) lt)
        ]

pub numbers_read_back : NumbersReadBack
numbers_read_back k n h lt =
    let big = below_64 k n h lt in
    let is : worth 0 (decimal n) ≡ n = digits_value-decimal own n big in
    let small : ltb (worth 0 (decimal n)) (2 ^ k) ≡ true = lt-ltb _ _ (omega arith) in
    ap (λ (b : Bool). cond b (Some (worth 0 (decimal n))) None) (and_from (numeral (decimal n)) _ (and_from _ _ (decimal_begins n big) (digits_decimal own n big)) small)
    ∙ ap Some is

pub numbers_are_written : NumbersAreWritten
numbers_are_written k n text h e =
    elim (cases_Bool (numeral text && ltb (worth 0 text) (2 ^ k))) [
      | inl t ↦
          let parts = and_parts (numeral text) _ t in
          let shape = and_parts (well_begun text) _ parts.0 in
          let same : worth 0 text ≡ n = some_same (worth 0 text) n (sym (ap (λ (b : Bool). cond b (Some (worth 0 text)) None) t) ∙ e) in
          let lt : worth 0 text < 2 ^ k = ltb-true _ _ parts.1 in
          let begun = well_begun_lem text shape.0 in
          (sym (decimal-digits_value own text shape.1 begun.0 begun.1 (below_64 k (worth 0 text) h lt)) ∙ ap decimal same, omega arith)
      | inr f ↦ absurd (none_some n (sym (ap (λ (b : Bool). cond b (Some (worth 0 text)) None) f) ∙ e))
    ]
  where
    well_begun_lem : (bs : List ℕ) → well_begun bs ≡ true → (0 < length bs) × (get_or bs 0 0 ≡ 48 → length bs ≡ 1)
    well_begun_lem bs h =
        elim (cases_lt (length bs) 2) [
          | inl t ↦ let one = eqb-true (length bs) 1 (simp (lt-ltb _ _ t) at h) in (omega arith, λ _. one)
          | inr t ↦
              let apart : not (eqb (get_or bs 0 0) 48) ≡ true = simp (le-ltb _ _ t) at h in
              (omega arith, λ e. absurd (eqb-false _ _ (not-true _ apart) e))
        ]

-- no digit is a minus
no_minus : (n : ℕ) → n < 2 ^ 64 → get_or (decimal n) 0 0 ≡ 45 → ⊥
no_minus n lt e = not_in_digits own (decimal n) 45 (digits_decimal own n lt) (λ h. omega arith) 0 (decimal_nonempty n lt) e

negated_number : (n : ℕ) → n < 2 ^ 31 → negated (Some (suc n)) ≡ Some (negsuc n)
negated_number n lt =
    simp (le-leb 1 (suc n) (omega arith), le-leb (suc n) (2 ^ 31) (omega arith)) (ap (λ (m : ℕ). Some (negsuc m)) (omega arith))

pub integers_read_back : IntegersReadBack
integers_read_back (pos n) fits =
    let lt : n < 2 ^ 31 = fits.sfits in
    let other : eqb (get_or (decimal n) 0 0) 45 ≡ false = ne_eqb _ _ (no_minus n (omega arith)) in
    ap (λ (b : Bool). cond b (negated (number_of 64 (drop 1 (decimal n)))) (unsigned (number_of 64 (decimal n)))) other
    ∙ ap unsigned (numbers_read_back 64 n (omega arith) (omega arith)) ∙ simp (lt-ltb n (2 ^ 31) lt)
integers_read_back (negsuc n) fits =
    let lt : n < 2 ^ 31 = fits.sfits in
    ap negated (numbers_read_back 64 (suc n) (omega arith) (omega arith)) ∙ negated_number n lt

-- a text that begins with a minus
begins : (text : List ℕ) (c : ℕ) → get_or text 0 0 ≡ c → (c ≡ 0 → ⊥) → text ≡ c ∷ drop 1 text
begins [] c e ne = absurd (ne (sym e))
begins (x ∷ xs) c e ne = ap (λ (y : ℕ). y ∷ xs) e

-- what a signed number was read from
read_negative : (z : ℤ) (rest : List ℕ) (o : Option ℕ) → number_of 64 rest ≡ o → negated o ≡ Some z → ((45 ∷ rest) ≡ signed_decimal z) × SFits w32 z
read_negative z rest None r e = absurd (none_some z e)
read_negative z rest (Some n) r e =
    elim (cases_Bool (leb 1 n && leb n (2 ^ 31))) [
      | inl t ↦
          let parts = and_parts (leb 1 n) (leb n (2 ^ 31)) t in
          let low = leb-true 1 n parts.0 in
          let high = leb-true n (2 ^ 31) parts.1 in
          let is : negsuc (n - 1) ≡ z = some_same (negsuc (n - 1)) z (sym (ap (λ (b : Bool). cond b (Some (negsuc (n - 1))) None) t) ∙ e) in
          let up : suc (n - 1) ≡ n = omega arith in (
            ap (λ (l : List ℕ). 45 ∷ l) ((numbers_are_written 64 n rest (omega arith) r).0 ∙ ap decimal (sym up)) ∙ ap signed_decimal is,
            subst (SFits w32) is (record { sfits = omega arith }),
          )
      | inr f ↦ absurd (none_some z (sym (ap (λ (b : Bool). cond b (Some (negsuc (n - 1))) None) f) ∙ e))
    ]

read_unsigned : (z : ℤ) (text : List ℕ) (o : Option ℕ) → number_of 64 text ≡ o → unsigned o ≡ Some z → (text ≡ signed_decimal z) × SFits w32 z
read_unsigned z text None r e = absurd (none_some z e)
read_unsigned z text (Some n) r e =
    elim (cases_lt n (2 ^ 31)) [
      | inl t ↦
          let is : pos n ≡ z = some_same (pos n) z (sym (ap (λ (b : Bool). cond b (Some (pos n)) None) (lt-ltb n (2 ^ 31) t)) ∙ e) in
          ((numbers_are_written 64 n text (omega arith) r).0 ∙ ap signed_decimal is, subst (SFits w32) is (record { sfits = t }))
      | inr f ↦ absurd (none_some z (sym (ap (λ (b : Bool). cond b (Some (pos n)) None) (le-ltb n (2 ^ 31) f)) ∙ e))
    ]

pub integers_are_written : IntegersAreWritten
integers_are_written z text e =
    elim (cases_eq (get_or text 0 0) 45) [
      | inl m ↦
          let told : negated (number_of 64 (drop 1 text)) ≡ Some z = simp (eq-eqb (get_or text 0 0) 45 m) at e in
          let r = read_negative z (drop 1 text) (number_of 64 (drop 1 text)) refl told in
          (begins text 45 m (λ h. omega arith) ∙ r.0, r.1)
      | inr m ↦ read_unsigned z text (number_of 64 text) refl (simp (ne_eqb (get_or text 0 0) 45 m) at e)
    ]
