-- Reading digits from left to right: what is left at the place i, behind the number so far, decides as the whole text does.
use Rattle.std.proofs.Common.{◌≡◌, ℕ, ◌+◌, ◌-◌, ◌*◌, ◌^◌, ◌<◌, ◌≤◌, Bool, true, false, cond, ◌&&◌, ltb, List, [], ◌∷◌, length, get_or, drop, Some, None, sym, ap, ◌∙◌, arith}
use Rattle.std.specs.Str.{all_ascii_digits}
use Rattle.std.specs.Char.{is_ascii_digit}
use Rattle.std.proofs.lemmas.List.{drop_more}
use Rattle.std.proofs.lemmas.Bool.{le-ltb, and_right}
use Rattle.text.specs.Numbers.{worth, numeral, number_of}

-- further digits do not lower a number
pub worth_grows : (n : ℕ) (cs : List ℕ) → n ≤ worth n cs
worth_grows n [] = omega arith
worth_grows n (c ∷ cs) = omega (arith, worth_grows (n * 10 + (c - 48)) cs)

-- the number so far is n, and what is left begins at the place i
pub record Reading (bs : List ℕ) (i n : ℕ) : Type 0 where
  pub number : worth n (drop i bs) ≡ worth 0 bs
  pub digits : all_ascii_digits (drop i bs) ≡ all_ascii_digits bs

-- one digit more
pub reading_more : (bs : List ℕ) (i n : ℕ) → Reading bs i n → i < length bs → is_ascii_digit (get_or bs i 0) ≡ true → Reading bs (i + 1) (n * 10 + (get_or bs i 0 - 48))
reading_more bs i n h lt d = record {
  number = sym (ap (worth n) (drop_more bs i 0 lt)) ∙ h.number;
  digits = sym (ap all_ascii_digits (drop_more bs i 0 lt) ∙ ap (λ (b : Bool). b && all_ascii_digits (drop (i + 1) bs)) d) ∙ h.digits;
}

-- what is no number is read as nothing
no_number : (k : ℕ) (bs : List ℕ) → (numeral bs && ltb (worth 0 bs) (2 ^ k)) ≡ false → None ≡ number_of k bs
no_number k bs h = ap (λ (b : Bool). cond b (Some (worth 0 bs)) None) (sym h)

-- a number that is too large already: the whole one is too
pub reading_over : (bs : List ℕ) (i n k : ℕ) → Reading bs i n → 2 ^ k ≤ n → None ≡ number_of k bs
reading_over bs i n k h over =
    let large : ltb (worth 0 bs) (2 ^ k) ≡ false = le-ltb _ _ (omega (arith, worth_grows n (drop i bs), h.number)) in
    no_number k bs (and_right (numeral bs) (ltb (worth 0 bs) (2 ^ k)) large)

-- a number that is too large with the next digit
pub reading_grows_over : (bs : List ℕ) (i n k : ℕ) → Reading bs i n → i < length bs → is_ascii_digit (get_or bs i 0) ≡ true → 2 ^ k ≤ n * 10 + (get_or bs i 0 - 48) → None ≡ number_of k bs
reading_grows_over bs i n k h lt d over = reading_over bs (i + 1) (n * 10 + (get_or bs i 0 - 48)) k (reading_more bs i n h lt d) over
