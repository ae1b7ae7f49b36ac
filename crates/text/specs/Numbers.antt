-- Decimal numbers as bytes.
--
--   worth        the number that digits write
--   well_begun   not empty, and no zero in front of other bytes
--   numeral      digits without a leading zero
--   number_of    the number below 2 ^ k that a text writes, or nothing
--   integer_of   the signed 32-bit number that a text writes, or nothing
--   both         what two values make, where both are there
--   numbers_of   the 64-bit numbers that some texts write, where each one does
use Rattle.std.specs.Prelude.{ℕ, ◌+◌, ◌-◌, ◌*◌, ◌^◌, Bool, cond, not, ◌&&◌, List, [], ◌∷◌, length, drop, ℤ, pos, negsuc, Some, None, Option, ◌==◌, nat_le, nat_lt, slice_index}
use Rattle.std.specs.Str.{all_ascii_digits}

-- the number that digits write, behind those of n; the digit 0 is byte 48
abbrev pub worth : ℕ → List ℕ → ℕ
worth n [] = n
worth n (c ∷ cs) = worth (n * 10 + (c - 48)) cs

-- one byte, or more of which the first is not the digit 0
abbrev pub well_begun : List ℕ → Bool
well_begun bs = cond (nat_lt (length bs) 2) (length bs == 1) (not (slice_index bs 0 == 48))

-- digits without a leading zero
abbrev pub numeral : List ℕ → Bool
numeral bs = well_begun bs && all_ascii_digits bs

-- the number that the text writes, where it is below 2 ^ k
abbrev pub number_of : ℕ → List ℕ → Option ℕ
number_of k bs = cond (numeral bs && nat_lt (worth 0 bs) (2 ^ k)) (Some (worth 0 bs)) None

-- -n for a number n from 1 to 2 ^ 31
abbrev pub negated : Option ℕ → Option ℤ
negated None = None
negated (Some n) = cond (nat_le 1 n && nat_le n (2 ^ 31)) (Some (negsuc (n - 1))) None

-- n for a number n below 2 ^ 31
abbrev pub unsigned : Option ℕ → Option ℤ
unsigned None = None
unsigned (Some n) = cond (nat_lt n (2 ^ 31)) (Some (pos n)) None

-- the signed 32-bit number that the text writes; byte 45 is the minus
abbrev pub integer_of : List ℕ → Option ℤ
integer_of bs = cond (slice_index bs 0 == 45) (negated (number_of 64 (drop 1 bs))) (unsigned (number_of 64 bs))

-- f of both values, where both are there
abbrev pub both : {A B C : Type 0} → (A → B → C) → Option A → Option B → Option C
both f None b = None
both f (Some a) None = None
both f (Some a) (Some b) = Some (f a b)

-- the numbers that the texts write, where each text writes one
abbrev pub numbers_of : List (List ℕ) → Option (List ℕ)
numbers_of [] = Some []
numbers_of (w ∷ ws) = both (λ (n : ℕ) (ns : List ℕ). n ∷ ns) (number_of 64 w) (numbers_of ws)
