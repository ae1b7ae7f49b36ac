-- Strings of bytes: their order, and how a name's bytes are kept.
--
--   bytes_first   one string goes before another: byte by byte, a prefix first
--   padded        the string filled up with zeros to 16 bytes
use Rattle.std.specs.Prelude.{ℕ, ◌-◌, Bool, true, false, cond, List, [], ◌∷◌, ◌++◌, length, replicate, ◌==◌, nat_lt}

-- a goes before b: at the first byte in which they differ a has the smaller one, or a is a proper prefix of b
abbrev pub bytes_first : List ℕ → List ℕ → Bool
bytes_first [] [] = false
bytes_first [] (y ∷ b) = true
bytes_first (x ∷ a) [] = false
bytes_first (x ∷ a) (y ∷ b) = cond (nat_lt x y) true (cond (x == y) (bytes_first a b) false)

-- the bytes, and zeros behind them up to 16
abbrev pub padded : List ℕ → List ℕ
padded a = a ++ replicate (16 - length a) 0
