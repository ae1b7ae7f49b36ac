-- Reading numbers to the end of a line.
use Rattle.std.proofs.Common.{◌≡◌, ℕ, List, ◌++◌}
use Rattle.std.specs.Option.{option_map}
use Rattle.text.specs.Numbers.{numbers_of}

-- the numbers so far, and those of the words that are left, are those of all words
pub record Sofar (all now : List (List ℕ)) (numbers : List ℕ) : Type 0 where
  pub same : option_map (λ (ns : List ℕ). numbers ++ ns) (numbers_of now) ≡ numbers_of all
