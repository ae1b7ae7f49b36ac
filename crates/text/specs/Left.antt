-- A text read part by part.
--
--   left           the parts that are not read yet
--   first_of       the first of some parts, or nothing
--   behind_first   the parts behind the first one
--   read_first     what is read from the first part, or nothing
--   is_none        there are no parts
--   word_is        a part is some text
--   if_there       what follows where a value is there
use Rattle.std.specs.Prelude.{ℕ, Bool, true, false, cond, List, [], ◌∷◌, Some, None, Option}
use Rattle.std.specs.Option.{option_map}
use Rattle.std.specs.Str.{bytes_eq}
use Rattle.text.specs.declared.split.Parts.{Parts}
use Rattle.text.specs.Parts.{parts}

-- the parts of what is left of a text, or none
abbrev pub parts_of : ℕ → Option (List ℕ) → List (List ℕ)
parts_of s None = []
parts_of s (Some text) = parts s text

-- the parts that are not read yet
abbrev pub left : Parts → List (List ℕ)
left p = parts_of p.separator (option_map (λ x. x.now) p.rest)

abbrev pub is_none : List (List ℕ) → Bool
is_none [] = true
is_none (w ∷ ws) = false

abbrev pub first_of : List (List ℕ) → Option (List ℕ)
first_of [] = None
first_of (w ∷ ws) = Some w

abbrev pub behind_first : List (List ℕ) → List (List ℕ)
behind_first [] = []
behind_first (w ∷ ws) = ws

-- what f reads from the first part
abbrev pub read_first : {A : Type 0} → (List ℕ → Option A) → List (List ℕ) → Option A
read_first f [] = None
read_first f (w ∷ ws) = f w

-- something exactly where the part is the text
abbrev pub word_is : List ℕ → List ℕ → Option (Unit {0})
word_is text part = cond (bytes_eq part text) (Some tt) None

-- f of a value, where it is there
abbrev pub if_there : {A B : Type 0} → Option A → (A → Option B) → Option B
if_there None f = None
if_there (Some a) f = f a
