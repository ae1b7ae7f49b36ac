-- A text cut into parts at each byte s: words at spaces, lines at line feeds.
--
--   up_to     the text before the first s
--   beyond    the text behind the first s, or nothing
--   parts     all parts; two s in a row have an empty part between them
--   joined    the text of some parts, with s between them
--   Without   a part has no s
--   words     the parts at spaces
use Rattle.std.specs.Prelude.{ℕ, cond, List, [], ◌∷◌, ◌++◌, Some, None, Option, ◌==◌, ◌≢◌}

-- the text before the first s
abbrev pub up_to : ℕ → List ℕ → List ℕ
up_to s [] = []
up_to s (c ∷ cs) = cond (c == s) [] (c ∷ up_to s cs)

-- the text behind the first s
abbrev pub beyond : ℕ → List ℕ → Option (List ℕ)
beyond s [] = None
beyond s (c ∷ cs) = cond (c == s) (Some cs) (beyond s cs)

-- one byte more in front of the first part
abbrev pub in_front : ℕ → List (List ℕ) → List (List ℕ)
in_front c [] = (c ∷ []) ∷ []
in_front c (w ∷ ws) = (c ∷ w) ∷ ws

-- all parts of the text
abbrev pub parts : ℕ → List ℕ → List (List ℕ)
parts s [] = [] ∷ []
parts s (c ∷ cs) = cond (c == s) ([] ∷ parts s cs) (in_front c (parts s cs))

-- the parts with one s between them
abbrev pub joined : ℕ → List (List ℕ) → List ℕ
joined s [] = []
joined s (w ∷ []) = w
joined s (w ∷ v ∷ ws) = w ++ (s ∷ joined s (v ∷ ws))

-- no byte of the part is an s
abbrev pub Without : ℕ → List ℕ → Type 0
Without s [] = Unit {0}
Without s (c ∷ cs) = (c ≢ s) × Without s cs

-- the words of a line: its parts at spaces, byte 32
abbrev pub words : List ℕ → List (List ℕ)
words = parts 32
