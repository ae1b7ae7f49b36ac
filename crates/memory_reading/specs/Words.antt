-- The call that the words of a line write.
--
--   one, two, three                  what so many numbers of 32 bits make, where the first words write them
--   four                             what the numbers of `make` make: the third has 64 bits
--   wide_two                         what the numbers of `set-value` make: the second has 64 bits
--   moves, numbers, truths, writes   the call of a pointer memory with that word and those words behind it, or nothing
--   called                           the same of any call
--   begun                            the call that some words begin with, or nothing
--   behind_pointer, behind_line      the words behind a call
--   text_line                        the call that the words of a line write, or nothing
use Rattle.std.specs.Prelude.{ℕ, cond, List, Some, None, codes, Option}
use Rattle.std.specs.Str.{bytes_eq}
use Rattle.text.specs.Numbers.{number_of}
use Rattle.text.specs.Left.{first_of, behind_first, read_first, is_none, if_there}
use Rattle.memory_lines.specs.declared.line.Move.TheVariants.{Load, Follow, Copy}
use Rattle.memory_lines.specs.declared.line.Question.TheVariants.{Key, Value, Mark, Nil, Same}
use Rattle.memory_lines.specs.declared.line.Write.TheVariants.{Make, Save, Link, SetValue, SetMark}
use Rattle.memory_lines.specs.declared.line.PointerLine.{PointerLine}
use Rattle.memory_lines.specs.declared.line.PointerLine.TheVariants.{Moves, Asks, Writes}
use Rattle.memory_lines.specs.declared.line.VersionLine.TheVariants.{Open, Enter, Close}
use Rattle.memory_lines.specs.declared.line.MemoryLine.{MemoryLine}
use Rattle.memory_lines.specs.declared.line.MemoryLine.TheVariants.{Pointer, Version}

-- numbers of 32 bits
abbrev pub one : {A : Type 0} → (ℕ → A) → List (List ℕ) → Option A
one f ws = if_there (read_first (number_of 32) ws) (λ a. Some (f a))

abbrev pub two : {A : Type 0} → (ℕ → ℕ → A) → List (List ℕ) → Option A
two f ws = if_there (read_first (number_of 32) ws) (λ a. one (f a) (behind_first ws))

abbrev pub three : {A : Type 0} → (ℕ → ℕ → ℕ → A) → List (List ℕ) → Option A
three f ws = if_there (read_first (number_of 32) ws) (λ a. two (f a) (behind_first ws))

-- of two numbers the second has 64 bits, of four the third
abbrev pub wide_two : {A : Type 0} → (ℕ → ℕ → A) → List (List ℕ) → Option A
wide_two f ws = if_there (read_first (number_of 32) ws) (λ a. if_there (read_first (number_of 64) (behind_first ws)) (λ b. Some (f a b)))

abbrev pub four : {A : Type 0} → (ℕ → ℕ → ℕ → ℕ → A) → List (List ℕ) → Option A
four f ws =
    if_there (read_first (number_of 32) ws) (λ a.
    if_there (read_first (number_of 32) (behind_first ws)) (λ b.
    if_there (read_first (number_of 64) (behind_first (behind_first ws))) (λ c. one (f a b c) (behind_first (behind_first (behind_first ws))))))

-- words that make a node or write
abbrev pub writes : List ℕ → List (List ℕ) → Option PointerLine
writes w ws =
    cond (bytes_eq w (codes "make")) (four (λ r k v m. Writes (Make r k v m)) ws)
    (cond (bytes_eq w (codes "save")) (two (λ a b. Writes (Save a b)) ws)
    (cond (bytes_eq w (codes "link")) (three (λ a b c. Writes (Link a b c)) ws)
    (cond (bytes_eq w (codes "set-value")) (wide_two (λ a b. Writes (SetValue a b)) ws)
    (cond (bytes_eq w (codes "set-mark")) (two (λ a b. Writes (SetMark a b)) ws) None))))

-- words that ask for yes or no, and those
abbrev pub truths : List ℕ → List (List ℕ) → Option PointerLine
truths w ws =
    cond (bytes_eq w (codes "nil")) (one (λ a. Asks (Nil a)) ws)
    (cond (bytes_eq w (codes "same")) (two (λ a b. Asks (Same a b)) ws) (writes w ws))

-- words that ask for a number, and those
abbrev pub numbers : List ℕ → List (List ℕ) → Option PointerLine
numbers w ws =
    cond (bytes_eq w (codes "key")) (one (λ a. Asks (Key a)) ws)
    (cond (bytes_eq w (codes "value")) (one (λ a. Asks (Value a)) ws)
    (cond (bytes_eq w (codes "mark")) (one (λ a. Asks (Mark a)) ws) (truths w ws)))

-- words that move registers, and those
abbrev pub moves : List ℕ → List (List ℕ) → Option PointerLine
moves w ws =
    cond (bytes_eq w (codes "load")) (two (λ a b. Moves (Load a b)) ws)
    (cond (bytes_eq w (codes "follow")) (three (λ a b c. Moves (Follow a b c)) ws)
    (cond (bytes_eq w (codes "move")) (two (λ a b. Moves (Copy a b)) ws) (numbers w ws)))

-- words about versions, and those
abbrev pub called : List ℕ → List (List ℕ) → Option MemoryLine
called w ws =
    cond (bytes_eq w (codes "open")) (one (λ a. Version (Open a)) ws)
    (cond (bytes_eq w (codes "enter")) (one (λ a. Version (Enter a)) ws)
    (cond (bytes_eq w (codes "close")) (Some (Version Close)) (if_there (moves w ws) (λ l. Some (Pointer l)))))

abbrev pub begun : List (List ℕ) → Option MemoryLine
begun ws = if_there (first_of ws) (λ w. called w (behind_first ws))

-- the words behind a call's numbers
abbrev pub behind_two : List (List ℕ) → List (List ℕ)
behind_two ws = behind_first (behind_first ws)

abbrev pub behind_pointer : PointerLine → List (List ℕ) → List (List ℕ)
behind_pointer (Moves (Load a b)) ws = behind_two ws
behind_pointer (Moves (Follow a b c)) ws = behind_first (behind_two ws)
behind_pointer (Moves (Copy a b)) ws = behind_two ws
behind_pointer (Asks (Key a)) ws = behind_first ws
behind_pointer (Asks (Value a)) ws = behind_first ws
behind_pointer (Asks (Mark a)) ws = behind_first ws
behind_pointer (Asks (Nil a)) ws = behind_first ws
behind_pointer (Asks (Same a b)) ws = behind_two ws
behind_pointer (Writes (Make a b c d)) ws = behind_two (behind_two ws)
behind_pointer (Writes (Save a b)) ws = behind_two ws
behind_pointer (Writes (Link a b c)) ws = behind_first (behind_two ws)
behind_pointer (Writes (SetValue a b)) ws = behind_two ws
behind_pointer (Writes (SetMark a b)) ws = behind_two ws

-- and behind its own word
abbrev pub behind_line : MemoryLine → List (List ℕ) → List (List ℕ)
behind_line (Pointer l) ws = behind_pointer l (behind_first ws)
behind_line (Version (Open a)) ws = behind_two ws
behind_line (Version (Enter a)) ws = behind_two ws
behind_line (Version Close) ws = behind_first ws

-- a call, and no words behind it
abbrev pub text_line : List (List ℕ) → Option MemoryLine
text_line ws = if_there (begun ws) (λ l. cond (is_none (behind_line l ws)) (Some l) None)
