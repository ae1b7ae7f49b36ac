-- Which of two keys goes first, asked by a line of text.
--
--   which          the answer, from whether each goes before the other
--   pair_answer    the answer to the word of a kind of key and two such keys, or nothing where the line is none such
--   piece_answer   the answer to `piece F P F P`, or nothing
--   job_answer     the answer to `job U N U N`, or nothing
--   names_of       the two names of `name "A" "B"`, or nothing
--   name_answer    the answer to `name "A" "B"`, or nothing; refused 14 where A or B has 0 or more than 16 bytes
--   key_answer     the answer to a line
use Rattle.std.specs.Prelude.{ℕ, Bool, cond, ◌&&◌, List, [], length, Some, None, Ok, Err, codes, Option, Result, nat_le}
use Rattle.refusals.specs.declared.kinds.NameRefusal.{NameRefusal}
use Rattle.refusals.specs.declared.kinds.NameRefusal.TheVariants.{Length}
use Rattle.keys.specs.declared.piece.PieceKey.{PieceKey}
use Rattle.keys.specs.declared.job.JobKey.{JobKey}
use Rattle.keys.specs.Orders.{pair_first, job_first}
use Rattle.keys.specs.Bytes.{bytes_first}
use Rattle.text.specs.Parts.{parts, words}
use Rattle.text.specs.Left.{first_of, behind_first, read_first, is_none, word_is, if_there}
use Rattle.text.specs.Keyed.{piece_of, job_of}
use Rattle.key_lines.specs.declared.answer.Which.{Which}
use Rattle.key_lines.specs.declared.answer.Which.TheVariants.{First, Second, Equal}
use Rattle.key_lines.specs.declared.answer.KeyRefusal.{KeyRefusal}
use Rattle.key_lines.specs.declared.answer.KeyRefusal.TheVariants.{Name, NotALine}

-- the one that goes before the other, or equal where neither does
abbrev pub which : Bool → Bool → Which
which ab ba = cond ab First (cond ba Second Equal)

-- the answer, where all parts are read
abbrev pub if_done : {A : Type 0} → List (List ℕ) → A → Option A
if_done rest answer = cond (is_none rest) (Some answer) None

-- the word of the kind, and two keys that read reads and goes puts in order
abbrev pub pair_answer : {K : Type 0} → (List (List ℕ) → Option K) → (K → K → Bool) → List ℕ → List (List ℕ) → Option Which
pair_answer read goes kind ws =
    if_there (read_first (word_is kind) ws) (λ _.
    if_there (read (behind_first ws)) (λ a.
    if_there (read (behind_first (behind_first (behind_first ws)))) (λ b.
    if_done (behind_first (behind_first (behind_first (behind_first (behind_first ws))))) (which (goes a b) (goes b a)))))

-- the word `piece` and two piece keys
abbrev pub piece_answer : List (List ℕ) → Option Which
piece_answer = pair_answer piece_of (λ (a b : PieceKey). pair_first a.file a.piece b.file b.piece) (codes "piece")

-- the word `job` and two job keys
abbrev pub job_answer : List (List ℕ) → Option Which
job_answer = pair_answer job_of (λ (a b : JobKey). job_first a.urgency a.number b.urgency b.number) (codes "job")

-- a name has 1 to 16 bytes
abbrev pub name_long : List ℕ → Bool
name_long a = nat_le 1 (length a) && nat_le (length a) 16

abbrev pub which_name : List ℕ → List ℕ → Result Which NameRefusal
which_name a b = cond (name_long a && name_long b) (Ok (which (bytes_first a b) (bytes_first b a))) (Err Length)

-- `name "A" "B"`, cut at its quotes into `name `, A, a space, B and nothing
abbrev pub names_of : List (List ℕ) → Option (List ℕ × List ℕ)
names_of ps =
    if_there (read_first (word_is (codes "name ")) ps) (λ _.
    if_there (first_of (behind_first ps)) (λ a.
    if_there (read_first (word_is (codes " ")) (behind_first (behind_first ps))) (λ _.
    if_there (first_of (behind_first (behind_first (behind_first ps)))) (λ b.
    if_there (read_first (word_is []) (behind_first (behind_first (behind_first (behind_first ps))))) (λ _.
    if_done (behind_first (behind_first (behind_first (behind_first (behind_first ps))))) (a, b))))))

abbrev pub name_answer : List (List ℕ) → Option (Result Which NameRefusal)
name_answer ps = if_there (names_of ps) (λ p. Some (which_name p.0 p.1))

-- the first of some answers that is there
abbrev pub first_of3 : Option Which → Option Which → Option (Result Which NameRefusal) → Result Which KeyRefusal
first_of3 (Some w) b c = Ok w
first_of3 None (Some w) c = Ok w
first_of3 None None (Some (Ok w)) = Ok w
first_of3 None None (Some (Err e)) = Err (Name e)
first_of3 None None None = Err NotALine

-- a line of pieces, of jobs or of names (byte 34 is the quote), or no line
abbrev pub key_answer : List ℕ → Result Which KeyRefusal
key_answer text = first_of3 (piece_answer (words text)) (job_answer (words text)) (name_answer (parts 34 text))
