-- The fields of a copy, numbered, what each may hold, and which copy a value names.
--
--   link, back, number                    the number of a field, by its kind
--   field_number                          the number of a field
--   is_nil, is_number, is_link, is_back   what kind of value a value is
--   suits                                 a field of a copy may hold a value
--   HasLink                               a copy has such a link
--   Shown                                 a field that belongs to a version's state: a link or a number, no back link
--   names_one, redirect                   a value names a copy; a value that names one copy in place of another
--
-- There are three kinds of fields. A link names a node: a node has the links 0 and 1, left and right; the root record has the
-- links 0, 1 and 2, which are the roots. A back link says by which link its node is named: a node has the back links 0 and 1,
-- the root record none. Number fields come last, without an end, so that nothing here depends on how many a node has: number 0
-- is the value, number 1 the mark.
use Rattle.std.specs.Prelude.{◌≡◌, Bool, true, false, cond, ◌⊎◌, ℕ, ◌+◌, ◌<◌, ◌==◌, eqb, ltb}
use Rattle.fields.specs.declared.kinds.Field.{Field}
use Rattle.fields.specs.declared.kinds.Field.TheVariants.{Left, Right, Third, FirstBack, SecondBack}
use Rattle.fields.specs.declared.kinds.Value.{Value}
use Rattle.fields.specs.declared.kinds.Value.TheVariants.{Number, Nil, To, From}

-- the fields 0, 1 and 2 are links
abbrev pub link : ℕ → ℕ
link l = l

-- the fields 3 and 4 are back links
abbrev pub back : ℕ → ℕ
back b = 3 + b

-- the fields from 5 on are numbers
abbrev pub number : ℕ → ℕ
number n = 5 + n

-- the number of a field of the table
abbrev pub field_number : Field → ℕ
field_number Left = link 0
field_number Right = link 1
field_number Third = link 2
field_number FirstBack = back 0
field_number SecondBack = back 1
field_number (Field.Number n) = number n

abbrev pub is_nil : Value → Bool
is_nil (Number n) = false
is_nil Nil = true
is_nil (To k) = false
is_nil (From k l) = false

abbrev pub is_number : Value → Bool
is_number (Number n) = true
is_number Nil = false
is_number (To k) = false
is_number (From k l) = false

-- nothing, or a copy that is named
abbrev pub is_link : Value → Bool
is_link (Number n) = false
is_link Nil = true
is_link (To k) = true
is_link (From k l) = false

-- nothing, or a copy and link that name
abbrev pub is_back : Value → Bool
is_back (Number n) = false
is_back Nil = true
is_back (To k) = false
is_back (From k l) = true

-- what the field f of the copy i may hold; the copy 0 is the root record, which has three links and nothing else, and a node has
-- no third link
abbrev pub suits : ℕ → ℕ → Value → Bool
suits i f v =
    cond (ltb f 2) (is_link v)
    (cond (eqb f 2) (cond (eqb i 0) (is_link v) (is_nil v))
    (cond (eqb i 0) (is_nil v)
    (cond (ltb f 5) (is_back v) (is_number v))))

-- the copy i has the link l: a node's 0 or 1, or a root
abbrev pub HasLink : ℕ → ℕ → Type 0
HasLink i l = (l < 2) ⊎ ((i ≡ 0) × (l ≡ 2))

-- a version's state shows the field: it is no back link
abbrev pub Shown : ℕ → Type 0
Shown f = (f ≡ 3 → ⊥) × (f ≡ 4 → ⊥)

-- the value names the copy c
abbrev pub names_one : ℕ → Value → Bool
names_one c (Number n) = false
names_one c Nil = false
names_one c (To k) = k == c
names_one c (From k l) = k == c

-- a value that names c names d in its place
abbrev pub redirect : ℕ → ℕ → Value → Value
redirect c d (Number n) = Number n
redirect c d Nil = Nil
redirect c d (To k) = To (cond (k == c) d k)
redirect c d (From k l) = From (cond (k == c) d k) l
