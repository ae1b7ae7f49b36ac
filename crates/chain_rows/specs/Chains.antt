-- The entries that a chain of rows spells, and what a walk or a write keeps of the rows.
--
--   entry_of, chain               the entries of a chain
--   node, last_of                 a row of a chain, by its place; the last of its first rows
--   Below, Inside, Known, Once    a chain's rows are below a number, in the table, of versions below a number, all different
--   Within                        a chain's rows are in the table, their versions below a number
--   Chained                       all that a walk needs of a chain; nothing of it needs the order
--   Off, Frame, Drawn, Shape      what a write leaves: other rows stay; the chain is made of its own rows and one new; links and versions stay
--   Grows                         all that a put leaves
use Rattle.std.specs.Prelude.{◌≡◌, ℕ, zero, suc, ◌+◌, ◌-◌, ◌<◌, ◌≤◌, ◌⊎◌, Option, Some, None, List, [], ◌∷◌, length, get_or, ◌≢◌, slice_index_or}
use Rattle.chain_rows.specs.declared.row.Chain.{Chain}
use Rattle.chain_rows.specs.declared.row.EntryRow.{EntryRow}
use Rattle.fields.specs.Fields.{field_number}
use Rattle.fields.specs.declared.kinds.Field.TheVariants.{Left}
use Rattle.fields.specs.declared.kinds.Value.{Value}
use Rattle.fields.specs.declared.kinds.Value.TheVariants.{Nil}
use Rattle.entries.specs.Entries.{Entry, entry}

abbrev pub blank : EntryRow
blank = record { version = 0; field = Left; value = Nil; next = 0 }

abbrev pub entry_of : EntryRow → Entry Value
entry_of r = entry r.version (field_number r.field) r.value

-- the entries of the n rows from the row h on
abbrev pub chain : List EntryRow → ℕ → ℕ → List (Entry Value)
chain rows h zero = []
chain rows h (suc n) = entry_of (slice_index_or rows h blank) ∷ chain rows (get_or rows h blank).next n

-- the row k steps behind h
abbrev pub node : List EntryRow → ℕ → ℕ → ℕ
node rows h zero = h
node rows h (suc k) = node rows (get_or rows h blank).next k

-- the n rows from h on have numbers below m, or, as Inside says, are in the table
abbrev pub Below : ℕ → List EntryRow → ℕ → ℕ → Type 0
Below m rows h n = (a : ℕ) → a < n → node rows h a < m

abbrev pub Inside : List EntryRow → ℕ → ℕ → Type 0
Inside rows h n = Below (length rows) rows h n

-- the versions of the n rows from h on are below k, that is, known
abbrev pub Known : ℕ → List EntryRow → ℕ → ℕ → Type 0
Known k rows h n = (a : ℕ) → a < n → (get_or rows (node rows h a) blank).version < k

abbrev pub Within : ℕ → List EntryRow → ℕ → ℕ → Type 0
Within k rows h n = Inside rows h n × Known k rows h n

-- the last of the first k rows from h on
abbrev pub last_of : List EntryRow → ℕ → ℕ → Option ℕ
last_of rows h zero = None
last_of rows h (suc j) = Some (node rows h j)

abbrev pub relinked : EntryRow → ℕ → EntryRow
relinked r n = record { version = r.version; field = r.field; value = r.value; next = n }

-- the n rows from h on are all different
abbrev pub Once : List EntryRow → ℕ → ℕ → Type 0
Once rows h n = (a b : ℕ) → a < n → b < n → node rows h a ≡ node rows h b → a ≡ b

-- the n rows from h on are among the first u, their versions below k, and all different: nothing of it needs the order
abbrev pub Chained : ℕ → ℕ → List EntryRow → ℕ → ℕ → Type 0
Chained k u rows h n = Below u rows h n × Known k rows h n × Once rows h n

-- j is none of the n rows from h on
abbrev pub Off : ℕ → List EntryRow → ℕ → ℕ → Type 0
Off j rows h n = (a : ℕ) → a < n → node rows h a ≢ j

-- rows below u that are not of the chain stay
abbrev pub Frame : ℕ → ℕ → ℕ → List EntryRow → List EntryRow → Type 0
Frame u h n rows rows' = (j : ℕ) → j < u → Off j rows h n → slice_index_or rows' j blank ≡ slice_index_or rows j blank

-- a chain made of the rows of another and the row u
abbrev pub Drawn : ℕ → List EntryRow → ℕ → ℕ → List EntryRow → ℕ → ℕ → Type 0
Drawn u rows h n rows' h' n' = (a : ℕ) → a < n' → (node rows' h' a ≡ u) ⊎ ((b : ℕ) × (b < n) × (node rows' h' a ≡ node rows h b))

-- the rows keep their versions and links
abbrev pub Shape : List EntryRow → List EntryRow → Type 0
Shape rows rows' = (j : ℕ) → ((get_or rows' j blank).next ≡ (get_or rows j blank).next) × ((get_or rows' j blank).version ≡ (get_or rows j blank).version)

-- the chain from has become the chain to, of at most one row more, which is the row u; other rows stay
pub record Grows (k u : ℕ) (rows rows' : List EntryRow) (from to : Chain) : Type 0 where
  pub longer : (from.len ≤ to.len) × (to.len ≤ from.len + 1)
  pub frame : Frame u from.head from.len rows rows'
  pub kept : Chained k (u + (to.len - from.len)) rows' to.head to.len
  pub drawn : Drawn u rows from.head from.len rows' to.head to.len
