-- What a table of copies says of the copies.
--
--   row_at, next_of           the row of a copy; the copy of its node that begins next
--   copy_of, copies_of        a copy; all copies
--   Placed                    each copy has a row, begins at a known version, and its next copy is there
--   SameRows, RowSet          the rows are as they were; one row is another
--   Enters                    a copy has other entries
--   behind_of                 the version behind a change
--   held, Holds               the entries of a copy after the version behind a change keeps the old value
--   RedirectsAll, Redirects   fields of a copy, or one, name one copy in place of another from a version on
--   Changes                   a field of a copy is changed at a version
use Rattle.std.specs.Prelude.{◌≡◌, ℕ, suc, ◌+◌, ◌<◌, ◌≤◌, true, cond, List, [], ◌∷◌, length, Some, None, vec_items, vec_len, Option, ◌≢◌, slice_index_or, is_some, IfSome}
use Rattle.fields.specs.declared.kinds.Value.{Value}
use Rattle.fields.specs.declared.kinds.Value.TheVariants.{Nil}
use Rattle.entries.specs.Entries.{Entry, keep}
use Rattle.slices.specs.Copies.{Copy, Copies, value_at}
use Rattle.slices.specs.Changes.{changed}
use Rattle.slices.specs.Partners.{redirects}
use Rattle.chains.specs.Views.{asked, entries_of}
use Rattle.copy_rows.specs.declared.row.CopyRow.{CopyRow}
use Rattle.copy_rows.specs.Rows.{first_of, stored}
use Rattle.copies.specs.declared.table.CopyTable.{CopyTable}

abbrev pub blank_row : CopyRow
blank_row = record { serial = 0; key = 0; lo = 0; left = Nil; right = Nil; back = Nil; other = Nil; value = Nil; mark = Nil; next = None }

-- the root record is the copy 0
abbrev pub row_at : CopyTable → ℕ → CopyRow
row_at t i = slice_index_or (t.root ∷ vec_items t.copies) i blank_row

abbrev pub next_of : CopyTable → ℕ → Option ℕ
next_of t i = (row_at t i).next

abbrev pub copy_of : CopyTable → ℕ → Copy
copy_of t i = record { serial = (row_at t i).serial; key = (row_at t i).key; lo = (row_at t i).lo; first = first_of (row_at t i); entries = entries_of t.chains i }

abbrev pub copies_of : CopyTable → Copies
copies_of t = record { total = t.chains.made; copy = copy_of t; made = t.nodes; versions = t.chains.versions }

pub record Placed (t : CopyTable) : Type 0 where
  pub rows : t.chains.made ≤ suc (vec_len t.copies)
  pub known : (i : ℕ) → i < t.chains.made → (row_at t i).lo < t.chains.versions
  pub next : (i n : ℕ) → i < t.chains.made → next_of t i ≡ Some n → n < t.chains.made

-- the rows and the number of nodes are as they were
pub record SameRows (t t' : CopyTable) : Type 0 where
  pub rows : (j : ℕ) → row_at t' j ≡ row_at t j
  pub long : vec_len t'.copies ≡ vec_len t.copies
  pub nodes : t'.nodes ≡ t.nodes

-- the copy i has the given row, if there is a place for it, and all else is as it was
pub record RowSet (i : ℕ) (row : CopyRow) (t t' : CopyTable) : Type 0 where
  pub here : i ≤ vec_len t.copies → row_at t' i ≡ row
  pub others : (j : ℕ) → (j ≢ i) → row_at t' j ≡ row_at t j
  pub long : vec_len t'.copies ≡ vec_len t.copies
  pub nodes : t'.nodes ≡ t.nodes
  pub chains : t'.chains ≡ t.chains

-- the version behind a change; where the copy serves none, which one plays no part
abbrev pub behind_of : Option ℕ → ℕ
behind_of None = 0
behind_of (Some s) = s

-- the entries of a copy, where the version behind u, if the copy serves it, has an entry of the field f: that which it had, or one with the
-- value at u
abbrev pub held : (ℕ → ℕ) → ℕ → Option ℕ → ℕ → Copy → List (Entry Value)
held pos u behind f k = cond (is_some behind) (keep pos f (behind_of behind) (value_at pos (pos u) k f) k.entries) k.entries

-- where all is ready, the copy i has the entries new; all else is as it was
pub record Enters (ready : Type 0) (i : ℕ) (new : List (Entry Value)) (t t' : CopyTable) : Type 0 where
  pub same : SameRows t t'
  pub made : t'.chains.made ≡ t.chains.made
  pub versions : t'.chains.versions ≡ t.chains.versions
  pub room : vec_len t'.chains.rows ≡ vec_len t.chains.rows
  pub others : (j : ℕ) → j < t.chains.made → (j ≢ i) → entries_of t'.chains j ≡ entries_of t.chains j
  pub here : ready → (entries_of t'.chains i ≡ new) × (t'.chains.used + length (entries_of t.chains i) ≡ t.chains.used + length (entries_of t'.chains i))

-- the version behind a change keeps its value, where the chains answer and two rows are free
abbrev pub Holds : (ℕ → ℕ) → ℕ → ℕ → Option ℕ → ℕ → ℕ → CopyTable → CopyTable → Type 0
Holds pos n u behind i f t t' =
    Enters (Placed t × (asked t.chains n i u ≡ true) × IfSome behind (λ s. asked t.chains n i s ≡ true) × (t.chains.used + 2 ≤ vec_len t.chains.rows))
    i (held pos u behind f (copy_of t i)) t t'

-- from the version x on the fields fs of the copy i name d where they named c, and get an entry at x where their values across x name c;
-- the chains answer, and a row for each is free
abbrev pub RedirectsAll : (ℕ → ℕ) → ℕ → ℕ → ℕ → ℕ → ℕ → List ℕ → CopyTable → CopyTable → Type 0
RedirectsAll pos n c d x i fs t t' =
    Enters (Placed t × (asked t.chains n i x ≡ true) × (t.chains.used + length fs ≤ vec_len t.chains.rows))
    i (redirects pos c d fs x (copy_of t i).first (entries_of t.chains i)) t t'

-- the same for one field
abbrev pub Redirects : (ℕ → ℕ) → ℕ → ℕ → ℕ → ℕ → ℕ → ℕ → CopyTable → CopyTable → Type 0
Redirects pos n c d x i f t t' = RedirectsAll pos n c d x i (f ∷ []) t t'

-- the field f of the copy i is changed at the version u by the rule of changes, where the rows are placed, the chains answer, the row has a
-- place for the field and two entry rows are free; all other copies are as they were, and each copy begins where it did and has its next
pub record Changes (pos : ℕ → ℕ) (n u : ℕ) (behind : Option ℕ) (i f : ℕ) (w : Value) (t t' : CopyTable) : Type 0 where
  pub nodes : t'.nodes ≡ t.nodes
  pub long : vec_len t'.copies ≡ vec_len t.copies
  pub made : t'.chains.made ≡ t.chains.made
  pub versions : t'.chains.versions ≡ t.chains.versions
  pub room : vec_len t'.chains.rows ≡ vec_len t.chains.rows
  pub marks : (j : ℕ) → j ≤ vec_len t.copies → ((row_at t' j).lo ≡ (row_at t j).lo) × (next_of t' j ≡ next_of t j)
  pub others : (j : ℕ) → j < t.chains.made → (j ≢ i) → copy_of t' j ≡ copy_of t j
  pub here : Placed t → stored f ≡ true → asked t.chains n i u ≡ true → IfSome behind (λ s. asked t.chains n i s ≡ true) → t.chains.used + 2 ≤ vec_len t.chains.rows
      → (copy_of t' i ≡ changed pos u (behind_of behind) (is_some behind) f w (copy_of t i)) × (t'.chains.used + length (entries_of t.chains i) ≡ t.chains.used + length (entries_of t'.chains i))
