-- A table of rows, by item number, as a list of items: the links lead through them all. Labels may rise along it.
--
--   tag_at, next_at, prev_at   what the row of an item holds, whatever its items carry
--   label_at                   the same, where they carry labels
--   blank                      the row of an item that stands alone
--   walk                       the items that links lead through
--   listed                     the items of a table, first to last
--   labelled                   the same, each with its label
--   Linked, Backed             the links lead along a list and back
--   Above                      the labels rise along a list
--   Links                      a list holds the items, each once, in the order of the links
--   Sound                      a table of `count` items, up to a limit
--   RowOf                      a row is that of an item
--   back_row, linked_rows      the rows once a new item was linked in
--   retagged                   the rows once an item carries something else
use Rattle.std.specs.Prelude.{◌≡◌, ℕ, zero, suc, ◌^◌, ◌<◌, ◌≤◌, true, List, [], ◌∷◌, length, map, set, Some, None, Option, slice_index_or, slice_set}
use Rattle.order.specs.Items.{member, Distinct}
use Rattle.labels.specs.Labels.{Entries, marked}
use Rattle.linked_lists.specs.declared.row.Row.{Row}

-- what item i carries; d where the table has no row i
abbrev pub tag_at : {T : Type 0} → T → List (Row T) → ℕ → T
tag_at {T} d rows i = slice_index_or (map (λ (r : Row T). r.tag) rows) i d

-- the item behind i, or none
abbrev pub next_at : {T : Type 0} → List (Row T) → ℕ → Option ℕ
next_at {T} rows i = slice_index_or (map (λ (r : Row T). r.next) rows) i None

-- the item before i, or none
abbrev pub prev_at : {T : Type 0} → List (Row T) → ℕ → Option ℕ
prev_at {T} rows i = slice_index_or (map (λ (r : Row T). r.prev) rows) i None

-- the label of item i, in rows that carry labels
abbrev pub label_at : List (Row ℕ) → ℕ → ℕ
label_at rows i = tag_at 0 rows i

-- the row of an item that stands alone
abbrev pub blank : {T : Type 0} → T → Row T
blank t = record { tag = t; next = None; prev = None }

-- the items from o on, by the links f, at most as many as the number says
abbrev pub walk : (ℕ → Option ℕ) → ℕ → Option ℕ → List ℕ
walk f zero o = []
walk f (suc k) None = []
walk f (suc k) (Some i) = i ∷ walk f k (f i)

-- the items first to last; item 0 is always the first
abbrev pub listed : {T : Type 0} → List (Row T) → ℕ → List ℕ
listed rows count = walk (next_at rows) count (Some 0)

-- the items first to last, each with its label
abbrev pub labelled : List (Row ℕ) → ℕ → Entries
labelled rows count = marked (label_at rows) (listed rows count)

-- the links f lead from o through xs to the end
abbrev pub Linked : (ℕ → Option ℕ) → Option ℕ → List ℕ → Type 0
Linked f o [] = o ≡ None
Linked f o (x ∷ xs) = (o ≡ Some x) × Linked f (f x) xs

-- the links p lead back along xs to o
abbrev pub Backed : (ℕ → Option ℕ) → Option ℕ → List ℕ → Type 0
Backed p o [] = Unit {0}
Backed p o (x ∷ xs) = (p x ≡ o) × Backed p (Some x) xs

-- the labels rise strictly along xs, from lo on, below 2 ^ 31
abbrev pub Above : (ℕ → ℕ) → ℕ → List ℕ → Type 0
Above lab lo [] = lo ≤ 2 ^ 31
Above lab lo (x ∷ xs) = (lo ≤ lab x) × Above lab (suc (lab x)) xs

-- xs holds the items below n, each once, in the order of the links
pub record Links (f p : ℕ → Option ℕ) (n : ℕ) (xs : List ℕ) : Type 0 where
  pub linked : Linked f (Some 0) xs
  pub backed : Backed p None xs
  pub distinct : Distinct xs
  pub long : length xs ≡ n
  pub known : (a : ℕ) → a < n → member xs a ≡ true
  pub within : (a : ℕ) → member xs a ≡ true → a < n

-- the rows link `count` items, at least one and at most the limit, and have room for as many as the limit
pub record Sound {T : Type 0} (rows : List (Row T)) (count limit : ℕ) : Type 0 where
  pub some : 0 < count
  pub few : count ≤ limit
  pub small : limit ≤ 4096
  pub room : limit ≤ length rows
  pub links : Links (next_at rows) (prev_at rows) count (listed rows count)

-- r is the row of item i
pub record RowOf {T : Type 0} (rows : List (Row T)) (i : ℕ) (r : Row T) : Type 0 where
  pub tag : (d : T) → r.tag ≡ tag_at d rows i
  pub next : r.next ≡ next_at rows i
  pub prev : r.prev ≡ prev_at rows i

-- the rows with the link back of the item at o, if there is one, leading to n; d is what a missing row would carry
abbrev pub back_row : {T : Type 0} → T → Option ℕ → ℕ → List (Row T) → List (Row T)
back_row d None n rows = rows
back_row d (Some b) n rows = slice_set rows b (record { tag = tag_at d rows b; next = next_at rows b; prev = Some n })

-- the rows once n, carrying t, was linked in right behind a
abbrev pub linked_rows : {T : Type 0} → List (Row T) → ℕ → ℕ → T → List (Row T)
linked_rows rows a n t =
    back_row t (next_at rows a) n
    (set (slice_set rows n (record { tag = t; next = next_at rows a; prev = Some a })) a
    (record { tag = tag_at t rows a; next = Some n; prev = prev_at rows a }))

-- the rows once item i carries t
abbrev pub retagged : {T : Type 0} → List (Row T) → ℕ → T → List (Row T)
retagged rows i t = slice_set rows i (record { tag = t; next = next_at rows i; prev = prev_at rows i })
