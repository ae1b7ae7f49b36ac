-- Ranges of labels in a table of rows.
--
--   Around       a range is the aligned one around a label
--   Spreadable   the rows hold a range whose items are to be spread over it
use Rattle.std.specs.Prelude.{◌≡◌, ℕ, ◌+◌, ◌^◌, ◌<◌, ◌≤◌, true, List, Some}
use Rattle.order.specs.Items.{member, Distinct}
use Rattle.labels.specs.Labels.{Entries, count_in, base_of, crowd}
use Rattle.labels.specs.Ranges.{first_from, Loose}
use Rattle.linked_lists.specs.declared.row.Row.{Row}
use Rattle.linked_lists.specs.declared.range.Range.{Range}
use Rattle.linked_lists.specs.Chain.{Linked, next_at, listed, labelled}

-- r is the aligned range of 2 ^ i labels around l
pub record Around (es : Entries) (l i : ℕ) (r : Range) : Type 0 where
  pub at : r.base ≡ base_of i l
  pub wide : r.size ≡ 2 ^ i
  pub starts : r.first ≡ first_from (base_of i l) es
  pub full : r.crowd ≡ crowd es l i

-- rows of n items of which those in r are to be spread over it
pub record Spreadable (rows : List (Row ℕ)) (n : ℕ) (r : Range) : Type 0 where
  pub linked : Linked (next_at rows) (Some 0) (listed rows n)
  pub within : (x : ℕ) → member (listed rows n) x ≡ true → x < n
  pub distinct : Distinct (listed rows n)
  pub loose : Loose r.base r.size 0 (labelled rows n)
  pub starts : r.first ≡ first_from r.base (labelled rows n)
  pub full : r.crowd ≡ count_in r.base r.size (labelled rows n)
  pub some : 0 < r.crowd
  pub fits : r.crowd ≤ r.size
  pub top : r.base + r.size ≤ 2 ^ 31
