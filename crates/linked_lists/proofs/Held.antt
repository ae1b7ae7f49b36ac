-- What every table is, for those who hold one: they give its invariant.
--
--   table_distinct   no item is listed twice
--   table_limit      there are at most as many items as there may be
--   table_few        there are at most 4096 items
--   table_known      each number below the count is an item
--   table_within     each item's number is below the count
--   table_numbered   the items are the known numbers
use Rattle.std.specs.Prelude.{◌≡◌, ℕ, ◌<◌, ◌≤◌, true, List, length}
use Rattle.std.proofs.Common.{sym, subst, arith}
use Rattle.linked_lists.proofs.Numbered.{numbered_list}
use Rattle.linked_lists.proofs.Open.{opened}
use Rattle.linked_lists.specs.Chain.{Sound, listed}
use Rattle.linked_lists.specs.declared.row.Row.{Row}
use Rattle.order.specs.Items.{known, member, Distinct}

module _ {T : Type 0} {rows : List (Row T)} {count limit : ℕ} (sound : ∥ Sound rows count limit ∥₁) where
  held : Sound rows count limit
  held = opened sound

  pub table_distinct : Distinct (listed rows count)
  table_distinct = held.links.distinct

  pub table_limit : length (listed rows count) ≤ limit
  table_limit = let a = held.links.long in let b = held.few in omega arith

  pub table_few : length (listed rows count) ≤ 4096
  table_few = let a = table_limit in let c = held.small in omega arith

  pub table_known : (g : ℕ) → g < length (listed rows count) → member (listed rows count) g ≡ true
  table_known g h = held.links.known g (subst (λ (k : ℕ). g < k) held.links.long h)

  pub table_within : (g : ℕ) → member (listed rows count) g ≡ true → g < length (listed rows count)
  table_within g h = subst (λ (k : ℕ). g < k) (sym held.links.long) (held.links.within g h)

  pub table_numbered : (a : ℕ) → member (listed rows count) a ≡ known (listed rows count) a
  table_numbered = numbered_list (listed rows count) count held.links.long held.links.known held.links.within
