-- What a row of calls leaves of a version order's items.
--
--   Between  a new item stands between another and the one behind that
use Rattle.std.specs.Prelude.{◌≡◌, ℕ, suc, true, List, length, Some, Option}
use Rattle.order.specs.Items.{earlier, following}

-- xs became ys: n is new, right behind a, and o, which stood right behind a, now stands right behind n
pub record Between (xs ys : List ℕ) (a n : ℕ) (o : Option ℕ) : Type 0 where
  pub fresh : n ≡ length xs
  pub count : length ys ≡ suc (length xs)
  pub was : following xs a ≡ o
  pub behind : following ys a ≡ Some n
  pub onward : following ys n ≡ o
  pub before : earlier ys a n ≡ true
