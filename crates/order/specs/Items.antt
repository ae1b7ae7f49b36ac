-- What a version order means, as a list of item numbers, and what each call answers of that list.
--
--   member             an item stands in the list
--   Distinct           no item stands twice
--   known              an item is known: items are numbered from 0 to one less than their count
--   earlier            one item stands earlier than another
--   position           where an item stands, counted from 0
--   following          the item right behind another
--   behind             the list with a new item right behind another
--   after_answer       the answer of `after`: the new item's number; refused 31, then 32
--   items_after        the list after a call with that answer
--   before_answer      the answer of `before`; refused 31
--   successor_answer   the answer of `successor`; refused 31
use Rattle.std.specs.Prelude.{◌≡◌, ℕ, suc, Bool, true, false, cond, ◌&&◌, List, [], ◌∷◌, length, Some, None, Ok, Err, Option, Result, ◌==◌, nat_lt}
use Rattle.refusals.specs.declared.kinds.OrderRefusal.{OrderRefusal}
use Rattle.refusals.specs.declared.kinds.OrderRefusal.TheVariants.{UnknownItem, Full}

-- a stands in the list
abbrev pub member : List ℕ → ℕ → Bool
member [] a = false
member (x ∷ xs) a = cond (x == a) true (member xs a)

-- no item stands twice
abbrev pub Distinct : List ℕ → Type 0
Distinct [] = Unit {0}
Distinct (x ∷ xs) = (member xs x ≡ false) × Distinct xs

-- the items are numbered from 0 to one less than their count
abbrev pub known : List ℕ → ℕ → Bool
known xs a = nat_lt a (length xs)

-- a stands earlier than b
abbrev pub earlier : List ℕ → ℕ → ℕ → Bool
earlier [] a b = false
earlier (x ∷ xs) a b = cond (x == a) (member xs b) (earlier xs a b)

-- where a stands, counted from 0; the length of the list where it does not
abbrev pub position : List ℕ → ℕ → ℕ
position [] a = 0
position (x ∷ xs) a = cond (x == a) 0 (suc (position xs a))

-- the first item, or nothing
abbrev pub front : List ℕ → Option ℕ
front [] = None
front (x ∷ xs) = Some x

-- the item right behind a, or nothing where a is the last
abbrev pub following : List ℕ → ℕ → Option ℕ
following [] a = None
following (x ∷ xs) a = cond (x == a) (front xs) (following xs a)

-- the list with n right behind a
abbrev pub behind : List ℕ → ℕ → ℕ → List ℕ
behind [] a n = []
behind (x ∷ xs) a n = cond (x == a) (x ∷ (n ∷ xs)) (x ∷ behind xs a n)

-- a new item's number is the count of items before it; 31 where a is unknown, else 32 where the limit is reached
abbrev pub after_answer : List ℕ → ℕ → ℕ → Result ℕ OrderRefusal
after_answer xs limit a = cond (known xs a) (cond (nat_lt (length xs) limit) (Ok (length xs)) (Err Full)) (Err UnknownItem)

-- the items after a call that answered with the number of a new item behind a, or was refused for any reason
abbrev pub items_after : {E : Type 0} → Result ℕ E → List ℕ → ℕ → List ℕ
items_after (Ok n) xs a = behind xs a n
items_after (Err e) xs a = xs

-- whether a stands earlier than b; 31 where one of them is unknown
abbrev pub before_answer : List ℕ → ℕ → ℕ → Result Bool OrderRefusal
before_answer xs a b = cond (known xs a && known xs b) (Ok (earlier xs a b)) (Err UnknownItem)

-- the item right behind a, or nothing at the end; 31 where a is unknown
abbrev pub successor_answer : List ℕ → ℕ → Result (Option ℕ) OrderRefusal
successor_answer xs a = cond (known xs a) (Ok (following xs a)) (Err UnknownItem)
