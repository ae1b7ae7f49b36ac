-- The exact labels of a relabelled list: its items first to last, each with its label, and what a new item makes of them.
--
--   Entry, Entries   an item with its label; the items of a list with theirs
--   items_of         the items alone
--   marked           items, each with the label that a function gives it
--   top              one more than the largest label; it stands for the label behind the last item
--   label_of         the label of an item
--   head_label       the label of the first entry, or top
--   next_label       the label of the item right behind another, or top
--   placed           the entries with a new item, of a given label, right behind another
--   in_range         a label lies in a range
--   count_in         how many items of a range there are
--   base_of          the first label of an aligned range
--   crowd            one more than the items of an aligned range
--   widen, width     which aligned range is taken
--   spread           the items of a range spread evenly over it
--   relabelled       a new item, and the range around it spread
--   inserted         a new item by the rule of the gap, else by a spread
--   entries_after    the entries after a call that answered with a new item's number or was refused
--   label_answer     the answer of `label`; refused 31
--   fresh            the entries of a new list
--   behind_zero      the entries once some items were put right behind item 0, one after the other
use Rattle.std.specs.Prelude.{ℕ, zero, suc, ◌+◌, ◌-◌, ◌*◌, ◌/◌, ◌^◌, Bool, cond, ◌&&◌, List, [], ◌∷◌, map, length, Ok, Err, Result, ◌==◌, nat_le, nat_lt}
use Rattle.refusals.specs.declared.kinds.OrderRefusal.{OrderRefusal}
use Rattle.refusals.specs.declared.kinds.OrderRefusal.TheVariants.{UnknownItem}
use Rattle.labels.specs.Capacity.{capacity}

-- an item and its label
abbrev pub Entry : Type 0
Entry = ℕ × ℕ

-- the items first to last, each with its label
abbrev pub Entries : Type 0
Entries = List Entry

-- the items alone
abbrev pub items_of : Entries → List ℕ
items_of es = map (λ (e : Entry). e.0) es

-- the items xs, each with the label that lab gives it
abbrev pub marked : (ℕ → ℕ) → List ℕ → Entries
marked lab xs = map (λ i. (i, lab i)) xs

-- labels go from 0 to one less than this; it stands for the label behind the last item
abbrev pub top : ℕ
top = 2 ^ 31

-- the label of a; 0 where it is not in the list
abbrev pub label_of : Entries → ℕ → ℕ
label_of [] a = 0
label_of (e ∷ es) a = cond (e.0 == a) e.1 (label_of es a)

-- the label of the first entry, or top
abbrev pub head_label : Entries → ℕ
head_label [] = top
head_label (e ∷ es) = e.1

-- the label of the item right behind a, or top where a is the last
abbrev pub next_label : Entries → ℕ → ℕ
next_label [] a = top
next_label (e ∷ es) a = cond (e.0 == a) (head_label es) (next_label es a)

-- the item n, with the label l, right behind a
abbrev pub placed : Entries → ℕ → ℕ → ℕ → Entries
placed [] a n l = []
placed (e ∷ es) a n l = cond (e.0 == a) (e ∷ ((n, l) ∷ es)) (e ∷ placed es a n l)

-- l is one of the `size` labels from `base` on
abbrev pub in_range : ℕ → ℕ → ℕ → Bool
in_range base size l = nat_le base l && nat_lt l (base + size)

-- how many items have a label in the range
abbrev pub count_in : ℕ → ℕ → Entries → ℕ
count_in base size [] = 0
count_in base size (e ∷ es) = cond (in_range base size e.1) (suc (count_in base size es)) (count_in base size es)

-- the first label of the aligned range of 2 ^ i labels around l
abbrev pub base_of : ℕ → ℕ → ℕ
base_of i l = (l / (2 ^ i)) * (2 ^ i)

-- one more than the items of that range
abbrev pub crowd : Entries → ℕ → ℕ → ℕ
crowd es l i = suc (count_in (base_of i l) (2 ^ i) es)

-- the smallest of the `fuel` numbers from i on whose range around l can take one item more, else the number behind them
abbrev pub widen : Entries → ℕ → ℕ → ℕ → ℕ
widen es l i zero = i
widen es l i (suc fuel) = cond (nat_le (crowd es l i) (capacity i)) i (widen es l (suc i) fuel)

-- the smallest i from 0 to 31 whose range around l can take one item more; the widest range always can.
-- It unfolds only where a proof says so, since its 31 steps would fill every statement
unfoldable pub width : Entries → ℕ → ℕ
width es l = widen es l 0 31

-- the items of the range get the labels base + ⌊j × size / m⌋, j counted on
abbrev pub spread : ℕ → ℕ → ℕ → ℕ → Entries → Entries
spread base size m j [] = []
spread base size m j (e ∷ es) =
    cond (in_range base size e.1) ((e.0, base + (j * size) / m) ∷ spread base size m (suc j) es) (e ∷ spread base size m j es)

-- n right behind a, and the items of the range of 2 ^ i labels around l, the label of a, spread over it
abbrev pub relabelled : Entries → ℕ → ℕ → ℕ → ℕ → Entries
relabelled es a n l i = spread (base_of i l) (2 ^ i) (crowd es l i) 0 (placed es a n l)

-- n right behind a, whose label is l: halfway over the gap g, or, where the gap is below 2, by a spread of the smallest range
abbrev pub inserted_by : Entries → ℕ → ℕ → ℕ → ℕ → Entries
inserted_by es a n l g = cond (nat_le 2 g) (placed es a n (l + g / 2)) (relabelled es a n l (width es l))

-- the entries once the item n was put right behind a
abbrev pub inserted : Entries → ℕ → ℕ → Entries
inserted es a n = inserted_by es a n (label_of es a) (next_label es a - label_of es a)

-- the entries after a call that answered with the number of a new item behind a, or was refused for any reason
abbrev pub entries_after : {E : Type 0} → Result ℕ E → Entries → ℕ → Entries
entries_after (Ok n) es a = inserted es a n
entries_after (Err e) es a = es

-- the label of a; 31 where a is unknown
abbrev pub label_answer : Entries → ℕ → Result ℕ OrderRefusal
label_answer es a = cond (nat_lt a (length es)) (Ok (label_of es a)) (Err UnknownItem)

-- item 0 alone, with label 0
abbrev pub fresh : Entries
fresh = (0, 0) ∷ []

-- the items 1 to k, each put right behind item 0, one after the other
abbrev pub behind_zero : ℕ → Entries
behind_zero zero = fresh
behind_zero (suc k) = inserted (behind_zero k) 0 (suc k)
