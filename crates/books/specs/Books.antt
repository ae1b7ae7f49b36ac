-- What a book holds, and what its calls answer.
--
--   book_keys     the keys so far, in the order of their arrival
--   book_room     how many keys it can hold
--   push_answer   the answer of `push`: the key's place; refused 13 where the book is full
--   keys_after    the keys after a push
--   Prefix        one list of keys begins another
--   SameSlots     a book stays in its slots
use Rattle.std.specs.Prelude.{◌≡◌, ℕ, cond, List, [], ◌∷◌, ◌++◌, length, take, Ok, Err, Result, nat_lt}
use Rattle.refusals.specs.declared.kinds.BookRefusal.{BookRefusal}
use Rattle.refusals.specs.declared.kinds.BookRefusal.TheVariants.{Full}
use Rattle.books.specs.declared.book.Book.{Book}

module _ {K : Type 0} where
  -- the keys so far: the written front of the slice
  abbrev pub book_keys : Book K → List K
  book_keys b = take b.len b.slots.now

  -- how many keys the slice can hold
  abbrev pub book_room : Book K → ℕ
  book_room b = length b.slots.now

  -- the next place; 13 where all are taken
  abbrev pub push_answer : List K → ℕ → Result ℕ BookRefusal
  push_answer ks room = cond (nat_lt (length ks) room) (Ok (length ks)) (Err Full)

  -- one key more at the end, or the keys as they were where the book is full
  abbrev pub keys_after : List K → ℕ → K → List K
  keys_after ks room k = cond (nat_lt (length ks) room) (ks ++ k ∷ []) ks

  -- ks begins js: the keys of ks stand at their places in js
  abbrev pub Prefix : List K → List K → Type 0
  Prefix ks js = (more : List K) × (js ≡ ks ++ more)

  -- the slice of before, lent by the same caller: as many places as it had
  pub record SameSlots (old new : Book K) : Type 0 where
    pub room : book_room new ≡ book_room old
    pub lender : new.slots.ghost_name ≡ old.slots.ghost_name
