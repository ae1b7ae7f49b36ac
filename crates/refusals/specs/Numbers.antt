-- The number of every refusal, laid down once for all layers.
--
--   maker_number    1 and 2      of makers
--   store_number    3 to 15      of the store
--   book_number     13           of a key book; the store passes it on
--   name_number     14           of bytes that are to be a name
--   memory_number   20 to 28     of a memory, which passes the order's on
--   order_number    31 and 32    of a version order
use Rattle.std.specs.Prelude.{ℕ}
use Rattle.refusals.specs.declared.kinds.MakerRefusal.{MakerRefusal}
use Rattle.refusals.specs.declared.kinds.MakerRefusal.TheVariants.{LimitOutOfRange, TableTooShort}
use Rattle.refusals.specs.declared.kinds.StoreRefusal.{StoreRefusal}
use Rattle.refusals.specs.declared.kinds.StoreRefusal.TheVariants as store
use Rattle.refusals.specs.declared.kinds.BookRefusal.{BookRefusal}
use Rattle.refusals.specs.declared.kinds.BookRefusal.TheVariants as book
use Rattle.refusals.specs.declared.kinds.NameRefusal.{NameRefusal}
use Rattle.refusals.specs.declared.kinds.NameRefusal.TheVariants.{Length}
use Rattle.refusals.specs.declared.kinds.OrderRefusal.{OrderRefusal}
use Rattle.refusals.specs.declared.kinds.OrderRefusal.TheVariants as order
use Rattle.refusals.specs.declared.kinds.MemoryRefusal.{MemoryRefusal}
use Rattle.refusals.specs.declared.kinds.MemoryRefusal.TheVariants as memory

abbrev pub maker_number : MakerRefusal → ℕ
maker_number LimitOutOfRange = 1
maker_number TableTooShort = 2

abbrev pub store_number : StoreRefusal → ℕ
store_number store.NoDraft = 3
store_number store.DraftOpen = 4
store_number store.UnknownVersion = 5
store_number store.VersionIsDraft = 6
store_number store.VersionsSpent = 7
store_number store.ForeignPart = 8
store_number store.ChangesShort = 9
store_number store.KeyAbsent = 10
store_number store.DueEmpty = 11
store_number store.NodesSpent = 12
store_number store.BookFull = 13
store_number store.NameLength = 14
store_number store.TooManyPrints = 15

abbrev pub book_number : BookRefusal → ℕ
book_number book.Full = 13

abbrev pub name_number : NameRefusal → ℕ
name_number Length = 14

abbrev pub order_number : OrderRefusal → ℕ
order_number order.UnknownItem = 31
order_number order.Full = 32

abbrev pub memory_number : MemoryRefusal → ℕ
memory_number memory.ForeignOrder = 20
memory_number memory.OutOfRange = 21
memory_number memory.NilRegister = 22
memory_number memory.OutsideDraft = 23
memory_number memory.ChangesSpent = 24
memory_number memory.NodesSpent = 25
memory_number memory.ThirdName = 26
memory_number memory.DraftOpen = 27
memory_number memory.NoDraft = 28
memory_number (memory.Order below) = order_number below
