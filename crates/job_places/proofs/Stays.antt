-- Heaps of places: their order in a longer book, and where their jobs are.
use Rattle.std.proofs.Common.{◌≡◌, ℕ, ◌+◌, ◌<◌, ◌≤◌, Bool, cond, ltb, List, [], ◌∷◌, ◌++◌, length, refl, ◌∙◌, arith, length-append}
use Rattle.std.proofs.lemmas.Bool.Decides.{nat_tests}
use Rattle.trees.specs.Trees.{Tree, leaf, node, sum_over}
use Rattle.trees.specs.Lists.{KeyOrder}
use Rattle.trees.specs.Leftist.{HeapOrdered, RootNotBefore}
use Rattle.trees.specs.Theorems.{Heap, merge, single, popped}
use Rattle.trees.proofs.Heaps.{merge_joins, single_heap}
use Rattle.places.specs.Places.{place_first}
use Rattle.places.proofs.Orders.{places_alike}
use Rattle.job_places.specs.Jobs.{InBook, QueuesOutlast, Stay, JobsStay}

-- whether a place is not below n, as a number, and how many jobs are not
abbrev beyond : ℕ → ℕ → ℕ
beyond n k = cond (ltb k n) 0 1

abbrev outside : ℕ → Tree ℕ ℕ → ℕ
outside n t = sum_over (λ i e. beyond n e.key) t

key_in : (k n : ℕ) → k < n → beyond n k ≡ 0
key_in k n h = grind (arith, nat_tests)

in_key : (k n : ℕ) → beyond n k ≡ 0 → k < n
in_key k n h = grind (arith, nat_tests)

none_outside : (n : ℕ) (t : Tree ℕ ℕ) → InBook n t → outside n t ≡ 0
none_outside n leaf h = refl
none_outside n (node i c e l r) h =
    let a = key_in e.key n h.0 in
    let b = none_outside n l h.1 in
    let d = none_outside n r h.2 in
    omega arith

all_inside : (n : ℕ) (t : Tree ℕ ℕ) → outside n t ≡ 0 → InBook n t
all_inside n leaf h = tt
all_inside n (node i c e l r) h =
    let a : beyond n e.key ≡ 0 = omega arith in
    let b : outside n l ≡ 0 = omega arith in
    let d : outside n r ≡ 0 = omega arith in
    (in_key e.key n a, all_inside n l b, all_inside n r d)

module _ (sooner : ℕ → ℕ → Bool) (o : KeyOrder sooner) (n : ℕ) where
  merge_stays : (a b : Tree ℕ ℕ) → Heap sooner a → Heap sooner b → InBook n a → InBook n b → InBook n (merge sooner a b)
  merge_stays a b ha hb ia ib =
      let j = (merge_joins ℕ sooner o a b ha hb).nodes (λ i e. beyond n e.key) in
      let x = none_outside n a ia in
      let y = none_outside n b ib in
      let z : outside n (merge sooner a b) ≡ 0 = omega arith in
      all_inside n (merge sooner a b) z

  pop_stays : (t : Tree ℕ ℕ) → Heap sooner t → InBook n t → InBook n (popped sooner t)
  pop_stays leaf h i = tt
  pop_stays (node k c e l r) h i =
      merge_stays l r (record { leftist = h.leftist.0; ordered = h.ordered.0 }) (record { leftist = h.leftist.1; ordered = h.ordered.1 }) i.1 i.2

  stay : Stay sooner n
  stay = record {
    push = λ i k t h l b. merge_stays t (single sooner i k) h (single_heap sooner i k) b (l, tt, tt);
    pop = pop_stays;
    release = merge_stays;
  }

pub jobs_stay : JobsStay
jobs_stay sooner o n = stay sooner o n

-- a key more alters nothing between written places
same_order : {K : Type 0} (first : K → K → Bool) (keys more : List K) (p q : ℕ) → p < length keys → q < length keys → place_first first (keys ++ more) p q ≡ place_first first keys p q
same_order first [] more p q a b = absurd (omega arith)
same_order {K = K} first (x ∷ xs) more p q a b = (places_alike K first (x ∷ xs) more x p q a b).1

module _ {K : Type 0} (first : K → K → Bool) (keys more : List K) where
  root_grown : (k : ℕ) (t : Tree ℕ ℕ) → k < length keys → InBook (length keys) t → RootNotBefore (place_first first keys) k t → RootNotBefore (place_first first (keys ++ more)) k t
  root_grown k leaf l i h = tt
  root_grown k (node n c e l' r) l i h = same_order first keys more e.key k i.0 l ∙ h

  order_grown : (t : Tree ℕ ℕ) → InBook (length keys) t → HeapOrdered (place_first first keys) t → HeapOrdered (place_first first (keys ++ more)) t
  order_grown leaf i h = tt
  order_grown (node n c e l r) i h = (order_grown l i.1 h.0, order_grown r i.2 h.1, root_grown e.key l i.0 i.1 h.2, root_grown e.key r i.0 i.2 h.3)

  heap_grown : (t : Tree ℕ ℕ) → InBook (length keys) t → Heap (place_first first keys) t → Heap (place_first first (keys ++ more)) t
  heap_grown t i h = record { leftist = h.leftist; ordered = order_grown t i h.ordered }

wider : (a b : ℕ) (t : Tree ℕ ℕ) → a ≤ b → InBook a t → InBook b t
wider a b leaf l i = tt
wider a b (node n c e t u) l i = (let k = i.0 in omega arith, wider a b t l i.1, wider a b u l i.2)

pub queues_outlast : (K : Type 0) → QueuesOutlast K
queues_outlast K first keys more before m map due held i j S =
    let l : length (keys ++ more) ≡ length keys + length more = length-append keys more in
    let w : length keys ≤ length (keys ++ more) = omega arith in (
      record { whole = S.whole; map_tree = S.map_tree; due_heap = heap_grown first keys more due i S.due_heap; held_heap = heap_grown first keys more held j S.held_heap },
      wider (length keys) (length (keys ++ more)) due w i,
      wider (length keys) (length (keys ++ more)) held w j,
    )
