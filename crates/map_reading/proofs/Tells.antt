-- From the steps of the reading calls to what they answer.
use Rattle.std.proofs.Common.{◌≡◌, ℕ, ◌<◌, Bool, cond, List, [], ◌∷◌, length, Some, None, Ok, Option, Result, refl, ap, ◌∙◌}
use mathlib.Core.Path.{subst⁻¹}
use Rattle.refusals.specs.declared.kinds.MemoryRefusal.{MemoryRefusal}
use Rattle.trees.specs.Trees.{Tree, Entry, entries}
use Rattle.trees.specs.Lists.{KeyOrder, AllAfter, Sorted, list_get, list_next}
use Rattle.memory.specs.Memory.{Memory}
use Rattle.memory.specs.Steps.{Done, done, then}
use Rattle.memory.specs.Effects.{Ends}
use Rattle.memory.specs.Promises.{Comes}
use Rattle.memory.proofs.Rows.{comes_to_end}
use Rattle.memory.proofs.By.{ends_then}
use Rattle.stored.specs.Whole.{Stands}
use Rattle.places.specs.Places.{key_at, place_first, beside_first, goes_left, way_from, KeyLaws, WaysTo}
use Rattle.places.proofs.Orders.{places_ordered, places_alike, ways_to}
use Rattle.map_steps.specs.Find.{get_of, next_of}
use Rattle.map_steps.specs.Theorems.{Answers}
use Rattle.map_steps.proofs.Finds.{get_ends}
use Rattle.map_steps.proofs.Nexts.{next_ends}
use Rattle.map.specs.Next.{as_pair, next_pair_of}
use Rattle.map.proofs.Pairs.{next_paired}
use Rattle.map_reading.specs.Reading.{keyed, InBook, GetsValue, GetsAbove}

-- a list stays sorted under an order that compares the written places alike
module _ (n : ℕ) (a b : ℕ → ℕ → Bool) (alike : (p q : ℕ) → p < n → q < n → b p q ≡ a p q) where
  after_alike : (k : ℕ) (xs : List (Entry ℕ)) → k < n → InBook n xs → AllAfter a k xs → AllAfter b k xs
  after_alike k [] l i h = tt
  after_alike k (x ∷ xs) l i h = (alike k x.key l i.0 ∙ h.0, after_alike k xs l i.1 h.1)

  pub sorted_alike : (xs : List (Entry ℕ)) → InBook n xs → Sorted a xs → Sorted b xs
  sorted_alike [] i h = tt
  sorted_alike (x ∷ xs) i h = (after_alike x.key xs i.0 i.1 h.0, sorted_alike xs i.1 h.1)

module _ {K : Type 0} (first : K → K → Bool) (L : KeyLaws first) (keys : List K) (key : K) where
  -- the value at a place that holds the key is the key's
  pub get_keyed : (k : ℕ) → key_at keys key k ≡ key → (xs : List (Entry ℕ)) → list_get (beside_first first keys key) k xs ≡ list_get first key (keyed keys key xs)
  unfolding beside_first
  get_keyed k e [] = refl
  get_keyed k e (x ∷ xs) =
      let here = key_at keys key x.key in
      ap (λ (y : K). cond (first y here) None (cond (first here y) (list_get (beside_first first keys key) k xs) (Some x.value))) e
      ∙ ap (λ (z : Option ℕ). cond (first key here) None (cond (first here key) z (Some x.value))) (get_keyed k e xs)

  pub at_end : (ks : List K) → key_at ks key (length ks) ≡ key
  at_end [] = refl
  at_end (x ∷ xs) = at_end xs

  pub stands : (sooner : ℕ → ℕ → Bool) (m : Memory) (map : Tree Bool ℕ) (due held : Tree ℕ ℕ) → Stands (place_first first keys) sooner m map due held → InBook (length keys) (entries map) → Stands (beside_first first keys key) sooner m map due held
  stands sooner m map due held H B = record {
    whole = H.whole;
    map_tree = record { red_black = H.map_tree.red_black; sorted = sorted_alike (length keys) (place_first first keys) (beside_first first keys key) (λ p q g h. (places_alike K first keys [] key p q g h).0) (entries map) B H.map_tree.sorted };
    due_heap = H.due_heap;
    held_heap = H.held_heap;
  }

  pub ordered : KeyOrder (beside_first first keys key)
  ordered = (places_ordered K first L keys).1 key

  pub ways : WaysTo first keys key (length keys)
  ways = (ways_to K first keys key).1

  pub get_told : {S : Type 0} {P : S → Memory → Type 0} {t : S} {r : Result (Option ℕ) MemoryRefusal} (m : Memory) → Comes P t r (get_of (way_from first keys key) m) → GetsValue first keys key P t r m
  get_told {r = r} m C sooner map due held H B small =
      let before = beside_first first keys key in
      let Q : Option ℕ → Memory → Type 0 = λ v m'. Answers m m' v (list_get before (length keys) (entries map)) in
      let E = get_ends before sooner ordered (length keys) m map due held (stands sooner m map due held H B) small in
      let E' : Ends (get_of (way_from first keys key) m) Q = subst⁻¹ (λ w. Ends (get_of w m) Q) ways.way E in
      let k = comes_to_end {r = r} (get_of (way_from first keys key) m) Q C E' in
      record { after = k.1; means = k.3; answer = k.2 ∙ ap Ok (k.4.is ∙ get_keyed (length keys) (at_end keys) (entries map)); untouched = k.4.untouched }

  pub above_told : {S : Type 0} {P : S → Memory → Type 0} {t : S} {r : Result (Option (ℕ × ℕ)) MemoryRefusal} (m : Memory) → Comes P t r (next_pair_of (goes_left first keys key) m) → GetsAbove first keys key P t r m
  above_told {r = r} m C sooner map due held H B small =
      let before = beside_first first keys key in
      let answer = list_next before (length keys) (entries map) in
      let Q1 : Option (Entry ℕ) → Memory → Type 0 = λ e m'. Answers m m' e answer in
      let Q : Option (ℕ × ℕ) → Memory → Type 0 = λ e m'. Answers m m' e (as_pair answer) in
      let pair : Option (Entry ℕ) → Memory → Done (Option (ℕ × ℕ)) = λ e m1. done (as_pair e) m1 in
      let E = next_ends before sooner ordered (length keys) m map due held (stands sooner m map due held H B) small in
      let E1 : Ends (next_of (goes_left first keys key) m) Q1 = subst⁻¹ (λ w. Ends (next_of w m) Q1) ways.left E in
      let E2 : Ends (then (next_of (goes_left first keys key) m) pair) Q = ends_then (next_of (goes_left first keys key) m) pair Q1 Q E1 (λ e m1 h. record { is = ap as_pair h.is; untouched = h.untouched }) in
      let E3 : Ends (next_pair_of (goes_left first keys key) m) Q = subst⁻¹ (λ d. Ends d Q) (next_paired (goes_left first keys key) m) E2 in
      let k = comes_to_end {r = r} (next_pair_of (goes_left first keys key) m) Q C E3 in
      record { after = k.1; means = k.3; answer = k.2 ∙ ap Ok k.4.is; untouched = k.4.untouched }
