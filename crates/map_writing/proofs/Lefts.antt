-- From the steps of the writing calls to what they leave.
use Rattle.std.proofs.Common.{◌≡◌, ℕ, ◌<◌, Bool, true, false, cond, List, [], ◌∷◌, length, is_some, Some, None, Ok, Result, sym, refl, ap, ◌∙◌, arith}
use mathlib.Core.Path.{subst⁻¹}
use Rattle.refusals.specs.declared.kinds.MemoryRefusal.{MemoryRefusal}
use Rattle.trees.specs.Trees.{Tree, Entry, entry, entries}
use Rattle.trees.specs.Lists.{list_get, list_put}
use Rattle.trees.specs.RedBlack.{holds}
use Rattle.trees.specs.Theorems.{put_tree}
use Rattle.trees.proofs.Maps.{put_sets, tree_answers}
use Rattle.memory.specs.Memory.{Memory}
use Rattle.memory.specs.Effects.{Ends}
use Rattle.memory.specs.Promises.{Comes}
use Rattle.memory.proofs.Rows.{comes_to_end}
use Rattle.stored.specs.Whole.{Stands, Untouched}
use Rattle.places.specs.Places.{key_at, place_first, beside_first, goes_left, way_from, KeyLaws}
use Rattle.places.proofs.Orders.{places_alike, ways_to, at_written}
use Rattle.map_steps.specs.Find.{set_of}
use Rattle.map_steps.specs.Insert.{add_of}
use Rattle.map_steps.specs.Theorems.{MapIs}
use Rattle.map_steps.proofs.Adds.{add_ends}
use Rattle.map_steps.proofs.Finds.{set_ends}
use Rattle.map_reading.specs.Reading.{keyed, InBook}
use Rattle.map_reading.proofs.Tells.{sorted_alike, get_keyed, at_end, stands, ordered, ways}
use Rattle.map_writing.specs.Writing.{NewMap, ReplacesValue, AddsKey}

false_true : {A : Type 0} → false ≡ true → A
false_true h = let z : ◌≡◌ {A = ℕ} 0 1 = cc in absurd (omega arith)

module _ (n : ℕ) (before : ℕ → ℕ → Bool) (k v : ℕ) where
  in_one : (b : Bool) (xs ys : List (Entry ℕ)) → InBook n xs → InBook n ys → InBook n (cond b xs ys)
  in_one true xs ys h g = h
  in_one false xs ys h g = g

  -- a key of the book is set
  put_in : k < n → (xs : List (Entry ℕ)) → InBook n xs → InBook n (list_put before k v xs)
  put_in l [] i = (l, tt)
  put_in l (x ∷ xs) i = in_one (before k x.key) (entry k v ∷ (x ∷ xs)) (cond (before x.key k) (x ∷ list_put before k v xs) (entry x.key v ∷ xs)) (l, i)
      (in_one (before x.key k) (x ∷ list_put before k v xs) (entry x.key v ∷ xs) (i.0, put_in l xs i.1) (i.0, i.1))

  there_one : (p q : Bool) (x : Entry ℕ) (xs : List (Entry ℕ)) → InBook n (x ∷ xs) → is_some (cond p None (cond q (list_get before k xs) (Some x.value))) ≡ true
      → (is_some (list_get before k xs) ≡ true → InBook n (list_put before k v xs)) → InBook n (cond p (entry k v ∷ (x ∷ xs)) (cond q (x ∷ list_put before k v xs) (entry x.key v ∷ xs)))
  there_one true q x xs i h f = false_true h
  there_one false true x xs i h f = (i.0, f h)
  there_one false false x xs i h f = (i.0, i.1)

  -- an entry that is there keeps its place
  put_there : (xs : List (Entry ℕ)) → InBook n xs → is_some (list_get before k xs) ≡ true → InBook n (list_put before k v xs)
  put_there [] i h = false_true h
  put_there (x ∷ xs) i h = there_one (before k x.key) (before x.key k) x xs i h (λ g. put_there xs i.1 g)

keyed_one : {K : Type 0} (keys : List K) (key : K) (p q : Bool) (xs ys zs : List (Entry ℕ)) → keyed keys key (cond p xs (cond q ys zs)) ≡ cond p (keyed keys key xs) (cond q (keyed keys key ys) (keyed keys key zs))
keyed_one keys key true q xs ys zs = refl
keyed_one keys key false true xs ys zs = refl
keyed_one keys key false false xs ys zs = refl

module _ {K : Type 0} (first : K → K → Bool) (L : KeyLaws first) (keys : List K) (key : K) where
  put_keyed : (k v : ℕ) → key_at keys key k ≡ key → (xs : List (Entry ℕ)) → keyed keys key (list_put (beside_first first keys key) k v xs) ≡ list_put first key v (keyed keys key xs)
  unfolding beside_first
  put_keyed k v e [] = ap (λ (y : K). entry y v ∷ []) e
  put_keyed k v e (x ∷ xs) =
      let here = key_at keys key x.key in
      let rest = keyed keys key xs in
      keyed_one keys key (first (key_at keys key k) here) (first here (key_at keys key k)) (entry k v ∷ (x ∷ xs)) (x ∷ list_put (beside_first first keys key) k v xs) (entry x.key v ∷ xs)
      ∙ ap (λ (y : K). cond (first y here) (entry y v ∷ (entry here x.value ∷ rest)) (cond (first here y) (entry here x.value ∷ keyed keys key (list_put (beside_first first keys key) k v xs)) (entry here v ∷ rest))) e
      ∙ ap (λ (zs : List (Entry K)). cond (first key here) (entry key v ∷ (entry here x.value ∷ rest)) (cond (first here key) (entry here x.value ∷ zs) (entry here v ∷ rest))) (put_keyed k v e xs)

  -- the map after a put at a place that holds the key
  new_map : (k v n nodes : ℕ) (sooner : ℕ → ℕ → Bool) (m m' : Memory) (map : Tree Bool ℕ) (due held : Tree ℕ ℕ) → key_at keys key k ≡ key → Stands (beside_first first keys key) sooner m map due held
      → InBook (length keys) (list_put (beside_first first keys key) k v (entries map)) → MapIs (beside_first first keys key) sooner m m' (put_tree (beside_first first keys key) k v n map) due held nodes
      → NewMap first keys key v sooner m map due held m' nodes
  new_map k v n nodes sooner m m' map due held e H B N =
      let before = beside_first first keys key in
      let T = put_sets ℕ before (ordered first L keys key) k v n map H.map_tree in
      let inside : InBook (length keys) (entries (put_tree before k v n map)) = subst⁻¹ (InBook (length keys)) T.list B in
      record {
        tree = put_tree before k v n map;
        standing = record {
          whole = N.stands.whole;
          map_tree = record { red_black = N.stands.map_tree.red_black; sorted = sorted_alike (length keys) before (place_first first keys) (λ p q g h. sym (places_alike K first keys [] key p q g h).0) (entries (put_tree before k v n map)) inside N.stands.map_tree.sorted };
          due_heap = N.stands.due_heap;
          held_heap = N.stands.held_heap;
        };
        in_book = inside;
        list = ap (keyed keys key) T.list ∙ put_keyed k v e (entries map);
        spent = N.spent;
      }

  -- whether the key is there, in the tree and in the list
  holds_keyed : (k : ℕ) (sooner : ℕ → ℕ → Bool) (m : Memory) (map : Tree Bool ℕ) (due held : Tree ℕ ℕ) → key_at keys key k ≡ key → Stands (beside_first first keys key) sooner m map due held
      → holds (beside_first first keys key) k map ≡ is_some (list_get first key (keyed keys key (entries map)))
  holds_keyed k sooner m map due held e H = tree_answers ℕ (beside_first first keys key) (ordered first L keys key) k map H.map_tree.sorted ∙ ap is_some (get_keyed first L keys key k e (entries map))

  pub replaced_value : {S : Type 0} {P : S → Memory → Type 0} {t : S} {r : Result Bool MemoryRefusal} (v : ℕ) (m : Memory) → Comes P t r (set_of (way_from first keys key) v m) → ReplacesValue first keys key P t v r m
  replaced_value {r = r} v m C sooner map due held H B R =
      let before = beside_first first keys key in
      let k = length keys in
      let here = at_end first L keys key keys in
      let H' = stands first L keys key sooner m map due held H B in
      let Q : Bool → Memory → Type 0 = λ there m'. (there ≡ holds before k map) × (there ≡ true → MapIs before sooner m m' (put_tree before k v 0 map) due held 0) × (there ≡ false → Untouched m m') in
      let E = set_ends before sooner (ordered first L keys key) k v 0 m map due held H' R in
      let E' : Ends (set_of (way_from first keys key) v m) Q = subst⁻¹ (λ w. Ends (set_of w v m) Q) (ways first L keys key).way E in
      let z = comes_to_end {r = r} (set_of (way_from first keys key) v m) Q C E' in
      let is = holds_keyed k sooner m map due held here H' in
      let found : is_some (list_get before k (entries map)) ≡ is_some (list_get first key (keyed keys key (entries map))) = ap is_some (get_keyed first L keys key k here (entries map)) in
      record {
        after = z.1;
        means = z.3;
        answer = z.2 ∙ ap Ok (z.4.0 ∙ is);
        there = λ e. new_map k v 0 0 sooner m z.1 map due held here H' (put_there (length keys) before k v (entries map) B (found ∙ e)) (z.4.1 (z.4.0 ∙ is ∙ e));
        absent = λ e. z.4.2 (z.4.0 ∙ is ∙ e);
      }

  pub added_key : {S : Type 0} {P : S → Memory → Type 0} {t : S} {r : Result (Unit {0}) MemoryRefusal} (place v : ℕ) (m : Memory) → Comes P t r (add_of (goes_left first keys key) place v m) → AddsKey first keys key P t place v r m
  added_key {r = r} place v m C sooner map due held H B R room low at new =
      let before = beside_first first keys key in
      let here = at_written keys key key place at in
      let H' = stands first L keys key sooner m map due held H B in
      let Q : Unit {0} → Memory → Type 0 = λ _ m'. MapIs before sooner m m' (put_tree before place v m.made map) due held 1 in
      let absent : holds before place map ≡ false = holds_keyed place sooner m map due held here H' ∙ ap is_some new in
      let E = add_ends before sooner (ordered first L keys key) place v m map due held H' R room absent in
      let E' : Ends (add_of (goes_left first keys key) place v m) Q = subst⁻¹ (λ w. Ends (add_of w place v m) Q) ((ways_to K first keys key).0 place at).left E in
      let z = comes_to_end {r = r} (add_of (goes_left first keys key) place v m) Q C E' in
      record {
        after = z.1;
        means = z.3;
        answer = z.2;
        new = new_map place v m.made 1 sooner m z.1 map due held here H' (put_in (length keys) before place v low (entries map) B) z.4;
      }
