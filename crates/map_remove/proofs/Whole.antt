-- From the row of a drop to what it does to the whole working state.
use Rattle.std.proofs.Common.{◌≡◌, ℕ, Bool, List, Option, Result, subst}
use Rattle.refusals.specs.declared.kinds.MemoryRefusal.{MemoryRefusal}
use Rattle.trees.specs.Lists.{KeyOrder}
use Rattle.trees.specs.Theorems.{drop_tree}
use Rattle.memory.specs.Memory.{Memory}
use Rattle.memory.specs.Promises.{Comes, Runs}
use Rattle.memory.proofs.Rows.{comes_to_end}
use Rattle.places.specs.Places.{beside_first, way_from, KeyLaws}
use Rattle.places.proofs.Orders.{places_ordered, ways_to}
use Rattle.map_steps.specs.Remove.{way_to, drop_of}
use Rattle.map_steps.specs.Theorems.{MapIs}
use Rattle.map_steps.proofs.Drops.{drop_ends}
use Rattle.map_remove.specs.Dropping.{Drops}

pub drops : {S K : Type 0} {P : S → Memory → Type 0} {s t : S} {q : Result (Unit {0}) MemoryRefusal} (first : K → K → Bool) (keys : List K) (key : K) → KeyLaws first → Runs P s t q (drop_of (way_from first keys key)) → Drops P s t q first keys key
drops {K = K} {P = P} {t = t} {q = q} first keys key laws h = record {
  from = λ sooner k m map due held p there S R nil in_map.
      let before : ℕ → ℕ → Bool = beside_first first keys key in
      let O : KeyOrder before = (places_ordered K first laws keys).1 key in
      let e : way_from first keys key ≡ way_to before k = ((ways_to K first keys key).0 k there).way in
      let c : Comes P t q (drop_of (way_to before k) m) = subst (λ (w : ℕ → Option Bool). Comes P t q (drop_of w m)) e (h m p) in
      let z = comes_to_end (drop_of (way_to before k) m) (λ _ m'. MapIs before sooner m m' (drop_tree before k map) due held 0) c (drop_ends before sooner O k m map due held S R nil in_map) in
      record { accepted = z.2; after = z.1; meant = z.3; is = z.4 };
}
