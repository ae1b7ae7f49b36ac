-- The invariant is a proposition, so a ghost field that holds it truncated gives it back.
use Rattle.std.proofs.Common.{◌≡◌, ℕ, suc, List, [], ◌∷◌, Some, None, Option, refl}
use mathlib.Core.Logic.{∥∥₁_elim}
use native.Mathlib.Bridge.{le_prop}
use base.Stored.{Coded-set, coded_ℕ, coded_bool, coded_list, coded_via}
use Rattle.linked_lists.proofs.Chains.{Rising}
use Rattle.linked_lists.specs.Chain.{Linked, Backed, Above, Links, Sound, listed}
use Rattle.linked_lists.specs.declared.row.Row.{Row}
use Rattle.order.specs.Items.{Distinct}

pub bits : Option ℕ → List ℕ
bits None = []
bits (Some x) = x ∷ []

bits_inj : (x y : Option ℕ) → bits x ≡ bits y → x ≡ y
unfolding bits
bits_inj None None e = refl
bits_inj None (Some y) e = cc
bits_inj (Some x) None e = cc
bits_inj (Some x) (Some y) e = cc

option_path : (x y : Option ℕ) → IsProp (x ≡ y)
option_path = Coded-set (coded_via (coded_list coded_ℕ) bits bits_inj)

linked_prop : (f : ℕ → Option ℕ) (o : Option ℕ) (xs : List ℕ) → IsProp (Linked f o xs)
linked_prop f o [] = option_path o None
linked_prop f o (x ∷ xs) = λ p q i. (option_path o (Some x) p.0 q.0 i, linked_prop f (f x) xs p.1 q.1 i)

backed_prop : (f : ℕ → Option ℕ) (o : Option ℕ) (xs : List ℕ) → IsProp (Backed f o xs)
backed_prop f o [] = λ p q. refl
backed_prop f o (x ∷ xs) = λ p q i. (option_path (f x) o p.0 q.0 i, backed_prop f (Some x) xs p.1 q.1 i)

pub above_prop : (lab : ℕ → ℕ) (lo : ℕ) (xs : List ℕ) → IsProp (Above lab lo xs)
above_prop lab lo [] = le_prop
above_prop lab lo (x ∷ xs) = λ p q i. (le_prop p.0 q.0 i, above_prop lab (suc (lab x)) xs p.1 q.1 i)

distinct_prop : (xs : List ℕ) → IsProp (Distinct xs)
distinct_prop [] = λ p q. refl
distinct_prop (x ∷ xs) = λ p q i. (Coded-set coded_bool _ _ p.0 q.0 i, distinct_prop xs p.1 q.1 i)

links_prop : (f b : ℕ → Option ℕ) (n : ℕ) (xs : List ℕ) → IsProp (Links f b n xs)
links_prop f b n xs p q = λ i. record {
  linked = linked_prop f (Some 0) xs p.linked q.linked i;
  backed = backed_prop b None xs p.backed q.backed i;
  distinct = distinct_prop xs p.distinct q.distinct i;
  long = Coded-set coded_ℕ _ _ p.long q.long i;
  known = λ a h. Coded-set coded_bool _ _ (p.known a h) (q.known a h) i;
  within = λ a h. le_prop (p.within a h) (q.within a h) i;
}

sound_prop : {T : Type 0} (rows : List (Row T)) (count limit : ℕ) → IsProp (Sound rows count limit)
sound_prop rows count limit p q = λ i. record {
  some = le_prop p.some q.some i;
  few = le_prop p.few q.few i;
  small = le_prop p.small q.small i;
  room = le_prop p.room q.room i;
  links = links_prop _ _ _ _ p.links q.links i;
}

pub opened : {T : Type 0} {rows : List (Row T)} {count limit : ℕ} → ∥ Sound rows count limit ∥₁ → Sound rows count limit
opened h = ∥∥₁_elim h (sound_prop _ _ _) (λ s. s)

pub rising : {T : Type 0} {rows : List (Row T)} {lab : ℕ → ℕ} {count limit : ℕ} → ∥ Sound rows count limit ∥₁ → ∥ Above lab 0 (listed rows count) ∥₁ →
    Rising rows lab count limit
rising h r = record { table = opened h; rising = ∥∥₁_elim r (above_prop _ 0 _) (λ a. a) }
