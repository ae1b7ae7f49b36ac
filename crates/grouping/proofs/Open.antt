-- The invariant is a proposition, so a ghost field that holds it truncated gives it back.
use Rattle.std.proofs.Common.{◌≡◌, ℕ, suc, List, [], ◌∷◌, refl}
use mathlib.Core.Logic.{∥∥₁_elim}
use native.Mathlib.Bridge.{le_prop}
use base.Stored.{Coded-set, coded_ℕ, coded_list}
use Rattle.grouping.specs.Blocks.{flat, Inside, Ranks, Block, Grouped}
use Rattle.grouping.specs.Groups.{Item, Sound, key, group_at, rank_at, blocked}
use Rattle.linked_lists.proofs.Chains.{Rising}
use Rattle.linked_lists.proofs.Open as lists
use Rattle.linked_lists.specs.Chain as chains
use Rattle.linked_lists.specs.Chain.{listed}

inside_prop : (grp : ℕ → ℕ) (g : ℕ) (b : List ℕ) → IsProp (Inside grp g b)
inside_prop grp g [] = λ p q. refl
inside_prop grp g (x ∷ xs) = λ p q i. (Coded-set coded_ℕ _ _ p.0 q.0 i, inside_prop grp g xs p.1 q.1 i)

ranks_prop : (rank : ℕ → ℕ) (lo : ℕ) (b : List ℕ) → IsProp (Ranks rank lo b)
ranks_prop rank lo [] = le_prop
ranks_prop rank lo (x ∷ xs) = λ p q i. (le_prop p.0 q.0 i, ranks_prop rank (suc (rank x)) xs p.1 q.1 i)

block_prop : (grp rank : ℕ → ℕ) (g : ℕ) (b : List ℕ) → IsProp (Block grp rank g b)
block_prop grp rank g b p q = λ i. record {
  all = inside_prop grp g b p.all q.all i;
  ranks = ranks_prop rank 0 b p.ranks q.ranks i;
  some = le_prop p.some q.some i;
  few = le_prop p.few q.few i;
}

grouped_prop : (grp rank : ℕ → ℕ) (gs : List ℕ) (bs : List (List ℕ)) → IsProp (Grouped grp rank gs bs)
grouped_prop grp rank [] [] = λ p q. refl
grouped_prop grp rank [] (b ∷ bs) = λ p q. absurd p
grouped_prop grp rank (g ∷ gs) [] = λ p q. absurd p
grouped_prop grp rank (g ∷ gs) (b ∷ bs) = λ p q i. (block_prop grp rank g b p.0 q.0 i, grouped_prop grp rank gs bs p.1 q.1 i)

sound_prop : (rows : List Item) (groups : List ℕ) (glimit count limit : ℕ) → IsProp (Sound rows groups glimit count limit)
sound_prop rows groups glimit count limit p q = λ i. record {
  rising = lists.above_prop _ 0 _ p.rising q.rising i;
  same = Coded-set coded_ℕ _ _ p.same q.same i;
  blocks = grouped_prop (group_at rows) (rank_at rows) groups (blocked rows groups count) p.blocks q.blocks i;
  whole = Coded-set (coded_list coded_ℕ) _ _ p.whole q.whole i;
}

-- a table whose keys rise along its links, and its groups
pub record Opened (rows : List Item) (groups : List ℕ) (glimit count limit : ℕ) : Type 0 where
  pub list : Rising rows (key rows groups) count limit
  pub same : glimit ≡ limit
  pub blocks : Grouped (group_at rows) (rank_at rows) groups (blocked rows groups count)
  pub whole : flat (blocked rows groups count) ≡ listed rows count

pub opened : {rows : List Item} {groups : List ℕ} {glimit count limit : ℕ} → ∥ chains.Sound rows count limit ∥₁ → ∥ Sound rows groups glimit count limit ∥₁ →
    Opened rows groups glimit count limit
opened t h =
    let s = ∥∥₁_elim h (sound_prop _ _ _ _ _) (λ s. s) in
    record { list = record { table = lists.opened t; rising = s.rising }; same = s.same; blocks = s.blocks; whole = s.whole }
