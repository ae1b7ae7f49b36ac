-- A split as a table does it: it visits the copies that the split copy names, redirects them and the split copy to the new one, and
-- then cuts the split copy.
--
--   Parted        the copies after such visits and the cut
--   Suffices      every copy that the split copy names at x, or by an entry behind x, was visited
--   VisitsSplit   then the split is done
use Rattle.std.specs.Prelude.{◌≡◌, ℕ, suc, ◌<◌, Bool, true, false, ◌≢◌}
use Rattle.entries.specs.Entries.{entries_behind}
use Rattle.slices.specs.Copies.{Copies, value_at, Serves, serving, Sound}
use Rattle.slices.specs.Splits.{naming, front_half, back_half, split}
use Rattle.slices.specs.Partners.{names_one, redirected_copy, ValuesOf}
use Rattle.same_copies.specs.Same.{SameCopies}

-- the copies visited name the new copy in place of c from x on, and so did c before it was cut; all others are as they were
pub record Parted (pos : ℕ → ℕ) (visited : ℕ → Bool) (c x : ℕ) (M D : Copies) : Type 0 where
  pub total : D.total ≡ suc M.total
  pub made : D.made ≡ M.made
  pub versions : D.versions ≡ M.versions
  pub old : D.copy c ≡ front_half pos x (redirected_copy pos naming c M.total x (serving pos M (pos x) c) (M.copy c))
  pub new : D.copy M.total ≡ back_half pos x (redirected_copy pos naming c M.total x (serving pos M (pos x) c) (M.copy c))
  pub redirected : (i : ℕ) → i < M.total → (i ≢ c) → visited i ≡ true
      → D.copy i ≡ redirected_copy pos naming c M.total x (serving pos M (pos x) i) (M.copy i)
  pub left : (i : ℕ) → i < M.total → (i ≢ c) → visited i ≡ false → D.copy i ≡ M.copy i

-- a copy that was not visited is one that c names neither at x nor by an entry behind x
abbrev pub Suffices : (ℕ → ℕ) → (ℕ → Bool) → ℕ → ℕ → Copies → Type 0
Suffices pos visited c x M = (i : ℕ) → i < M.total → (i ≢ c) → visited i ≡ false
    → ((f : ℕ) → names_one i (value_at pos (pos x) (M.copy c) f) ≡ false)
    × ((f : ℕ) → ValuesOf (λ v. names_one i v ≡ false) f (entries_behind pos (pos x) (M.copy c).entries))

abbrev pub VisitsSplit : Type 0
VisitsSplit = (pos : ℕ → ℕ) (visited : ℕ → Bool) (c x : ℕ) (M D : Copies) → Sound pos M → Serves pos M (pos x) c
    → Suffices pos visited c x M → Parted pos visited c x M D → SameCopies (split pos c x M) D
