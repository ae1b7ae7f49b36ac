-- A slice with one field replaced.
use Rattle.std.proofs.Common.{◌≡◌, ℕ, ◌⊎◌, arith}
use Rattle.fields.specs.declared.kinds.Value.{Value}
use Rattle.slices.specs.Slices.{with_value}

pub with_same : (get : ℕ → ℕ → Value) (i f : ℕ) (v : Value) → with_value get i f v i f ≡ v
with_same get i f v = grind arith

pub with_other : (get : ℕ → ℕ → Value) (i f : ℕ) (v : Value) (j g : ℕ) → (j ≡ i → g ≡ f → ⊥) → with_value get i f v j g ≡ get j g
with_other get i f v j g n = grind arith

-- the value read is the new one, at the place written, or the old one elsewhere
pub with_cases : (get : ℕ → ℕ → Value) (i f : ℕ) (v : Value) (j g : ℕ) → ((j ≡ i) × (g ≡ f) × (with_value get i f v j g ≡ v)) ⊎ ((j ≡ i → g ≡ f → ⊥) × (with_value get i f v j g ≡ get j g))
with_cases get i f v j g = grind arith
