-- A slice: the graph of one version, that is, which copies serve it and what their fields hold there.
--
--   Coherent        links and back links answer each other, each once, and every field holds what it may
--   swap, swapped   two copies change places in a slice
--   with_value      a slice with one field replaced
--
-- A slice is given by two functions: on says which copies serve, get i f is what the field f of the copy i holds. The copy 0 is the
-- root record.
use Rattle.std.specs.Prelude.{◌≡◌, ℕ, true, cond, ◌⊎◌, ◌==◌}
use Rattle.fields.specs.declared.kinds.Value.{Value}
use Rattle.fields.specs.declared.kinds.Value.TheVariants.{Number, Nil, To, From}
use Rattle.fields.specs.Fields.{back, suits}
use Rattle.entries.specs.Entries.{both}

pub record Coherent (on : ℕ → Type 0) (get : ℕ → ℕ → Value) : Type 0 where
  -- a copy that is named serves too, and one of its two back links says by whom
  pub named : (i l k : ℕ) → on i → get i l ≡ To k → on k × ((get k (back 0) ≡ From i l) ⊎ (get k (back 1) ≡ From i l))
  -- what a back link says is so
  pub backed : (k b i l : ℕ) → on k → get k b ≡ From i l → on i × (get i l ≡ To k)
  -- the two back links do not say the same
  pub single : (k : ℕ) → on k → get k (back 0) ≡ get k (back 1) → get k (back 0) ≡ Nil
  -- links hold links, back links back links, numbers numbers
  pub typed : (i f : ℕ) → on i → suits i f (get i f) ≡ true

-- c and d change places
abbrev pub swap : ℕ → ℕ → ℕ → ℕ
swap c d i = cond (i == c) d (cond (i == d) c i)

-- a value in which c and d have changed places; a number names no copy
abbrev pub swapped : ℕ → ℕ → Value → Value
swapped c d (Number n) = Number n
swapped c d Nil = Nil
swapped c d (To k) = To (swap c d k)
swapped c d (From k l) = From (swap c d k) l

-- the field f of the copy i holds v, and nothing else alters
abbrev pub with_value : (ℕ → ℕ → Value) → ℕ → ℕ → Value → ℕ → ℕ → Value
with_value get i f v j g = cond (both (j == i) (g == f)) v (get j g)
