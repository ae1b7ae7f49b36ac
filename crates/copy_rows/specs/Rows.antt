-- The rows of a table of copies.
--
--   first_of   the first value of a field
--   stored     a row has a place for the field
--   Renewed    a row in which one first value is another
use Rattle.std.specs.Prelude.{◌≡◌, Bool, true, false, cond, ℕ, eqb, ltb}
use Rattle.fields.specs.declared.kinds.Value.{Value}
use Rattle.fields.specs.declared.kinds.Value.TheVariants.{Number, Nil}
use Rattle.copy_rows.specs.declared.row.CopyRow.{CopyRow}

-- the links are the fields 0 and 1, the back links 3 and 4, the value and the mark the numbers 5 and 6; a node's third link is nil, and
-- numbers that there are none of are 0
abbrev pub first_of : CopyRow → ℕ → Value
first_of r f =
    cond (eqb f 0) r.left (cond (eqb f 1) r.right (cond (eqb f 3) r.back (cond (eqb f 4) r.other
    (cond (eqb f 5) r.value (cond (eqb f 6) r.mark (cond (ltb f 5) Nil (Number 0)))))))

abbrev pub stored : ℕ → Bool
stored f = cond (eqb f 2) false (ltb f 7)

-- the field has the first value w, if the row has a place for it, and all else is as it was
pub record Renewed (r : CopyRow) (f : ℕ) (w : Value) (r' : CopyRow) : Type 0 where
  pub serial : r'.serial ≡ r.serial
  pub key : r'.key ≡ r.key
  pub lo : r'.lo ≡ r.lo
  pub next : r'.next ≡ r.next
  pub first : stored f ≡ true → (g : ℕ) → first_of r' g ≡ cond (eqb g f) w (first_of r g)
