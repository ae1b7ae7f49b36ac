-- Names.
--
--   name_bytes   the bytes of a name
--   Named        what making a name of some bytes answers: refused 14 unless there are 1 to 16
use Rattle.std.specs.Prelude.{◌≡◌, ℕ, ◌≤◌, List, length, take, Ok, Err, Result}
use Rattle.refusals.specs.declared.kinds.NameRefusal.{NameRefusal}
use Rattle.refusals.specs.declared.kinds.NameRefusal.TheVariants.{Length}
use Rattle.keys.specs.declared.name.NameKey.{NameKey}

-- the bytes of a name
abbrev pub name_bytes : NameKey → List ℕ
name_bytes k = take k.length k.bytes

-- bytes are a name where there are 1 to 16 of them
abbrev pub NameLength : List ℕ → Type 0
NameLength text = (1 ≤ length text) × (length text ≤ 16)

-- the name of the text is the one with just these bytes; other lengths are refused
abbrev pub Named : List ℕ → Result NameKey NameRefusal → Type 0
Named text (Ok k) = (name_bytes k ≡ text) × NameLength text
Named text (Err e) = (e ≡ Length) × (NameLength text → ⊥)
