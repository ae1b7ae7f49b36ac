-- The change of a field at one version.
--
--   changed               a copy with one field changed at a version
--   ChangedReads          only that version and field see it
--   set_field             the copies with one field of one of them changed
--   NextServed            what a change knows of the version behind
--   SetFieldSlices        no slice alters but in that one field at that version
--   FieldWrite, set_all   several changes at one version
--   with_values           a slice with several fields replaced
--   SetAllSound           sound, if the version's own slice is coherent afterwards
use Rattle.std.specs.Prelude.{◌≡◌, ℕ, suc, ◌<◌, ◌≤◌, Bool, true, false, cond, List, [], ◌∷◌, ◌==◌, ◌≢◌}
use Rattle.fields.specs.declared.kinds.Value.{Value}
use Rattle.entries.specs.Entries.{both, put, keep}
use Rattle.slices.specs.Slices.{Coherent, with_value}
use Rattle.slices.specs.Copies.{Copy, Copies, value_at, Serves, Decides, CopyOk, Shaped, Sound}

-- the field f of a copy gets the value w at the version u, which the copy serves: an entry at u, or the first value if u is the
-- copy's first version. more says whether the version s right behind u belongs to the copy too: then s, where it has no entry of f,
-- gets one with the value before the change
abbrev pub changed : (ℕ → ℕ) → ℕ → ℕ → Bool → ℕ → Value → Copy → Copy
changed pos u s more f w k = record {
  serial = k.serial;
  key = k.key;
  lo = k.lo;
  first = λ g. cond (both (pos u == pos k.lo) (g == f)) w (k.first g);
  entries = cond (pos u == pos k.lo)
      (cond more (keep pos f s (value_at pos (pos u) k f) k.entries) k.entries)
      (put pos f u w (cond more (keep pos f s (value_at pos (pos u) k f) k.entries) k.entries));
}

-- at u the field reads w; at every other position that the copy serves, and in every other field, the copy reads as before
abbrev pub ChangedReads : Type 0
ChangedReads = (pos : ℕ → ℕ) (k : Copy) (u s f : ℕ) (more : Bool) (w : Value) → CopyOk pos k → pos k.lo ≤ pos u → (more ≡ true → pos s ≡ suc (pos u))
    → CopyOk pos (changed pos u s more f w k)
    × (value_at pos (pos u) (changed pos u s more f w k) f ≡ w)
    × ((p : ℕ) → pos k.lo ≤ p → (p ≢ pos u) → (more ≡ false → p < suc (pos u)) → value_at pos p (changed pos u s more f w k) f ≡ value_at pos p k f)
    × ((p g : ℕ) → (f ≢ g) → value_at pos p (changed pos u s more f w k) g ≡ value_at pos p k g)

-- the field f of the copy i changed at the version u
abbrev pub set_field : (ℕ → ℕ) → ℕ → ℕ → Bool → ℕ → ℕ → Value → Copies → Copies
set_field pos u s more i f w M = record {
  total = M.total;
  copy = λ j. cond (j == i) (changed pos u s more f w (M.copy i)) (M.copy j);
  made = M.made;
  versions = M.versions;
}

-- more tells whether the copy i serves the position behind u too, and s is the version there
abbrev pub NextServed : (ℕ → ℕ) → Copies → ℕ → ℕ → Bool → ℕ → Type 0
NextServed pos M u s more i = (more ≡ true → pos s ≡ suc (pos u)) × Decides more (Serves pos M (suc (pos u)) i)

-- the copies stay shaped and serve as before; at u the one field is w, and nothing else alters, at u or elsewhere
abbrev pub SetFieldSlices : Type 0
SetFieldSlices = (pos : ℕ → ℕ) (M : Copies) (u s i f : ℕ) (more : Bool) (w : Value) → Shaped pos M → Serves pos M (pos u) i → NextServed pos M u s more i
    → Shaped pos (set_field pos u s more i f w M)
    × ((p j : ℕ) → (Serves pos M p j → Serves pos (set_field pos u s more i f w M) p j) × (Serves pos (set_field pos u s more i f w M) p j → Serves pos M p j))
    × (value_at pos (pos u) ((set_field pos u s more i f w M).copy i) f ≡ w)
    × ((p j g : ℕ) → Serves pos M p j → (p ≡ pos u → j ≡ i → g ≢ f) → value_at pos p ((set_field pos u s more i f w M).copy j) g ≡ value_at pos p (M.copy j) g)

-- one field of one copy, and what it is to hold
pub record FieldWrite : Type 0 where
  pub copy : ℕ
  pub field : ℕ
  pub value : Value

-- some fields changed at u, one after the other; more tells of each copy whether it serves the position behind u
abbrev pub set_all : (ℕ → ℕ) → ℕ → ℕ → (ℕ → Bool) → List FieldWrite → Copies → Copies
set_all pos u s more [] M = M
set_all pos u s more (w ∷ ws) M = set_all pos u s more ws (set_field pos u s (more w.copy) w.copy w.field w.value M)

abbrev pub with_values : List FieldWrite → (ℕ → ℕ → Value) → ℕ → ℕ → Value
with_values [] get = get
with_values (w ∷ ws) get = with_values ws (with_value get w.copy w.field w.value)

-- P holds of each copy that is written
abbrev pub EachTarget : (ℕ → Type 0) → List FieldWrite → Type 0
EachTarget P [] = Unit {0}
EachTarget P (w ∷ ws) = P w.copy × EachTarget P ws

-- changes of copies that serve u: the slice of u has them, every other slice is as before, and the copies stay sound if the slice of u
-- stays coherent
abbrev pub SetAllSound : Type 0
SetAllSound = (pos : ℕ → ℕ) (u s : ℕ) (more : ℕ → Bool) (ws : List FieldWrite) (M : Copies) → Sound pos M
    → ((i : ℕ) → i < M.total → NextServed pos M u s (more i) i) → EachTarget (Serves pos M (pos u)) ws
    → Coherent (Serves pos M (pos u)) (with_values ws (λ i f. value_at pos (pos u) (M.copy i) f))
    → Sound pos (set_all pos u s more ws M)
    × ((p i : ℕ) → (Serves pos M p i → Serves pos (set_all pos u s more ws M) p i) × (Serves pos (set_all pos u s more ws M) p i → Serves pos M p i))
    × ((i f : ℕ) → Serves pos M (pos u) i → value_at pos (pos u) ((set_all pos u s more ws M).copy i) f ≡ with_values ws (λ i f. value_at pos (pos u) (M.copy i) f) i f)
    × ((p i f : ℕ) → (p ≢ pos u) → Serves pos M p i → value_at pos p ((set_all pos u s more ws M).copy i) f ≡ value_at pos p (M.copy i) f)
