-- The split of a copy.
--
--   naming                  the fields that can name a copy: links and back links
--   names                   a value names one of two copies
--   renames, maps           the entries of a copy, renamed in all these fields
--   renamed_copy            a copy in which, from a version on, two copies have changed places
--   front_half, back_half   the parts of the split copy
--   split                   the split of a copy at a version
--   SplitSound              a split keeps soundness, and every slice but for the two copies' places
use Rattle.std.specs.Prelude.{◌≡◌, ℕ, suc, ◌<◌, ◌≤◌, Bool, true, false, cond, List, [], ◌∷◌, ◌==◌, ◌≢◌, nat_le}
use Rattle.fields.specs.declared.kinds.Value.{Value}
use Rattle.fields.specs.declared.kinds.Value.TheVariants.{Number, Nil, To, From}
use Rattle.fields.specs.Fields.{link, back}
use Rattle.entries.specs.Entries.{Entry, entries_before, entries_behind, mapped, renamed}
use Rattle.slices.specs.Slices.{swap, swapped}
use Rattle.slices.specs.Copies.{Copy, Copies, value_at, Serves, serving, Sound}

-- how often g stands among fs
abbrev pub times : ℕ → List ℕ → ℕ
times g [] = 0
times g (f ∷ fs) = cond (f == g) (suc (times g fs)) (times g fs)

-- the fields that can name a copy: the links and the back links
abbrev pub naming : List ℕ
naming = link 0 ∷ link 1 ∷ link 2 ∷ back 0 ∷ back 1 ∷ []

-- the value names c or d
abbrev pub names : ℕ → ℕ → Value → Bool
names c d (Number n) = false
names c d Nil = false
names c d (To k) = cond (k == c) true (k == d)
names c d (From k l) = cond (k == c) true (k == d)

-- the fields of fs, one after the other: from the version x on, c and d have changed places in their values; a field whose value
-- holds across x and names one of them gets an entry at x
abbrev pub renames : (ℕ → ℕ) → ℕ → ℕ → List ℕ → ℕ → (ℕ → Value) → List (Entry Value) → List (Entry Value)
renames pos c d [] x first es = es
renames pos c d (f ∷ fs) x first es = renamed pos (names c d) (swapped c d) f x (first f) (renames pos c d fs x first es)

-- the same where all entries stand behind the position x: none comes in
abbrev pub maps : (ℕ → ℕ) → ℕ → ℕ → List ℕ → ℕ → List (Entry Value) → List (Entry Value)
maps pos c d [] x es = es
maps pos c d (f ∷ fs) x es = mapped pos (swapped c d) f x (maps pos c d fs x es)

-- a copy in which, from the version x on, c and d have changed places. A copy that begins at x or behind is renamed in its first
-- values and in all its entries. One that began before x is renamed from x on, if here says that it serves x: one that ended before
-- x names nothing from x on
abbrev pub renamed_copy : (ℕ → ℕ) → List ℕ → ℕ → ℕ → ℕ → Bool → Copy → Copy
renamed_copy pos fs c d x here k =
    cond (nat_le (pos x) (pos k.lo))
    (record {
      serial = k.serial;
      key = k.key;
      lo = k.lo;
      first = λ f. cond (times f fs == 0) (k.first f) (swapped c d (k.first f));
      entries = maps pos c d fs (pos x) k.entries;
    })
    (record {
      serial = k.serial;
      key = k.key;
      lo = k.lo;
      first = k.first;
      entries = cond here (renames pos c d fs x k.first k.entries) k.entries;
    })

-- the old copy keeps the entries before x
abbrev pub front_half : (ℕ → ℕ) → ℕ → Copy → Copy
front_half pos x k =
    record { serial = k.serial; key = k.key; lo = k.lo; first = k.first; entries = entries_before pos (pos x) k.entries }

-- the new copy begins at x with the values that hold there, those of the entries at x among them, and takes the entries behind x
abbrev pub back_half : (ℕ → ℕ) → ℕ → Copy → Copy
back_half pos x k =
    record { serial = k.serial; key = k.key; lo = x; first = λ f. value_at pos (pos x) k f; entries = entries_behind pos (pos x) k.entries }

-- the split of the copy c at the version x, where here tells of each copy whether it serves x: the new copy is the last. Whatever
-- named the old copy for versions from x on names the new one
abbrev pub split_by : (ℕ → ℕ) → (ℕ → Bool) → ℕ → ℕ → Copies → Copies
split_by pos here c x M = record {
  total = suc M.total;
  copy = λ i.
      cond (i == M.total) (back_half pos x (renamed_copy pos naming c M.total x (here c) (M.copy c)))
      (cond (i == c) (front_half pos x (renamed_copy pos naming c M.total x (here c) (M.copy c)))
      (renamed_copy pos naming c M.total x (here i) (M.copy i)));
  made = M.made;
  versions = M.versions;
}

abbrev pub split : (ℕ → ℕ) → ℕ → ℕ → Copies → Copies
split pos c x M = split_by pos (serving pos M (pos x)) c x M

-- a node's copy c, split at a version x that it serves, behind its first: the copies stay sound; before x every slice is as it was;
-- from x on the old copy and the new one have changed places in it, and nothing else altered
abbrev pub SplitSound : Type 0
SplitSound = (pos : ℕ → ℕ) (M : Copies) (c x : ℕ) → Sound pos M
    → (c ≢ 0) → Serves pos M (pos x) c → pos (M.copy c).lo < pos x
    → Sound pos (split pos c x M)
    × ((p i : ℕ) → p < pos x → Serves pos M p i →
    Serves pos (split pos c x M) p i × ((f : ℕ) → value_at pos p ((split pos c x M).copy i) f ≡ value_at pos p (M.copy i) f))
    × ((p i : ℕ) → pos x ≤ p → Serves pos M p i →
    Serves pos (split pos c x M) p (swap c M.total i)
    × ((f : ℕ) → value_at pos p ((split pos c x M).copy (swap c M.total i)) f ≡ swapped c M.total (value_at pos p (M.copy i) f)))
    × ((p i : ℕ) → p < pos x → Serves pos (split pos c x M) p i → Serves pos M p i)
    × ((p i : ℕ) → pos x ≤ p → Serves pos (split pos c x M) p i → Serves pos M p (swap c M.total i))
