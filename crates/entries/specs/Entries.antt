-- A copy's entries: how a field's value is read from them at a version, and how they are changed, renamed and parted.
--
--   Entry                                           a version, a field and the value that the field takes there
--   read                                            the value of a field at a position: that of the last entry at or before it, else the first value
--   AllFrom, Sorted                                 the entries stand in the order of their versions
--   Lacks, Single                                   at most one entry for each field and version
--   sets, has                                       an entry of a field at a position
--   EachVersion                                     something holds of each entry's version
--   put, keep                                       an entry is written; an entry is added unless there is one
--   entries_before, entries_behind                  the entries before and behind a position
--   mapped, renamed                                 the values of a field are replaced from a version on
--   SplitReads, PutReads, KeepReads, RenamedReads   what is read after each of these
--
-- Versions are compared by where they stand in the order: pos gives the position of a version. The values are of any type V.
use Rattle.std.specs.Prelude.{◌≡◌, ℕ, suc, ◌<◌, ◌≤◌, Bool, true, false, cond, List, [], ◌∷◌, ◌==◌, ◌≢◌, nat_le, nat_lt}
use Rattle.fields.specs.declared.kinds.Value.{Value}

pub record Entry (V : Type 0) : Type 0 where
  pub version : ℕ
  pub field : ℕ
  pub value : V

-- both tests hold
abbrev pub both : Bool → Bool → Bool
both true b = b
both false b = false

-- the entry is one of the field f and stands at the position p or before
abbrev pub hits : {V : Type 0} → (ℕ → ℕ) → ℕ → ℕ → Entry V → Bool
hits pos f p e = both (e.field == f) (nat_le (pos e.version) p)

-- the value of the field f at the position p: that of the last entry of f at or before p; where there is none, the first value a
abbrev pub read : {V : Type 0} → (ℕ → ℕ) → ℕ → ℕ → V → List (Entry V) → V
read pos f p a [] = a
read pos f p a (e ∷ es) = read pos f p (cond (hits pos f p e) e.value a) es

-- each entry stands at the position p or behind
abbrev pub AllFrom : {V : Type 0} → (ℕ → ℕ) → ℕ → List (Entry V) → Type 0
AllFrom pos p [] = Unit {0}
AllFrom pos p (e ∷ es) = (p ≤ pos e.version) × AllFrom pos p es

-- the entries stand in the order of their versions
abbrev pub Sorted : {V : Type 0} → (ℕ → ℕ) → List (Entry V) → Type 0
Sorted pos [] = Unit {0}
Sorted pos (e ∷ es) = AllFrom pos (pos e.version) es × Sorted pos es

-- no entry of the field f stands at the position p
abbrev pub Lacks : {V : Type 0} → (ℕ → ℕ) → ℕ → ℕ → List (Entry V) → Type 0
Lacks pos f p [] = Unit {0}
Lacks pos f p (e ∷ es) = (e.field ≡ f → pos e.version ≢ p) × Lacks pos f p es

-- there is at most one entry for each field and version
abbrev pub Single : {V : Type 0} → (ℕ → ℕ) → List (Entry V) → Type 0
Single pos [] = Unit {0}
Single pos (e ∷ es) = Lacks pos e.field (pos e.version) es × Single pos es

-- the entry is one of the field f at the position p
abbrev pub sets : {V : Type 0} → (ℕ → ℕ) → ℕ → ℕ → Entry V → Bool
sets pos f p e = both (e.field == f) (pos e.version == p)

-- the field f has an entry at the position p
abbrev pub has : {V : Type 0} → (ℕ → ℕ) → ℕ → ℕ → List (Entry V) → Bool
has pos f p [] = false
has pos f p (e ∷ es) = cond (sets pos f p e) true (has pos f p es)

-- P holds of each entry's version
abbrev pub EachVersion : {V : Type 0} → (ℕ → Type 0) → List (Entry V) → Type 0
EachVersion P [] = Unit {0}
EachVersion P (e ∷ es) = P e.version × EachVersion P es

abbrev pub entry : {V : Type 0} → ℕ → ℕ → V → Entry V
entry u f w = record { version = u; field = f; value = w }

-- the entries with the value w for the field f at the version u: in place of the entry that is there, or as a new one in its order
abbrev pub put : {V : Type 0} → (ℕ → ℕ) → ℕ → ℕ → V → List (Entry V) → List (Entry V)
put pos f u w [] = entry u f w ∷ []
put pos f u w (e ∷ es) =
    cond (nat_lt (pos u) (pos e.version)) (entry u f w ∷ e ∷ es)
    (cond (sets pos f (pos u) e) (entry u f w ∷ es) (e ∷ put pos f u w es))

-- the field f gets an entry at the version s, with the value old, unless it has one there
abbrev pub keep : {V : Type 0} → (ℕ → ℕ) → ℕ → ℕ → V → List (Entry V) → List (Entry V)
keep pos f s old es = cond (has pos f (pos s) es) es (put pos f s old es)

-- the entries before the position x
abbrev pub entries_before : {V : Type 0} → (ℕ → ℕ) → ℕ → List (Entry V) → List (Entry V)
entries_before pos x [] = []
entries_before pos x (e ∷ es) = cond (nat_lt (pos e.version) x) (e ∷ entries_before pos x es) (entries_before pos x es)

-- the entries behind the position x
abbrev pub entries_behind : {V : Type 0} → (ℕ → ℕ) → ℕ → List (Entry V) → List (Entry V)
entries_behind pos x [] = []
entries_behind pos x (e ∷ es) = cond (nat_lt x (pos e.version)) (e ∷ entries_behind pos x es) (entries_behind pos x es)

-- each entry of the field f from the position x on has what r makes of its value
abbrev pub mapped : {V : Type 0} → (ℕ → ℕ) → (V → V) → ℕ → ℕ → List (Entry V) → List (Entry V)
mapped pos r f x [] = []
mapped pos r f x (e ∷ es) =
    cond (both (e.field == f) (nat_le x (pos e.version))) (entry e.version e.field (r e.value)) e ∷ mapped pos r f x es

-- from the version x on the field f holds what r makes of its values; m tells which values r may alter, and where the value that
-- holds across x is one of them, the field gets an entry at x
abbrev pub renamed : {V : Type 0} → (ℕ → ℕ) → (V → Bool) → (V → V) → ℕ → ℕ → V → List (Entry V) → List (Entry V)
renamed pos m r f x a es =
    cond (m (read pos f (pos x) a es))
    (put pos f x (r (read pos f (pos x) a es)) (mapped pos r f (pos x) es))
    (mapped pos r f (pos x) es)

-- parted at x: before x the entries before x tell every value; from x on those behind x do, over the values at x
abbrev pub SplitReads : Type 0
SplitReads = (pos : ℕ → ℕ) (es : List (Entry Value)) → Sorted pos es → (f x p : ℕ) (a : Value)
    → (p < x → read pos f p a (entries_before pos x es) ≡ read pos f p a es)
    × (x ≤ p → read pos f p (read pos f x a es) (entries_behind pos x es) ≡ read pos f p a es)

-- an entry that is written at u shows at u; nothing before u alters, and no other field
abbrev pub PutReads : Type 0
PutReads = (pos : ℕ → ℕ) (es : List (Entry Value)) → Sorted pos es → Single pos es → (f u : ℕ) (w a : Value)
    → (read pos f (pos u) a (put pos f u w es) ≡ w)
    × ((p : ℕ) → p < pos u → read pos f p a (put pos f u w es) ≡ read pos f p a es)
    × ((g p : ℕ) (b : Value) → (f ≢ g) → read pos g p b (put pos f u w es) ≡ read pos g p b es)

-- an entry that is added at the version right behind u, with the value that the field has at u, alters no value at all
abbrev pub KeepReads : Type 0
KeepReads = (pos : ℕ → ℕ) (es : List (Entry Value)) → Sorted pos es → Single pos es → (f u s : ℕ) (a : Value) → pos s ≡ suc (pos u)
    → ((p : ℕ) → read pos f p a (keep pos f s (read pos f (pos u) a es) es) ≡ read pos f p a es)
    × ((g p : ℕ) (b : Value) → (f ≢ g) → read pos g p b (keep pos f s (read pos f (pos u) a es) es) ≡ read pos g p b es)

-- renamed from x on: before x every value is as it was, from x on the field holds what r makes of it, and no other field alters
abbrev pub RenamedReads : Type 0
RenamedReads = (pos : ℕ → ℕ) (es : List (Entry Value)) → Sorted pos es → Single pos es → (m : Value → Bool) (r : Value → Value)
    → ((v : Value) → m v ≡ false → r v ≡ v) → (f x p : ℕ) (a : Value)
    → (p < pos x → read pos f p a (renamed pos m r f x a es) ≡ read pos f p a es)
    × (pos x ≤ p → read pos f p a (renamed pos m r f x a es) ≡ r (read pos f p a es))
    × ((g : ℕ) (b : Value) → (f ≢ g) → read pos g p b (renamed pos m r f x a es) ≡ read pos g p b es)
