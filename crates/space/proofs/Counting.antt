-- What a change adds to the entries and to the surplus, and what a split takes from them.
use Rattle.std.proofs.Common.{◌≡◌, ℕ, zero, suc, ◌+◌, ◌-◌, ◌/◌, ◌<◌, ◌≤◌, Bool, true, false, cond, eqb, ◌⊎◌, List, [], ◌∷◌, ◌++◌, length, sym, refl, ap, ◌∙◌, subst, inl, inr, le_refl, le_of_suc-le-suc, not-suc-le-zero, arith}
use Rattle.std.proofs.lemmas.Bool.{cases_lt, cases_Bool, cases_eq, eq-eqb, ne_eqb, le-leb, lt-leb}
use Rattle.fields.specs.declared.kinds.Value.{Value}
use Rattle.fields.specs.declared.kinds.Value.TheVariants.{Number, Nil, To, From}
use Rattle.fields.specs.Fields.{suits}
use Rattle.entries.specs.Entries.{Entry, read, AllFrom, Sorted, Single, entries_before, entries_behind, keep, both, EachVersion}
use Rattle.entries.specs.Counts.{version_at}
use Rattle.entries.proofs.Counting.{put_adds, keep_adds, renamed_adds, mapped_length, split_halves, cut_renamed}
use Rattle.memory.specs.Memory.{sum_to}
use Rattle.slices.specs.Slices.{swapped}
use Rattle.slices.specs.Copies.{Copy, Copies, value_at, Serves, serving, Decides, Sound}
use Rattle.slices.specs.Splits.{times, naming, names, renames, maps, renamed_copy, split_by, split}
use Rattle.slices.specs.Changes.{changed, set_field, FieldWrite, with_values}
use Rattle.slices.proofs.Swapping.{to_spot, from_spot}
use Rattle.slices.proofs.Serving.{both_true, serving_tells}
use Rattle.slices.proofs.Splitting.{copy_new, copy_old, copy_else, renames_out}
use Rattle.states.specs.Relinks.{is_from, write, emptied, filled}
use Rattle.states.proofs.Linking.{clash}
use Rattle.states.proofs.Relinking.{is_from_lem, from_is}
use Rattle.space.specs.Space.{size, all_entries, except, elsewhere, ChangeAdds, RelinkThree, split_version, SplitVersionFits, SplitAdds}

-- sums
pub sum_le : (m : ℕ) (g h : ℕ → ℕ) → ((i : ℕ) → i < m → g i ≤ h i) → sum_to m g ≤ sum_to m h
sum_le zero g h k = le_refl 0
sum_le (suc m) g h k = let a = sum_le m g h (λ i l. k i (omega (arith, l))) in let b = k m (omega arith) in omega (arith, a, b)

pub sum_add : (m : ℕ) (g h : ℕ → ℕ) → sum_to m (λ i. g i + h i) ≡ sum_to m g + sum_to m h
sum_add zero g h = refl
sum_add (suc m) g h = let a = sum_add m g h in omega (arith, a)

pub sum_at : (m c k : ℕ) → (m ≤ c → sum_to m (λ i. cond (eqb i c) k 0) ≡ 0) × (sum_to m (λ i. cond (eqb i c) k 0) ≤ k)
sum_at zero c k = ((λ _. refl), omega arith)
sum_at (suc m) c k =
    let a = sum_at m c k in
    elim (cases_eq m c) [
      | inl e ↦
          let z = a.0 (omega (arith, e)) in
          ((λ l. absurd (omega (arith, l, e))), rw (eq-eqb m c e) (omega (arith, z)))
      | inr n ↦
          let y = a.1 in
          ((λ l. let z = a.0 (omega (arith, l)) in rw (ne_eqb m c n) (omega (arith, z))), rw (ne_eqb m c n) (omega (arith, y)))
    ]

-- the sum without one, and that one
pub sum_one : (m c : ℕ) (g : ℕ → ℕ) → (m ≤ c → sum_to m (except c g) ≡ sum_to m g) × (c < m → sum_to m (except c g) + g c ≡ sum_to m g)
sum_one zero c g = ((λ _. refl), (λ l. absurd (not-suc-le-zero l)))
sum_one (suc m) c g =
    let a = sum_one m c g in
    elim (cases_eq m c) [
      | inl e ↦ (
        (λ l. absurd (omega (arith, l, e))),
        (λ l. let z = a.0 (omega (arith, e)) in let q : g m ≡ g c = ap g e in rw (eq-eqb m c e) (omega (arith, z, q))),
      )
      | inr n ↦ (
        (λ l. let z = a.0 (omega (arith, l)) in rw (ne_eqb m c n) (omega (arith, z))),
        (λ l. let z = a.1 (omega (arith, l, n)) in rw (ne_eqb m c n) (omega (arith, z))),
      )
    ]

except_le : (c i t : ℕ) (g h : ℕ → ℕ) → ((i ≡ c → ⊥) → g i ≤ h i + t) → except c g i ≤ except c h i + t
except_le c i t g h k = elim (cases_eq i c) [ inl e ↦ rw (eq-eqb i c e) (omega arith) | inr n ↦ let z = k n in rw (ne_eqb i c n) z ]

except_at : (c i : ℕ) (g : ℕ → ℕ) → (i ≡ c → ⊥) → except c g i ≡ g i
except_at c i g n = rw (ne_eqb i c n) refl

-- one place grows by at most k
sum_grows : (m c k : ℕ) (g h : ℕ → ℕ) → ((i : ℕ) → i < m → g i ≤ h i + cond (eqb i c) k 0) → sum_to m g ≤ sum_to m h + k
sum_grows m c k g h step =
    let a = sum_le m g (λ i. h i + cond (eqb i c) k 0) step in
    let b = sum_add m h (λ i. cond (eqb i c) k 0) in
    let d = (sum_at m c k).1 in
    omega (arith, a, b, d)

-- a change of one field
changed_adds : (pos : ℕ → ℕ) (u s : ℕ) (more : Bool) (f : ℕ) (w : Value) (k : Copy)
    → (length (changed pos u s more f w k).entries ≤ length k.entries + 2) × (length k.entries ≤ length (changed pos u s more f w k).entries)
changed_adds pos u s more f w k =
    let K = cond more (keep pos f s (value_at pos (pos u) k f) k.entries) k.entries in
    let a : (length (cond more (keep pos f s (value_at pos (pos u) k f) k.entries) k.entries) ≤ length k.entries + 1) × (length k.entries ≤ length (cond more (keep pos f s (value_at pos (pos u) k f) k.entries) k.entries)) =
    elim (cases_Bool more) [ inl t ↦ rw t (keep_adds pos f s (value_at pos (pos u) k f) k.entries) | inr t ↦ rw t (omega arith, le_refl (length k.entries)) ] in
    let b = put_adds pos f u w (cond more (keep pos f s (value_at pos (pos u) k f) k.entries) k.entries) in
    let a0 = a.0 in let a1 = a.1 in let b0 = b.0 in let b1 = b.1 in
    elim (cases_Bool (eqb (pos u) (pos k.lo))) [
      | inl t ↦ rw t (omega (arith, a0), a1)
      | inr t ↦ rw t (omega (arith, a0, b0), omega (arith, a1, b1))
    ]

set_field-size : (pos : ℕ → ℕ) (u s : ℕ) (more : Bool) (i f : ℕ) (w : Value) (M : Copies) (j : ℕ)
    → (size (set_field pos u s more i f w M) j ≤ size M j + cond (eqb j i) 2 0) × (size M j ≤ size (set_field pos u s more i f w M) j)
set_field-size pos u s more i f w M j =
    elim (cases_eq j i) [
      | inl e ↦
          let a = changed_adds pos u s more f w (M.copy i) in
          let q : size M j ≡ size M i = ap (size M) e in
          let a0 = a.0 in let a1 = a.1 in
          rw (eq-eqb j i e) (omega (arith, a0, q), omega (arith, a1, q))
      | inr n ↦ rw (ne_eqb j i n) (omega arith, le_refl (size M j))
    ]

pub change_adds : ChangeAdds
change_adds pos u s more [] M = (omega arith, le_refl (all_entries M), omega arith)
change_adds pos u s more (w ∷ ws) M =
    let N = set_field pos u s (more w.copy) w.copy w.field w.value M in
    let sz = set_field-size pos u s (more w.copy) w.copy w.field w.value M in
    let r = change_adds pos u s more ws N in
    let r0 = r.0 in let r1 = r.1 in let r2 = r.2 in
    let a = sum_grows M.total w.copy 2 (size N) (size M) (λ i l. (sz i).0) in
    let b = sum_le M.total (size M) (size N) (λ i l. (sz i).1) in
    let d = sum_grows M.total w.copy 2 (except 0 (λ i. size N i - 9)) (except 0 (λ i. size M i - 9))
    (λ i l.
    let y = (sz i).0 in
    elim (cases_eq i 0) [ inl e ↦ rw (eq-eqb i 0 e) (omega arith) | inr n ↦ rw (ne_eqb i 0 n) (omega (arith, y)) ]) in
    (omega (arith, r0, a), omega (arith, r1, b), omega (arith, r2, d))

three : (e f : List FieldWrite) (w : FieldWrite) → length e ≤ 1 → length f ≤ 1 → length (e ++ (w ∷ f)) ≤ 3
three [] f w a b = omega (arith, b)
three (x ∷ []) f w a b = omega (arith, b)
three (x ∷ y ∷ xs) f w a b = absurd (omega (arith, a))

emptied_one : (get : ℕ → ℕ → Value) (i l : ℕ) (v : Value) → length (emptied get i l v) ≤ 1
emptied_one get i l (Number n) = omega arith
emptied_one get i l Nil = omega arith
emptied_one get i l (To k) = omega arith
emptied_one get i l (From a m) = omega arith

filled_one : (get : ℕ → ℕ → Value) (i l : ℕ) (v : Value) → length (filled get i l v) ≤ 1
filled_one get i l (Number n) = omega arith
filled_one get i l Nil = omega arith
filled_one get i l (To k) = omega arith
filled_one get i l (From a m) = omega arith

pub relink_three : RelinkThree
relink_three get i l v = three (emptied get i l (get i l)) (filled (with_values (emptied get i l (get i l)) get) i l v) (write i l v) (emptied_one get i l (get i l)) (filled_one (with_values (emptied get i l (get i l)) get) i l v)

-- the middle entry's version
each_at : (P : ℕ → Type 0) (es : List (Entry Value)) (k : ℕ) → EachVersion P es → k < length es → P (version_at es k)
each_at P [] k h l = absurd (not-suc-le-zero l)
each_at P (e ∷ es) zero h l = h.0
each_at P (e ∷ es) (suc k) h l = each_at P es k h.1 (le_of_suc-le-suc l)

from_at : (pos : ℕ → ℕ) (q : ℕ) (es : List (Entry Value)) (k : ℕ) → AllFrom pos q es → k < length es → q ≤ pos (version_at es k)
from_at pos q [] k h l = absurd (not-suc-le-zero l)
from_at pos q (e ∷ es) zero h l = h.0
from_at pos q (e ∷ es) (suc k) h l = from_at pos q es k h.1 (le_of_suc-le-suc l)

pub split_version_fits : SplitVersionFits
split_version_fits pos M c S hc big =
    let lt : size M c / 2 < size M c = omega (arith, big) in (
      each_at (λ v. Serves pos M (pos v) c) (M.copy c).entries (size M c / 2) (S.shape.hosted c hc) lt,
      from_at pos (suc (pos (M.copy c).lo)) (M.copy c).entries (size M c / 2) (S.shape.copies c hc).late lt,
    )

cut_renames : (pos : ℕ → ℕ) (c d : ℕ) (fs : List ℕ) (x : ℕ) (first : ℕ → Value) (es : List (Entry Value))
    → (length (entries_before pos (pos x) (renames pos c d fs x first es)) ≡ length (entries_before pos (pos x) es)) × (length (entries_behind pos (pos x) (renames pos c d fs x first es)) ≡ length (entries_behind pos (pos x) es))
cut_renames pos c d [] x first es = (refl, refl)
cut_renames pos c d (f ∷ fs) x first es =
    let a = cut_renamed pos (names c d) (swapped c d) f x (first f) (renames pos c d fs x first es) in
    let b = cut_renames pos c d fs x first es in
    (a.0 ∙ b.0, a.1 ∙ b.1)

maps_length : (pos : ℕ → ℕ) (c d : ℕ) (fs : List ℕ) (x : ℕ) (es : List (Entry Value)) → length (maps pos c d fs x es) ≡ length es
maps_length pos c d [] x es = refl
maps_length pos c d (f ∷ fs) x es = mapped_length pos (swapped c d) f x (maps pos c d fs x es) ∙ maps_length pos c d fs x es

-- one for each field of fs for which g holds
abbrev tally : (ℕ → Bool) → List ℕ → ℕ
tally g [] = 0
tally g (f ∷ fs) = cond (g f) 1 0 + tally g fs

abbrev Apart : List ℕ → Type 0
Apart [] = Unit {0}
Apart (f ∷ fs) = (times f fs ≡ 0) × Apart fs

renames_adds : (pos : ℕ → ℕ) (c d : ℕ) (fs : List ℕ) (x : ℕ) (first : ℕ → Value) (es : List (Entry Value)) → Sorted pos es → Single pos es → Apart fs
    → length (renames pos c d fs x first es) ≤ length es + tally (λ f. names c d (read pos f (pos x) (first f) es)) fs
renames_adds pos c d [] x first es s h n = omega arith
renames_adds pos c d (f ∷ fs) x first es s h n =
    let i = renames_adds pos c d fs x first es s h n.1 in
    let j = (renamed_adds pos (names c d) (swapped c d) f x (first f) (renames pos c d fs x first es)).0 in
    let e = renames_out pos c d fs x first es s h f (pos x) n.0 in
    let j' : length (renames pos c d (f ∷ fs) x first es) ≤ length (renames pos c d fs x first es) + cond (names c d (read pos f (pos x) (first f) es)) 1 0 =
    subst (λ (v : Value). length (renames pos c d (f ∷ fs) x first es) ≤ length (renames pos c d fs x first es) + cond (names c d v) 1 0) e j in
    omega (arith, i, j')

renames_grow : (pos : ℕ → ℕ) (c d : ℕ) (fs : List ℕ) (x : ℕ) (first : ℕ → Value) (es : List (Entry Value)) → length es ≤ length (renames pos c d fs x first es)
renames_grow pos c d [] x first es = le_refl (length es)
renames_grow pos c d (f ∷ fs) x first es =
    let i = renames_grow pos c d fs x first es in
    let j = (renamed_adds pos (names c d) (swapped c d) f x (first f) (renames pos c d fs x first es)).1 in
    omega (arith, i, j)

-- who names whom at x: each name of c is told by one of c's two back links, or answers one of c's two links
abbrev from_who : ℕ → Value → Bool
from_who i (Number n) = false
from_who i Nil = false
from_who i (To k) = false
from_who i (From a m) = eqb i a

abbrev is_to : ℕ → Value → Bool
is_to i (Number n) = false
is_to i Nil = false
is_to i (To k) = eqb i k
is_to i (From a m) = false

is_to_lem : (i : ℕ) (v : Value) → v ≡ To i → is_to i v ≡ true
is_to_lem i v e = ap (is_to i) e ∙ eq-eqb i i refl

to_is : (i : ℕ) (v : Value) → is_to i v ≡ true → v ≡ To i
to_is i (Number n) h = absurd (let z : ◌≡◌ {A = ℕ} 0 1 = cc in omega arith)
to_is i Nil h = absurd (let z : ◌≡◌ {A = ℕ} 0 1 = cc in omega arith)
to_is i (To k) h = let e : i ≡ k = grind arith in ap To (sym e)
to_is i (From a m) h = absurd (let z : ◌≡◌ {A = ℕ} 0 1 = cc in omega arith)

named_by : (c d : ℕ) (v : Value) → names c d v ≡ true
    → ((k : ℕ) × (v ≡ To k) × ((k ≡ c) ⊎ (k ≡ d))) ⊎ ((k : ℕ) × (l : ℕ) × (v ≡ From k l) × ((k ≡ c) ⊎ (k ≡ d)))
named_by c d (Number n) h = absurd (let z : ◌≡◌ {A = ℕ} 0 1 = cc in omega arith)
named_by c d Nil h = absurd (let z : ◌≡◌ {A = ℕ} 0 1 = cc in omega arith)
named_by c d (To k) h = inl (k, refl, grind arith)
named_by c d (From k l) h = inr (k, l, refl, grind arith)

tally_le : (a p q r t : ℕ → Bool) (fs : List ℕ) → ((f : ℕ) → cond (a f) 1 0 ≤ cond (p f) 1 0 + cond (q f) 1 0 + cond (r f) 1 0 + cond (t f) 1 0)
    → tally a fs ≤ tally p fs + tally q fs + tally r fs + tally t fs
tally_le a p q r t [] h = omega arith
tally_le a p q r t (f ∷ fs) h = let i = tally_le a p q r t fs h in let j = h f in omega (arith, i, j)

tally_none : (a : ℕ → Bool) (fs : List ℕ) → ((f : ℕ) → a f ≡ false) → tally a fs ≡ 0
tally_none a [] h = refl
tally_none a (f ∷ fs) h = let i = tally_none a fs h in rw (h f) (omega (arith, i))

tally_like : (a b : ℕ → Bool) (fs : List ℕ) → ((f : ℕ) → a f ≡ b f) → tally a fs ≡ tally b fs
tally_like a b [] h = refl
tally_like a b (f ∷ fs) h = let i = tally_like a b fs h in rw (h f) (omega (arith, i))

tally_absent : (m : ℕ) (fs : List ℕ) → times m fs ≡ 0 → tally (λ f. eqb m f) fs ≡ 0
tally_absent m [] h = refl
tally_absent m (f ∷ fs) h =
    elim (cases_eq f m) [
      | inl e ↦ absurd (let z : suc (times m fs) ≡ 0 = rw (eq-eqb f m e) at h in omega (arith, z))
      | inr n ↦
          let t : times m fs ≡ 0 = rw (ne_eqb f m n) at h in
          let i = tally_absent m fs t in
          rw (ne_eqb m f (λ e. n (sym e))) (omega (arith, i))
    ]

tally_once : (m : ℕ) (fs : List ℕ) → Apart fs → tally (λ f. eqb m f) fs ≤ 1
tally_once m [] h = omega arith
tally_once m (f ∷ fs) h =
    elim (cases_eq m f) [
      | inl e ↦ let i = tally_absent m fs (ap (λ (z : ℕ). times z fs) e ∙ h.0) in rw (eq-eqb m f e) (omega (arith, i))
      | inr n ↦ let i = tally_once m fs h.1 in rw (ne_eqb m f n) (omega (arith, i))
    ]

naming_distinct : Apart naming
naming_distinct = (refl, (refl, (refl, (refl, (refl, tt)))))

tally_from : (i : ℕ) (v : Value) → tally (λ f. is_from i f v) naming ≤ cond (from_who i v) 1 0
tally_from i (Number n) = le_refl 0
tally_from i Nil = le_refl 0
tally_from i (To k) = le_refl 0
tally_from i (From a m) =
    elim (cases_eq i a) [
      | inl e ↦ rw (eq-eqb i a e, eq-eqb a i (sym e)) (tally_once m naming naming_distinct)
      | inr n ↦
          let z = tally_none (λ f. both (eqb a i) (eqb m f)) naming (λ f. rw (ne_eqb a i (λ e. n (sym e))) refl) in
          omega (arith, z)
    ]

sum_from : (n : ℕ) (v : Value) → sum_to n (λ i. cond (from_who i v) 1 0) ≤ 1
sum_from n (Number k) = let z = sum_le n (λ i. 0) (λ i. cond (eqb i 0) 1 0) (λ i l. omega arith) in let y = (sum_at n 0 1).1 in omega (arith, z, y)
sum_from n Nil = let z = sum_le n (λ i. 0) (λ i. cond (eqb i 0) 1 0) (λ i l. omega arith) in let y = (sum_at n 0 1).1 in omega (arith, z, y)
sum_from n (To k) = let z = sum_le n (λ i. 0) (λ i. cond (eqb i 0) 1 0) (λ i l. omega arith) in let y = (sum_at n 0 1).1 in omega (arith, z, y)
sum_from n (From a m) = (sum_at n a 1).1

sum_to_lem : (n : ℕ) (v : Value) → sum_to n (λ i. cond (is_to i v) 1 0) ≤ 1
sum_to_lem n (Number k) = let z = sum_le n (λ i. 0) (λ i. cond (eqb i 0) 1 0) (λ i l. omega arith) in let y = (sum_at n 0 1).1 in omega (arith, z, y)
sum_to_lem n Nil = let z = sum_le n (λ i. 0) (λ i. cond (eqb i 0) 1 0) (λ i l. omega arith) in let y = (sum_at n 0 1).1 in omega (arith, z, y)
sum_to_lem n (To k) = (sum_at n k 1).1
sum_to_lem n (From a m) = let z = sum_le n (λ i. 0) (λ i. cond (eqb i 0) 1 0) (λ i l. omega arith) in let y = (sum_at n 0 1).1 in omega (arith, z, y)

-- a link holds no back link
low_not : (i f a l : ℕ) (v : Value) → f < 3 → suits i f v ≡ true → is_from a l v ≡ false
low_not i f a l (Number n) h t = refl
low_not i f a l Nil h t = refl
low_not i f a l (To k) h t = refl
low_not i f a l (From b m) h t = absurd (let e = from_spot i f b m t in let z : ⊥ = grind arith in z)

module _ (pos : ℕ → ℕ) (M : Copies) (here : ℕ → Bool) (c x : ℕ) (tells : (i : ℕ) → i < M.total → Decides (here i) (Serves pos M (pos x) i)) (S : Sound pos M) (nc : c ≡ 0 → ⊥) (sv : Serves pos M (pos x) c) (lt : pos (M.copy c).lo < pos x) where
  abbrev get : ℕ → ℕ → Value
  get i f = value_at pos (pos x) (M.copy i) f

  abbrev namer : ℕ → ℕ → Bool
  namer i f = both (here i) (names c M.total (get i f))

  served_c : (k : ℕ) → Serves pos M (pos x) k → (k ≡ c) ⊎ (k ≡ M.total) → k ≡ c
  served_c k s h = elim h [ inl e ↦ e | inr e ↦ absurd (let l = s.0 in omega (arith, l, e)) ]

  told : (i : ℕ) → i < M.total → (f : ℕ)
      → cond (namer i f) 1 0 ≤ cond (is_from i f (get c 3)) 1 0 + cond (is_from i f (get c 4)) 1 0 + cond (both (is_to i (get c 0)) (is_from c 0 (get i f))) 1 0 + cond (both (is_to i (get c 1)) (is_from c 1 (get i f))) 1 0
  told i h f =
      elim (cases_Bool (namer i f)) [
        | inr t ↦ rw t (omega arith)
        | inl t ↦
            let b = both_true (here i) (names c M.total (get i f)) t in
            let on : Serves pos M (pos x) i = (tells i h).1 b.0 in
            elim (named_by c M.total (get i f) b.1) [
              | inl q ↦
                  let g = (S.good (pos x)).named i f q.0 on q.1 in
                  let e = served_c q.0 g.0 q.2 in
                  elim (subst (λ (z : ℕ). (get z 3 ≡ From i f) ⊎ (get z 4 ≡ From i f)) e g.1) [
                    | inl y ↦ rw (t, is_from_lem i f (get c 3) y) (omega arith)
                    | inr y ↦ rw (t, is_from_lem i f (get c 4) y) (omega arith)
                  ]
              | inr q ↦
                  let g = (S.good (pos x)).backed i f q.0 q.1 on q.2 in
                  let e = served_c q.0 g.0 q.3 in
                  let l = q.1 in
                  let gl : get c l ≡ To i = ap (λ (z : ℕ). get z l) (sym e) ∙ g.1 in
                  let fl : get i f ≡ From c l = q.2 ∙ ap (λ (z : ℕ). From z l) e in
                  let sp = to_spot c l i (sym (ap (suits c l) gl) ∙ (S.good (pos x)).typed c l sv) in
                  elim sp [
                    | inl low ↦
                        elim (cases_eq l 0) [
                          | inl z ↦
                              rw (t, is_to_lem i (get c 0) (ap (get c) (sym z) ∙ gl), is_from_lem c 0 (get i f) (fl ∙ ap (From c) z)) (omega arith)
                          | inr z ↦
                              let o : l ≡ 1 = omega (arith, low, z) in
                              rw (t, is_to_lem i (get c 1) (ap (get c) (sym o) ∙ gl), is_from_lem c 1 (get i f) (fl ∙ ap (From c) o)) (omega arith)
                        ]
                    | inr z ↦ absurd (nc z.0)
                  ]
            ]
      ]

  -- a copy answers a link of c in one slot alone
  answers_once : (i l : ℕ) → Serves pos M (pos x) i → tally (λ f. is_from c l (get i f)) naming ≤ 1
  answers_once i l on =
      let ty = λ (f : ℕ). (S.good (pos x)).typed i f on in
      let z0 = low_not i 0 c l (get i 0) (omega arith) (ty 0) in
      let z1 = low_not i 1 c l (get i 1) (omega arith) (ty 1) in
      let z2 = low_not i 2 c l (get i 2) (omega arith) (ty 2) in
      rw (z0, z1, z2)
      (elim (cases_Bool (is_from c l (get i 3))) [
        | inl a ↦
            elim (cases_Bool (is_from c l (get i 4))) [
              | inl b ↦ clash _ c l (get i 3) ((S.good (pos x)).single i on (from_is c l (get i 3) a ∙ sym (from_is c l (get i 4) b))) (from_is c l (get i 3) a)
              | inr b ↦ rw (a, b) (omega arith)
            ]
        | inr a ↦
            elim (cases_Bool (is_from c l (get i 4))) [
              | inl b ↦ rw (a, b) (omega arith)
              | inr b ↦ rw (a, b) (omega arith)
            ]
      ])

  tally_to : (i l : ℕ) → tally (λ f. both (is_to i (get c l)) (is_from c l (get i f))) naming ≤ cond (is_to i (get c l)) 1 0
  tally_to i l =
      elim (cases_Bool (is_to i (get c l))) [
        | inl t ↦ rw t (answers_once i l ((S.good (pos x)).named c l i sv (to_is i (get c l) t)).0)
        | inr t ↦ rw t (le_refl 0)
      ]

  four : sum_to M.total (λ i. tally (namer i) naming) ≤ 4
  four =
      let a = sum_le M.total (λ i. tally (namer i) naming)
      (λ i. (cond (from_who i (get c 3)) 1 0 + cond (from_who i (get c 4)) 1 0) + (cond (is_to i (get c 0)) 1 0 + cond (is_to i (get c 1)) 1 0))
      (λ i h.
      let z = tally_le (namer i) (λ f. is_from i f (get c 3)) (λ f. is_from i f (get c 4)) (λ f. both (is_to i (get c 0)) (is_from c 0 (get i f))) (λ f. both (is_to i (get c 1)) (is_from c 1 (get i f))) naming (told i h) in
      let p = tally_from i (get c 3) in
      let q = tally_from i (get c 4) in
      let r = tally_to i 0 in
      let t = tally_to i 1 in
      omega (arith, z, p, q, r, t)) in
      let b = sum_add M.total (λ i. cond (from_who i (get c 3)) 1 0 + cond (from_who i (get c 4)) 1 0) (λ i. cond (is_to i (get c 0)) 1 0 + cond (is_to i (get c 1)) 1 0) in
      let b1 = sum_add M.total (λ i. cond (from_who i (get c 3)) 1 0) (λ i. cond (from_who i (get c 4)) 1 0) in
      let b2 = sum_add M.total (λ i. cond (is_to i (get c 0)) 1 0) (λ i. cond (is_to i (get c 1)) 1 0) in
      let p = sum_from M.total (get c 3) in
      let q = sum_from M.total (get c 4) in
      let r = sum_to_lem M.total (get c 0) in
      let t = sum_to_lem M.total (get c 1) in
      omega (arith, a, b, b1, b2, p, q, r, t)

  other_size : (i : ℕ) → i < M.total → (i ≡ c → ⊥) → size (split_by pos here c x M) i ≤ size M i + tally (namer i) naming
  other_size i h n =
      let e = ap (λ (k : Copy). length k.entries) (copy_else pos M here c x i h n) in
      let ok = S.shape.copies i h in
      let z : length (renamed_copy pos naming c M.total x (here i) (M.copy i)).entries ≤ size M i + tally (namer i) naming =
      elim (cases_lt (pos (M.copy i).lo) (pos x)) [
        | inl l ↦
            elim (cases_Bool (here i)) [
              | inl y ↦ rw (lt-leb (pos x) (pos (M.copy i).lo) l, y) (renames_adds pos c M.total naming x (M.copy i).first (M.copy i).entries ok.sorted ok.once naming_distinct)
              | inr y ↦ rw (lt-leb (pos x) (pos (M.copy i).lo) l, y) (omega arith)
            ]
        | inr g ↦ let m = maps_length pos c M.total naming (pos x) (M.copy i).entries in rw (le-leb (pos x) (pos (M.copy i).lo) g) (omega (arith, m))
      ] in
      omega (arith, e, z)

  other_grows : (i : ℕ) → i < M.total → (i ≡ c → ⊥) → size M i ≤ size (split_by pos here c x M) i
  other_grows i h n =
      let e = ap (λ (k : Copy). length k.entries) (copy_else pos M here c x i h n) in
      let z : size M i ≤ length (renamed_copy pos naming c M.total x (here i) (M.copy i)).entries =
      elim (cases_lt (pos (M.copy i).lo) (pos x)) [
        | inl l ↦
            elim (cases_Bool (here i)) [
              | inl y ↦ rw (lt-leb (pos x) (pos (M.copy i).lo) l, y) (renames_grow pos c M.total naming x (M.copy i).first (M.copy i).entries)
              | inr y ↦ rw (lt-leb (pos x) (pos (M.copy i).lo) l, y) (le_refl (size M i))
            ]
        | inr g ↦ let m = maps_length pos c M.total naming (pos x) (M.copy i).entries in rw (le-leb (pos x) (pos (M.copy i).lo) g) (omega (arith, m))
      ] in
      omega (arith, e, z)

  renamed_c : (renamed_copy pos naming c M.total x (here c) (M.copy c)).entries ≡ renames pos c M.total naming x (M.copy c).first (M.copy c).entries
  renamed_c = rw (lt-leb (pos x) (pos (M.copy c).lo) lt, (tells c sv.0).0 sv) refl

  front_size : size (split_by pos here c x M) c ≡ length (entries_before pos (pos x) (M.copy c).entries)
  front_size =
      ap (λ (k : Copy). length k.entries) (copy_old pos M here c x sv.0)
      ∙ (ap (λ (es : List (Entry Value)). length (entries_before pos (pos x) es)) renamed_c ∙ (cut_renames pos c M.total naming x (M.copy c).first (M.copy c).entries).0)

  back_size : size (split_by pos here c x M) M.total ≡ length (entries_behind pos (pos x) (M.copy c).entries)
  back_size =
      ap (λ (k : Copy). length k.entries) (copy_new pos M here c x)
      ∙ (ap (λ (es : List (Entry Value)). length (entries_behind pos (pos x) es)) renamed_c ∙ (cut_renames pos c M.total naming x (M.copy c).first (M.copy c).entries).1)

  elsewhere_four : elsewhere M.total c (split_by pos here c x M) ≤ elsewhere M.total c M + 4
  elsewhere_four =
      let a = sum_le M.total (except c (size (split_by pos here c x M))) (λ i. except c (size M) i + tally (namer i) naming)
      (λ i h. except_le c i (tally (namer i) naming) (size (split_by pos here c x M)) (size M) (λ n. other_size i h n)) in
      let b = sum_add M.total (except c (size M)) (λ i. tally (namer i) naming) in
      let d = four in
      omega (arith, a, b, d)

  stored_four : sum_to M.total (except c (except 0 (λ i. size (split_by pos here c x M) i - 9))) ≤ sum_to M.total (except c (except 0 (λ i. size M i - 9))) + 4
  stored_four =
      let a = sum_le M.total (except c (except 0 (λ i. size (split_by pos here c x M) i - 9))) (λ i. except c (except 0 (λ i. size M i - 9)) i + tally (namer i) naming)
      (λ i h. except_le c i (tally (namer i) naming) (except 0 (λ i. size (split_by pos here c x M) i - 9)) (except 0 (λ i. size M i - 9))
      (λ n. except_le 0 i (tally (namer i) naming) (λ i. size (split_by pos here c x M) i - 9) (λ i. size M i - 9) (λ m. let z = other_size i h n in omega (arith, z)))) in
      let b = sum_add M.total (except c (except 0 (λ i. size M i - 9))) (λ i. tally (namer i) naming) in
      let d = four in
      omega (arith, a, b, d)

pub split_adds : SplitAdds
split_adds pos M c S nc hc big =
    let x = split_version M c in
    let here = serving pos M (pos x) in
    let tells = λ (i : ℕ) (_ : i < M.total). serving_tells pos M (pos x) i in
    let fit = split_version_fits pos M c S hc big in
    let sv = fit.0 in
    let lt = fit.1 in
    let H = split_halves pos (M.copy c).entries (S.shape.copies c hc).sorted big in
    let h0 = H.0 in let h1 = H.1 in let h2 = H.2 in
    let fs = front_size pos M here c x tells S nc sv lt in
    let bs = back_size pos M here c x tells S nc sv lt in
    let D = split pos c x M in
    let cut : size D c + size D M.total + 1 ≤ size M c = omega (arith, h0, h1, fs, bs) in
    let pay : (size D c - 9) + (size D M.total - 9) + 10 ≤ size M c - 9 = omega (arith, h2, fs, bs) in
    let g = λ (i : ℕ). size M i - 9 in
    let g' = λ (i : ℕ). size D i - 9 in
    let a = stored_four pos M here c x tells S nc sv lt in
    let p = (sum_one M.total c (except 0 g)).1 hc in
    let q = (sum_one M.total c (except 0 g')).1 hc in
    let ec : except 0 g c ≡ size M c - 9 = except_at 0 c g nc in
    let ec' : except 0 g' c ≡ size D c - 9 = except_at 0 c g' nc in
    let nn : M.total ≡ 0 → ⊥ = λ e. omega (arith, hc, e) in
    let en : except 0 g' M.total ≡ size D M.total - 9 = except_at 0 M.total g' nn in
    (cut, pay, elsewhere_four pos M here c x tells S nc sv lt, omega (arith, a, p, q, ec, ec', en, pay), other_grows pos M here c x tells S nc sv lt)
