-- The entries of a copy after a field was redirected.
use Rattle.std.proofs.Common.{◌≡◌, ℕ, zero, suc, ◌+◌, ◌-◌, ◌<◌, ◌≤◌, Bool, true, false, cond, eqb, ltb, List, [], ◌∷◌, length, get_or, sym, refl, ap, ◌∙◌, subst, inl, inr, arith}
use Rattle.std.proofs.lemmas.Bool.{cases_Bool}
use Rattle.fields.specs.declared.kinds.Field.{Field}
use Rattle.fields.specs.declared.kinds.Field.TheVariants.{Left, Right, Third, FirstBack, SecondBack}
use Rattle.fields.specs.declared.kinds.Value.{Value}
use Rattle.fields.specs.Fields.{field_number}
use Rattle.entries.specs.Entries.{Entry, both, mapped, put, read, renamed}
use Rattle.entries.proofs.Counting.{put_adds, mapped_length}
use Rattle.slices.specs.Copies.{value_at}
use Rattle.slices.specs.Partners.{names_one, redirect, redirects}
use Rattle.chains.specs.declared.table.ChainTable.{ChainTable}
use Rattle.chains.specs.Views.{Alters, asked, entries_of}
use Rattle.copy_rows.specs.declared.row.CopyRow.{CopyRow}
use Rattle.copy_rows.specs.Rows.{first_of}
use Rattle.copies.specs.declared.table.CopyTable.{CopyTable}
use Rattle.copies.specs.Views.{Placed, Enters, Redirects, RedirectsAll, row_at, copy_of}

abbrev with_chains : CopyTable → ChainTable → CopyTable
with_chains t chains = record { root = t.root; copies = t.copies; chains = chains; nodes = t.nodes }

module _ (pos : ℕ → ℕ) (n c d x i f : ℕ) (t : CopyTable) (mid : ChainTable) (value : Value) (named : Bool)
    (value_is : Placed t → asked t.chains n i x ≡ true → value ≡ value_at pos (pos x) (copy_of t i) f)
    (named_is : named ≡ names_one c value)
    (A : Alters (asked t.chains n i x) t.chains mid i (mapped pos (redirect c d) f (pos x) (entries_of t.chains i))) where
  -- the entries after the renaming, and no row taken
  renamed_first : asked t.chains n i x ≡ true
      → (entries_of mid i ≡ mapped pos (redirect c d) f (pos x) (entries_of t.chains i)) × (mid.used ≡ t.chains.used) × (length (entries_of mid i) ≡ length (entries_of t.chains i))
  renamed_first a =
      let m = mapped_length pos (redirect c d) f (pos x) (entries_of t.chains i) in
      let taken = t.chains.taken in
      let h = A.here a (omega (arith, m, taken)) in
      let u = h.1 in
      (h.0, omega (arith, m, u), ap length h.0 ∙ m)

  pub redirects_idle : named ≡ false → Redirects pos n c d x i f t (with_chains t mid)
  redirects_idle off = record {
    same = record { rows = λ j. refl; long = refl; nodes = refl };
    made = A.made;
    versions = A.versions;
    room = A.rows;
    others = A.others;
    here = λ q.
        let r = renamed_first q.1 in
        let b : names_one c (value_at pos (pos x) (copy_of t i) f) ≡ false = ap (names_one c) (sym (value_is q.0 q.1)) ∙ (sym named_is ∙ off) in
        let u = r.1 in
        let l = r.2 in (
          r.0
              ∙ sym (ap (λ (z : Bool). cond z (put pos f x (redirect c d (value_at pos (pos x) (copy_of t i) f)) (mapped pos (redirect c d) f (pos x) (entries_of t.chains i))) (mapped pos (redirect c d) f (pos x) (entries_of t.chains i))) b),
          omega (arith, u, l),
        );
  }

  pub redirects_put : named ≡ true → (w : Value) → w ≡ redirect c d value → (last : ChainTable) → Alters (asked mid n i x) mid last i (put pos f x w (entries_of mid i))
      → Redirects pos n c d x i f t (with_chains t last)
  redirects_put on w w_is last B = record {
    same = record { rows = λ j. refl; long = refl; nodes = refl };
    made = B.made ∙ A.made;
    versions = B.versions ∙ A.versions;
    room = B.rows ∙ A.rows;
    others = λ j l m. B.others j (subst (λ (z : ℕ). j < z) (sym A.made) l) m ∙ A.others j l m;
    here = λ q.
        let r = renamed_first q.1 in
        let v = value_is q.0 q.1 in
        let b : names_one c (value_at pos (pos x) (copy_of t i) f) ≡ true = ap (names_one c) (sym v) ∙ (sym named_is ∙ on) in
        let told : asked mid n i x ≡ true =
        ap (λ (z : ℕ). both (ltb i z) (both (ltb x mid.versions) (eqb n mid.versions))) A.made
        ∙ (ap (λ (z : ℕ). both (ltb i t.chains.made) (both (ltb x z) (eqb n z))) A.versions ∙ q.1) in
        let adds = (put_adds pos f x w (entries_of mid i)).0 in
        let u = r.1 in
        let l = r.2 in
        let rows = A.rows in
        let free = q.2 in
        let h = B.here told (omega (arith, adds, u, rows, free)) in
        let k = h.1 in
        let long = ap length h.0 in (
          h.0
              ∙ (ap (λ (z : Value). put pos f x z (entries_of mid i)) (w_is ∙ ap (redirect c d) v)
              ∙ (ap (λ (es : List (Entry Value)). put pos f x (redirect c d (value_at pos (pos x) (copy_of t i) f)) es) r.0
              ∙ sym (ap (λ (z : Bool). cond z (put pos f x (redirect c d (value_at pos (pos x) (copy_of t i) f)) (mapped pos (redirect c d) f (pos x) (entries_of t.chains i))) (mapped pos (redirect c d) f (pos x) (entries_of t.chains i))) b))),
          omega (arith, k, u, l, long),
        );
  }

-- rows stay placed
pub enters_placed : (ready : Type 0) (i : ℕ) (new : List (Entry Value)) (t t' : CopyTable) → Enters ready i new t t' → Placed t → Placed t'
enters_placed ready i new t t' H P = record {
  rows = let r = P.rows in let m = H.made in let l = H.same.long in omega (arith, r, m, l);
  known = λ j l.
      let l' : j < t.chains.made = subst (λ (z : ℕ). j < z) H.made l in
      subst (λ (z : ℕ). (row_at t' j).lo < z) (sym H.versions) (subst (λ (r : CopyRow). r.lo < t.chains.versions) (sym (H.same.rows j)) (P.known j l'));
  next = λ j k l e.
      let l' : j < t.chains.made = subst (λ (z : ℕ). j < z) H.made l in
      subst (λ (z : ℕ). k < z) (sym H.made) (P.next j k l' (sym (ap (λ (r : CopyRow). r.next) (H.same.rows j)) ∙ e));
}

renamed_adds : (pos : ℕ → ℕ) (c d f x : ℕ) (a : Value) (es : List (Entry Value)) → length (renamed pos (names_one c) (redirect c d) f x a es) ≤ length es + 1
renamed_adds pos c d f x a es =
    let m = mapped_length pos (redirect c d) f (pos x) es in
    let p = (put_adds pos f x (redirect c d (read pos f (pos x) a es)) (mapped pos (redirect c d) f (pos x) es)).0 in
    elim (cases_Bool (names_one c (read pos f (pos x) a es))) [ inl t ↦ rw t (omega (arith, m, p)) | inr t ↦ rw t (omega (arith, m)) ]

redirects_add : (pos : ℕ → ℕ) (c d : ℕ) (fs : List ℕ) (x : ℕ) (first : ℕ → Value) (es : List (Entry Value)) → length (redirects pos c d fs x first es) ≤ length es + length fs
redirects_add pos c d [] x first es = omega arith
redirects_add pos c d (f ∷ fs) x first es =
    let h = redirects_add pos c d fs x first es in
    let k = renamed_adds pos c d f x (first f) (redirects pos c d fs x first es) in
    omega (arith, h, k)

-- one field more
pub redirects_more : (pos : ℕ → ℕ) (n c d x i f : ℕ) (fs : List ℕ) (t a t' : CopyTable) → RedirectsAll pos n c d x i fs t a → Redirects pos n c d x i f a t'
    → RedirectsAll pos n c d x i (f ∷ fs) t t'
redirects_more pos n c d x i f fs t a t' H R = record {
  same = record { rows = λ j. R.same.rows j ∙ H.same.rows j; long = R.same.long ∙ H.same.long; nodes = R.same.nodes ∙ H.same.nodes };
  made = R.made ∙ H.made;
  versions = R.versions ∙ H.versions;
  room = R.room ∙ H.room;
  others = λ j l m. R.others j (subst (λ (z : ℕ). j < z) (sym H.made) l) m ∙ H.others j l m;
  here = λ q.
      let free = q.2 in
      let E = H.here (q.0, q.1, omega (arith, free)) in
      let P = enters_placed _ i _ t a H q.0 in
      let told : asked a.chains n i x ≡ true =
      ap (λ (z : ℕ). both (ltb i z) (both (ltb x a.chains.versions) (eqb n a.chains.versions))) H.made
      ∙ (ap (λ (z : ℕ). both (ltb i t.chains.made) (both (ltb x z) (eqb n z))) H.versions ∙ q.1) in
      let few = subst (λ (es : List (Entry Value)). length es ≤ length (entries_of t.chains i) + length fs) (sym E.0) (redirects_add pos c d fs x (copy_of t i).first (entries_of t.chains i)) in
      let u = E.1 in
      let room = H.room in
      let F = R.here (P, told, omega (arith, free, few, u, room)) in
      let k = F.1 in (
        F.0
            ∙ (ap (λ (r : CopyRow). renamed pos (names_one c) (redirect c d) f x (first_of r f) (entries_of a.chains i)) (H.same.rows i)
            ∙ ap (λ (es : List (Entry Value)). renamed pos (names_one c) (redirect c d) f x (first_of (row_at t i) f) es) E.0),
        omega (arith, k, u),
      );
}

-- the last k of the fields that can name a copy
abbrev pub last_naming : ℕ → List ℕ
last_naming zero = []
last_naming (suc k) = (4 - k) ∷ last_naming k

-- no field
pub redirects_none : (pos : ℕ → ℕ) (n c d x i : ℕ) (t : CopyTable) → RedirectsAll pos n c d x i [] t t
redirects_none pos n c d x i t = record {
  same = record { rows = λ j. refl; long = refl; nodes = refl };
  made = refl;
  versions = refl;
  room = refl;
  others = λ j l m. refl;
  here = λ q. (refl, refl);
}

-- they are taken from the last to the first
item_number : (k : ℕ) (d : Field) → k < 5 → field_number (get_or (SecondBack ∷ FirstBack ∷ Third ∷ Right ∷ Left ∷ []) k d) ≡ 4 - k
item_number zero d l = refl
item_number (suc zero) d l = refl
item_number (suc (suc zero)) d l = refl
item_number (suc (suc (suc zero))) d l = refl
item_number (suc (suc (suc (suc zero)))) d l = refl
item_number (suc (suc (suc (suc (suc k))))) d l = absurd (omega (arith, l))

pub redirects_turn : (pos : ℕ → ℕ) (n c d x i k : ℕ) (e : Field) (t a t' : CopyTable) → k < 5 → RedirectsAll pos n c d x i (last_naming k) t a
    → Redirects pos n c d x i (field_number (get_or (SecondBack ∷ FirstBack ∷ Third ∷ Right ∷ Left ∷ []) k e)) a t' → RedirectsAll pos n c d x i (last_naming (k + 1)) t t'
redirects_turn pos n c d x i k e t a t' l H R =
    let z : suc k ≡ k + 1 = omega arith in
    subst (λ (j : ℕ). RedirectsAll pos n c d x i (last_naming j) t t') z
    (redirects_more pos n c d x i (4 - k) (last_naming k) t a t' H (subst (λ (f : ℕ). Redirects pos n c d x i f a t') (item_number k e l) R))
