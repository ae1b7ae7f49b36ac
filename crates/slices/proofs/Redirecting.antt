-- In sound copies nothing names a copy that is not there, so exchanging the old copy with the new is redirecting to the new; and the copies
-- that name the split one are found through its own links and back links.
use Rattle.std.proofs.Common.{◌≡◌, ℕ, suc, ◌<◌, ◌≤◌, Bool, true, false, cond, eqb, ltb, leb, ◌⊎◌, List, [], ◌∷◌, sym, refl, ap, ◌∙◌, subst, inl, inr, le_refl, arith}
use Rattle.std.proofs.lemmas.Bool.{cases_lt, cases_Bool, cases_eq, eq-eqb, ne_eqb, le-leb, lt-leb}
use Rattle.fields.specs.declared.kinds.Value.{Value}
use Rattle.fields.specs.declared.kinds.Value.TheVariants.{Number, Nil, To, From}
use Rattle.entries.specs.Entries.{Entry, both, hits, sets, entry, read, Sorted, Single, Lacks, entries_behind, put, mapped, renamed, EachVersion}
use Rattle.entries.proofs.Parting.{read_late, read_behind}
use Rattle.entries.proofs.Idle.{read_none}
use Rattle.entries.proofs.Renaming.{renamed_reads, sorted_renamed, single_renamed}
use Rattle.slices.specs.Slices.{swap, swapped}
use Rattle.slices.specs.Copies.{Copies, value_at, Serves, Sound}
use Rattle.slices.specs.Splits.{times, naming, names, renames, maps}
use Rattle.slices.specs.Partners.{names_one, redirect, redirects, redirect_maps, ValuesOf, SplitRedirects, RedirectTwice, PartnersFound}

-- where the new copy is not named, exchanging and redirecting are the same
swap_free : (c d k : ℕ) → eqb k d ≡ false → swap c d k ≡ cond (eqb k c) d k
swap_free c d k h = elim (cases_Bool (eqb k c)) [ inl t ↦ rw t refl | inr t ↦ rw (t, h) refl ]

redirect_same : (c d : ℕ) (v : Value) → names_one d v ≡ false → swapped c d v ≡ redirect c d v
redirect_same c d (Number n) h = refl
redirect_same c d Nil h = refl
redirect_same c d (To k) h = ap To (swap_free c d k h)
redirect_same c d (From k l) h = ap (λ (n : ℕ). From n l) (swap_free c d k h)

either : (a b : Bool) → b ≡ false → cond a true b ≡ a
either true b h = refl
either false b h = h

names_same : (c d : ℕ) (v : Value) → names_one d v ≡ false → names c d v ≡ names_one c v
names_same c d (Number n) h = refl
names_same c d Nil h = refl
names_same c d (To k) h = either (eqb k c) (eqb k d) h
names_same c d (From k l) h = either (eqb k c) (eqb k d) h

abbrev Free : ℕ → ℕ → List (Entry Value) → Type 0
Free d f es = ValuesOf (λ v. names_one d v ≡ false) f es

-- the value read is the first one or an entry's
read_values : (P : Value → Type 0) (pos : ℕ → ℕ) (f p : ℕ) (a : Value) (es : List (Entry Value)) → P a → ValuesOf P f es → P (read pos f p a es)
read_values P pos f p a [] h k = h
read_values P pos f p a (e ∷ es) h k =
    elim (cases_Bool (hits pos f p e)) [
      | inl t ↦ let ef : e.field ≡ f = grind arith in rw t (read_values P pos f p e.value es (k.0 ef) k.1)
      | inr t ↦ rw t (read_values P pos f p a es h k.1)
    ]

mapped_same : (pos : ℕ → ℕ) (c d f x : ℕ) (es : List (Entry Value)) → Free d f es → mapped pos (swapped c d) f x es ≡ mapped pos (redirect c d) f x es
mapped_same pos c d f x [] k = refl
mapped_same pos c d f x (e ∷ es) k =
    let i = mapped_same pos c d f x es k.1 in
    elim (cases_Bool (both (eqb e.field f) (leb x (pos e.version)))) [
      | inl t ↦
          let ef : e.field ≡ f = grind arith in
          let s = redirect_same c d e.value (k.0 ef) in
          rw t (ap (λ (v : Value). entry e.version e.field v ∷ mapped pos (swapped c d) f x es) s ∙ ap (λ (l : List (Entry Value)). entry e.version e.field (redirect c d e.value) ∷ l) i)
      | inr t ↦ rw t (ap (λ (l : List (Entry Value)). e ∷ l) i)
    ]

renamed_same : (pos : ℕ → ℕ) (c d f x : ℕ) (a : Value) (es : List (Entry Value)) → names_one d a ≡ false → Free d f es
    → renamed pos (names c d) (swapped c d) f x a es ≡ renamed pos (names_one c) (redirect c d) f x a es
renamed_same pos c d f x a es h k =
    let y = read pos f (pos x) a es in
    let fy = read_values (λ v. names_one d v ≡ false) pos f (pos x) a es h k in
    let n = names_same c d (read pos f (pos x) a es) fy in
    let s = redirect_same c d (read pos f (pos x) a es) fy in
    let m = mapped_same pos c d f (pos x) es k in
    ap (λ (b : Bool). cond b (put pos f x (swapped c d (read pos f (pos x) a es)) (mapped pos (swapped c d) f (pos x) es)) (mapped pos (swapped c d) f (pos x) es)) n
    ∙ (ap (λ (v : Value). cond (names_one c (read pos f (pos x) a es)) (put pos f x v (mapped pos (swapped c d) f (pos x) es)) (mapped pos (swapped c d) f (pos x) es)) s
    ∙ ap (λ (l : List (Entry Value)). cond (names_one c (read pos f (pos x) a es)) (put pos f x (redirect c d (read pos f (pos x) a es)) l) l) m)

-- other fields do not matter
free_put : (P : Value → Type 0) (pos : ℕ → ℕ) (f g u : ℕ) (w : Value) (es : List (Entry Value)) → (g ≡ f → ⊥) → ValuesOf P f es → ValuesOf P f (put pos g u w es)
free_put P pos f g u w [] n k = ((λ e. absurd (n e)), tt)
free_put P pos f g u w (e ∷ es) n k =
    elim (cases_Bool (ltb (pos u) (pos e.version))) [
      | inl a ↦ rw a ((λ q. absurd (n q)), k)
      | inr a ↦ rw a (elim (cases_Bool (sets pos g (pos u) e)) [ inl b ↦ rw b ((λ q. absurd (n q)), k.1) | inr b ↦ rw b (k.0, free_put P pos f g u w es n k.1) ])
    ]

free_mapped : (P : Value → Type 0) (pos : ℕ → ℕ) (r : Value → Value) (f g x : ℕ) (es : List (Entry Value)) → (g ≡ f → ⊥) → ValuesOf P f es → ValuesOf P f (mapped pos r g x es)
free_mapped P pos r f g x [] n k = tt
free_mapped P pos r f g x (e ∷ es) n k =
    elim (cases_Bool (both (eqb e.field g) (leb x (pos e.version)))) [
      | inl t ↦ let eg : e.field ≡ g = grind arith in rw t ((λ q. absurd (n (sym eg ∙ q))), free_mapped P pos r f g x es n k.1)
      | inr t ↦ rw t (k.0, free_mapped P pos r f g x es n k.1)
    ]

free_renamed : (P : Value → Type 0) (pos : ℕ → ℕ) (m : Value → Bool) (r : Value → Value) (f g x : ℕ) (a : Value) (es : List (Entry Value)) → (g ≡ f → ⊥) → ValuesOf P f es → ValuesOf P f (renamed pos m r g x a es)
free_renamed P pos m r f g x a es n k =
    elim (cases_Bool (m (read pos g (pos x) a es)))
    [ inl t ↦ rw t (free_put P pos f g x _ _ n (free_mapped P pos r f g (pos x) es n k)) | inr t ↦ rw t (free_mapped P pos r f g (pos x) es n k) ]

free_renames : (P : Value → Type 0) (pos : ℕ → ℕ) (c d : ℕ) (fs : List ℕ) (f x : ℕ) (first : ℕ → Value) (es : List (Entry Value)) → times f fs ≡ 0 → ValuesOf P f es → ValuesOf P f (renames pos c d fs x first es)
free_renames P pos c d [] f x first es t k = k
free_renames P pos c d (g ∷ gs) f x first es t k =
    let n : g ≡ f → ⊥ = λ e. grind arith in
    let t' : times f gs ≡ 0 = grind arith in
    free_renamed P pos (names c d) (swapped c d) f g x (first g) (renames pos c d gs x first es) n (free_renames P pos c d gs f x first es t' k)

free_maps : (P : Value → Type 0) (pos : ℕ → ℕ) (c d : ℕ) (fs : List ℕ) (f x : ℕ) (es : List (Entry Value)) → times f fs ≡ 0 → ValuesOf P f es → ValuesOf P f (maps pos c d fs x es)
free_maps P pos c d [] f x es t k = k
free_maps P pos c d (g ∷ gs) f x es t k =
    let n : g ≡ f → ⊥ = λ e. grind arith in
    let t' : times f gs ≡ 0 = grind arith in
    free_mapped P pos (swapped c d) f g x (maps pos c d gs x es) n (free_maps P pos c d gs f x es t' k)

abbrev Once : List ℕ → Type 0
Once [] = Unit {0}
Once (f ∷ fs) = (times f fs ≡ 0) × Once fs

renames_same : (pos : ℕ → ℕ) (c d : ℕ) (fs : List ℕ) (x : ℕ) (first : ℕ → Value) (es : List (Entry Value)) → Once fs → ((f : ℕ) → names_one d (first f) ≡ false) → ((f : ℕ) → Free d f es)
    → renames pos c d fs x first es ≡ redirects pos c d fs x first es
renames_same pos c d [] x first es o h k = refl
renames_same pos c d (f ∷ fs) x first es o h k =
    renamed_same pos c d f x (first f) (renames pos c d fs x first es) (h f) (free_renames (λ v. names_one d v ≡ false) pos c d fs f x first es o.0 (k f))
    ∙ ap (λ (l : List (Entry Value)). renamed pos (names_one c) (redirect c d) f x (first f) l) (renames_same pos c d fs x first es o.1 h k)

maps_same : (pos : ℕ → ℕ) (c d : ℕ) (fs : List ℕ) (x : ℕ) (es : List (Entry Value)) → Once fs → ((f : ℕ) → Free d f es) → maps pos c d fs x es ≡ redirect_maps pos c d fs x es
maps_same pos c d [] x es o k = refl
maps_same pos c d (f ∷ fs) x es o k =
    mapped_same pos c d f x (maps pos c d fs x es) (free_maps (λ v. names_one d v ≡ false) pos c d fs f x es o.0 (k f))
    ∙ ap (λ (l : List (Entry Value)). mapped pos (redirect c d) f x l) (maps_same pos c d fs x es o.1 k)

-- an entry's value is read at its own version
values_read : (P : Value → Type 0) (pos : ℕ → ℕ) (f : ℕ) (A : ℕ → Value) (es : List (Entry Value)) → Sorted pos es → Single pos es
    → EachVersion (λ v. P (read pos f (pos v) (A (pos v)) es)) es → ValuesOf P f es
values_read P pos f A [] s d h = tt
values_read P pos f A (e ∷ es) s d h = (
  (λ ef.
      let hit : hits pos f (pos e.version) e ≡ true = grind arith in
      let own : read pos f (pos e.version) (A (pos e.version)) (e ∷ es) ≡ e.value =
      rw hit (read_none pos f (pos e.version) e.value es s.0 (subst (λ (n : ℕ). Lacks pos n (pos e.version) es) ef d.0)) in
      subst P own h.0),
  values_read P pos f (λ p. cond (hits pos f p e) e.value (A p)) es s.1 d.1 h.1,
)

-- nothing names a copy that is not there
below_free : (d k : ℕ) → k < d → eqb k d ≡ false
below_free d k l = ne_eqb k d (λ e. omega (arith, l, e))

value_free : (pos : ℕ → ℕ) (M : Copies) → Sound pos M → (p i f : ℕ) → Serves pos M p i → (v : Value) → value_at pos p (M.copy i) f ≡ v → names_one M.total v ≡ false
value_free pos M S p i f s (Number n) e = refl
value_free pos M S p i f s Nil e = refl
value_free pos M S p i f s (To k) e = below_free M.total k ((S.good p).named i f k s e).0.0
value_free pos M S p i f s (From k l) e = below_free M.total k ((S.good p).backed i f k l s e).0.0

each_of : (P Q : ℕ → Type 0) (es : List (Entry Value)) → ((v : ℕ) → P v → Q v) → EachVersion P es → EachVersion Q es
each_of P Q [] g h = tt
each_of P Q (e ∷ es) g h = (g e.version h.0, each_of P Q es g h.1)

module _ (pos : ℕ → ℕ) (M : Copies) (S : Sound pos M) (i : ℕ) (hi : i < M.total) where
  own_serves : Serves pos M (pos (M.copy i).lo) i
  own_serves = (hi, le_refl (pos (M.copy i).lo), (λ j hj same less. less), S.shape.known i hi)

  first_free : (f : ℕ) → names_one M.total ((M.copy i).first f) ≡ false
  first_free f =
      value_free pos M S (pos (M.copy i).lo) i f own_serves ((M.copy i).first f) (read_late pos f (pos (M.copy i).lo) ((M.copy i).first f) (M.copy i).entries (S.shape.copies i hi).late)

  entries_free : (f : ℕ) → Free M.total f (M.copy i).entries
  entries_free f =
      values_read (λ v. names_one M.total v ≡ false) pos f (λ _. (M.copy i).first f) (M.copy i).entries (S.shape.copies i hi).sorted (S.shape.copies i hi).once
      (each_of (λ v. Serves pos M (pos v) i) (λ v. names_one M.total (read pos f (pos v) ((M.copy i).first f) (M.copy i).entries) ≡ false) (M.copy i).entries
      (λ v s. value_free pos M S (pos v) i f s (value_at pos (pos v) (M.copy i) f) refl) (S.shape.hosted i hi))

naming_once : Once naming
naming_once = (refl, (refl, (refl, (refl, (refl, tt)))))

pub split_redirects : SplitRedirects
split_redirects pos M c x i here S hi =
    let d = M.total in
    let k = M.copy i in
    elim (cases_lt (pos (M.copy i).lo) (pos x)) [
      | inl l ↦
          rw (lt-leb (pos x) (pos (M.copy i).lo) l)
          (elim (cases_Bool here) [
            | inl y ↦ rw y (renames_same pos c M.total naming x (M.copy i).first (M.copy i).entries naming_once (first_free pos M S i hi) (entries_free pos M S i hi), (λ f. refl))
            | inr y ↦ rw y (refl, (λ f. refl))
          ])
      | inr g ↦
          rw (le-leb (pos x) (pos (M.copy i).lo) g) (
            maps_same pos c M.total naming (pos x) (M.copy i).entries naming_once (entries_free pos M S i hi),
            (λ f. ap (λ (v : Value). cond (eqb (times f naming) 0) ((M.copy i).first f) v) (redirect_same c M.total ((M.copy i).first f) (first_free pos M S i hi f))),
          )
    ]

-- who names the split copy is named by it
names_one_lem : (c d : ℕ) (v : Value) → names_one d v ≡ false → (names_one c v ≡ true → ⊥) → names c d v ≡ false
names_one_lem c d v h n = names_same c d v h ∙ elim (cases_Bool (names_one c v)) [ inl t ↦ absurd (n t) | inr t ↦ t ]

eq_is : (a b : ℕ) → eqb a b ≡ true → a ≡ b
eq_is a b h = grind arith

bool_clash : (b : Bool) → b ≡ true → b ≡ false → ⊥
bool_clash b x y = let z : ◌≡◌ {A = ℕ} 0 1 = cc in omega arith

module _ (pos : ℕ → ℕ) (M : Copies) (c x i : ℕ) (S : Sound pos M) (sv : Serves pos M (pos x) c)
    (at_x : (f : ℕ) → names_one i (value_at pos (pos x) (M.copy c) f) ≡ false)
    (later : (f : ℕ) → ValuesOf (λ v. names_one i v ≡ false) f (entries_behind pos (pos x) (M.copy c).entries)) where
  -- from x on c never names i
  quiet : (p f : ℕ) → pos x ≤ p → names_one i (value_at pos p (M.copy c) f) ≡ false
  quiet p f h =
      ap (names_one i) (sym (read_behind pos f (pos x) p ((M.copy c).first f) (M.copy c).entries (S.shape.copies c sv.0).sorted h))
      ∙ read_values (λ v. names_one i v ≡ false) pos f p (value_at pos (pos x) (M.copy c) f) (entries_behind pos (pos x) (M.copy c).entries) (at_x f) (later f)

  told : (p f : ℕ) → pos x ≤ p → Serves pos M p i → (v : Value) → value_at pos p (M.copy i) f ≡ v → names_one c v ≡ true → ⊥
  told p f h s (Number n) e t = bool_clash false t refl
  told p f h s Nil e t = bool_clash false t refl
  told p f h s (To k) e t =
      let q = ((S.good p).named i f k s e).1 in
      let ec = eq_is k c t in
      elim q [
        | inl z ↦ bool_clash (names_one i (value_at pos p (M.copy c) 3)) (ap (λ (j : ℕ). names_one i (value_at pos p (M.copy j) 3)) (sym ec) ∙ (ap (names_one i) z ∙ eq-eqb i i refl)) (quiet p 3 h)
        | inr z ↦ bool_clash (names_one i (value_at pos p (M.copy c) 4)) (ap (λ (j : ℕ). names_one i (value_at pos p (M.copy j) 4)) (sym ec) ∙ (ap (names_one i) z ∙ eq-eqb i i refl)) (quiet p 4 h)
      ]
  told p f h s (From k l) e t =
      let q = ((S.good p).backed i f k l s e).1 in
      let ec = eq_is k c t in
      bool_clash (names_one i (value_at pos p (M.copy c) l)) (ap (λ (j : ℕ). names_one i (value_at pos p (M.copy j) l)) (sym ec) ∙ (ap (names_one i) q ∙ eq-eqb i i refl)) (quiet p l h)

pub partners_found : PartnersFound
partners_found pos M c x i S sv at_x later p f h s =
    names_one_lem c M.total (value_at pos p (M.copy i) f) (value_free pos M S p i f s (value_at pos p (M.copy i) f) refl)
    (told pos M c x i S sv at_x later p f h s (value_at pos p (M.copy i) f) refl)

-- redirecting twice: after the first time no value from x on names c
abbrev Quiet : (ℕ → ℕ) → ℕ → ℕ → ℕ → List (Entry Value) → Type 0
Quiet pos c f x [] = Unit {0}
Quiet pos c f x (e ∷ es) = (e.field ≡ f → x ≤ pos e.version → names_one c e.value ≡ false) × Quiet pos c f x es

turned : (c d k : ℕ) → (d ≡ c → ⊥) → eqb (cond (eqb k c) d k) c ≡ false
turned c d k n = elim (cases_Bool (eqb k c)) [ inl t ↦ rw t (ne_eqb d c n) | inr t ↦ rw t t ]

redirect_quiet : (c d : ℕ) (v : Value) → (d ≡ c → ⊥) → names_one c (redirect c d v) ≡ false
redirect_quiet c d (Number n) h = refl
redirect_quiet c d Nil h = refl
redirect_quiet c d (To k) h = turned c d k h
redirect_quiet c d (From k l) h = turned c d k h

redirect_idle : (c d : ℕ) (v : Value) → names_one c v ≡ false → redirect c d v ≡ v
redirect_idle c d (Number n) h = refl
redirect_idle c d Nil h = refl
redirect_idle c d (To k) h = rw h refl
redirect_idle c d (From k l) h = rw h refl

quiet_idle : (pos : ℕ → ℕ) (c d f x : ℕ) (es : List (Entry Value)) → Quiet pos c f x es → mapped pos (redirect c d) f x es ≡ es
quiet_idle pos c d f x [] q = refl
quiet_idle pos c d f x (e ∷ es) q =
    let i = quiet_idle pos c d f x es q.1 in
    elim (cases_Bool (both (eqb e.field f) (leb x (pos e.version)))) [
      | inl t ↦
          let ef : e.field ≡ f = grind arith in
          let le : x ≤ pos e.version = grind arith in
          let s = redirect_idle c d e.value (q.0 ef le) in
          rw t (ap (λ (v : Value). entry e.version e.field v ∷ mapped pos (redirect c d) f x es) s ∙ ap (λ (l : List (Entry Value)). e ∷ l) i)
      | inr t ↦ rw t (ap (λ (l : List (Entry Value)). e ∷ l) i)
    ]

quiet_made : (pos : ℕ → ℕ) (c d f x : ℕ) (es : List (Entry Value)) → (d ≡ c → ⊥) → Quiet pos c f x (mapped pos (redirect c d) f x es)
quiet_made pos c d f x [] n = tt
quiet_made pos c d f x (e ∷ es) n =
    elim (cases_Bool (both (eqb e.field f) (leb x (pos e.version)))) [
      | inl t ↦ rw t ((λ _ _. redirect_quiet c d e.value n), quiet_made pos c d f x es n)
      | inr t ↦ rw t ((λ a b. let z : ⊥ = grind arith in absurd z), quiet_made pos c d f x es n)
    ]

quiet_mapped : (pos : ℕ → ℕ) (c d f g x : ℕ) (es : List (Entry Value)) → (d ≡ c → ⊥) → Quiet pos c f x es → Quiet pos c f x (mapped pos (redirect c d) g x es)
quiet_mapped pos c d f g x [] n q = tt
quiet_mapped pos c d f g x (e ∷ es) n q =
    elim (cases_Bool (both (eqb e.field g) (leb x (pos e.version)))) [
      | inl t ↦ rw t ((λ _ _. redirect_quiet c d e.value n), quiet_mapped pos c d f g x es n q.1)
      | inr t ↦ rw t (q.0, quiet_mapped pos c d f g x es n q.1)
    ]

quiet_put : (pos : ℕ → ℕ) (c f g u x : ℕ) (w : Value) (es : List (Entry Value)) → names_one c w ≡ false → Quiet pos c f x es → Quiet pos c f x (put pos g u w es)
quiet_put pos c f g u x w [] h q = ((λ _ _. h), tt)
quiet_put pos c f g u x w (e ∷ es) h q =
    elim (cases_Bool (ltb (pos u) (pos e.version))) [
      | inl a ↦ rw a ((λ _ _. h), q)
      | inr a ↦ rw a (elim (cases_Bool (sets pos g (pos u) e)) [ inl b ↦ rw b ((λ _ _. h), q.1) | inr b ↦ rw b (q.0, quiet_put pos c f g u x w es h q.1) ])
    ]

quiet_renamed : (pos : ℕ → ℕ) (c d f g x : ℕ) (a : Value) (es : List (Entry Value)) → (d ≡ c → ⊥) → (g ≡ f) ⊎ Quiet pos c f (pos x) es
    → Quiet pos c f (pos x) (renamed pos (names_one c) (redirect c d) g x a es)
quiet_renamed pos c d f g x a es n q =
    let m : Quiet pos c f (pos x) (mapped pos (redirect c d) g (pos x) es) =
    elim q [ inl e ↦ subst (λ (z : ℕ). Quiet pos c f (pos x) (mapped pos (redirect c d) z (pos x) es)) (sym e) (quiet_made pos c d f (pos x) es n) | inr k ↦ quiet_mapped pos c d f g (pos x) es n k ] in
    elim (cases_Bool (names_one c (read pos g (pos x) a es)))
    [ inl t ↦ rw t (quiet_put pos c f g x (pos x) _ _ (redirect_quiet c d (read pos g (pos x) a es) n) m) | inr t ↦ rw t m ]

quiet_redirects : (pos : ℕ → ℕ) (c d : ℕ) (fs : List ℕ) (f x : ℕ) (first : ℕ → Value) (es : List (Entry Value)) → (d ≡ c → ⊥) → (times f fs ≡ 0 → ⊥) → Quiet pos c f (pos x) (redirects pos c d fs x first es)
quiet_redirects pos c d [] f x first es n t = absurd (t refl)
quiet_redirects pos c d (g ∷ gs) f x first es n t =
    quiet_renamed pos c d f g x (first g) (redirects pos c d gs x first es) n
    (elim (cases_eq g f) [
      | inl e ↦ inl e
      | inr m ↦ let t' : times f gs ≡ 0 → ⊥ = rw (ne_eqb g f m) at t in inr (quiet_redirects pos c d gs f x first es n t')
    ])

quiet_maps : (pos : ℕ → ℕ) (c d : ℕ) (fs : List ℕ) (f x : ℕ) (es : List (Entry Value)) → (d ≡ c → ⊥) → (times f fs ≡ 0 → ⊥) → Quiet pos c f x (redirect_maps pos c d fs x es)
quiet_maps pos c d [] f x es n t = absurd (t refl)
quiet_maps pos c d (g ∷ gs) f x es n t =
    elim (cases_eq g f) [
      | inl e ↦ subst (λ (z : ℕ). Quiet pos c f x (mapped pos (redirect c d) z x (redirect_maps pos c d gs x es))) (sym e) (quiet_made pos c d f x (redirect_maps pos c d gs x es) n)
      | inr m ↦ let t' : times f gs ≡ 0 → ⊥ = rw (ne_eqb g f m) at t in quiet_mapped pos c d f g x (redirect_maps pos c d gs x es) n (quiet_maps pos c d gs f x es n t')
    ]

sorted_redirects : (pos : ℕ → ℕ) (c d : ℕ) (fs : List ℕ) (x : ℕ) (first : ℕ → Value) (es : List (Entry Value)) → Sorted pos es → Sorted pos (redirects pos c d fs x first es)
sorted_redirects pos c d [] x first es s = s
sorted_redirects pos c d (f ∷ fs) x first es s = sorted_renamed pos (names_one c) (redirect c d) f x (first f) _ (sorted_redirects pos c d fs x first es s)

single_redirects : (pos : ℕ → ℕ) (c d : ℕ) (fs : List ℕ) (x : ℕ) (first : ℕ → Value) (es : List (Entry Value)) → Sorted pos es → Single pos es → Single pos (redirects pos c d fs x first es)
single_redirects pos c d [] x first es s h = h
single_redirects pos c d (f ∷ fs) x first es s h = single_renamed pos (names_one c) (redirect c d) f x (first f) _ (sorted_redirects pos c d fs x first es s) (single_redirects pos c d fs x first es s h)

-- at x too nothing names c
quiet_read : (pos : ℕ → ℕ) (c d : ℕ) (fs : List ℕ) (f x : ℕ) (first : ℕ → Value) (es : List (Entry Value)) → Sorted pos es → Single pos es → (d ≡ c → ⊥) → (times f fs ≡ 0 → ⊥)
    → names_one c (read pos f (pos x) (first f) (redirects pos c d fs x first es)) ≡ false
quiet_read pos c d [] f x first es s h n t = absurd (t refl)
quiet_read pos c d (g ∷ gs) f x first es s h n t =
    let R = renamed_reads pos (redirects pos c d gs x first es) (sorted_redirects pos c d gs x first es s) (single_redirects pos c d gs x first es s h)
    (names_one c) (redirect c d) (redirect_idle c d) g x (pos x) (first g) in
    elim (cases_eq g f) [
      | inl e ↦
          subst (λ (z : ℕ). names_one c (read pos z (pos x) (first z) (renamed pos (names_one c) (redirect c d) g x (first g) (redirects pos c d gs x first es))) ≡ false) e
          (ap (names_one c) (R.1 (le_refl (pos x))) ∙ redirect_quiet c d (read pos g (pos x) (first g) (redirects pos c d gs x first es)) n)
      | inr m ↦
          let t' : times f gs ≡ 0 → ⊥ = rw (ne_eqb g f m) at t in
          ap (names_one c) (R.2 f (first f) m) ∙ quiet_read pos c d gs f x first es s h n t'
    ]

-- fields of which all is quiet stay
redirects_idle : (pos : ℕ → ℕ) (c d : ℕ) (gs : List ℕ) (x : ℕ) (first : ℕ → Value) (es : List (Entry Value))
    → ((f : ℕ) → (times f gs ≡ 0 → ⊥) → Quiet pos c f (pos x) es × (names_one c (read pos f (pos x) (first f) es) ≡ false)) → redirects pos c d gs x first es ≡ es
redirects_idle pos c d [] x first es k = refl
redirects_idle pos c d (g ∷ gs) x first es k =
    let q = k g (λ z. let y : suc (times g gs) ≡ 0 = rw (eq-eqb g g refl) at z in omega (arith, y)) in
    ap (λ (l : List (Entry Value)). renamed pos (names_one c) (redirect c d) g x (first g) l)
    (redirects_idle pos c d gs x first es
    (λ f t. k f (λ z. t (elim (cases_eq g f) [ inl e ↦ absurd (let y : suc (times f gs) ≡ 0 = rw (eq-eqb g f e) at z in omega (arith, y)) | inr m ↦ (rw (ne_eqb g f m) at z) ]))))
    ∙ rw q.1 (quiet_idle pos c d g (pos x) es q.0)

maps_idle : (pos : ℕ → ℕ) (c d : ℕ) (gs : List ℕ) (x : ℕ) (es : List (Entry Value)) → ((f : ℕ) → (times f gs ≡ 0 → ⊥) → Quiet pos c f x es) → redirect_maps pos c d gs x es ≡ es
maps_idle pos c d [] x es k = refl
maps_idle pos c d (g ∷ gs) x es k =
    ap (λ (l : List (Entry Value)). mapped pos (redirect c d) g x l)
    (maps_idle pos c d gs x es
    (λ f t. k f (λ z. t (elim (cases_eq g f) [ inl e ↦ absurd (let y : suc (times f gs) ≡ 0 = rw (eq-eqb g f e) at z in omega (arith, y)) | inr m ↦ (rw (ne_eqb g f m) at z) ]))))
    ∙ quiet_idle pos c d g x es (k g (λ z. let y : suc (times g gs) ≡ 0 = rw (eq-eqb g g refl) at z in omega (arith, y)))

pub redirect_twice : RedirectTwice
redirect_twice pos c d x here k n ok =
    elim (cases_lt (pos k.lo) (pos x)) [
      | inl l ↦
          let t = lt-leb (pos x) (pos k.lo) l in
          elim (cases_Bool here) [
            | inl y ↦
                rw (t, y)
                (rw t (
                  redirects_idle pos c d naming x k.first (redirects pos c d naming x k.first k.entries)
                      (λ f m. (quiet_redirects pos c d naming f x k.first k.entries n m, quiet_read pos c d naming f x k.first k.entries ok.sorted ok.once n m)),
                  (λ f. refl),
                ))
            | inr y ↦ rw (t, y) (rw t (refl, (λ f. refl)))
          ]
      | inr g ↦
          let t = le-leb (pos x) (pos k.lo) g in
          rw t
          (rw t (
            maps_idle pos c d naming (pos x) (redirect_maps pos c d naming (pos x) k.entries) (λ f m. quiet_maps pos c d naming f (pos x) k.entries n m),
            (λ f.
                elim (cases_Bool (eqb (times f naming) 0)) [
                  | inl z ↦ rw z refl
                  | inr z ↦ rw z (redirect_idle c d (redirect c d (k.first f)) (redirect_quiet c d (k.first f) n))
                ]),
          ))
    ]
