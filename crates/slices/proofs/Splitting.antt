-- A split keeps soundness, and every slice but for the places of the two copies.
use Rattle.std.proofs.Common.{◌≡◌, ℕ, suc, ◌<◌, ◌≤◌, Bool, true, false, leb, ◌⊎◌, List, [], ◌∷◌, sym, refl, ap, ◌∙◌, subst, inl, inr, arith}
use Rattle.std.proofs.lemmas.Bool.{cases_lt, cases_Bool, cases_eq, eq-eqb, ne_eqb, le-leb, lt-leb}
use Rattle.fields.specs.declared.kinds.Value.{Value}
use Rattle.fields.specs.declared.kinds.Value.TheVariants.{Number, Nil, To, From}
use Rattle.entries.specs.Entries.{Entry, read, AllFrom, Sorted, Single, mapped, renamed, EachVersion}
use Rattle.entries.proofs.Parting.{from_weaken, read_before, read_behind, from_before, late_behind, sorted_before, sorted_behind, single_before, single_behind}
use Rattle.entries.proofs.Renaming.{renamed_reads, mapped_other, sorted_mapped, single_mapped, from_mapped, mapped_whole, sorted_renamed, single_renamed, from_renamed}
use Rattle.entries.proofs.Versions.{each_like, each_put, each_mapped, each_before, each_behind}
use Rattle.slices.specs.Slices.{swap, swapped}
use Rattle.slices.specs.Copies.{Copy, Copies, value_at, Serves, serving, CoherentAt, CopyOk, Decides, Shaped, Sound}
use Rattle.slices.specs.Splits.{times, naming, names, renames, maps, renamed_copy, front_half, back_half, split_by, SplitSound}
use Rattle.slices.proofs.Swapping.{good_swapped, good_agree, swap_swap, suits_far}
use Rattle.slices.proofs.Serving.{serving_tells}

pub unnamed : (c d : ℕ) (v : Value) → names c d v ≡ false → swapped c d v ≡ v
unnamed c d (Number n) h = refl
unnamed c d Nil h = refl
unnamed c d (To k) h = let e : swap c d k ≡ k = grind arith in ap To e
unnamed c d (From k l) h = let e : swap c d k ≡ k = grind arith in ap (λ (n : ℕ). From n l) e

pub sorted_renames : (pos : ℕ → ℕ) (c d : ℕ) (fs : List ℕ) (x : ℕ) (first : ℕ → Value) (es : List (Entry Value)) → Sorted pos es → Sorted pos (renames pos c d fs x first es)
sorted_renames pos c d [] x first es s = s
sorted_renames pos c d (f ∷ fs) x first es s = sorted_renamed pos (names c d) (swapped c d) f x (first f) _ (sorted_renames pos c d fs x first es s)

pub single_renames : (pos : ℕ → ℕ) (c d : ℕ) (fs : List ℕ) (x : ℕ) (first : ℕ → Value) (es : List (Entry Value)) → Sorted pos es → Single pos es → Single pos (renames pos c d fs x first es)
single_renames pos c d [] x first es s h = h
single_renames pos c d (f ∷ fs) x first es s h = single_renamed pos (names c d) (swapped c d) f x (first f) _ (sorted_renames pos c d fs x first es s) (single_renames pos c d fs x first es s h)

from_renames : (pos : ℕ → ℕ) (c d : ℕ) (fs : List ℕ) (x q : ℕ) (first : ℕ → Value) (es : List (Entry Value)) → q ≤ pos x → AllFrom pos q es → AllFrom pos q (renames pos c d fs x first es)
from_renames pos c d [] x q first es h s = s
from_renames pos c d (f ∷ fs) x q first es h s = from_renamed pos (names c d) (swapped c d) f x q (first f) _ h (from_renames pos c d fs x q first es h s)

pub renames_out : (pos : ℕ → ℕ) (c d : ℕ) (fs : List ℕ) (x : ℕ) (first : ℕ → Value) (es : List (Entry Value)) → Sorted pos es → Single pos es
    → (g p : ℕ) → times g fs ≡ 0 → read pos g p (first g) (renames pos c d fs x first es) ≡ read pos g p (first g) es
renames_out pos c d [] x first es s h g p t = refl
renames_out pos c d (f ∷ fs) x first es s h g p t =
    let n : f ≡ g → ⊥ = λ e. grind arith in
    let t' : times g fs ≡ 0 = grind arith in
    (renamed_reads pos (renames pos c d fs x first es) (sorted_renames pos c d fs x first es s) (single_renames pos c d fs x first es s h)
    (names c d) (swapped c d) (unnamed c d) f x p (first f)).2 g (first g) n
    ∙ renames_out pos c d fs x first es s h g p t'

renames_before : (pos : ℕ → ℕ) (c d : ℕ) (fs : List ℕ) (x : ℕ) (first : ℕ → Value) (es : List (Entry Value)) → Sorted pos es → Single pos es
    → (g p : ℕ) → p < pos x → read pos g p (first g) (renames pos c d fs x first es) ≡ read pos g p (first g) es
renames_before pos c d [] x first es s h g p t = refl
renames_before pos c d (f ∷ fs) x first es s h g p t =
    let R = renamed_reads pos (renames pos c d fs x first es) (sorted_renames pos c d fs x first es s) (single_renames pos c d fs x first es s h)
    (names c d) (swapped c d) (unnamed c d) f x p (first f) in
    let i = renames_before pos c d fs x first es s h g p t in
    elim (cases_eq f g) [
      | inl e ↦ subst (λ (k : ℕ). read pos k p (first k) (renamed pos (names c d) (swapped c d) f x (first f) (renames pos c d fs x first es)) ≡ read pos k p (first k) (renames pos c d fs x first es)) e (R.0 t) ∙ i
      | inr n ↦ R.2 g (first g) n ∙ i
    ]

renames_in : (pos : ℕ → ℕ) (c d : ℕ) (fs : List ℕ) (x : ℕ) (first : ℕ → Value) (es : List (Entry Value)) → Sorted pos es → Single pos es
    → (g p : ℕ) → times g fs ≡ 1 → pos x ≤ p → read pos g p (first g) (renames pos c d fs x first es) ≡ swapped c d (read pos g p (first g) es)
renames_in pos c d [] x first es s h g p t l = absurd (let z : ◌≡◌ {A = ℕ} 0 1 = t in omega arith)
renames_in pos c d (f ∷ fs) x first es s h g p t l =
    let R = renamed_reads pos (renames pos c d fs x first es) (sorted_renames pos c d fs x first es s) (single_renames pos c d fs x first es s h)
    (names c d) (swapped c d) (unnamed c d) f x p (first f) in
    elim (cases_eq f g) [
      | inl e ↦
          let t' : times g fs ≡ 0 = grind arith in
          subst (λ (k : ℕ). read pos k p (first k) (renamed pos (names c d) (swapped c d) f x (first f) (renames pos c d fs x first es)) ≡ swapped c d (read pos k p (first k) (renames pos c d fs x first es))) e (R.1 l)
          ∙ ap (swapped c d) (renames_out pos c d fs x first es s h g p t')
      | inr n ↦
          let t' : times g fs ≡ 1 = grind arith in
          R.2 g (first g) n ∙ renames_in pos c d fs x first es s h g p t' l
    ]

-- the same where all entries stand behind x
sorted_maps : (pos : ℕ → ℕ) (c d : ℕ) (fs : List ℕ) (x : ℕ) (es : List (Entry Value)) → Sorted pos es → Sorted pos (maps pos c d fs x es)
sorted_maps pos c d [] x es s = s
sorted_maps pos c d (f ∷ fs) x es s = sorted_mapped pos (swapped c d) f x _ (sorted_maps pos c d fs x es s)

single_maps : (pos : ℕ → ℕ) (c d : ℕ) (fs : List ℕ) (x : ℕ) (es : List (Entry Value)) → Single pos es → Single pos (maps pos c d fs x es)
single_maps pos c d [] x es s = s
single_maps pos c d (f ∷ fs) x es s = single_mapped pos (swapped c d) f x _ (single_maps pos c d fs x es s)

from_maps : (pos : ℕ → ℕ) (c d : ℕ) (fs : List ℕ) (x q : ℕ) (es : List (Entry Value)) → AllFrom pos q es → AllFrom pos q (maps pos c d fs x es)
from_maps pos c d [] x q es s = s
from_maps pos c d (f ∷ fs) x q es s = from_mapped pos (swapped c d) f x q _ (from_maps pos c d fs x q es s)

maps_out : (pos : ℕ → ℕ) (c d : ℕ) (fs : List ℕ) (x : ℕ) (es : List (Entry Value)) (g p : ℕ) (a : Value) → times g fs ≡ 0
    → read pos g p a (maps pos c d fs x es) ≡ read pos g p a es
maps_out pos c d [] x es g p a t = refl
maps_out pos c d (f ∷ fs) x es g p a t =
    let n : f ≡ g → ⊥ = λ e. grind arith in
    let t' : times g fs ≡ 0 = grind arith in
    mapped_other pos (swapped c d) f g x p a (maps pos c d fs x es) n ∙ maps_out pos c d fs x es g p a t'

maps_in : (pos : ℕ → ℕ) (c d : ℕ) (fs : List ℕ) (x : ℕ) (es : List (Entry Value)) (g p : ℕ) (a : Value) → AllFrom pos x es → times g fs ≡ 1
    → read pos g p (swapped c d a) (maps pos c d fs x es) ≡ swapped c d (read pos g p a es)
maps_in pos c d [] x es g p a h t = absurd (let z : ◌≡◌ {A = ℕ} 0 1 = t in omega arith)
maps_in pos c d (f ∷ fs) x es g p a h t =
    elim (cases_eq f g) [
      | inl e ↦
          let t' : times g fs ≡ 0 = grind arith in
          subst (λ (k : ℕ). read pos k p (swapped c d a) (mapped pos (swapped c d) f x (maps pos c d fs x es)) ≡ swapped c d (read pos k p a (maps pos c d fs x es))) e
          (mapped_whole pos (swapped c d) f x p a (maps pos c d fs x es) (from_maps pos c d fs x x es h))
          ∙ ap (swapped c d) (maps_out pos c d fs x es g p a t')
      | inr n ↦
          let t' : times g fs ≡ 1 = grind arith in
          mapped_other pos (swapped c d) f g x p (swapped c d a) (maps pos c d fs x es) n ∙ maps_in pos c d fs x es g p a h t'
    ]

-- a renamed copy, field by field
record Renamed (pos : ℕ → ℕ) (fs : List ℕ) (c d x : ℕ) (here : Bool) (k k' : Copy) : Type 0 where
  serial_is : k'.serial ≡ k.serial
  lo_is : k'.lo ≡ k.lo
  ok : CopyOk pos k'
  early : (p f : ℕ) → pos k.lo ≤ p → p < pos x → value_at pos p k' f ≡ value_at pos p k f
  other : (p f : ℕ) → times f fs ≡ 0 → value_at pos p k' f ≡ value_at pos p k f
  later : (p f : ℕ) → times f fs ≡ 1 → pos x ≤ p → (pos k.lo < pos x → here ≡ true) → value_at pos p k' f ≡ swapped c d (value_at pos p k f)

renamed_copy_lem : (pos : ℕ → ℕ) (fs : List ℕ) (c d x : ℕ) (here : Bool) (k : Copy) → CopyOk pos k → Renamed pos fs c d x here k (renamed_copy pos fs c d x here k)
renamed_copy_lem pos fs c d x here k ok =
    elim (cases_lt (pos k.lo) (pos x)) [
      | inl lt ↦
          let t = lt-leb (pos x) (pos k.lo) lt in
          elim (cases_Bool here) [
            | inl y ↦
                rw t (rw y (record {
                  serial_is = refl;
                  lo_is = refl;
                  ok = record {
                    sorted = sorted_renames pos c d fs x k.first k.entries ok.sorted;
                    once = single_renames pos c d fs x k.first k.entries ok.sorted ok.once;
                    late = from_renames pos c d fs x (suc (pos k.lo)) k.first k.entries lt ok.late;
                  };
                  early = λ p f a b. renames_before pos c d fs x k.first k.entries ok.sorted ok.once f p b;
                  other = λ p f a. renames_out pos c d fs x k.first k.entries ok.sorted ok.once f p a;
                  later = λ p f a b _. renames_in pos c d fs x k.first k.entries ok.sorted ok.once f p a b;
                }))
            | inr y ↦
                rw t (rw y (record {
                  serial_is = refl;
                  lo_is = refl;
                  ok = record { sorted = ok.sorted; once = ok.once; late = ok.late };
                  early = λ p f a b. refl;
                  other = λ p f a. refl;
                  later = λ p f a b m. absurd (let q = m lt in let z : ◌≡◌ {A = ℕ} 0 1 = cc in omega arith);
                }))
          ]
      | inr ge ↦
          let t = le-leb (pos x) (pos k.lo) ge in
          let w : AllFrom pos (pos x) k.entries = from_weaken pos (pos x) (suc (pos k.lo)) k.entries (omega arith) ok.late in
          rw t (record {
            serial_is = refl;
            lo_is = refl;
            ok = record {
              sorted = sorted_maps pos c d fs (pos x) k.entries ok.sorted;
              once = single_maps pos c d fs (pos x) k.entries ok.once;
              late = from_maps pos c d fs (pos x) (suc (pos k.lo)) k.entries ok.late;
            };
            early = λ p f a b. absurd (omega arith);
            other = λ p f a. rw a (maps_out pos c d fs (pos x) k.entries f p (k.first f) a);
            later = λ p f a b _. rw a (maps_in pos c d fs (pos x) k.entries f p (k.first f) w a);
          })
    ]

front_ok : (pos : ℕ → ℕ) (x : ℕ) (k : Copy) → CopyOk pos k → CopyOk pos (front_half pos x k)
front_ok pos x k o = record { sorted = sorted_before pos (pos x) k.entries o.sorted; once = single_before pos (pos x) k.entries o.once; late = from_before pos (pos x) (suc (pos k.lo)) k.entries o.late }

back_ok : (pos : ℕ → ℕ) (x : ℕ) (k : Copy) → CopyOk pos k → CopyOk pos (back_half pos x k)
back_ok pos x k o = record { sorted = sorted_behind pos (pos x) k.entries o.sorted; once = single_behind pos (pos x) k.entries o.once; late = late_behind pos (pos x) k.entries }

-- the copies of a split memory, by their numbers
pub copy_new : (pos : ℕ → ℕ) (M : Copies) (here : ℕ → Bool) (c x : ℕ) → (split_by pos here c x M).copy M.total ≡ back_half pos x (renamed_copy pos naming c M.total x (here c) (M.copy c))
copy_new pos M here c x = rw (eq-eqb M.total M.total refl)

pub copy_old : (pos : ℕ → ℕ) (M : Copies) (here : ℕ → Bool) (c x : ℕ) → c < M.total → (split_by pos here c x M).copy c ≡ front_half pos x (renamed_copy pos naming c M.total x (here c) (M.copy c))
copy_old pos M here c x h = let n : c ≡ M.total → ⊥ = λ e. omega arith in rw (ne_eqb c M.total n, eq-eqb c c refl)

pub copy_else : (pos : ℕ → ℕ) (M : Copies) (here : ℕ → Bool) (c x i : ℕ) → i < M.total → (i ≡ c → ⊥) → (split_by pos here c x M).copy i ≡ renamed_copy pos naming c M.total x (here i) (M.copy i)
copy_else pos M here c x i h ne = let n : i ≡ M.total → ⊥ = λ e. omega arith in rw (ne_eqb i M.total n, ne_eqb i c ne)

swap_old : (c d : ℕ) → swap c d c ≡ d
swap_old c d = grind arith

swap_new : (c d : ℕ) → (c ≡ d → ⊥) → swap c d d ≡ c
swap_new c d n = grind arith

swap_else : (c d i : ℕ) → (i ≡ c → ⊥) → (i ≡ d → ⊥) → swap c d i ≡ i
swap_else c d i m n = grind arith

each_renames : (P : ℕ → Type 0) (pos : ℕ → ℕ) (c d : ℕ) (fs : List ℕ) (x : ℕ) (first : ℕ → Value) (es : List (Entry Value)) → P x → EachVersion P es → EachVersion P (renames pos c d fs x first es)
each_renames P pos c d [] x first es h k = k
each_renames P pos c d (f ∷ fs) x first es h k =
    let i = each_mapped P pos (swapped c d) f (pos x) _ (each_renames P pos c d fs x first es h k) in
    elim (cases_Bool (names c d (read pos f (pos x) (first f) (renames pos c d fs x first es))))
    [ inl t ↦ rw t (each_put P pos f x _ _ h i) | inr t ↦ rw t i ]

each_maps : (P : ℕ → Type 0) (pos : ℕ → ℕ) (c d : ℕ) (fs : List ℕ) (x : ℕ) (es : List (Entry Value)) → EachVersion P es → EachVersion P (maps pos c d fs x es)
each_maps P pos c d [] x es k = k
each_maps P pos c d (f ∷ fs) x es k = each_mapped P pos (swapped c d) f x _ (each_maps P pos c d fs x es k)

renamed_serial : (pos : ℕ → ℕ) (fs : List ℕ) (c d x : ℕ) (here : Bool) (k : Copy) → (renamed_copy pos fs c d x here k).serial ≡ k.serial
renamed_serial pos fs c d x here k = elim (cases_Bool (leb (pos x) (pos k.lo))) [ inl t ↦ rw t | inr t ↦ rw t ]

-- a split keeps each copy's serial number, and gives it to the new copy
pub split_serial : (pos : ℕ → ℕ) (M : Copies) (here : ℕ → Bool) (c x i : ℕ) → i < M.total → ((split_by pos here c x M).copy i).serial ≡ (M.copy i).serial
split_serial pos M here c x i h =
    elim (cases_eq i c) [
      | inl e ↦ subst (λ (k : ℕ). k < M.total → ((split_by pos here c x M).copy k).serial ≡ (M.copy k).serial) (sym e) (λ l. ap (λ (k : Copy). k.serial) (copy_old pos M here c x l) ∙ renamed_serial pos naming c M.total x (here c) (M.copy c)) h
      | inr n ↦ ap (λ (k : Copy). k.serial) (copy_else pos M here c x i h n) ∙ renamed_serial pos naming c M.total x (here i) (M.copy i)
    ]

pub split_new : (pos : ℕ → ℕ) (M : Copies) (here : ℕ → Bool) (c x : ℕ) → ((split_by pos here c x M).copy M.total).serial ≡ (M.copy c).serial
split_new pos M here c x = ap (λ (k : Copy). k.serial) (copy_new pos M here c x) ∙ renamed_serial pos naming c M.total x (here c) (M.copy c)

pub split_swap : (pos : ℕ → ℕ) (M : Copies) (here : ℕ → Bool) (c x : ℕ) → c < M.total → (i : ℕ) → i < M.total → ((split_by pos here c x M).copy (swap c M.total i)).serial ≡ (M.copy i).serial
split_swap pos M here c x hc i h =
    elim (cases_eq i c) [
      | inl e ↦
          subst (λ (k : ℕ). ((split_by pos here c x M).copy (swap c M.total k)).serial ≡ (M.copy k).serial) (sym e)
          (ap (λ (k : ℕ). ((split_by pos here c x M).copy k).serial) (swap_old c M.total) ∙ split_new pos M here c x)
      | inr n ↦
          ap (λ (k : ℕ). ((split_by pos here c x M).copy k).serial) (swap_else c M.total i n (λ e. omega (arith, h, e))) ∙ split_serial pos M here c x i h
    ]

-- and its key place
renamed_key : (pos : ℕ → ℕ) (fs : List ℕ) (c d x : ℕ) (here : Bool) (k : Copy) → (renamed_copy pos fs c d x here k).key ≡ k.key
renamed_key pos fs c d x here k = elim (cases_Bool (leb (pos x) (pos k.lo))) [ inl t ↦ rw t | inr t ↦ rw t ]

pub split_key : (pos : ℕ → ℕ) (M : Copies) (here : ℕ → Bool) (c x i : ℕ) → i < M.total → ((split_by pos here c x M).copy i).key ≡ (M.copy i).key
split_key pos M here c x i h =
    elim (cases_eq i c) [
      | inl e ↦ subst (λ (k : ℕ). k < M.total → ((split_by pos here c x M).copy k).key ≡ (M.copy k).key) (sym e) (λ l. ap (λ (k : Copy). k.key) (copy_old pos M here c x l) ∙ renamed_key pos naming c M.total x (here c) (M.copy c)) h
      | inr n ↦ ap (λ (k : Copy). k.key) (copy_else pos M here c x i h n) ∙ renamed_key pos naming c M.total x (here i) (M.copy i)
    ]

pub split_new_key : (pos : ℕ → ℕ) (M : Copies) (here : ℕ → Bool) (c x : ℕ) → ((split_by pos here c x M).copy M.total).key ≡ (M.copy c).key
split_new_key pos M here c x = ap (λ (k : Copy). k.key) (copy_new pos M here c x) ∙ renamed_key pos naming c M.total x (here c) (M.copy c)

pub split_swap_key : (pos : ℕ → ℕ) (M : Copies) (here : ℕ → Bool) (c x : ℕ) → c < M.total → (i : ℕ) → i < M.total → ((split_by pos here c x M).copy (swap c M.total i)).key ≡ (M.copy i).key
split_swap_key pos M here c x hc i h =
    elim (cases_eq i c) [
      | inl e ↦
          subst (λ (k : ℕ). ((split_by pos here c x M).copy (swap c M.total k)).key ≡ (M.copy k).key) (sym e)
          (ap (λ (k : ℕ). ((split_by pos here c x M).copy k).key) (swap_old c M.total) ∙ split_new_key pos M here c x)
      | inr n ↦
          ap (λ (k : ℕ). ((split_by pos here c x M).copy k).key) (swap_else c M.total i n (λ e. omega (arith, h, e))) ∙ split_key pos M here c x i h
    ]

module _ (pos : ℕ → ℕ) (M : Copies) (here : ℕ → Bool) (c x : ℕ) (tells : (i : ℕ) → i < M.total → Decides (here i) (Serves pos M (pos x) i)) (S : Sound pos M) (nc : c ≡ 0 → ⊥) (sv : Serves pos M (pos x) c) (lt : pos (M.copy c).lo < pos x) where
  R : (i : ℕ) → i < M.total → Renamed pos naming c M.total x (here i) (M.copy i) (renamed_copy pos naming c M.total x (here i) (M.copy i))
  R i h = renamed_copy_lem pos naming c M.total x (here i) (M.copy i) (S.shape.copies i h)

  lo_new : ((split_by pos here c x M).copy M.total).lo ≡ x
  lo_new = ap (λ (k : Copy). k.lo) (copy_new pos M here c x)

  serial_new : ((split_by pos here c x M).copy M.total).serial ≡ (M.copy c).serial
  serial_new = ap (λ (k : Copy). k.serial) (copy_new pos M here c x) ∙ (R c sv.0).serial_is

  lo_kept : (i : ℕ) → i < M.total → ((split_by pos here c x M).copy i).lo ≡ (M.copy i).lo
  lo_kept i h =
      elim (cases_eq i c) [
        | inl e ↦ subst (λ (k : ℕ). ((split_by pos here c x M).copy k).lo ≡ (M.copy k).lo) (sym e) (ap (λ (k : Copy). k.lo) (copy_old pos M here c x sv.0) ∙ (R c sv.0).lo_is)
        | inr n ↦ ap (λ (k : Copy). k.lo) (copy_else pos M here c x i h n) ∙ (R i h).lo_is
      ]

  serial_kept : (i : ℕ) → i < M.total → ((split_by pos here c x M).copy i).serial ≡ (M.copy i).serial
  serial_kept i h =
      elim (cases_eq i c) [
        | inl e ↦ subst (λ (k : ℕ). ((split_by pos here c x M).copy k).serial ≡ (M.copy k).serial) (sym e) (ap (λ (k : Copy). k.serial) (copy_old pos M here c x sv.0) ∙ (R c sv.0).serial_is)
        | inr n ↦ ap (λ (k : Copy). k.serial) (copy_else pos M here c x i h n) ∙ (R i h).serial_is
      ]

  below : (i : ℕ) → i < suc M.total → (i < M.total) ⊎ (i ≡ M.total)
  below i h = elim (cases_lt i M.total) [ inl l ↦ inl l | inr g ↦ inr (omega arith) ]

  -- a copy serves as before, unless the new one comes between
  serves_more : (p i : ℕ) → Serves pos M p i → ((M.copy c).serial ≡ (M.copy i).serial → pos (M.copy i).lo < pos x → p < pos x)
      → Serves pos (split_by pos here c x M) p i
  serves_more p i s between =
      let li = ap pos (lo_kept i s.0) in
      let low = s.1 in
      let si = serial_kept i s.0 in (
        omega (arith, s.0),
        omega (arith, li, low),
        (λ j hj same less.
            elim (below j hj) [
              | inl l ↦
                  let lj = ap pos (lo_kept j l) in
                  let r = s.2 j l (sym (serial_kept j l) ∙ (same ∙ si)) (omega (arith, li, lj, less)) in
                  omega (arith, r, lj)
              | inr e ↦
                  let ln : pos ((split_by pos here c x M).copy j).lo ≡ pos x = ap (λ (k : ℕ). pos ((split_by pos here c x M).copy k).lo) e ∙ ap pos lo_new in
                  let sn : ((split_by pos here c x M).copy j).serial ≡ (M.copy c).serial = ap (λ (k : ℕ). ((split_by pos here c x M).copy k).serial) e ∙ serial_new in
                  let r = between (sym sn ∙ (same ∙ si)) (omega (arith, li, ln, less)) in
                  omega (arith, r, ln)
            ]),
        s.3,
      )

  serves_less : (p i : ℕ) → i < M.total → Serves pos (split_by pos here c x M) p i → Serves pos M p i
  serves_less p i h s =
      let li = ap pos (lo_kept i h) in
      let low = s.1 in (
        h,
        omega (arith, li, low),
        (λ j hj same less.
            let lj = ap pos (lo_kept j hj) in
            let r = s.2 j (omega (arith, hj)) (serial_kept j hj ∙ (same ∙ sym (serial_kept i h))) (omega (arith, li, lj, less)) in
            omega (arith, r, lj)),
        s.3,
      )

  serves_new : (p : ℕ) → pos x ≤ p → Serves pos M p c → Serves pos (split_by pos here c x M) p M.total
  serves_new p h s =
      let ln = ap pos lo_new in (
        omega arith,
        omega (arith, ln, h),
        (λ j hj same less.
            elim (below j hj) [
              | inl l ↦
                  let lj = ap pos (lo_kept j l) in
                  let r = s.2 j l (sym (serial_kept j l) ∙ (same ∙ serial_new)) (omega (arith, ln, lj, less, lt)) in
                  omega (arith, r, lj)
              | inr e ↦
                  let le : pos ((split_by pos here c x M).copy j).lo ≡ pos ((split_by pos here c x M).copy M.total).lo = ap (λ (k : ℕ). pos ((split_by pos here c x M).copy k).lo) e in
                  omega (arith, le, less)
            ]),
        s.3,
      )

  serves_old : (p : ℕ) → Serves pos (split_by pos here c x M) p M.total → (pos x ≤ p) × Serves pos M p c
  serves_old p s =
      let ln = ap pos lo_new in
      let low = s.1 in
      let le : pos x ≤ p = omega (arith, ln, low) in (
        le,
        (
          sv.0,
          omega (arith, le, lt),
          (λ j hj same less.
              let lj = ap pos (lo_kept j hj) in
              let far = sv.2 j hj same less in
              let r = s.2 j (omega (arith, hj)) (serial_kept j hj ∙ (same ∙ sym serial_new)) (omega (arith, ln, lj, far)) in
              omega (arith, r, lj)),
          s.3,
        ),
      )

  -- from x on the old copy serves no more
  old_ends : (p : ℕ) → pos x ≤ p → Serves pos (split_by pos here c x M) p c → ⊥
  old_ends p h s =
      let ln = ap pos lo_new in
      let lc = ap pos (lo_kept c sv.0) in
      let r = s.2 M.total (omega arith) (serial_new ∙ sym (serial_kept c sv.0)) (omega (arith, ln, lc, lt)) in
      omega (arith, r, ln, h)

  -- another copy that serves from x on stands behind x, if it is of the same serial number
  apart_more : (p i : ℕ) → pos x ≤ p → (i ≡ c → ⊥) → Serves pos M p i → (M.copy c).serial ≡ (M.copy i).serial → pos (M.copy i).lo < pos x → p < pos x
  apart_more p i h n s same less =
      elim (cases_lt (pos (M.copy c).lo) (pos (M.copy i).lo)) [
        | inl l ↦ absurd (let r = sv.2 i s.0 (sym same) l in omega (arith, r, less))
        | inr g ↦
            elim (cases_lt (pos (M.copy i).lo) (pos (M.copy c).lo)) [
              | inl l ↦ absurd (let r = s.2 c sv.0 same l in omega (arith, r, lt, h))
              | inr g' ↦ absurd (n (S.shape.apart i c s.0 sv.0 (sym same) (omega (arith, g, g'))))
            ]
      ]

  -- a copy that serves p, and began before x, serves x
  still_here : (p i : ℕ) → pos x ≤ p → Serves pos M p i → pos (M.copy i).lo < pos x → here i ≡ true
  still_here p i h s l = (tells i s.0).0 (s.0, omega (arith, l), (λ j hj same less. let r = s.2 j hj same less in omega (arith, r, h)), (let b = s.3 in omega (arith, b, h)))

  -- before x every copy that serves reads as it did
  early_field : (p i f : ℕ) → p < pos x → Serves pos M p i → value_at pos p ((split_by pos here c x M).copy i) f ≡ value_at pos p (M.copy i) f
  early_field p i f h s =
      elim (cases_eq i c) [
        | inl e ↦
            subst (λ (k : ℕ). value_at pos p ((split_by pos here c x M).copy k) f ≡ value_at pos p (M.copy k) f) (sym e)
            (ap (λ (k : Copy). value_at pos p k f) (copy_old pos M here c x sv.0)
            ∙ (read_before pos f (pos x) p ((renamed_copy pos naming c M.total x (here c) (M.copy c)).first f) (renamed_copy pos naming c M.total x (here c) (M.copy c)).entries h
            ∙ (R c sv.0).early p f (subst (λ (k : ℕ). pos (M.copy k).lo ≤ p) e s.1) h))
        | inr n ↦ ap (λ (k : Copy). value_at pos p k f) (copy_else pos M here c x i s.0 n) ∙ (R i s.0).early p f s.1 h
      ]

  -- from x on the new copy reads as the renamed old one did
  new_field : (p f : ℕ) → pos x ≤ p → value_at pos p ((split_by pos here c x M).copy M.total) f ≡ value_at pos p (renamed_copy pos naming c M.total x (here c) (M.copy c)) f
  new_field p f h =
      ap (λ (k : Copy). value_at pos p k f) (copy_new pos M here c x)
      ∙ read_behind pos f (pos x) p ((renamed_copy pos naming c M.total x (here c) (M.copy c)).first f) (renamed_copy pos naming c M.total x (here c) (M.copy c)).entries (R c sv.0).ok.sorted h

  old_new : c ≡ M.total → ⊥
  old_new e = let l = sv.0 in omega (arith, l, e)

  -- the copy i, under its new number, from x on
  later_field : (p i f : ℕ) → pos x ≤ p → Serves pos M p i
      → (times f naming ≡ 1 → value_at pos p ((split_by pos here c x M).copy (swap c M.total i)) f ≡ swapped c M.total (value_at pos p (M.copy i) f))
      × (times f naming ≡ 0 → value_at pos p ((split_by pos here c x M).copy (swap c M.total i)) f ≡ value_at pos p (M.copy i) f)
  later_field p i f h s =
      elim (cases_eq i c) [
        | inl e ↦
            subst (λ (k : ℕ). (times f naming ≡ 1 → value_at pos p ((split_by pos here c x M).copy (swap c M.total k)) f ≡ swapped c M.total (value_at pos p (M.copy k) f)) × (times f naming ≡ 0 → value_at pos p ((split_by pos here c x M).copy (swap c M.total k)) f ≡ value_at pos p (M.copy k) f)) (sym e)
            (subst (λ (k : ℕ). (times f naming ≡ 1 → value_at pos p ((split_by pos here c x M).copy k) f ≡ swapped c M.total (value_at pos p (M.copy c) f)) × (times f naming ≡ 0 → value_at pos p ((split_by pos here c x M).copy k) f ≡ value_at pos p (M.copy c) f)) (sym (swap_old c M.total))
            ((λ t. new_field p f h ∙ (R c sv.0).later p f t h (λ _. (tells c sv.0).0 sv)), (λ t. new_field p f h ∙ (R c sv.0).other p f t)))
        | inr n ↦
            let m : i ≡ M.total → ⊥ = λ e. let l = s.0 in omega (arith, l, e) in
            subst (λ (k : ℕ). (times f naming ≡ 1 → value_at pos p ((split_by pos here c x M).copy k) f ≡ swapped c M.total (value_at pos p (M.copy i) f)) × (times f naming ≡ 0 → value_at pos p ((split_by pos here c x M).copy k) f ≡ value_at pos p (M.copy i) f)) (sym (swap_else c M.total i n m)) (
              (λ t. ap (λ (k : Copy). value_at pos p k f) (copy_else pos M here c x i s.0 n) ∙ (R i s.0).later p f t h (still_here p i h s)),
              (λ t. ap (λ (k : Copy). value_at pos p k f) (copy_else pos M here c x i s.0 n) ∙ (R i s.0).other p f t),
            )
      ]

  later_serves : (p i : ℕ) → pos x ≤ p → Serves pos M p i → Serves pos (split_by pos here c x M) p (swap c M.total i)
  later_serves p i h s =
      elim (cases_eq i c) [
        | inl e ↦
            subst (λ (k : ℕ). Serves pos (split_by pos here c x M) p (swap c M.total k)) (sym e)
            (subst (λ (k : ℕ). Serves pos (split_by pos here c x M) p k) (sym (swap_old c M.total)) (serves_new p h (subst (λ (k : ℕ). Serves pos M p k) e s)))
        | inr n ↦
            let m : i ≡ M.total → ⊥ = λ e. let l = s.0 in omega (arith, l, e) in
            subst (λ (k : ℕ). Serves pos (split_by pos here c x M) p k) (sym (swap_else c M.total i n m)) (serves_more p i s (apart_more p i h n s))
      ]

  back_serves : (p i : ℕ) → pos x ≤ p → Serves pos (split_by pos here c x M) p i → Serves pos M p (swap c M.total i)
  back_serves p i h s =
      elim (below i s.0) [
        | inl l ↦
            elim (cases_eq i c) [
              | inl e ↦ absurd (old_ends p h (subst (λ (k : ℕ). Serves pos (split_by pos here c x M) p k) e s))
              | inr n ↦
                  let m : i ≡ M.total → ⊥ = λ e. omega (arith, l, e) in
                  subst (λ (k : ℕ). Serves pos M p k) (sym (swap_else c M.total i n m)) (serves_less p i l s)
            ]
        | inr e ↦
            subst (λ (k : ℕ). Serves pos M p (swap c M.total k)) (sym e)
            (subst (λ (k : ℕ). Serves pos M p k) (sym (swap_new c M.total old_new)) (serves_old p (subst (λ (k : ℕ). Serves pos (split_by pos here c x M) p k) e s)).1)
      ]

  early_serves : (p i : ℕ) → p < pos x → Serves pos M p i → Serves pos (split_by pos here c x M) p i
  early_serves p i h s = serves_more p i s (λ _ _. h)

  early_back : (p i : ℕ) → p < pos x → Serves pos (split_by pos here c x M) p i → Serves pos M p i
  early_back p i h s =
      elim (below i s.0) [
        | inl l ↦ serves_less p i l s
        | inr e ↦ absurd (let r = (serves_old p (subst (λ (k : ℕ). Serves pos (split_by pos here c x M) p k) e s)).0 in omega (arith, r, h))
      ]

  once_none : (f : ℕ) → (times f naming ≡ 1) ⊎ ((times f naming ≡ 0) × (5 ≤ f))
  once_none f = grind arith

  -- every field of the copy i, under its new number, from x on
  later_all : (p i f : ℕ) → pos x ≤ p → Serves pos M p i → value_at pos p ((split_by pos here c x M).copy (swap c M.total i)) f ≡ swapped c M.total (value_at pos p (M.copy i) f)
  later_all p i f h s =
      elim (once_none f) [
        | inl t ↦ (later_field p i f h s).0 t
        | inr t ↦
            (later_field p i f h s).1 t.0 ∙ sym (suits_far c M.total i f (value_at pos p (M.copy i) f) t.1 ((S.good p).typed i f s))
      ]

  new_not : M.total ≡ 0 → ⊥
  new_not e = let l = sv.0 in omega (arith, l, e)

  good_split : (p : ℕ) → CoherentAt pos (split_by pos here c x M) p
  good_split p =
      elim (cases_lt p (pos x)) [
        | inl h ↦
            good_agree (Serves pos M p) (Serves pos (split_by pos here c x M) p)
            (λ i f. value_at pos p (M.copy i) f) (λ i f. value_at pos p ((split_by pos here c x M).copy i) f)
            (λ i. early_serves p i h) (λ i. early_back p i h) (λ i f. early_field p i f h) (S.good p)
        | inr h ↦
            good_agree (λ i. Serves pos M p (swap c M.total i)) (Serves pos (split_by pos here c x M) p)
            (λ i f. swapped c M.total (value_at pos p (M.copy (swap c M.total i)) f)) (λ i f. value_at pos p ((split_by pos here c x M).copy i) f)
            (λ i s. subst (λ (k : ℕ). Serves pos (split_by pos here c x M) p k) (swap_swap c M.total i) (later_serves p (swap c M.total i) h s))
            (λ i. back_serves p i h)
            (λ i f s. subst (λ (k : ℕ). value_at pos p ((split_by pos here c x M).copy k) f ≡ swapped c M.total (value_at pos p (M.copy (swap c M.total i)) f)) (swap_swap c M.total i) (later_all p (swap c M.total i) f h s))
            (good_swapped c M.total (Serves pos M p) (λ i f. value_at pos p (M.copy i) f) nc new_not (S.good p))
      ]

  ok_split : (i : ℕ) → i < suc M.total → CopyOk pos ((split_by pos here c x M).copy i)
  ok_split i h =
      elim (below i h) [
        | inl l ↦
            elim (cases_eq i c) [
              | inl e ↦ subst (λ (k : ℕ). CopyOk pos ((split_by pos here c x M).copy k)) (sym e) (subst (λ (k : Copy). CopyOk pos k) (sym (copy_old pos M here c x sv.0)) (front_ok pos x _ (R c sv.0).ok))
              | inr n ↦ subst (λ (k : Copy). CopyOk pos k) (sym (copy_else pos M here c x i l n)) (R i l).ok
            ]
        | inr e ↦ subst (λ (k : ℕ). CopyOk pos ((split_by pos here c x M).copy k)) (sym e) (subst (λ (k : Copy). CopyOk pos k) (sym (copy_new pos M here c x)) (back_ok pos x _ (R c sv.0).ok))
      ]

  -- no old copy of the serial number begins at x
  not_at : (i : ℕ) → i < M.total → (M.copy i).serial ≡ (M.copy c).serial → pos (M.copy i).lo ≡ pos x → ⊥
  not_at i h same e =
      let l : pos (M.copy c).lo < pos (M.copy i).lo = omega (arith, lt, e) in
      let r = sv.2 i h same l in omega (arith, r, e)

  apart_split : (i j : ℕ) → i < suc M.total → j < suc M.total → ((split_by pos here c x M).copy i).serial ≡ ((split_by pos here c x M).copy j).serial
      → pos ((split_by pos here c x M).copy i).lo ≡ pos ((split_by pos here c x M).copy j).lo → i ≡ j
  apart_split i j hi hj same at =
      elim (below i hi) [
        | inl li ↦
            elim (below j hj) [
              | inl lj ↦
                  S.shape.apart i j li lj (sym (serial_kept i li) ∙ (same ∙ serial_kept j lj)) (ap pos (sym (lo_kept i li)) ∙ (at ∙ ap pos (lo_kept j lj)))
              | inr ej ↦
                  absurd (not_at i li (sym (serial_kept i li) ∙ (same ∙ (ap (λ (k : ℕ). ((split_by pos here c x M).copy k).serial) ej ∙ serial_new)))
                  (ap pos (sym (lo_kept i li)) ∙ (at ∙ (ap (λ (k : ℕ). pos ((split_by pos here c x M).copy k).lo) ej ∙ ap pos lo_new))))
            ]
        | inr ei ↦
            elim (below j hj) [
              | inl lj ↦
                  absurd (not_at j lj (sym (serial_kept j lj) ∙ (sym same ∙ (ap (λ (k : ℕ). ((split_by pos here c x M).copy k).serial) ei ∙ serial_new)))
                  (ap pos (sym (lo_kept j lj)) ∙ (sym at ∙ (ap (λ (k : ℕ). pos ((split_by pos here c x M).copy k).lo) ei ∙ ap pos lo_new))))
              | inr ej ↦ ei ∙ sym ej
            ]
      ]

  -- a renamed copy's entries stand where it serves
  hosted_renamed : (i : ℕ) (h : i < M.total) → EachVersion (λ v. Serves pos M (pos v) i) (renamed_copy pos naming c M.total x (here i) (M.copy i)).entries
  hosted_renamed i h =
      elim (cases_lt (pos (M.copy i).lo) (pos x)) [
        | inl l ↦
            let t = lt-leb (pos x) (pos (M.copy i).lo) l in
            elim (cases_Bool (here i)) [
              | inl y ↦ rw t (rw y (each_renames (λ v. Serves pos M (pos v) i) pos c M.total naming x (M.copy i).first (M.copy i).entries ((tells i h).1 y) (S.shape.hosted i h)))
              | inr y ↦ rw t (rw y (S.shape.hosted i h))
            ]
        | inr g ↦ rw (le-leb (pos x) (pos (M.copy i).lo) g) (each_maps (λ v. Serves pos M (pos v) i) pos c M.total naming (pos x) (M.copy i).entries (S.shape.hosted i h))
      ]

  hosted_split : (i : ℕ) → i < suc M.total → EachVersion (λ v. Serves pos (split_by pos here c x M) (pos v) i) ((split_by pos here c x M).copy i).entries
  hosted_split i h =
      elim (below i h) [
        | inl l ↦
            elim (cases_eq i c) [
              | inl e ↦
                  subst (λ (z : ℕ). EachVersion (λ v. Serves pos (split_by pos here c x M) (pos v) z) ((split_by pos here c x M).copy z).entries) (sym e)
                  (subst (λ (k : Copy). EachVersion (λ v. Serves pos (split_by pos here c x M) (pos v) c) k.entries) (sym (copy_old pos M here c x sv.0))
                  (each_like _ _ _ (λ v q. early_serves (pos v) c q.1 q.0) (each_before (λ v. Serves pos M (pos v) c) pos (pos x) _ (hosted_renamed c sv.0))))
              | inr n ↦
                  let m : i ≡ M.total → ⊥ = λ e. omega (arith, l, e) in
                  subst (λ (k : Copy). EachVersion (λ v. Serves pos (split_by pos here c x M) (pos v) i) k.entries) (sym (copy_else pos M here c x i l n))
                  (each_like (λ v. Serves pos M (pos v) i) (λ v. Serves pos (split_by pos here c x M) (pos v) i) _
                  (λ v s. elim (cases_lt (pos v) (pos x)) [
                    | inl b ↦ early_serves (pos v) i b s
                    | inr b ↦ subst (λ (z : ℕ). Serves pos (split_by pos here c x M) (pos v) z) (swap_else c M.total i n m) (later_serves (pos v) i b s)
                  ])
                  (hosted_renamed i l))
            ]
        | inr e ↦
            subst (λ (z : ℕ). EachVersion (λ v. Serves pos (split_by pos here c x M) (pos v) z) ((split_by pos here c x M).copy z).entries) (sym e)
            (subst (λ (k : Copy). EachVersion (λ v. Serves pos (split_by pos here c x M) (pos v) M.total) k.entries) (sym (copy_new pos M here c x))
            (each_like (λ v. Serves pos M (pos v) c × (pos x < pos v)) (λ v. Serves pos (split_by pos here c x M) (pos v) M.total) _
            (λ v q. let b = q.1 in serves_new (pos v) (omega (arith, b)) q.0) (each_behind (λ v. Serves pos M (pos v) c) pos (pos x) _ (hosted_renamed c sv.0))))
      ]

  known_split : (i : ℕ) → i < suc M.total → pos ((split_by pos here c x M).copy i).lo < M.versions
  known_split i h =
      elim (below i h) [
        | inl l ↦ subst (λ (z : ℕ). pos z < M.versions) (sym (lo_kept i l)) (S.shape.known i l)
        | inr e ↦ subst (λ (z : ℕ). pos ((split_by pos here c x M).copy z).lo < M.versions) (sym e) (subst (λ (z : ℕ). pos z < M.versions) (sym lo_new) sv.3)
      ]

  fewer_split : (i : ℕ) → i < suc M.total → ((split_by pos here c x M).copy i).serial ≤ M.made
  fewer_split i h =
      elim (below i h) [
        | inl l ↦ subst (λ (z : ℕ). z ≤ M.made) (sym (serial_kept i l)) (S.shape.fewer i l)
        | inr e ↦ subst (λ (z : ℕ). ((split_by pos here c x M).copy z).serial ≤ M.made) (sym e) (subst (λ (z : ℕ). z ≤ M.made) (sym serial_new) (S.shape.fewer c sv.0))
      ]

  only_split : (i : ℕ) → i < suc M.total → ((split_by pos here c x M).copy i).serial ≡ 0 → i ≡ 0
  only_split i h z =
      elim (below i h) [
        | inl l ↦ S.shape.root_only i l (sym (serial_kept i l) ∙ z)
        | inr e ↦ absurd (nc (S.shape.root_only c sv.0 (sym serial_new ∙ (ap (λ (k : ℕ). ((split_by pos here c x M).copy k).serial) (sym e) ∙ z))))
      ]

  shape_split : Shaped pos (split_by pos here c x M)
  shape_split = record {
    copies = ok_split;
    apart = apart_split;
    hosted = hosted_split;
    known = known_split;
    fewer = fewer_split;
    some = omega arith;
    root_serial = serial_kept 0 S.shape.some ∙ S.shape.root_serial;
    root_lo = ap pos (lo_kept 0 S.shape.some) ∙ S.shape.root_lo;
    root_only = only_split;
  }

-- the theorem on splits, over any test that tells which copies serve x
abbrev SplitBySound : Type 0
SplitBySound = (pos : ℕ → ℕ) (M : Copies) (here : ℕ → Bool) (c x : ℕ) → ((i : ℕ) → i < M.total → Decides (here i) (Serves pos M (pos x) i)) → Sound pos M
    → (c ≡ 0 → ⊥) → Serves pos M (pos x) c → pos (M.copy c).lo < pos x
    → Sound pos (split_by pos here c x M)
    × ((p i : ℕ) → p < pos x → Serves pos M p i →
    Serves pos (split_by pos here c x M) p i × ((f : ℕ) → value_at pos p ((split_by pos here c x M).copy i) f ≡ value_at pos p (M.copy i) f))
    × ((p i : ℕ) → pos x ≤ p → Serves pos M p i →
    Serves pos (split_by pos here c x M) p (swap c M.total i)
    × ((f : ℕ) → value_at pos p ((split_by pos here c x M).copy (swap c M.total i)) f ≡ swapped c M.total (value_at pos p (M.copy i) f)))
    × ((p i : ℕ) → p < pos x → Serves pos (split_by pos here c x M) p i → Serves pos M p i)
    × ((p i : ℕ) → pos x ≤ p → Serves pos (split_by pos here c x M) p i → Serves pos M p (swap c M.total i))

pub split_by_sound : SplitBySound
split_by_sound pos M here c x tells S nc sv lt = (
  record { shape = shape_split pos M here c x tells S nc sv lt; good = good_split pos M here c x tells S nc sv lt },
  (λ p i h s. (early_serves pos M here c x tells S nc sv lt p i h s, (λ f. early_field pos M here c x tells S nc sv lt p i f h s))),
  (λ p i h s. (later_serves pos M here c x tells S nc sv lt p i h s, (λ f. later_all pos M here c x tells S nc sv lt p i f h s))),
  early_back pos M here c x tells S nc sv lt,
  back_serves pos M here c x tells S nc sv lt,
)

pub split_sound : SplitSound
split_sound pos M c x S nc sv lt = split_by_sound pos M (serving pos M (pos x)) c x (λ i _. serving_tells pos M (pos x) i) S nc sv lt
