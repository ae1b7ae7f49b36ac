-- A split leaves alone every copy that never names the split one from x on.
use Rattle.std.proofs.Common.{◌≡◌, ℕ, suc, ◌<◌, ◌≤◌, Bool, false, cond, eqb, leb, ◌⊎◌, List, [], ◌∷◌, sym, refl, ap, ◌∙◌, inl, inr, le_refl, arith}
use Rattle.std.proofs.lemmas.Bool.{cases_lt, cases_Bool, le-leb, lt-leb}
use Rattle.fields.specs.declared.kinds.Value.{Value}
use Rattle.entries.specs.Entries.{Entry, hits, read, Sorted, Single, mapped, renamed, both, EachVersion}
use Rattle.entries.proofs.Parting.{read_late, from_weaken}
use Rattle.entries.proofs.Idle.{mapped_idle, renamed_idle}
use Rattle.entries.proofs.Versions.{each_like}
use Rattle.slices.specs.Slices.{swapped}
use Rattle.slices.specs.Copies.{Copy, Copies, value_at, Serves, serving, Decides, Sound}
use Rattle.slices.specs.Splits.{times, naming, names, renames, maps, renamed_copy}
use Rattle.slices.specs.Partners.{SplitIdle}
use Rattle.slices.proofs.Serving.{serving_tells}
use Rattle.slices.proofs.Splitting.{copy_else, unnamed}

-- what is read at p is read at a position of P: that of the last entry up to p, or q
record Source (P : ℕ → Type 0) (pos : ℕ → ℕ) (q p : ℕ) (es : List (Entry Value)) : Type 0 where
  spot : ℕ
  fits : P spot
  low : q ≤ spot
  high : spot ≤ p
  none : EachVersion (λ v. (pos v ≤ spot) ⊎ (p < pos v)) es

source : (P : ℕ → Type 0) (pos : ℕ → ℕ) (q p : ℕ) (es : List (Entry Value)) → P q → q ≤ p → EachVersion (λ v. P (pos v)) es → Source P pos q p es
source P pos q p [] h l k = record { spot = q; fits = h; low = le_refl q; high = l; none = tt }
source P pos q p (e ∷ es) h l k =
    let r = source P pos q p es h l k.1 in
    let lo = r.low in
    elim (cases_lt p (pos e.version)) [
      | inl a ↦ record { spot = r.spot; fits = r.fits; low = r.low; high = r.high; none = (inr a, r.none) }
      | inr a ↦
          elim (cases_lt r.spot (pos e.version)) [
            | inl b ↦ record {
              spot = pos e.version;
              fits = k.0;
              low = omega (arith, lo, b);
              high = a;
              none = (inl (le_refl (pos e.version)), each_like (λ v. (pos v ≤ r.spot) ⊎ (p < pos v)) (λ v. (pos v ≤ pos e.version) ⊎ (p < pos v)) es (λ v o. elim o [ inl z ↦ inl (omega (arith, z, b)) | inr z ↦ inr z ]) r.none);
            }
            | inr b ↦ record { spot = r.spot; fits = r.fits; low = r.low; high = r.high; none = (inl b, r.none) }
          ]
    ]

same_hit : (a s p : ℕ) → s ≤ p → (a ≤ s) ⊎ (p < a) → leb a p ≡ leb a s
same_hit a s p h o =
    elim o [
      | inl z ↦ le-leb a p (omega (arith, z, h)) ∙ sym (le-leb a s z)
      | inr z ↦ lt-leb a p z ∙ sym (lt-leb a s (omega (arith, z, h)))
    ]

read_source : (pos : ℕ → ℕ) (f s p : ℕ) (a : Value) (es : List (Entry Value)) → s ≤ p → EachVersion (λ v. (pos v ≤ s) ⊎ (p < pos v)) es → read pos f p a es ≡ read pos f s a es
read_source pos f s p a [] h k = refl
read_source pos f s p a (e ∷ es) h k =
    let t : hits pos f p e ≡ hits pos f s e = ap (both (eqb e.field f)) (same_hit (pos e.version) s p h k.0) in
    ap (λ (b : Bool). read pos f p (cond b e.value a) es) t ∙ read_source pos f s p (cond (hits pos f s e) e.value a) es h k.1

renames_idle : (pos : ℕ → ℕ) (c d : ℕ) (fs : List ℕ) (x : ℕ) (first : ℕ → Value) (es : List (Entry Value)) → Sorted pos es → Single pos es
    → ((p f : ℕ) → pos x ≤ p → names c d (read pos f p (first f) es) ≡ false) → renames pos c d fs x first es ≡ es
renames_idle pos c d [] x first es s h k = refl
renames_idle pos c d (f ∷ fs) x first es s h k =
    ap (λ (z : List (Entry Value)). renamed pos (names c d) (swapped c d) f x (first f) z) (renames_idle pos c d fs x first es s h k)
    ∙ renamed_idle pos (names c d) (swapped c d) (unnamed c d) f x (first f) es s h (λ p l. k p f l)

maps_idle : (pos : ℕ → ℕ) (c d : ℕ) (fs : List ℕ) (x : ℕ) (first : ℕ → Value) (es : List (Entry Value)) → Sorted pos es → Single pos es
    → ((p f : ℕ) → x ≤ p → names c d (read pos f p (first f) es) ≡ false) → maps pos c d fs x es ≡ es
maps_idle pos c d [] x first es s h k = refl
maps_idle pos c d (f ∷ fs) x first es s h k =
    ap (λ (z : List (Entry Value)). mapped pos (swapped c d) f x z) (maps_idle pos c d fs x first es s h k)
    ∙ mapped_idle pos (names c d) (swapped c d) (unnamed c d) f x (λ _. first f) es s h (λ p l. k p f l)

module _ (pos : ℕ → ℕ) (M : Copies) (here : ℕ → Bool) (c x i : ℕ) (tells : (j : ℕ) → j < M.total → Decides (here j) (Serves pos M (pos x) j)) (S : Sound pos M)
    (hi : i < M.total) (quiet : (p f : ℕ) → pos x ≤ p → Serves pos M p i → names c M.total (value_at pos p (M.copy i) f) ≡ false) where
  -- a served position at or behind x, then every position behind it
  never : (q : ℕ) → pos x ≤ q → Serves pos M q i → (p f : ℕ) → q ≤ p → names c M.total (value_at pos p (M.copy i) f) ≡ false
  never q hq sq p f l =
      let r = source (λ y. Serves pos M y i) pos q p (M.copy i).entries sq l (S.shape.hosted i hi) in
      let low = r.low in
      ap (names c M.total) (read_source pos f r.spot p ((M.copy i).first f) (M.copy i).entries r.high r.none)
      ∙ quiet r.spot f (omega (arith, low, hq)) r.fits

  own : Serves pos M (pos (M.copy i).lo) i
  own = (hi, le_refl (pos (M.copy i).lo), (λ j hj same less. less), S.shape.known i hi)

  -- where the copy begins at or behind x, its first values show at its own first version
  never_late : pos x ≤ pos (M.copy i).lo → (p f : ℕ) → pos x ≤ p → names c M.total (value_at pos p (M.copy i) f) ≡ false
  never_late g p f l =
      elim (cases_lt p (pos (M.copy i).lo)) [
        | inr b ↦ never (pos (M.copy i).lo) g own p f b
        | inl b ↦
            ap (names c M.total) (read_late pos f p ((M.copy i).first f) (M.copy i).entries (from_weaken pos (suc p) (suc (pos (M.copy i).lo)) (M.copy i).entries (omega (arith, b)) (S.shape.copies i hi).late) ∙ sym (read_late pos f (pos (M.copy i).lo) ((M.copy i).first f) (M.copy i).entries (S.shape.copies i hi).late))
            ∙ never (pos (M.copy i).lo) g own (pos (M.copy i).lo) f (le_refl (pos (M.copy i).lo))
      ]

  first_idle : pos x ≤ pos (M.copy i).lo → (f : ℕ) → swapped c M.total ((M.copy i).first f) ≡ (M.copy i).first f
  first_idle g f =
      unnamed c M.total ((M.copy i).first f)
      (sym (ap (names c M.total) (read_late pos f (pos (M.copy i).lo) ((M.copy i).first f) (M.copy i).entries (S.shape.copies i hi).late))
      ∙ never (pos (M.copy i).lo) g own (pos (M.copy i).lo) f (le_refl (pos (M.copy i).lo)))

  idle : ((renamed_copy pos naming c M.total x (here i) (M.copy i)).entries ≡ (M.copy i).entries)
      × ((f : ℕ) → (renamed_copy pos naming c M.total x (here i) (M.copy i)).first f ≡ (M.copy i).first f)
  idle =
      let ok = S.shape.copies i hi in
      elim (cases_lt (pos (M.copy i).lo) (pos x)) [
        | inl l ↦
            elim (cases_Bool (here i)) [
              | inl y ↦
                  let sx = (tells i hi).1 y in
                  rw (lt-leb (pos x) (pos (M.copy i).lo) l, y)
                  (renames_idle pos c M.total naming x (M.copy i).first (M.copy i).entries ok.sorted ok.once (λ p f h. never (pos x) (le_refl (pos x)) sx p f h), (λ f. refl))
              | inr y ↦ rw (lt-leb (pos x) (pos (M.copy i).lo) l, y) (refl, (λ f. refl))
            ]
        | inr g ↦
            rw (le-leb (pos x) (pos (M.copy i).lo) g) (
              maps_idle pos c M.total naming (pos x) (M.copy i).first (M.copy i).entries ok.sorted ok.once (never_late g),
              (λ f. elim (cases_Bool (eqb (times f naming) 0)) [ inl t ↦ rw t refl | inr t ↦ rw t (first_idle g f) ]),
            )
      ]

pub split_idle : SplitIdle
split_idle pos M c x i S hi n quiet =
    let e = copy_else pos M (serving pos M (pos x)) c x i hi n in
    let r = idle pos M (serving pos M (pos x)) c x i (λ j _. serving_tells pos M (pos x) j) S hi quiet in
    (ap (λ (k : Copy). k.entries) e ∙ r.0, (λ f. ap (λ (k : Copy). k.first f) e ∙ r.1 f))
