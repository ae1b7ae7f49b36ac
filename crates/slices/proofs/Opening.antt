-- A version comes in: every slice goes with its version.
use Rattle.std.proofs.Common.{◌≡◌, ℕ, suc, ◌<◌, ◌≤◌, Bool, cond, eqb, leb, List, [], ◌∷◌, sym, refl, ap, ◌∙◌, subst, arith}
use Rattle.fields.specs.declared.kinds.Value.{Value}
use Rattle.entries.specs.Entries.{Entry, hits, read, AllFrom, Sorted, Single, Lacks, both, EachVersion}
use Rattle.slices.specs.Copies.{Copy, Copies, value_at, Serves, CopyOk, Shaped}
use Rattle.slices.specs.Openings.{up, down, opened, OpenSound}
use Rattle.slices.proofs.Swapping.{good_agree}

-- a copy's versions move up
abbrev Moved : (ℕ → ℕ) → (ℕ → ℕ) → ℕ → Copy → Type 0
Moved pos pos' q k = (pos' k.lo ≡ up q (pos k.lo)) × EachVersion (λ v. pos' v ≡ up q (pos v)) k.entries

up_le : (q a p : ℕ) → 0 < q → leb (up q a) p ≡ leb a (down q p)
up_le q a p h = grind arith

le_up : (q a p : ℕ) → 0 < q → up q a ≤ p → a ≤ down q p
le_up q a p h k = grind arith

up_back : (q a p : ℕ) → 0 < q → a ≤ down q p → up q a ≤ p
up_back q a p h k = grind arith

lt_up : (q a p : ℕ) → 0 < q → p < up q a → down q p < a
lt_up q a p h k = grind arith

up_lt : (q a p : ℕ) → 0 < q → down q p < a → p < up q a
up_lt q a p h k = grind arith

pub up_mono : (q a b : ℕ) → a < b → up q a < up q b
up_mono q a b h = grind arith

pub up_cancel : (q a b : ℕ) → up q a < up q b → a < b
up_cancel q a b h = grind arith

up_same : (q a b : ℕ) → up q a ≡ up q b → a ≡ b
up_same q a b h = grind arith

pub up_mono_le : (q a b : ℕ) → a ≤ b → up q a ≤ up q b
up_mono_le q a b h = grind arith

pub down_lt : (q p n : ℕ) → 0 < q → q ≤ n → p < suc n → down q p < n
down_lt q p n h k l = grind arith

lt_down : (q p n : ℕ) → 0 < q → q ≤ n → down q p < n → p < suc n
lt_down q p n h k l = grind arith

up_below : (q p n : ℕ) → p < n → up q p < suc n
up_below q p n l = grind arith

pub down_up : (q a : ℕ) → down q (up q a) ≡ a
down_up q a = grind arith

module _ (pos pos' : ℕ → ℕ) (q : ℕ) (h0 : 0 < q) where
  read_moved : (f p : ℕ) (a : Value) (es : List (Entry Value)) → EachVersion (λ v. pos' v ≡ up q (pos v)) es → read pos' f p a es ≡ read pos f (down q p) a es
  read_moved f p a [] k = refl
  read_moved f p a (e ∷ es) k =
      let t : hits pos' f p e ≡ hits pos f (down q p) e = ap (λ (z : ℕ). both (eqb e.field f) (leb z p)) k.0 ∙ ap (both (eqb e.field f)) (up_le q (pos e.version) p h0) in
      ap (λ (b : Bool). read pos' f p (cond b e.value a) es) t ∙ read_moved f p (cond (hits pos f (down q p) e) e.value a) es k.1

  from_moved : (a b : ℕ) (es : List (Entry Value)) → ((v : ℕ) → a ≤ pos v → b ≤ up q (pos v)) → EachVersion (λ v. pos' v ≡ up q (pos v)) es → AllFrom pos a es → AllFrom pos' b es
  from_moved a b [] g k h = tt
  from_moved a b (e ∷ es) g k h = (subst (λ (z : ℕ). b ≤ z) (sym k.0) (g e.version h.0), from_moved a b es g k.1 h.1)

  sorted_moved : (es : List (Entry Value)) → EachVersion (λ v. pos' v ≡ up q (pos v)) es → Sorted pos es → Sorted pos' es
  sorted_moved [] k h = tt
  sorted_moved (e ∷ es) k h = (
    subst (λ (z : ℕ). AllFrom pos' z es) (sym k.0) (from_moved (pos e.version) (up q (pos e.version)) es (λ v l. up_mono_le q (pos e.version) (pos v) l) k.1 h.0),
    sorted_moved es k.1 h.1,
  )

  lacks_moved : (g a b : ℕ) (es : List (Entry Value)) → b ≡ up q a → EachVersion (λ v. pos' v ≡ up q (pos v)) es → Lacks pos g a es → Lacks pos' g b es
  lacks_moved g a b [] e0 k h = tt
  lacks_moved g a b (e ∷ es) e0 k h = ((λ ef ep. h.0 ef (up_same q (pos e.version) a (sym k.0 ∙ (ep ∙ e0)))), lacks_moved g a b es e0 k.1 h.1)

  single_moved : (es : List (Entry Value)) → EachVersion (λ v. pos' v ≡ up q (pos v)) es → Single pos es → Single pos' es
  single_moved [] k h = tt
  single_moved (e ∷ es) k h = (lacks_moved e.field (pos e.version) (pos' e.version) es k.0 k.1 h.0, single_moved es k.1 h.1)

  ok_moved : (k : Copy) → Moved pos pos' q k → CopyOk pos k → CopyOk pos' k
  ok_moved k m o = record {
    sorted = sorted_moved k.entries m.1 o.sorted;
    once = single_moved k.entries m.1 o.once;
    late = from_moved (suc (pos k.lo)) (suc (pos' k.lo)) k.entries (λ v l. subst (λ (z : ℕ). suc z ≤ up q (pos v)) (sym m.0) (up_mono q (pos k.lo) (pos v) l)) m.1 o.late;
  }

  module _ (M : Copies) (hq : q ≤ M.versions) (shift : (v : ℕ) → pos v < M.versions → pos' v ≡ up q (pos v)) (S : Shaped pos M) where
    lo_moved : (i : ℕ) → i < M.total → pos' (M.copy i).lo ≡ up q (pos (M.copy i).lo)
    lo_moved i h = shift (M.copy i).lo (S.known i h)

    moved_each : (i : ℕ) (es : List (Entry Value)) → EachVersion (λ v. Serves pos M (pos v) i) es → EachVersion (λ v. pos' v ≡ up q (pos v)) es
    moved_each i [] h = tt
    moved_each i (e ∷ es) h = (shift e.version h.0.3, moved_each i es h.1)

    moved : (i : ℕ) → i < M.total → Moved pos pos' q (M.copy i)
    moved i h = (lo_moved i h, moved_each i (M.copy i).entries (S.hosted i h))

    serves_to : (p i : ℕ) → Serves pos' (opened M) p i → Serves pos M (down q p) i
    serves_to p i s =
        let mi = lo_moved i s.0 in (
          s.0,
          le_up q (pos (M.copy i).lo) p h0 (subst (λ (z : ℕ). z ≤ p) mi s.1),
          (λ j hj same less.
              let mj = lo_moved j hj in
              let l : pos' (M.copy i).lo < pos' (M.copy j).lo = let z = up_mono q (pos (M.copy i).lo) (pos (M.copy j).lo) less in omega (arith, z, mi, mj) in
              lt_up q (pos (M.copy j).lo) p h0 (subst (λ (z : ℕ). p < z) mj (s.2 j hj same l))),
          down_lt q p M.versions h0 hq s.3,
        )

    serves_fro : (p i : ℕ) → Serves pos M (down q p) i → Serves pos' (opened M) p i
    serves_fro p i s =
        let mi = lo_moved i s.0 in (
          s.0,
          subst (λ (z : ℕ). z ≤ p) (sym mi) (up_back q (pos (M.copy i).lo) p h0 s.1),
          (λ j hj same less.
              let mj = lo_moved j hj in
              let l : pos (M.copy i).lo < pos (M.copy j).lo = up_cancel q _ _ (omega (arith, less, mi, mj)) in
              subst (λ (z : ℕ). p < z) (sym mj) (up_lt q (pos (M.copy j).lo) p h0 (s.2 j hj same l))),
          lt_down q p M.versions h0 hq s.3,
        )

each_both : (P Q R : ℕ → Type 0) (es : List (Entry Value)) → ((v : ℕ) → P v → Q v → R v) → EachVersion P es → EachVersion Q es → EachVersion R es
each_both P Q R [] g a b = tt
each_both P Q R (e ∷ es) g a b = (g e.version a.0 b.0, each_both P Q R es g a.1 b.1)

pub open_sound : OpenSound
open_sound pos pos' q M h0 hq shift S =
    let T = S.shape in
    let mv = moved pos pos' q h0 M hq shift T in (
      record {
        shape = record {
          copies = λ i h. ok_moved pos pos' q h0 (M.copy i) (mv i h) (T.copies i h);
          apart = λ i j hi hj same e. T.apart i j hi hj same (up_same q _ _ (sym (mv i hi).0 ∙ (e ∙ (mv j hj).0)));
          hosted = λ i h. each_both (λ v. Serves pos M (pos v) i) (λ v. pos' v ≡ up q (pos v)) (λ v. Serves pos' (opened M) (pos' v) i) (M.copy i).entries
              (λ v s e. serves_fro pos pos' q h0 M hq shift T (pos' v) i (subst (λ (z : ℕ). Serves pos M z i) (sym (ap (down q) e ∙ down_up q (pos v))) s)) (T.hosted i h) (mv i h).1;
          known = λ i h. subst (λ (z : ℕ). z < suc M.versions) (sym (mv i h).0) (up_below q (pos (M.copy i).lo) M.versions (T.known i h));
          fewer = T.fewer;
          some = T.some;
          root_serial = T.root_serial;
          root_lo = (mv 0 T.some).0 ∙ (ap (up q) T.root_lo ∙ (let z : up q 0 ≡ 0 = grind arith in z));
          root_only = T.root_only;
        };
        good = λ p.
            good_agree (Serves pos M (down q p)) (Serves pos' (opened M) p)
            (λ i f. value_at pos (down q p) (M.copy i) f) (λ i f. value_at pos' p (M.copy i) f)
            (serves_fro pos pos' q h0 M hq shift T p) (serves_to pos pos' q h0 M hq shift T p)
            (λ i f s. read_moved pos pos' q h0 f p ((M.copy i).first f) (M.copy i).entries (mv i s.0).1)
            (S.good (down q p));
      },
      (λ p i. (
        serves_to pos pos' q h0 M hq shift T p i,
        serves_fro pos pos' q h0 M hq shift T p i,
        λ h f. read_moved pos pos' q h0 f p ((M.copy i).first f) (M.copy i).entries (mv i h).1,
      )),
    )
