-- Copies that agree below their number are sound, threaded and of one size together.
use Rattle.std.proofs.Common.{◌≡◌, ℕ, ◌<◌, ◌≤◌, Some, None, Option, sym, ap, ◌∙◌, subst}
use Rattle.entries.specs.Entries.{EachVersion}
use Rattle.entries.proofs.Versions.{each_like}
use Rattle.slices.specs.Copies.{Copy, Copies, value_at, Serves, CopyOk, Sound}
use Rattle.slices.specs.Threads.{NextIs, Threaded}
use Rattle.slices.proofs.Swapping.{good_agree}
use Rattle.same_copies.specs.Same.{SameCopies, SameSound, SameThreaded}

-- the copies of M, each taken from g
abbrev pub taking : Copies → (ℕ → Copy) → Copies
taking M g = record { total = M.total; copy = g; made = M.made; versions = M.versions }

pub taken_is : (M D : Copies) → SameCopies M D → taking M D.copy ≡ D
taken_is M D e = λ i. record { total = sym e.total i; copy = D.copy; made = sym e.made i; versions = sym e.versions i }

pub serves_same : (pos : ℕ → ℕ) (M : Copies) (g : ℕ → Copy) (h : (i : ℕ) → i < M.total → g i ≡ M.copy i) (p i : ℕ) → Serves pos M p i → Serves pos (taking M g) p i
serves_same pos M g h p i s = (
  s.0,
  subst (λ (k : Copy). pos k.lo ≤ p) (sym (h i s.0)) s.1,
  (λ j lj.
      subst (λ (a : Copy). a.serial ≡ (g i).serial → pos (g i).lo < pos a.lo → p < pos a.lo) (sym (h j lj))
      (subst (λ (b : Copy). (M.copy j).serial ≡ b.serial → pos b.lo < pos (M.copy j).lo → p < pos (M.copy j).lo) (sym (h i s.0)) (s.2 j lj))),
  s.3,
)

module _ (pos : ℕ → ℕ) (M : Copies) (g : ℕ → Copy) (h : (i : ℕ) → i < M.total → g i ≡ M.copy i) where
  pub serves_back : (p i : ℕ) → Serves pos (taking M g) p i → Serves pos M p i
  serves_back p i s = serves_same pos (taking M g) M.copy (λ j l. sym (h j l)) p i s

  taken_sound : Sound pos M → Sound pos (taking M g)
  taken_sound S = record {
    shape = record {
      copies = λ i l. subst (λ (k : Copy). CopyOk pos k) (sym (h i l)) (S.shape.copies i l);
      apart = λ i j li lj.
          subst (λ (a : Copy). a.serial ≡ (g j).serial → pos a.lo ≡ pos (g j).lo → i ≡ j) (sym (h i li))
          (subst (λ (b : Copy). (M.copy i).serial ≡ b.serial → pos (M.copy i).lo ≡ pos b.lo → i ≡ j) (sym (h j lj)) (S.shape.apart i j li lj));
      hosted = λ i l.
          subst (λ (k : Copy). EachVersion (λ v. Serves pos (taking M g) (pos v) i) k.entries) (sym (h i l))
          (each_like (λ v. Serves pos M (pos v) i) (λ v. Serves pos (taking M g) (pos v) i) (M.copy i).entries (λ v s. serves_same pos M g h (pos v) i s) (S.shape.hosted i l));
      known = λ i l. subst (λ (k : Copy). pos k.lo < M.versions) (sym (h i l)) (S.shape.known i l);
      fewer = λ i l. subst (λ (k : Copy). k.serial ≤ M.made) (sym (h i l)) (S.shape.fewer i l);
      some = S.shape.some;
      root_serial = ap (λ (k : Copy). k.serial) (h 0 S.shape.some) ∙ S.shape.root_serial;
      root_lo = ap (λ (k : Copy). pos k.lo) (h 0 S.shape.some) ∙ S.shape.root_lo;
      root_only = λ i l e. S.shape.root_only i l (sym (ap (λ (k : Copy). k.serial) (h i l)) ∙ e);
    };
    good = λ p.
        good_agree (Serves pos M p) (Serves pos (taking M g) p) (λ i f. value_at pos p (M.copy i) f) (λ i f. value_at pos p (g i) f)
        (λ i s. serves_same pos M g h p i s) (λ i s. serves_back p i s) (λ i f s. ap (λ (k : Copy). value_at pos p k f) (h i s.0)) (S.good p);
  }

  next_same : (i : ℕ) → i < M.total → (n : Option ℕ) → NextIs pos M i n → NextIs pos (taking M g) i n
  next_same i l None k = λ j lj.
      subst (λ (a : Copy). a.serial ≡ (g i).serial → pos (g i).lo < pos a.lo → ⊥) (sym (h j lj))
      (subst (λ (b : Copy). (M.copy j).serial ≡ b.serial → pos b.lo < pos (M.copy j).lo → ⊥) (sym (h i l)) (k j lj))
  next_same i l (Some n) k = (
    k.0,
    ap (λ (a : Copy). a.serial) (h n k.0) ∙ (k.1 ∙ sym (ap (λ (a : Copy). a.serial) (h i l))),
    subst (λ (a : Copy). pos (g i).lo < pos a.lo) (sym (h n k.0)) (subst (λ (b : Copy). pos b.lo < pos (M.copy n).lo) (sym (h i l)) k.2),
    (λ j lj.
        subst (λ (z : Copy). (g j).serial ≡ (g i).serial → pos (g i).lo < pos (g j).lo → pos z.lo ≤ pos (g j).lo) (sym (h n k.0))
        (subst (λ (a : Copy). a.serial ≡ (g i).serial → pos (g i).lo < pos a.lo → pos (M.copy n).lo ≤ pos a.lo) (sym (h j lj))
        (subst (λ (b : Copy). (M.copy j).serial ≡ b.serial → pos b.lo < pos (M.copy j).lo → pos (M.copy n).lo ≤ pos (M.copy j).lo) (sym (h i l)) (k.3 j lj)))),
  )

pub same_sound : SameSound
same_sound pos M D e S = subst (λ (d : Copies). Sound pos d) (taken_is M D e) (taken_sound pos M D.copy e.copy S)

pub same_threaded : SameThreaded
same_threaded pos M D next e T =
    subst (λ (d : Copies). Threaded pos d next) (taken_is M D e) (λ i l. next_same pos M D.copy e.copy i l (next i) (T i l))
