-- How many entries are left by a write, a renaming and a split.
use Rattle.std.proofs.Common.{◌≡◌, ℕ, zero, suc, ◌+◌, ◌/◌, ◌<◌, ◌≤◌, Bool, List, [], ◌∷◌, length, refl, ap, ◌∙◌, inl, inr, le_refl, le_of_suc-le-suc, not-suc-le-zero, arith}
use Rattle.std.proofs.lemmas.Bool.{cases_Bool}
use Rattle.entries.specs.Entries.{Entry, read, AllFrom, Sorted, entries_before, entries_behind, put, keep, mapped, renamed}
use Rattle.entries.proofs.Writing.{behind_put}
use Rattle.entries.specs.Counts.{version_at, SplitHalves, PutAdds, RenamedAdds}

before_none : {V : Type 0} (pos : ℕ → ℕ) (x : ℕ) (es : List (Entry V)) → AllFrom pos x es → length (entries_before pos x es) ≡ 0
before_none pos x [] h = refl
before_none pos x (e ∷ es) h = let i = before_none pos x es h.1 in grind arith

behind_length : {V : Type 0} (pos : ℕ → ℕ) (x : ℕ) (es : List (Entry V)) → length (entries_behind pos x es) ≤ length es
behind_length pos x [] = le_refl 0
behind_length pos x (e ∷ es) = let i = behind_length pos x es in grind arith

ver_at-from : {V : Type 0} (pos : ℕ → ℕ) (q k : ℕ) (es : List (Entry V)) → AllFrom pos q es → k < length es → q ≤ pos (version_at es k)
ver_at-from pos q k [] h l = absurd (not-suc-le-zero l)
ver_at-from pos q zero (e ∷ es) h l = h.0
ver_at-from pos q (suc k) (e ∷ es) h l = ver_at-from pos q k es h.1 (le_of_suc-le-suc l)

pub before_half : {V : Type 0} (pos : ℕ → ℕ) (k : ℕ) (es : List (Entry V)) → Sorted pos es → k < length es
    → length (entries_before pos (pos (version_at es k)) es) ≤ k
before_half pos k [] s l = absurd (not-suc-le-zero l)
before_half pos zero (e ∷ es) s l = let i = before_none pos (pos e.version) es s.0 in grind arith
before_half pos (suc k) (e ∷ es) s l = let i = before_half pos k es s.1 (le_of_suc-le-suc l) in grind arith

pub behind_half : {V : Type 0} (pos : ℕ → ℕ) (k : ℕ) (es : List (Entry V)) → Sorted pos es → k < length es
    → length (entries_behind pos (pos (version_at es k)) es) + k + 1 ≤ length es
behind_half pos k [] s l = absurd (not-suc-le-zero l)
behind_half pos zero (e ∷ es) s l = let i = behind_length pos (pos e.version) es in grind arith
behind_half pos (suc k) (e ∷ es) s l =
    let i = behind_half pos k es s.1 (le_of_suc-le-suc l) in
    let j = ver_at-from pos (pos e.version) k es s.0 (le_of_suc-le-suc l) in grind arith

pub split_halves : SplitHalves
split_halves pos es s n =
    let lt : length es / 2 < length es = omega arith in
    let a = before_half pos (length es / 2) es s lt in
    let b = behind_half pos (length es / 2) es s lt in
    (a, b, omega arith)

pub put_adds : {V : Type 0} (pos : ℕ → ℕ) (f u : ℕ) (w : V) (es : List (Entry V))
    → (length (put pos f u w es) ≤ length es + 1) × (length es ≤ length (put pos f u w es))
put_adds pos f u w [] = (grind arith, grind arith)
put_adds pos f u w (e ∷ es) = let i = put_adds pos f u w es in (grind arith, grind arith)

pub keep_adds : {V : Type 0} (pos : ℕ → ℕ) (f u : ℕ) (w : V) (es : List (Entry V))
    → (length (keep pos f u w es) ≤ length es + 1) × (length es ≤ length (keep pos f u w es))
keep_adds pos f u w es = let i = put_adds pos f u w es in (grind arith, grind arith)

pub mapped_length : {V : Type 0} (pos : ℕ → ℕ) (r : V → V) (f x : ℕ) (es : List (Entry V)) → length (mapped pos r f x es) ≡ length es
mapped_length pos r f x [] = refl
mapped_length pos r f x (e ∷ es) = ap suc (mapped_length pos r f x es)

pub renamed_adds : RenamedAdds
renamed_adds pos m r f x a es =
    let i = mapped_length pos r f (pos x) es in
    let j = put_adds pos f x (r (read pos f (pos x) a es)) (mapped pos r f (pos x) es) in
    (grind arith, grind arith)

-- a renaming leaves as many entries before and behind x as there were
pub before_put : {V : Type 0} (pos : ℕ → ℕ) (f u : ℕ) (w : V) (es : List (Entry V)) → entries_before pos (pos u) (put pos f u w es) ≡ entries_before pos (pos u) es
before_put pos f u w [] = grind arith
before_put pos f u w (e ∷ es) = let i = before_put pos f u w es in grind arith

pub before_mapped : {V : Type 0} (pos : ℕ → ℕ) (r : V → V) (f x : ℕ) (es : List (Entry V)) → length (entries_before pos x (mapped pos r f x es)) ≡ length (entries_before pos x es)
before_mapped pos r f x [] = refl
before_mapped pos r f x (e ∷ es) = let i = before_mapped pos r f x es in grind arith

pub behind_mapped : {V : Type 0} (pos : ℕ → ℕ) (r : V → V) (f x : ℕ) (es : List (Entry V)) → length (entries_behind pos x (mapped pos r f x es)) ≡ length (entries_behind pos x es)
behind_mapped pos r f x [] = refl
behind_mapped pos r f x (e ∷ es) = let i = behind_mapped pos r f x es in grind arith

pub cut_renamed : {V : Type 0} (pos : ℕ → ℕ) (m : V → Bool) (r : V → V) (f x : ℕ) (a : V) (es : List (Entry V))
    → (length (entries_before pos (pos x) (renamed pos m r f x a es)) ≡ length (entries_before pos (pos x) es)) × (length (entries_behind pos (pos x) (renamed pos m r f x a es)) ≡ length (entries_behind pos (pos x) es))
cut_renamed {V} pos m r f x a es =
    elim (cases_Bool (m (read pos f (pos x) a es))) [
      | inl t ↦
          rw t (
            ap (λ (l : List (Entry V)). length l) (before_put pos f x (r (read pos f (pos x) a es)) (mapped pos r f (pos x) es)) ∙ before_mapped pos r f (pos x) es,
            ap (λ (l : List (Entry V)). length l) (behind_put pos f x (r (read pos f (pos x) a es)) (mapped pos r f (pos x) es)) ∙ behind_mapped pos r f (pos x) es,
          )
      | inr t ↦ rw t (before_mapped pos r f (pos x) es, behind_mapped pos r f (pos x) es)
    ]

pub put_adds_all : PutAdds
put_adds_all pos f u w es = put_adds pos f u w es
