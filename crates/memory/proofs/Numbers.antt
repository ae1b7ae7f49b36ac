-- Functions of a number with one place changed, tests as facts, and sums.
use Rattle.std.proofs.Common.{◌≡◌, ℕ, zero, suc, ◌+◌, ◌<◌, ◌≤◌, true, false, eqb, ltb, leb, Some, None, Option, sym, refl, ap, ⊎_elim, arith}
use Rattle.std.proofs.lemmas.Bool.Decides.{nat_tests}
use Rattle.std.proofs.lemmas.Bool.{cases_lt, cases_eq}
use Rattle.memory.specs.Memory.{put, hits, sum_to, renamed, names_of}

pub put_same : {A : Type 0} (f : ℕ → A) (i : ℕ) (v : A) → put f i v i ≡ v
put_same f i v = grind (arith, nat_tests)

pub put_other : {A : Type 0} (f : ℕ → A) (i j : ℕ) (v : A) → (i ≡ j → ⊥) → put f i v j ≡ f j
put_other f i j v h = grind (arith, nat_tests)

pub eq_true : (i j : ℕ) → i ≡ j → eqb i j ≡ true
eq_true i j e = grind (arith, nat_tests)

pub eq_false : (i j : ℕ) → (i ≡ j → ⊥) → eqb i j ≡ false
eq_false i j h = grind (arith, nat_tests)

pub lt_true : (i j : ℕ) → i < j → ltb i j ≡ true
lt_true i j h = grind (arith, nat_tests)

pub lt_false : (i j : ℕ) → j ≤ i → ltb i j ≡ false
lt_false i j h = grind (arith, nat_tests)

pub le_true : (i j : ℕ) → i ≤ j → leb i j ≡ true
le_true i j h = grind (arith, nat_tests)

pub lt_from : (i j : ℕ) → ltb i j ≡ true → i < j
lt_from i j h = grind (arith, nat_tests)

pub le_from : (i j : ℕ) → leb i j ≡ true → i ≤ j
le_from i j h = grind (arith, nat_tests)

pub eq_from : (i j : ℕ) → eqb i j ≡ true → i ≡ j
eq_from i j h = grind (arith, nat_tests)

pub not_eq : (i j : ℕ) → eqb i j ≡ false → i ≡ j → ⊥
not_eq i j h e = grind (arith, nat_tests)

pub some_same : {A : Type 0} {a b : A} → ◌≡◌ {A = Option A} (Some a) (Some b) → a ≡ b
some_same e = cc

pub none_some : {A : Type 0} {a : A} → ◌≡◌ {A = Option A} None (Some a) → ⊥
none_some e = let z : ◌≡◌ {A = ℕ} 0 1 = cc in omega arith

pub hits_one : (i : ℕ) (x : Option ℕ) → hits i x ≤ 1
hits_one i None = omega arith
hits_one i (Some n) = grind (arith, nat_tests)

pub hits_some : (i : ℕ) (x : Option ℕ) → x ≡ Some i → hits i x ≡ 1
hits_some i None e = absurd (none_some e)
hits_some i (Some n) e = let z : n ≡ i = some_same e in grind (arith, nat_tests)

pub hits_none : (i : ℕ) (x : Option ℕ) → (x ≡ Some i → ⊥) → hits i x ≡ 0
hits_none i None h = refl
hits_none i (Some n) h = ⊎_elim (λ p. absurd (h (ap Some (sym p)))) (λ p. grind (arith, nat_tests)) (cases_eq i n)

-- sums of the same numbers are the same
pub sum_same : (n : ℕ) (f g : ℕ → ℕ) → ((j : ℕ) → j < n → f j ≡ g j) → sum_to n f ≡ sum_to n g
sum_same zero f g h = refl
sum_same (suc n) f g h = let a = sum_same n f g (λ j l. h j (omega arith)) in let b = h n (omega arith) in omega arith

pub sum_zero : (n : ℕ) (f : ℕ → ℕ) → ((j : ℕ) → j < n → f j ≡ 0) → sum_to n f ≡ 0
sum_zero zero f h = refl
sum_zero (suc n) f h = let a = sum_zero n f (λ j l. h j (omega arith)) in let b = h n (omega arith) in omega arith

-- one number changed
pub sum_one : (n k : ℕ) (f g : ℕ → ℕ) → k < n → ((j : ℕ) → (k ≡ j → ⊥) → g j ≡ f j) → sum_to n g + f k ≡ sum_to n f + g k
sum_one zero k f g l h = absurd (below_zero l)
  where
    below_zero : k < 0 → ⊥
    below_zero l = omega arith
sum_one (suc n) k f g l h =
    ⊎_elim
    (λ p. let a = sum_one n k f g p h in let b = h n (λ e. omega arith) in omega arith)
    (λ p. let e : k ≡ n = omega arith in let a = sum_same n g f (λ j q. h j (λ z. omega arith)) in let b : f k ≡ f n = ap f e in let c : g k ≡ g n = ap g e in omega arith)
    (cases_lt k n)

pub sum_part : (n k : ℕ) (f : ℕ → ℕ) → k < n → f k ≤ sum_to n f
sum_part zero k f l = let z : ⊥ = omega arith in absurd z
sum_part (suc n) k f l =
    ⊎_elim
    (λ p. let a = sum_part n k f p in omega arith)
    (λ p. let e : k ≡ n = omega arith in let b : f k ≡ f n = ap f e in omega arith)
    (cases_lt k n)

pub names_at_most : (f : ℕ → ℕ) (x : Option ℕ) (q : ℕ) → ((i : ℕ) → x ≡ Some i → f i ≤ q) → names_of f x ≤ q
names_at_most f None q h = omega arith
names_at_most f (Some i) q h = h i refl

pub names_most : (f : ℕ → ℕ) (x : Option ℕ) (q i : ℕ) → names_of f x ≤ q → x ≡ Some i → f i ≤ q
names_most f None q i h e = absurd (none_some e)
names_most f (Some k) q i h e = let z : f k ≡ f i = ap f (some_same e) in omega arith

-- where no number of names was above two and the new one is not, none is
pub renamed_few : (f : ℕ → ℕ) (old new : Option ℕ) → ((i : ℕ) → f i ≤ 2) → names_of (renamed f old new) new ≤ 2 → (i : ℕ) → renamed f old new i ≤ 2
renamed_few f old None h l i = let a = h i in omega arith
renamed_few f old (Some k) h l i =
    ⊎_elim
    (λ p. let e : renamed f old (Some k) k ≡ renamed f old (Some k) i = ap (renamed f old (Some k)) (sym p) in omega arith)
    (λ p. let a = h i in let b : hits i (Some k) ≡ 0 = hits_none i (Some k) (λ e. p (sym (some_same e))) in omega arith)
    (cases_eq i k)
