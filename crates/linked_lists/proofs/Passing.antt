-- Walks along the links of a table: they end, and what they pass.
use Rattle.std.proofs.Common.{◌≡◌, ℕ, zero, suc, ◌+◌, ◌^◌, ◌<◌, ◌≤◌, true, ◌⊎◌, List, [], ◌∷◌, length, Some, None, Option, sym, refl, ap, ◌∙◌, subst, inl, inr, arith}
use Rattle.std.proofs.lemmas.Bool.{cases_eq, eq-eqb, ne_eqb, false≢true}
use Rattle.linked_lists.proofs.Insert.{same_some}
use Rattle.linked_lists.specs.Chain.{Linked, Backed, Sound, RowOf, listed, walk, next_at, prev_at}
use Rattle.linked_lists.specs.Passing.{Carries, Passed, Led}
use Rattle.linked_lists.specs.declared.row.Row.{Row}
use Rattle.order.proofs.Members.{member_cases, member_here, member_there}
use Rattle.order.specs.Items.{member, Distinct, position}

-- what a row says of its item
pub carries : {T : Type 0} (P : T → Type 0) (rows : List (Row T)) (x : ℕ) (r : Row T) → RowOf rows x r → P r.tag → Carries P rows x
carries {T} P rows x r is p = record { tag = λ d. subst P (is.tag d) p }

-- a walk that passes one item more
passed_suc : (f : ℕ → Option ℕ) (P : ℕ → Type 0) (k : ℕ) (o e : Option ℕ) (x : ℕ) → Passed f P k o e → e ≡ Some x → P x → Passed f P (suc k) o (f x)
passed_suc f P zero o e x h is p = (x, h ∙ is, p, refl)
passed_suc f P (suc k) o e x h is p = (h.0, h.1, h.2, passed_suc f P k (f h.0) e x h.3 is p)

pub passed_more : (f : ℕ → Option ℕ) (P : ℕ → Type 0) (k : ℕ) (o e : Option ℕ) (x : ℕ) → Passed f P k o e → e ≡ Some x → P x → Passed f P (k + 1) o (f x)
passed_more f P k o e x h is p = let j : suc k ≡ k + 1 = omega arith in subst (λ (q : ℕ). Passed f P q o (f x)) j (passed_suc f P k o e x h is p)

led_suc : (f : ℕ → Option ℕ) (P : ℕ → Type 0) (k a x y : ℕ) → Led f P k a x → f x ≡ Some y → P y → Led f P (suc k) a y
led_suc f P zero a x y h is p = (y, ap f h ∙ is, p, refl)
led_suc f P (suc k) a x y h is p = (h.0, h.1, h.2, led_suc f P k h.0 x y h.3 is p)

pub led_more : (f : ℕ → Option ℕ) (P : ℕ → Type 0) (a x y : ℕ) → (k : ℕ) × Led f P k a x → f x ≡ Some y → P y → (k : ℕ) × Led f P k a y
led_more f P a x y h is p = (suc h.0, led_suc f P h.0 a x y h.1 is p)

-- what is left of a walk, of which `size` items are done: it ends, and its items are known
pub record Ahead (f : ℕ → Option ℕ) (n size : ℕ) (o : Option ℕ) : Type 0 where
  pub linked : Linked f o (walk f n o)
  pub within : (x : ℕ) → member (walk f n o) x ≡ true → x < n
  pub short : size + length (walk f n o) ≤ n

-- as many steps as there are items or more find the same
walk_long : (f : ℕ → Option ℕ) (n : ℕ) (o : Option ℕ) (xs : List ℕ) → Linked f o xs → length xs ≤ n → walk f n o ≡ xs
walk_long f zero o [] h l = refl
walk_long f (suc n) o [] h l = ap (walk f (suc n)) h
walk_long f zero o (x ∷ xs) h l = absurd (omega arith)
walk_long f (suc n) o (x ∷ xs) h l = ap (walk f (suc n)) h.0 ∙ ap (λ (q : List ℕ). x ∷ q) (walk_long f n (f x) xs h.1 (omega arith))

ahead_of : (f : ℕ → Option ℕ) (n size : ℕ) (o : Option ℕ) (xs : List ℕ) → Linked f o xs → ((x : ℕ) → member xs x ≡ true → x < n) → size + length xs ≤ n → Ahead f n size o
ahead_of f n size o xs h w s =
    let e = walk_long f n o xs h (omega arith) in
    record {
      linked = subst (Linked f o) (sym e) h;
      within = λ x m. w x (subst (λ (l : List ℕ). member l x ≡ true) e m);
      short = subst (λ (l : List ℕ). size + length l ≤ n) (sym e) s;
    }

-- a list from one of its items on
from_item : (f : ℕ → Option ℕ) (o : Option ℕ) (xs : List ℕ) (x : ℕ) → Linked f o xs → member xs x ≡ true →
    (rest : List ℕ) × (Linked f (Some x) rest × (length rest ≤ length xs) × ((y : ℕ) → member rest y ≡ true → member xs y ≡ true))
from_item f o [] x h m = absurd (false≢true m)
from_item f o (z ∷ zs) x h m =
    elim (member_cases z zs x m) [
      | inl d ↦ (z ∷ zs, ((ap (λ (k : ℕ). Some k) (sym d), h.1), omega arith, λ y k. k))
      | inr d ↦ let r = from_item f (f z) zs x h.1 d.1 in (r.0, (r.1.0, (let q = r.1.1 in omega arith), λ y k. member_there z zs y (r.1.2 y k)))
    ]

module _ {T : Type 0} {rows : List (Row T)} {n limit : ℕ} (s : Sound rows n limit) where
  pub ahead_start : (first : ℕ) → first < n → Ahead (next_at rows) n 0 (Some first)
  ahead_start first h =
      let r = from_item (next_at rows) (Some 0) (listed rows n) first s.links.linked (s.links.known first h) in
      ahead_of (next_at rows) n 0 (Some first) r.0 r.1.0 (λ x m. s.links.within x (r.1.2 x m)) (let q = r.1.1 in let l = s.links.long in omega arith)

  pub count_fits : n < 2 ^ 32
  count_fits = let f = s.few in let m = s.small in omega arith

-- at the next item x
module _ (f : ℕ → Option ℕ) (n size : ℕ) (o : Option ℕ) (a : Ahead f n size o) (x : ℕ) (e : o ≡ Some x) where
  go : (xs : List ℕ) → Linked f o xs → (rest : List ℕ) × ((xs ≡ x ∷ rest) × Linked f (f x) rest)
  go [] h = let z : ◌≡◌ {A = ℕ} 0 1 = cc in absurd (omega arith)
  go (y ∷ ys) h =
      let is : y ≡ x = same_some y x (sym h.0 ∙ e) in
      (ys, (ap (λ (k : ℕ). k ∷ ys) is, subst (λ (k : ℕ). Linked f (f k) ys) is h.1))

  opens : (rest : List ℕ) × ((walk f n o ≡ x ∷ rest) × Linked f (f x) rest)
  opens = go (walk f n o) a.linked

  pub ahead_in : x < n
  ahead_in = a.within x (subst (λ (l : List ℕ). member l x ≡ true) (sym opens.1.0) (member_here x opens.0))

  room : size + suc (length opens.0) ≤ n
  room = subst (λ (l : List ℕ). size + length l ≤ n) opens.1.0 a.short

  pub ahead_room : size < n
  ahead_room = let r = room in omega arith

  pub ahead_more : Ahead f n (size + 1) (f x)
  ahead_more =
      ahead_of f n (size + 1) (f x) opens.0 opens.1.1
      (λ y m. a.within y (subst (λ (l : List ℕ). member l y ≡ true) (sym opens.1.0) (member_there x opens.0 y m))) (let r = room in omega arith)

  pub ahead_less : length (walk f n (f x)) < length (walk f n o)
  ahead_less =
      let w = ap length (walk_long f n (f x) opens.0 opens.1.1 (let r = room in omega arith)) in
      let v = ap length opens.1.0 in
      omega arith

-- the item before another stands earlier
before_earlier : (p : ℕ → Option ℕ) (o : Option ℕ) (xs : List ℕ) (x y : ℕ) → Backed p o xs → Distinct xs → member xs x ≡ true → p x ≡ Some y →
    (o ≡ Some y) ⊎ (position xs y < position xs x)
before_earlier p o [] x y b d m e = absurd (false≢true m)
before_earlier p o (z ∷ zs) x y b d m e =
    elim (member_cases z zs x m) [
      | inl q ↦ inl (sym b.0 ∙ (ap p q ∙ e))
      | inr q ↦ elim (before_earlier p (Some z) zs x y b.1 d.1 q.1 e) [
        | inl s ↦ let is : z ≡ y = same_some z y s in inr (simp (eq-eqb z y is, ne_eqb z x q.0) (omega arith))
        | inr l ↦ elim (cases_eq z y) [
          | inl k ↦ inr (simp (eq-eqb z y k, ne_eqb z x q.0) (omega arith))
          | inr k ↦ inr (simp (ne_eqb z y k, ne_eqb z x q.0) (omega (arith, l)))
        ]
      ]
    ]

pub before_less : {T : Type 0} {rows : List (Row T)} {n limit : ℕ} → Sound rows n limit → (x y : ℕ) → x < n → prev_at rows x ≡ Some y → position (listed rows n) y < position (listed rows n) x
before_less {T} {rows} {n} s x y h e =
    elim (before_earlier (prev_at rows) None (listed rows n) x y s.links.backed s.links.distinct (s.links.known x h) e)
    [ inl q ↦ let z : ◌≡◌ {A = ℕ} 0 1 = cc in absurd (omega arith) | inr l ↦ l ]
