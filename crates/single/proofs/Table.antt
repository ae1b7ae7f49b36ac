-- Arrays of links, and rows of the table: what stays in range, and what a write leaves.
use Rattle.std.proofs.Common.{◌≡◌, ℕ, zero, suc, ◌+◌, ◌-◌, ◌<◌, ◌≤◌, Bool, true, false, cond, List, [], ◌∷◌, length, get_or, set, replicate, Some, None, Option, sym, refl, ap, ◌∙◌, subst, ⊎_elim, arith, length-set, get_or-set_other, get_or-set_same}
use Rattle.std.proofs.lemmas.Bool.{cases_eq}
use Rattle.std.proofs.lemmas.Bool.Decides.{nat_tests}
use Rattle.memory.specs.Memory.{put, hits}
use Rattle.memory.proofs.Numbers.{put_other, lt_from, lt_true, eq_true, eq_false, some_same, none_some, hits_none}
use Rattle.single.specs.declared.node.Node.{Node as Row}
use Rattle.single.specs.Rows.{below, all_below, row_named, blank, raised, lowered, crowds}

both : (a b : Bool) → cond a b false ≡ true → (a ≡ true) × (b ≡ true)
both true b h = (refl, h)
both false true h = (h, refl)
both false false h = (h, h)

-- Arrays of links.

pub all_at : (n : ℕ) (xs : List (Option ℕ)) → all_below n xs ≡ true → (i : ℕ) → below n (get_or xs i None) ≡ true
all_at n [] h i = refl
all_at n (x ∷ xs) h zero = (both (below n x) (all_below n xs) h).0
all_at n (x ∷ xs) h (suc i) = all_at n xs (both (below n x) (all_below n xs) h).1 i

pub all_set : (n : ℕ) (xs : List (Option ℕ)) (j : ℕ) (x : Option ℕ) → all_below n xs ≡ true → below n x ≡ true → all_below n (set xs j x) ≡ true
all_set n [] j x h e = h
all_set n (y ∷ ys) zero x h e = rw e (both (below n y) (all_below n ys) h).1
all_set n (y ∷ ys) (suc j) x h e = rw (both (below n y) (all_below n ys) h).0 (all_set n ys j x (both (below n y) (all_below n ys) h).1 e)

pub all_none : (n k : ℕ) → all_below n (replicate {A = Option ℕ} k None) ≡ true
all_none n zero = refl
all_none n (suc k) = all_none n k

pub more : (n k : ℕ) (x : Option ℕ) → n ≤ k → below n x ≡ true → below k x ≡ true
more n k None e h = refl
more n k (Some j) e h = lt_true j k (let l = lt_from j n h in omega arith)

pub all_more : (n k : ℕ) (xs : List (Option ℕ)) → n ≤ k → all_below n xs ≡ true → all_below k xs ≡ true
all_more n k [] e h = refl
all_more n k (x ∷ xs) e h = let b = both (below n x) (all_below n xs) h in rw (more n k x e b.0) (all_more n k xs e b.1)

pub none_at : (n i : ℕ) → get_or (replicate {A = Option ℕ} n None) i None ≡ None
none_at zero i = refl
none_at (suc n) zero = refl
none_at (suc n) (suc i) = none_at n i

pub ref_low : (n : ℕ) (x : Option ℕ) (k : ℕ) → below n x ≡ true → x ≡ Some k → k < n
ref_low n None k h e = absurd (none_some e)
ref_low n (Some j) k h e = let z = some_same e in let l = lt_from j n h in omega arith

-- Places of a list.

pub any_default : {A : Type 0} (xs : List A) (k : ℕ) (d e : A) → k < length xs → get_or xs k d ≡ get_or xs k e
any_default [] k d e l = let z : ⊥ = omega arith in absurd z
any_default (x ∷ xs) zero d e l = refl
any_default (x ∷ xs) (suc k) d e l = any_default xs k d e (omega arith)

pub at_set : {A : Type 0} (Q : A → Type 0) (xs : List A) (j i : ℕ) (v d : A) → j < length xs → (j ≡ i → Q v) → ((j ≡ i → ⊥) → Q (get_or xs i d)) → Q (get_or (set xs j v) i d)
at_set Q xs j i v d l f g = ⊎_elim
    (λ (e : j ≡ i). subst (λ u. Q (get_or (set xs j v) u d)) e (subst Q (sym (get_or-set_same xs j v d l)) (f e)))
    (λ (e : j ≡ i → ⊥). subst Q (sym (get_or-set_other xs j i v d (λ z. e (sym z)))) (g e))
    (cases_eq j i)

-- one place of an array set
pub array_set : (xs : List (Option ℕ)) (b j : ℕ) (v w : Option ℕ) (f : ℕ → Option ℕ) → j < length xs → v ≡ w → ((i : ℕ) → i < b → f i ≡ get_or xs i None) → (i : ℕ) → i < b → put f j v i ≡ get_or (set xs j w) i None
array_set xs b j v w f lj e h i l = at_set (λ y. put f j v i ≡ y) xs j i w None lj
    (λ q. ap (λ (t : Bool). cond t v (f i)) (eq_true j i q) ∙ e)
    (λ q. put_other f j i v q ∙ h i l)

-- Numbers of names in the table.

pub length_raised : (xs : List Row) (x : Option ℕ) → length (raised xs x) ≡ length xs
length_raised xs None = refl
length_raised xs (Some k) = length-set xs k _

same_named : (r : Row) (q : ℕ) → r.names ≡ q → r ≡ row_named q r
same_named r q e = subst (λ u. r ≡ row_named u r) e refl

raised_at : (xs : List Row) (x : Option ℕ) (i : ℕ) (d : Row) → below (length xs) x ≡ true → get_or (raised xs x) i d ≡ row_named ((get_or xs i d).names + hits i x) (get_or xs i d)
raised_at xs None i d h = same_named (get_or xs i d) ((get_or xs i d).names + 0) (omega arith)
raised_at xs (Some k) i d h =
    let l = lt_from k (length xs) h in
    at_set (λ r. r ≡ row_named ((get_or xs i d).names + hits i (Some k)) (get_or xs i d)) xs k i (row_named ((get_or xs k blank).names + 1) (get_or xs k blank)) d l
    (λ e. rw (eq_true i k (sym e)) (ap (λ (r : Row). row_named (r.names + 1) r) (any_default xs k blank d l ∙ ap (λ u. get_or xs u d) e)))
    (λ e. rw (eq_false i k (λ z. e (sym z))) (same_named (get_or xs i d) ((get_or xs i d).names + 0) (omega arith)))

lowered_at : (xs : List Row) (x : Option ℕ) (i : ℕ) (d : Row) → below (length xs) x ≡ true → get_or (lowered xs x) i d ≡ row_named ((get_or xs i d).names - hits i x) (get_or xs i d)
lowered_at xs None i d h = same_named (get_or xs i d) ((get_or xs i d).names - 0) (omega arith)
lowered_at xs (Some k) i d h =
    let l = lt_from k (length xs) h in
    at_set (λ r. r ≡ row_named ((get_or xs i d).names - hits i (Some k)) (get_or xs i d)) xs k i (row_named ((get_or xs k blank).names - 1) (get_or xs k blank)) d l
    (λ e. rw (eq_true i k (sym e)) (ap (λ (r : Row). row_named (r.names - 1) r) (any_default xs k blank d l ∙ ap (λ u. get_or xs u d) e)))
    (λ e. rw (eq_false i k (λ z. e (sym z))) (same_named (get_or xs i d) ((get_or xs i d).names - 0) (omega arith)))

-- a row of the table, once a link or root that held `old` holds `new`
pub renamed_at : (xs : List Row) (old new : Option ℕ) (i : ℕ) (d : Row) → below (length xs) old ≡ true → below (length xs) new ≡ true
    → get_or (lowered (raised xs new) old) i d ≡ row_named ((get_or xs i d).names + hits i new - hits i old) (get_or xs i d)
renamed_at xs old new i d h g =
    lowered_at (raised xs new) old i d (subst (λ n. below n old ≡ true) (sym (length_raised xs new)) h)
    ∙ ap (λ (r : Row). row_named (r.names - hits i old) r) (raised_at xs new i d g)

-- where no third name is given, a node has at most two
pub few_named : (xs : List Row) (old new : Option ℕ) (i : ℕ) (d : Row) → crowds xs old new ≡ false → (new ≡ Some i → get_or xs i blank ≡ get_or xs i d) → (get_or xs i d).names ≤ 2 → (get_or xs i d).names + hits i new - hits i old ≤ 2
few_named xs old None i d q g l = omega arith
few_named xs None (Some k) i d q g l = ⊎_elim
    (λ (e : i ≡ k). let z : (get_or xs k blank).names ≡ (get_or xs i d).names = ap (λ u. (get_or xs u blank).names) (sym e) ∙ ap (λ (y : Row). y.names) (g (ap Some (sym e))) in grind (arith, nat_tests))
    (λ (e : i ≡ k → ⊥). let z = hits_none i (Some k) (λ f. e (sym (some_same f))) in omega arith)
    (cases_eq i k)
few_named xs (Some j) (Some k) i d q g l = ⊎_elim
    (λ (e : i ≡ k). let z : (get_or xs k blank).names ≡ (get_or xs i d).names = ap (λ u. (get_or xs u blank).names) (sym e) ∙ ap (λ (y : Row). y.names) (g (ap Some (sym e))) in grind (arith, nat_tests))
    (λ (e : i ≡ k → ⊥). let z = hits_none i (Some k) (λ f. e (sym (some_same f))) in omega arith)
    (cases_eq i k)

-- What always holds of the rows below n.

pub record Fine (n : ℕ) (xs : List Row) : Type 0 where
  pub linked : (i : ℕ) (d : Row) → i < n → all_below n (get_or xs i d).links ≡ true
  pub two : (i : ℕ) (d : Row) → i < n → length (get_or xs i d).links ≡ 2
  pub named : (i : ℕ) (d : Row) → i < n → (get_or xs i d).names ≤ 2

pub fine_set : (n : ℕ) (xs : List Row) (j : ℕ) (r : Row) → j < length xs → Fine n xs → all_below n r.links ≡ true → length r.links ≡ 2 → r.names ≤ 2 → Fine n (set xs j r)
fine_set n xs j r w F e b q = record {
  two = λ i d l. at_set (λ (y : Row). length y.links ≡ 2) xs j i r d w (λ _. b) (λ _. F.two i d l);
  linked = λ i d l. at_set (λ (y : Row). all_below n y.links ≡ true) xs j i r d w (λ _. e) (λ _. F.linked i d l);
  named = λ i d l. at_set (λ (y : Row). y.names ≤ 2) xs j i r d w (λ _. q) (λ _. F.named i d l);
}

pub fine_more : (n : ℕ) (xs : List Row) (r : Row) → n < length xs → Fine n xs → all_below (n + 1) r.links ≡ true → length r.links ≡ 2 → r.names ≤ 2 → Fine (n + 1) (set xs n r)
fine_more n xs r w F e b q = record {
  two = λ i d l. at_set (λ (y : Row). length y.links ≡ 2) xs n i r d w (λ _. b) (λ f. F.two i d (omega arith));
  linked = λ i d l. at_set (λ (y : Row). all_below (n + 1) y.links ≡ true) xs n i r d w (λ _. e) (λ f. all_more n (n + 1) (get_or xs i d).links (omega arith) (F.linked i d (omega arith)));
  named = λ i d l. at_set (λ (y : Row). y.names ≤ 2) xs n i r d w (λ _. q) (λ f. F.named i d (omega arith));
}

pub fine_renamed : (n : ℕ) (xs : List Row) (old new : Option ℕ) → n ≤ length xs → below n old ≡ true → below n new ≡ true → crowds xs old new ≡ false → Fine n xs → Fine n (lowered (raised xs new) old)
fine_renamed n xs old new w o e q F =
    let o' = more n (length xs) old w o in let e' = more n (length xs) new w e in record {
      linked = λ i d l. subst (λ (y : Row). all_below n y.links ≡ true) (sym (renamed_at xs old new i d o' e')) (F.linked i d l);
      two = λ i d l. subst (λ (y : Row). length y.links ≡ 2) (sym (renamed_at xs old new i d o' e')) (F.two i d l);
      named = λ i d l. subst (λ (y : Row). y.names ≤ 2) (sym (renamed_at xs old new i d o' e')) (few_named xs old new i d q (λ f. any_default xs i blank d (ref_low (length xs) new i e' f)) (F.named i d l));
    }
