-- A chain cut at a version.
use Rattle.std.proofs.Common.{◌≡◌, ℕ, zero, suc, ◌+◌, ◌-◌, ◌<◌, ◌≤◌, true, false, ltb, leb, ◌⊎◌, List, [], ◌∷◌, length, get_or, set, sym, refl, ap, ◌∙◌, subst, inl, inr, arith, length-set}
use Rattle.std.proofs.lemmas.List.{get_or-set_same, get_or-set_other}
use Rattle.std.proofs.lemmas.Bool.{cases_eq, cases_lt, ltb-false, ltb-true, leb-false, leb-true, lt-ltb, le-ltb, le-leb}
use Rattle.chain_rows.specs.declared.row.EntryRow.{EntryRow}
use Rattle.fields.specs.declared.kinds.Value.{Value}
use Rattle.chain_rows.specs.Chains.{blank, entry_of, chain, node}
use Rattle.chain_rows.specs.Skips.{Skipped}
use Rattle.chain_rows.proofs.Nodes.{node_add}
use Rattle.entries.specs.Entries.{Entry, AllFrom, Sorted, entries_before, entries_behind}
use Rattle.chain_rows.specs.declared.row.Chain.{Chain}
use Rattle.chain_rows.specs.Sound.{Sound, chain_at, no_chain}

before_none : (pos : ℕ → ℕ) (x p : ℕ) (es : List (Entry Value)) → x ≤ p → AllFrom pos p es → [] ≡ entries_before pos x es
before_none pos x p [] l h = refl
before_none pos x p (e ∷ es) l h =
    let q : ltb (pos e.version) x ≡ false = le-ltb (pos e.version) x (let z = h.0 in omega (arith, l, z)) in
    rw q (before_none pos x p es l h.1)

behind_all : (pos : ℕ → ℕ) (x p : ℕ) (es : List (Entry Value)) → x < p → AllFrom pos p es → es ≡ entries_behind pos x es
behind_all pos x p [] l h = refl
behind_all pos x p (e ∷ es) l h =
    let q : ltb x (pos e.version) ≡ true = lt-ltb x (pos e.version) (let z = h.0 in omega (arith, l, z)) in
    rw q (ap (λ (t : List (Entry Value)). e ∷ t) (behind_all pos x p es l h.1))

pub cut_front : (pos : ℕ → ℕ) (rows : List EntryRow) (h n k x : ℕ) → k ≤ n → ((a : ℕ) → a < k → ltb (pos (get_or rows (node rows h a) blank).version) x ≡ true)
    → (k < n → ltb (pos (get_or rows (node rows h k) blank).version) x ≡ false) → Sorted pos (chain rows h n) → chain rows h k ≡ entries_before pos x (chain rows h n)
cut_front pos rows h zero zero x l f s o = refl
cut_front pos rows h (suc n) zero x l f s o =
    let q = s (omega arith) in
    rw q (before_none pos x (pos (get_or rows h blank).version) (chain rows (get_or rows h blank).next n) (ltb-false _ _ q) o.0)
cut_front pos rows h zero (suc k) x l f s o = absurd (omega (arith, l))
cut_front pos rows h (suc n) (suc k) x l f s o =
    let q = f 0 (omega arith) in
    rw q (ap (λ (t : List (Entry Value)). entry_of (get_or rows h blank) ∷ t)
    (cut_front pos rows (get_or rows h blank).next n k x (omega (arith, l)) (λ a la. f (suc a) (omega (arith, la))) (λ z. s (omega (arith, z))) o.1))

pub cut_rear : (pos : ℕ → ℕ) (rows : List EntryRow) (h n m x : ℕ) → m ≤ n → ((a : ℕ) → a < m → leb (pos (get_or rows (node rows h a) blank).version) x ≡ true)
    → (m < n → leb (pos (get_or rows (node rows h m) blank).version) x ≡ false) → Sorted pos (chain rows h n) → chain rows (node rows h m) (n - m) ≡ entries_behind pos x (chain rows h n)
cut_rear pos rows h zero zero x l f s o = ap (chain rows h) (let z : 0 - 0 ≡ 0 = omega arith in z)
cut_rear pos rows h (suc n) zero x l f s o =
    let q : x < pos (get_or rows h blank).version = leb-false _ _ (s (omega arith)) in
    let r : ltb x (pos (get_or rows h blank).version) ≡ true = lt-ltb _ _ q in
    ap (chain rows h) (let z : suc n - 0 ≡ suc n = omega arith in z)
    ∙ (rw r (ap (λ (t : List (Entry Value)). entry_of (get_or rows h blank) ∷ t) (behind_all pos x (pos (get_or rows h blank).version) (chain rows (get_or rows h blank).next n) q o.0)))
cut_rear pos rows h zero (suc m) x l f s o = absurd (omega (arith, l))
cut_rear pos rows h (suc n) (suc m) x l f s o =
    let q : ltb x (pos (get_or rows h blank).version) ≡ false = le-ltb _ _ (leb-true _ _ (f 0 (omega arith))) in
    rw q (ap (chain rows (node rows (get_or rows h blank).next m)) (let z : suc n - suc m ≡ n - m = omega arith in z)
    ∙ cut_rear pos rows (get_or rows h blank).next n m x (omega (arith, l)) (λ a la. f (suc a) (omega (arith, la))) (λ z. s (omega (arith, z))) o.1)

-- two walks, one behind the other
pub tail_is : (Yes No Yes' No' : ℕ → Type 0) (rows : List EntryRow) (from rest tail : Chain) → Skipped Yes No rows from rest → Skipped Yes' No' rows rest tail
    → tail.head ≡ node rows from.head (from.len - tail.len)
tail_is Yes No Yes' No' rows from rest tail A B =
    let a = A.short in
    let b = B.short in
    let e : from.len - rest.len + (rest.len - tail.len) ≡ from.len - tail.len = omega (arith, a, b) in
    B.reached ∙ (ap (λ (z : ℕ). node rows z (rest.len - tail.len)) A.reached ∙ (sym (node_add rows from.head (from.len - rest.len) (rest.len - tail.len)) ∙ ap (node rows from.head) e))

-- one past the rows before x and one past those at x
module _ (pos : ℕ → ℕ) (rows : List EntryRow) (x : ℕ) (from rest tail : Chain)
    (A : Skipped (λ v. ltb (pos v) (pos x) ≡ true) (λ v. ltb (pos v) (pos x) ≡ false) rows from rest)
    (B : Skipped (λ v. leb (pos v) (pos x) ≡ true) (λ v. leb (pos v) (pos x) ≡ false) rows rest tail) where
  tail_here : tail.head ≡ node rows from.head (from.len - tail.len)
  tail_here = tail_is _ _ _ _ rows from rest tail A B

  pub fronts : Sorted pos (chain rows from.head from.len) → chain rows from.head (from.len - rest.len) ≡ entries_before pos (pos x) (chain rows from.head from.len)
  fronts o =
      let a = A.short in
      cut_front pos rows from.head from.len (from.len - rest.len) (pos x) (omega arith) A.front
      (λ l. ap (λ (z : ℕ). ltb (pos (get_or rows z blank).version) (pos x)) (sym A.reached) ∙ A.stops (omega (arith, l, a))) o

  pub rears : Sorted pos (chain rows from.head from.len) → chain rows tail.head tail.len ≡ entries_behind pos (pos x) (chain rows from.head from.len)
  rears o =
      let a = A.short in
      let b = B.short in
      let e : from.len - (from.len - tail.len) ≡ tail.len = omega (arith, a, b) in
      ap (λ (z : ℕ). chain rows z tail.len) tail_here
      ∙ (ap (chain rows (node rows from.head (from.len - tail.len))) (sym e)
      ∙ cut_rear pos rows from.head from.len (from.len - tail.len) (pos x) (omega arith)
      (λ k lk. elim (cases_lt k (from.len - rest.len)) [
        | inl q ↦ le-leb _ _ (let z = ltb-true _ _ (A.front k q) in omega (arith, z))
        | inr q ↦
            let d : k ≡ from.len - rest.len + (k - (from.len - rest.len)) = omega (arith, q) in
            ap (λ (z : ℕ). leb (pos (get_or rows z blank).version) (pos x))
            (ap (node rows from.head) d ∙ (node_add rows from.head (from.len - rest.len) (k - (from.len - rest.len)) ∙ ap (λ (z : ℕ). node rows z (k - (from.len - rest.len))) (sym A.reached)))
            ∙ B.front (k - (from.len - rest.len)) (omega (arith, q, lk, a, b))
      ])
      (λ l. ap (λ (z : ℕ). leb (pos (get_or rows z blank).version) (pos x)) (sym tail_here) ∙ B.stops (omega (arith, l, a, b))) o)

pub two_c : (cs : List Chain) (made c : ℕ) (back front : Chain) → c < made → made < length cs → chain_at (set (set cs made back) c front) c ≡ front
two_c cs made c back front lc lm = let q = length-set cs made back in get_or-set_same (set cs made back) c front no_chain (omega (arith, lc, lm, q))

pub two_d : (cs : List Chain) (made c : ℕ) (back front : Chain) → c < made → made < length cs → chain_at (set (set cs made back) c front) made ≡ back
two_d cs made c back front lc lm = get_or-set_other (set cs made back) c made front no_chain (λ e. omega (arith, e, lc)) ∙ get_or-set_same cs made back no_chain lm

pub two_j : (cs : List Chain) (made c : ℕ) (back front : Chain) (j : ℕ) → j < made → (j ≡ c → ⊥) → chain_at (set (set cs made back) c front) j ≡ chain_at cs j
two_j cs made c back front j lj n = get_or-set_other (set cs made back) c j front no_chain n ∙ get_or-set_other cs made j back no_chain (λ e. omega (arith, e, lj))

-- the copy c keeps its first rows, and a new copy has the last ones
module _ (cs : List Chain) (rows : List EntryRow) (made used k c left rest : ℕ) (front back : Chain) (S : Sound cs rows made used k) (lc : c < made) (lm : made < length cs)
    (sl : left ≤ (chain_at cs c).len) (sr : rest ≤ left)
    (fh : front.head ≡ (chain_at cs c).head) (fl : front.len ≡ (chain_at cs c).len - left)
    (bh : back.head ≡ node rows (chain_at cs c).head ((chain_at cs c).len - rest)) (bl : back.len ≡ rest) where
  long : length (set cs made back) ≡ length cs
  long = length-set cs made back

  pub at_c : chain_at (set (set cs made back) c front) c ≡ front
  at_c = let q = long in get_or-set_same (set cs made back) c front no_chain (omega (arith, lc, lm, q))

  pub at_d : chain_at (set (set cs made back) c front) made ≡ back
  at_d = get_or-set_other (set cs made back) c made front no_chain (λ e. omega (arith, e, lc)) ∙ get_or-set_same cs made back no_chain lm

  pub at_j : (j : ℕ) → (j ≡ c → ⊥) → (j ≡ made → ⊥) → chain_at (set (set cs made back) c front) j ≡ chain_at cs j
  at_j j n m = get_or-set_other (set cs made back) c j front no_chain n ∙ get_or-set_other cs made j back no_chain m

  -- where the rows of a copy were
  record Part (row : Chain) (i : ℕ) : Type 0 where
    src : ℕ
    off : ℕ
    known : src < made
    fits : (a : ℕ) → a < row.len → off + a < (chain_at cs src).len
    is : (a : ℕ) → node rows row.head a ≡ node rows (chain_at cs src).head (off + a)
    which : ((i ≡ src) × (off ≡ 0) × (i ≡ c → row.len ≡ (chain_at cs c).len - left)) ⊎ ((i ≡ made) × (src ≡ c) × (off ≡ (chain_at cs c).len - rest))

  part_c : Part front c
  part_c = record {
    src = c;
    off = 0;
    known = lc;
    fits = λ a la. omega (arith, la, fl);
    is = λ a. ap (λ (z : ℕ). node rows z a) fh ∙ ap (node rows (chain_at cs c).head) (let z : a ≡ 0 + a = omega arith in z);
    which = inl (refl, refl, λ _. fl);
  }

  part_d : Part back made
  part_d = record {
    src = c;
    off = (chain_at cs c).len - rest;
    known = lc;
    fits = λ a la. omega (arith, la, bl, sl, sr);
    is = λ a. ap (λ (z : ℕ). node rows z a) bh ∙ sym (node_add rows (chain_at cs c).head ((chain_at cs c).len - rest) a);
    which = inr (refl, refl, refl);
  }

  part_j : (j : ℕ) → j < made → (j ≡ c → ⊥) → Part (chain_at cs j) j
  part_j j lj n = record {
    src = j;
    off = 0;
    known = lj;
    fits = λ a la. omega (arith, la);
    is = λ a. ap (node rows (chain_at cs j).head) (let z : a ≡ 0 + a = omega arith in z);
    which = inl (refl, refl, λ e. absurd (n e));
  }

  part : (i : ℕ) → i < made + 1 → Part (chain_at (set (set cs made back) c front) i) i
  part i li =
      elim (cases_eq i c) [
        | inl e ↦ subst (λ (z : ℕ). Part (chain_at (set (set cs made back) c front) z) z) (sym e) (subst (λ (r : Chain). Part r c) (sym at_c) part_c)
        | inr n ↦ elim (cases_eq i made) [
          | inl e ↦ subst (λ (z : ℕ). Part (chain_at (set (set cs made back) c front) z) z) (sym e) (subst (λ (r : Chain). Part r made) (sym at_d) part_d)
          | inr m ↦ subst (λ (r : Chain). Part r i) (sym (at_j i n m)) (part_j i (omega (arith, li, m)) n)
        ]
      ]

  same : (r s : Chain) (i j a b : ℕ) (P : Part r i) (Q : Part s j) → a < r.len → b < s.len → P.src ≡ Q.src → P.off + a ≡ Q.off + b → i ≡ j
  same r s i j a b P Q la lb es eo =
      elim P.which [
        | inl p ↦ elim Q.which [
          | inl q ↦ p.0 ∙ (es ∙ sym q.0)
          | inr q ↦
              let ic : i ≡ c = p.0 ∙ (es ∙ q.1) in
              let z = p.2 ic in let p1 = p.1 in let q2 = q.2 in
              absurd (omega (arith, z, p1, q2, la, eo, sr, sl))
        ]
        | inr p ↦ elim Q.which [
          | inl q ↦
              let jc : j ≡ c = q.0 ∙ (sym es ∙ p.1) in
              let z = q.2 jc in let q1 = q.1 in let p2 = p.2 in
              absurd (omega (arith, z, q1, p2, lb, eo, sr, sl))
          | inr q ↦ p.0 ∙ sym q.0
        ]
      ]

  pub cut_sound : Sound (set (set cs made back) c front) rows (made + 1) used k
  cut_sound = (
    (λ i li.
        let P = part i li in
        let C = S.0 P.src P.known in (
          (λ a la. subst (λ (z : ℕ). z < used) (sym (P.is a)) (C.0 (P.off + a) (P.fits a la))),
          (λ a la. subst (λ (z : ℕ). (get_or rows z blank).version < k) (sym (P.is a)) (C.1 (P.off + a) (P.fits a la))),
          (λ a b la lb e. let q = C.2 (P.off + a) (P.off + b) (P.fits a la) (P.fits b lb) (sym (P.is a) ∙ (e ∙ P.is b)) in omega (arith, q)),
        )),
    (λ i j a b li lj la lb e.
        let P = part i li in
        let Q = part j lj in
        let es : P.src ≡ Q.src = S.1 P.src Q.src (P.off + a) (Q.off + b) P.known Q.known (P.fits a la) (Q.fits b lb) (sym (P.is a) ∙ (e ∙ Q.is b)) in
        let fb : Q.off + b < (chain_at cs P.src).len = subst (λ (z : ℕ). Q.off + b < (chain_at cs z).len) (sym es) (Q.fits b lb) in
        let eo = (S.0 P.src P.known).2 (P.off + a) (Q.off + b) (P.fits a la) fb
        (sym (P.is a) ∙ (e ∙ (Q.is b ∙ ap (λ (z : ℕ). node rows (chain_at cs z).head (Q.off + b)) (sym es)))) in
        same (chain_at (set (set cs made back) c front) i) (chain_at (set (set cs made back) c front) j) i j a b P Q la lb es eo),
    (λ i li. elim (cases_eq i c) [
      | inl e ↦ subst (λ (r : Chain). r.len ≤ used) (sym (ap (chain_at (set (set cs made back) c front)) e ∙ at_c)) (let q = S.2 c lc in omega (arith, q, fl))
      | inr n ↦ elim (cases_eq i made) [
        | inl e ↦ subst (λ (r : Chain). r.len ≤ used) (sym (ap (chain_at (set (set cs made back) c front)) e ∙ at_d)) (let q = S.2 c lc in omega (arith, q, bl, sl, sr))
        | inr m ↦ subst (λ (r : Chain). r.len ≤ used) (sym (at_j i n m)) (S.2 i (omega (arith, li, m)))
      ]
    ]),
  )
