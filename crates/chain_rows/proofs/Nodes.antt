-- The rows of a chain, by their places in it.
use Rattle.std.proofs.Common.{◌≡◌, ℕ, zero, suc, ◌+◌, ◌-◌, ◌<◌, ◌≤◌, List, ◌∷◌, length, get_or, sym, refl, ap, ◌∙◌, subst, inl, inr, arith}
use Rattle.std.proofs.lemmas.Bool.{cases_order}
use Rattle.chain_rows.specs.declared.row.EntryRow.{EntryRow}
use Rattle.fields.specs.declared.kinds.Value.{Value}
use Rattle.entries.specs.Entries.{Entry}
use Rattle.chain_rows.specs.Chains.{blank, entry_of, chain, Within, node, Once, Chained, Shape, Drawn}

pub node_next : (rows : List EntryRow) (h k : ℕ) → node rows h (suc k) ≡ (get_or rows (node rows h k) blank).next
node_next rows h zero = refl
node_next rows h (suc k) = node_next rows (get_or rows h blank).next k

pub node_add : (rows : List EntryRow) (h a b : ℕ) → node rows h (a + b) ≡ node rows (node rows h a) b
node_add rows h zero b = ap (node rows h) (let z : zero + b ≡ b = omega arith in z)
node_add rows h (suc a) b = ap (node rows h) (let z : suc a + b ≡ suc (a + b) = omega arith in z) ∙ node_add rows (get_or rows h blank).next a b

-- a walk over rows whose links stay goes the same way
pub node_frame : (rows rows' : List EntryRow) (h n : ℕ) → ((b : ℕ) → b < n → (get_or rows' (node rows h b) blank).next ≡ (get_or rows (node rows h b) blank).next)
    → node rows' h n ≡ node rows h n
node_frame rows rows' h zero s = refl
node_frame rows rows' h (suc n) s =
    node_next rows' h n
    ∙ (ap (λ (z : ℕ). (get_or rows' z blank).next) (node_frame rows rows' h n (λ b l. s b (omega (arith, l))))
    ∙ (s n (omega arith) ∙ sym (node_next rows h n)))

pub node_shape : (rows rows' : List EntryRow) → Shape rows rows' → (h n : ℕ) → node rows' h n ≡ node rows h n
node_shape rows rows' s h n = node_frame rows rows' h n (λ b l. (s (node rows h b)).0)

pub chained_within : (k u : ℕ) (rows : List EntryRow) (h n : ℕ) → Chained k u rows h n → u ≤ length rows → Within k rows h n
chained_within k u rows h n C l = ((λ a q. let z = C.0 a q in omega (arith, z, l)), C.1)

pub once_tail : (rows : List EntryRow) (h n : ℕ) → Once rows h (suc n) → Once rows (get_or rows h blank).next n
once_tail rows h n o a b la lb e = let q : suc a ≡ suc b = o (suc a) (suc b) (omega (arith, la)) (omega (arith, lb)) e in omega (arith, q)

-- a chain over rows that stay
pub chain_frame : (rows rows' : List EntryRow) (h n : ℕ) → ((a : ℕ) → a < n → get_or rows' (node rows h a) blank ≡ get_or rows (node rows h a) blank) → chain rows' h n ≡ chain rows h n
chain_frame rows rows' h zero s = refl
chain_frame rows rows' h (suc n) s =
    let e : get_or rows' h blank ≡ get_or rows h blank = s 0 (omega arith) in
    rw e (ap (λ (t : List (Entry Value)). entry_of (get_or rows h blank) ∷ t) (chain_frame rows rows' (get_or rows h blank).next n (λ a l. s (suc a) (omega (arith, l)))))

-- the row u comes in behind the first k rows
pub record Inserted (u k : ℕ) (rows : List EntryRow) (h n : ℕ) (rows' : List EntryRow) (h' : ℕ) : Type 0 where
  pub place : k ≤ n
  pub front : (a : ℕ) → a < k → node rows' h' a ≡ node rows h a
  pub here : node rows' h' k ≡ u
  pub rear : (a : ℕ) → k ≤ a → a < n → node rows' h' (suc a) ≡ node rows h a

-- where a row of the longer chain comes from
pub inserted_drawn : (u k : ℕ) (rows : List EntryRow) (h n : ℕ) (rows' : List EntryRow) (h' : ℕ) → Inserted u k rows h n rows' h' → Drawn u rows h n rows' h' (n + 1)
inserted_drawn u k rows h n rows' h' I a l =
    elim (cases_order a k) [
      | inl e ↦ inl (ap (node rows' h') e ∙ I.here)
      | inr s ↦ elim s [
        | inl q ↦ let p = I.place in inr (a, omega (arith, q, p), I.front a q)
        | inr q ↦
            let e : a ≡ suc (a - 1) = omega (arith, q) in
            inr (a - 1, omega (arith, l, e), ap (node rows' h') e ∙ I.rear (a - 1) (omega (arith, q, e)) (omega (arith, l, e)))
      ]
    ]

-- a row of the longer chain: the new one, one before it, or one behind it
pub data Spotted (u k : ℕ) (rows : List EntryRow) (h n x a : ℕ) : Type 0 where
  is_new : a ≡ k → x ≡ u → Spotted u k rows h n x a
  is_front : a < k → a < n → x ≡ node rows h a → Spotted u k rows h n x a
  is_rear : (b : ℕ) → a ≡ suc b → k ≤ b → b < n → x ≡ node rows h b → Spotted u k rows h n x a

spotted : (u k : ℕ) (rows : List EntryRow) (h n : ℕ) (rows' : List EntryRow) (h' : ℕ) → Inserted u k rows h n rows' h' → (a : ℕ) → a < n + 1 → Spotted u k rows h n (node rows' h' a) a
spotted u k rows h n rows' h' I a l =
    let p = I.place in
    elim (cases_order a k) [
      | inl e ↦ is_new e (ap (node rows' h') e ∙ I.here)
      | inr s ↦ elim s [
        | inl q ↦ is_front q (omega (arith, q, p)) (I.front a q)
        | inr q ↦
            let e : a ≡ suc (a - 1) = omega (arith, q) in
            is_rear (a - 1) e (omega (arith, q, e)) (omega (arith, l, e)) (ap (node rows' h') e ∙ I.rear (a - 1) (omega (arith, q, e)) (omega (arith, l, e)))
      ]
    ]

once_both : (u k : ℕ) (rows : List EntryRow) (h n x y a b : ℕ) → ((a : ℕ) → a < n → node rows h a < u) → Once rows h n
    → Spotted u k rows h n x a → Spotted u k rows h n y b → x ≡ y → a ≡ b
once_both u k rows h n x y a b i o (is_new ea ex) (is_new eb ey) e = omega (arith, ea, eb)
once_both u k rows h n x y a b i o (is_new ea ex) (is_front lb mb ey) e = let z = i b mb in absurd (omega (arith, z, ex, ey, e))
once_both u k rows h n x y a b i o (is_new ea ex) (is_rear b' eb lb mb ey) e = let z = i b' mb in absurd (omega (arith, z, ex, ey, e))
once_both u k rows h n x y a b i o (is_front la ma ex) (is_new eb ey) e = let z = i a ma in absurd (omega (arith, z, ex, ey, e))
once_both u k rows h n x y a b i o (is_front la ma ex) (is_front lb mb ey) e = o a b ma mb (sym ex ∙ (e ∙ ey))
once_both u k rows h n x y a b i o (is_front la ma ex) (is_rear b' eb lb mb ey) e = let z = o a b' ma mb (sym ex ∙ (e ∙ ey)) in absurd (omega (arith, z, la, lb))
once_both u k rows h n x y a b i o (is_rear a' ea la ma ex) (is_new eb ey) e = let z = i a' ma in absurd (omega (arith, z, ex, ey, e))
once_both u k rows h n x y a b i o (is_rear a' ea la ma ex) (is_front lb mb ey) e = let z = o a' b ma mb (sym ex ∙ (e ∙ ey)) in absurd (omega (arith, z, la, lb))
once_both u k rows h n x y a b i o (is_rear a' ea la ma ex) (is_rear b' eb lb mb ey) e = let z = o a' b' ma mb (sym ex ∙ (e ∙ ey)) in omega (arith, z, ea, eb)

pub inserted_chained : (c u k : ℕ) (rows : List EntryRow) (h n : ℕ) (rows' : List EntryRow) (h' : ℕ) → Inserted u k rows h n rows' h' → Chained c u rows h n
    → ((j : ℕ) → j < u → (get_or rows' j blank).version ≡ (get_or rows j blank).version) → (get_or rows' u blank).version < c
    → Chained c (u + 1) rows' h' (n + 1)
inserted_chained c u k rows h n rows' h' I C vs vu =
    let p = I.place in
    let D = inserted_drawn u k rows h n rows' h' I in (
      (λ a l. elim (D a l) [ inl e ↦ omega (arith, e) | inr b ↦ let q = C.0 b.0 b.1 in let e = b.2 in omega (arith, q, e) ]),
      (λ a l. elim (D a l) [
        | inl e ↦ subst (λ (z : ℕ). (get_or rows' z blank).version < c) (sym e) vu
        | inr b ↦ subst (λ (z : ℕ). (get_or rows' z blank).version < c) (sym b.2) (subst (λ (z : ℕ). z < c) (sym (vs (node rows h b.0) (C.0 b.0 b.1))) (C.1 b.0 b.1))
      ]),
      (λ a b la lb e. once_both u k rows h n (node rows' h' a) (node rows' h' b) a b C.0 C.2 (spotted u k rows h n rows' h' I a la) (spotted u k rows h n rows' h' I b lb) e),
    )
