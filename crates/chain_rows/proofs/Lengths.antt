-- A chain of rows that are all different is no longer than the rows taken.
use Rattle.std.proofs.Common.{◌≡◌, ℕ, zero, suc, ◌<◌, ◌≤◌, true, false, eqb, List, [], ◌∷◌, length, get_or, refl, ap, subst, inl, inr, arith}
use Rattle.std.proofs.lemmas.Bool.{cases_eq, ne_eqb}
use Rattle.std.proofs.lemmas.Map.Steps.{length-le_from_distinct_below}
use Rattle.std.specs.List.{AllByRecursion, list_any, IsDistinct}
use Rattle.chain_rows.specs.declared.row.EntryRow.{EntryRow}
use Rattle.chain_rows.specs.Chains.{blank, node, Below, Chained, Once}
use Rattle.chain_rows.proofs.Nodes.{once_tail}

abbrev nodes : List EntryRow → ℕ → ℕ → List ℕ
nodes rows h zero = []
nodes rows h (suc n) = h ∷ nodes rows (get_or rows h blank).next n

nodes_length : (rows : List EntryRow) (h n : ℕ) → length (nodes rows h n) ≡ n
nodes_length rows h zero = refl
nodes_length rows h (suc n) = ap suc (nodes_length rows (get_or rows h blank).next n)

each_node : (P : ℕ → Type 0) (rows : List EntryRow) (h n : ℕ) → ((a : ℕ) → a < n → P (node rows h a)) → AllByRecursion P (nodes rows h n)
each_node P rows h zero p = tt
each_node P rows h (suc n) p = (p 0 (omega arith), each_node P rows (get_or rows h blank).next n (λ a l. p (suc a) (omega (arith, l))))

distinct : (rows : List EntryRow) (h n : ℕ) → Once rows h n → IsDistinct eqb (nodes rows h n)
unfolding IsDistinct
distinct rows h zero o = tt
distinct rows h (suc n) o = (
  each_node (λ y. eqb h y ≡ false) rows (get_or rows h blank).next n
      (λ a l. ne_eqb h (node rows (get_or rows h blank).next a) (λ e. let q = o 0 (suc a) (omega arith) (omega (arith, l)) e in absurd (omega (arith, q)))),
  distinct rows (get_or rows h blank).next n (once_tail rows h n o),
)

among : (q u : ℕ) (rows : List EntryRow) (h n : ℕ) → Below u rows h n → list_any (eqb q) (nodes rows h n) ≡ true → q < u
among q u rows h zero b e = cc
among q u rows h (suc n) b e =
    elim (cases_eq q h) [
      | inl z ↦ let l = b 0 (omega arith) in omega (arith, z, l)
      | inr z ↦ among q u rows (get_or rows h blank).next n (λ a l. b (suc a) (omega (arith, l))) (rw (ne_eqb q h z) at e)
    ]

pub chained_short : (k u : ℕ) (rows : List EntryRow) (h n : ℕ) → Chained k u rows h n → n ≤ u
chained_short k u rows h n C =
    subst (λ (z : ℕ). z ≤ u) (nodes_length rows h n)
    (length-le_from_distinct_below (nodes rows h n) u (distinct rows h n C.2) (λ q e. among q u rows h n C.0 e))
