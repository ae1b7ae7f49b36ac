-- One turn of a walk that skips the leading rows.
use Rattle.std.proofs.Common.{◌≡◌, ℕ, suc, ◌+◌, ◌-◌, ◌<◌, ◌≤◌, List, length, get_or, sym, ap, ◌∙◌, subst, inl, inr, arith}
use Rattle.std.proofs.lemmas.List.{get_or_default}
use Rattle.std.proofs.lemmas.Bool.{cases_eq}
use Rattle.chain_rows.specs.declared.row.EntryRow.{EntryRow}
use Rattle.chain_rows.specs.declared.row.Chain.{Chain}
use Rattle.chain_rows.specs.Chains.{blank, node, Inside}
use Rattle.chain_rows.specs.Skips.{Skipped}
use Rattle.chain_rows.proofs.Nodes.{node_next, node_add}

-- some rows have been passed, and rest is what is left
pub record Passing (Yes : ℕ → Type 0) (rows : List EntryRow) (from rest : Chain) : Type 0 where
  pub short : rest.len ≤ from.len
  pub reached : rest.head ≡ node rows from.head (from.len - rest.len)
  pub front : (a : ℕ) → a < from.len - rest.len → Yes (get_or rows (node rows from.head a) blank).version

module _ (Yes : ℕ → Type 0) (rows : List EntryRow) (from rest : Chain) (P : Passing Yes rows from rest) (I : Inside rows from.head from.len) where
  pub passing_at : 0 < rest.len → rest.head < length rows
  passing_at some =
      let s = P.short in
      subst (λ (z : ℕ). z < length rows) (sym P.reached) (I (from.len - rest.len) (omega (arith, s, some)))

  module _ (d : EntryRow) (some : 0 < rest.len) where
    row_is : get_or rows rest.head d ≡ get_or rows rest.head blank
    row_is = get_or_default rows rest.head d blank (passing_at some)

    pub passing_more : Yes (get_or rows rest.head d).version → Passing Yes rows from (record { head = (get_or rows rest.head d).next; len = rest.len - 1 })
    passing_more y =
        let l = P.short in
        let e : from.len - (rest.len - 1) ≡ suc (from.len - rest.len) = omega (arith, l, some) in
        let ra : get_or rows rest.head d ≡ get_or rows (node rows from.head (from.len - rest.len)) blank = row_is ∙ ap (λ (z : ℕ). get_or rows z blank) P.reached in
        record {
          short = omega (arith, l);
          reached = ap (λ (z : EntryRow). z.next) ra ∙ (sym (node_next rows from.head (from.len - rest.len)) ∙ ap (node rows from.head) (sym e));
          front = λ a la. elim (cases_eq a (from.len - rest.len)) [
            | inl q ↦ subst (λ (z : ℕ). Yes (get_or rows (node rows from.head z) blank).version) (sym q) (subst (λ (z : EntryRow). Yes z.version) ra y)
            | inr q ↦ P.front a (omega (arith, la, e, q))
          ];
        }

-- what holds of each row of a chain holds of each row that is left
pub rest_each : (P Yes No : ℕ → Type 0) (rows : List EntryRow) (from rest : Chain) → Skipped Yes No rows from rest → ((a : ℕ) → a < from.len → P (node rows from.head a))
    → (a : ℕ) → a < rest.len → P (node rows rest.head a)
rest_each P Yes No rows from rest S h a l =
    let s = S.short in
    let e = ap (λ (z : ℕ). node rows z a) S.reached ∙ sym (node_add rows from.head (from.len - rest.len) a) in
    subst P (sym e) (h (from.len - rest.len + a) (omega (arith, s, l)))

-- the tests of a walk, in other words
pub skipped_by : (Yes No Yes' No' : ℕ → Type 0) (k : ℕ) (rows : List EntryRow) (from rest : Chain)
    → ((a : ℕ) → a < from.len → (get_or rows (node rows from.head a) blank).version < k) → Skipped Yes No rows from rest
    → ((v : ℕ) → v < k → Yes v → Yes' v) → ((v : ℕ) → v < k → No v → No' v) → Skipped Yes' No' rows from rest
skipped_by Yes No Yes' No' k rows from rest known S pass fail = record {
  short = S.short;
  reached = S.reached;
  front = λ a l. pass _ (known a (omega (arith, l))) (S.front a l);
  stops = λ some. fail _
      (subst (λ (z : ℕ). (get_or rows z blank).version < k) (sym S.reached) (known (from.len - rest.len) (let s = S.short in omega (arith, s, some))))
      (S.stops some);
}
