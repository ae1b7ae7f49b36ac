-- A chain that comes in without entries, and a version that comes in.
use Rattle.std.proofs.Common.{◌≡◌, ℕ, ◌+◌, ◌<◌, ◌≤◌, List, length, get_or, set, sym, ap, ◌∙◌, subst, inl, inr, arith}
use Rattle.std.proofs.lemmas.List.{get_or-set_same, get_or-set_other}
use Rattle.std.proofs.lemmas.Bool.{cases_eq}
use Rattle.chain_rows.specs.declared.row.EntryRow.{EntryRow}
use Rattle.chain_rows.specs.declared.row.Chain.{Chain}
use Rattle.chain_rows.specs.Chains.{blank, node}
use Rattle.chain_rows.specs.Sound.{Sound, chain_at, no_chain}

module _ (cs : List Chain) (rows : List EntryRow) (made used k : ℕ) (S : Sound cs rows made used k) (lm : made < length cs) where
  pub add_new_lem : chain_at (set cs made no_chain) made ≡ no_chain
  add_new_lem = get_or-set_same cs made no_chain no_chain lm

  pub add_old : (j : ℕ) → (j ≡ made → ⊥) → chain_at (set cs made no_chain) j ≡ chain_at cs j
  add_old j n = get_or-set_other cs made j no_chain no_chain n

  -- a row of a chain is one of an old chain
  old : (i a : ℕ) → i < made + 1 → a < (chain_at (set cs made no_chain) i).len → (i < made) × (chain_at (set cs made no_chain) i ≡ chain_at cs i)
  old i a li la =
      elim (cases_eq i made) [
        | inl e ↦ absurd (let q = subst (λ (z : Chain). a < z.len) (ap (chain_at (set cs made no_chain)) e ∙ add_new_lem) la in omega (arith, q))
        | inr n ↦ (omega (arith, li, n), add_old i n)
      ]

  pub add_sound : Sound (set cs made no_chain) rows (made + 1) used k
  add_sound = (
    (λ i li. (
      (λ a la. let o = old i a li la in subst (λ (z : Chain). node rows z.head a < used) (sym o.1) ((S.0 i o.0).0 a (subst (λ (z : Chain). a < z.len) o.1 la))),
      (λ a la. let o = old i a li la in subst (λ (z : Chain). (get_or rows (node rows z.head a) blank).version < k) (sym o.1) ((S.0 i o.0).1 a (subst (λ (z : Chain). a < z.len) o.1 la))),
      (λ a b la lb e. let o = old i a li la in
          (S.0 i o.0).2 a b (subst (λ (z : Chain). a < z.len) o.1 la) (subst (λ (z : Chain). b < z.len) o.1 lb)
          (subst (λ (z : Chain). node rows z.head a ≡ node rows z.head b) o.1 e)),
    )),
    (λ i j a b li lj la lb e.
        let o = old i a li la in
        let p = old j b lj lb in
        S.1 i j a b o.0 p.0 (subst (λ (z : Chain). a < z.len) o.1 la) (subst (λ (z : Chain). b < z.len) p.1 lb)
        (sym (ap (λ (z : Chain). node rows z.head a) o.1) ∙ (e ∙ ap (λ (z : Chain). node rows z.head b) p.1))),
    (λ i li. elim (cases_eq i made) [
      | inl e ↦ subst (λ (z : Chain). z.len ≤ used) (sym (ap (chain_at (set cs made no_chain)) e ∙ add_new_lem)) (omega arith)
      | inr n ↦ subst (λ (z : Chain). z.len ≤ used) (sym (add_old i n)) (S.2 i (omega (arith, li, n)))
    ]),
  )

-- versions that were known stay known
pub open_sound : (cs : List Chain) (rows : List EntryRow) (made used k : ℕ) → Sound cs rows made used k → Sound cs rows made used (k + 1)
open_sound cs rows made used k S =
    ((λ i li. ((S.0 i li).0, (λ a la. let q = (S.0 i li).1 a la in omega (arith, q)), (S.0 i li).2)), S.1, S.2)
