-- One step of a walk over rows that are in the table.
use Rattle.std.proofs.Common.{◌≡◌, ℕ, zero, suc, ◌-◌, ◌<◌, List, ◌∷◌, get_or, ap, ◌∙◌, subst, arith}
use Rattle.std.proofs.lemmas.List.{get_or_default}
use Rattle.entries.specs.Entries.{EachVersion}
use Rattle.chain_rows.specs.declared.row.EntryRow.{EntryRow}
use Rattle.chain_rows.specs.Chains.{blank, entry_of, chain, Inside, Known, Within}

pub versions_known : (k : ℕ) (rows : List EntryRow) (h n : ℕ) → Known k rows h n → EachVersion (λ v. v < k) (chain rows h n)
versions_known k rows h zero w = tt
versions_known k rows h (suc n) w = (w 0 (omega arith), versions_known k rows (get_or rows h blank).next n (λ a l. w (suc a) (omega (arith, l))))

module _ (rows : List EntryRow) (h n : ℕ) (d : EntryRow) (some : 0 < n) where
  read_is : Inside rows h n → get_or rows h blank ≡ get_or rows h d
  read_is w = get_or_default rows h blank d (w 0 some)

  pub chain_next : Inside rows h n → chain rows h n ≡ entry_of (get_or rows h d) ∷ chain rows (get_or rows h d).next (n - 1)
  chain_next w =
      let s : n ≡ suc (n - 1) = omega (arith, some) in
      ap (chain rows h) s ∙ ap (λ (t : EntryRow). entry_of t ∷ chain rows t.next (n - 1)) (read_is w)

  pub inside_step : Inside rows h n → Inside rows (get_or rows h d).next (n - 1)
  inside_step w a l = rw (read_is w) at (w (suc a) (omega (arith, l)))

  pub within_step : (k : ℕ) → Within k rows h n → ((get_or rows h d).version < k) × Within k rows (get_or rows h d).next (n - 1)
  within_step k w = (
    subst (λ (t : EntryRow). t.version < k) (read_is w.0) (w.1 0 some),
    (inside_step w.0, (λ a l. rw (read_is w.0) at (w.1 (suc a) (omega (arith, l))))),
  )
