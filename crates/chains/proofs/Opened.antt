-- The invariant is a proposition, so the ghost field that holds it truncated gives it back.
use Rattle.std.proofs.Common.{◌≡◌, ℕ, ◌<◌, ◌≤◌, List, length, get_or, vec_items, sym, subst, arith}
use mathlib.Core.Logic.{∥∥₁_elim}
use native.Mathlib.Bridge.{le_prop}
use base.Stored.{Coded-set, coded_ℕ}
use Rattle.std.proofs.lemmas.List.{get_or_read}
use Rattle.chains.specs.declared.table.ChainTable.{ChainTable}
use Rattle.chain_rows.specs.declared.row.EntryRow.{EntryRow}
use Rattle.chain_rows.specs.declared.row.Chain.{Chain}
use Rattle.chain_rows.specs.Chains.{Within}
use Rattle.chain_rows.proofs.Nodes.{chained_within}
use Rattle.chain_rows.specs.Sound.{Sound, chain_at, no_chain}

sound_prop : (cs : List Chain) (rows : List EntryRow) (made used k : ℕ) → IsProp (Sound cs rows made used k)
sound_prop cs rows made used k p q = λ i. (
  (λ j l. (
    (λ a h. le_prop ((p.0 j l).0 a h) ((q.0 j l).0 a h) i),
    (λ a h. le_prop ((p.0 j l).1 a h) ((q.0 j l).1 a h) i),
    (λ a b h g e. Coded-set coded_ℕ _ _ ((p.0 j l).2 a b h g e) ((q.0 j l).2 a b h g e) i),
  )),
  (λ j l a b hj hl ha hb e. Coded-set coded_ℕ _ _ (p.1 j l a b hj hl ha hb e) (q.1 j l a b hj hl ha hb e) i),
  (λ j l. le_prop (p.2 j l) (q.2 j l) i),
)

pub opened : (t : ChainTable) → Sound (vec_items t.chains) (vec_items t.rows) t.made t.used t.versions
opened t = ∥∥₁_elim t.sound (sound_prop (vec_items t.chains) (vec_items t.rows) t.made t.used t.versions) (λ s. s)

-- a chain that was read is the table's
pub chain_is : (t : ChainTable) (i : ℕ) (row : Chain) → i < t.made → row ≡ get_or (vec_items t.chains) i row → row ≡ chain_at (vec_items t.chains) i
chain_is t i row l e = get_or_read (vec_items t.chains) i row (let f = t.fits in let k = t.chains.ok.0 in omega (arith, l, f, k)) e no_chain

pub made_long : (t : ChainTable) → t.made ≤ length (vec_items t.chains)
made_long t = let f = t.fits in let k = t.chains.ok.0 in omega (arith, f, k)

pub used_long : (t : ChainTable) → t.used ≤ length (vec_items t.rows)
used_long t = let f = t.taken in let k = t.rows.ok.0 in omega (arith, f, k)

-- a chain may be walked
pub walkable : (t : ChainTable) (i : ℕ) (row : Chain) → i < t.made → row ≡ chain_at (vec_items t.chains) i → Within t.versions (vec_items t.rows) row.head row.len
walkable t i row l e =
    subst (λ (r : Chain). Within t.versions (vec_items t.rows) r.head r.len) (sym e)
    (chained_within t.versions t.used (vec_items t.rows) _ _ ((opened t).0 i l) (used_long t))
