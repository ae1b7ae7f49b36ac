-- What the table knows of a call that it answers.
use Rattle.std.proofs.Common.{◌≡◌, ℕ, ◌<◌, ◌≤◌, true, eqb, ltb, List, get_or, vec_items, sym, subst}
use Rattle.entries.specs.Entries.{both}
use Rattle.slices.proofs.Serving.{both_true, lt_is, eq_is}
use Rattle.chain_rows.specs.declared.row.Chain.{Chain}
use Rattle.chain_rows.specs.declared.row.EntryRow.{EntryRow}
use Rattle.chains.specs.declared.table.ChainTable.{ChainTable}
use Rattle.chain_rows.specs.Chains.{Inside, Chained, Grows}
use Rattle.chain_rows.specs.Sound.{chain_at}
use Rattle.chains.specs.Views.{asked}
use Rattle.chains.proofs.Opened.{opened, chain_is, walkable}

pub record Asked (t : ChainTable) (n i v : ℕ) : Type 0 where
  pub there : i < t.made
  pub version : v < t.versions
  pub same : t.versions ≡ n

pub is_asked : (t : ChainTable) (n i v : ℕ) → true ≡ asked t n i v → Asked t n i v
is_asked t n i v h =
    let a = both_true (ltb i t.made) (both (ltb v t.versions) (eqb n t.versions)) (sym h) in
    let b = both_true (ltb v t.versions) (eqb n t.versions) a.1 in
    record { there = lt_is i t.made a.0; version = lt_is v t.versions b.0; same = sym (eq_is n t.versions b.1) }

pub asked_version : (t : ChainTable) (n i v : ℕ) → Asked t n i v → v < n
asked_version t n i v A = subst (λ (z : ℕ). v < z) A.same A.version

-- what an answered call knows of the chain that it reads
pub record Served (t : ChainTable) (n i v : ℕ) (row : Chain) : Type 0 where
  pub there : i < t.made
  pub version : v < n
  pub same : t.versions ≡ n
  pub is : row ≡ chain_at (vec_items t.chains) i
  pub chained : Chained n t.used (vec_items t.rows) row.head row.len
  pub short : row.len ≤ t.used
  pub inside : Inside (vec_items t.rows) row.head row.len

pub served : (t : ChainTable) (n i v : ℕ) (row : Chain) → true ≡ asked t n i v → row ≡ get_or (vec_items t.chains) i row → Served t n i v row
served t n i v row a e =
    let A = is_asked t n i v a in
    let is = chain_is t i row A.there e in
    let S = opened t in record {
      there = A.there;
      version = asked_version t n i v A;
      same = A.same;
      is = is;
      chained = subst (λ (z : ℕ). Chained z t.used (vec_items t.rows) row.head row.len) A.same
          (subst (λ (r : Chain). Chained t.versions t.used (vec_items t.rows) r.head r.len) (sym is) (S.0 i A.there));
      short = subst (λ (r : Chain). r.len ≤ t.used) (sym is) (S.2 i A.there);
      inside = (walkable t i row A.there is).0;
    }

-- what the chain that was read has become
pub grown : (t : ChainTable) (n i v : ℕ) (row new : Chain) (rows : List EntryRow) → Served t n i v row → Grows n t.used (vec_items t.rows) rows row new
    → Grows t.versions t.used (vec_items t.rows) rows (chain_at (vec_items t.chains) i) new
grown t n i v row new rows A G =
    subst (λ (k : ℕ). Grows k t.used (vec_items t.rows) rows (chain_at (vec_items t.chains) i) new) (sym A.same)
    (subst (λ (r : Chain). Grows n t.used (vec_items t.rows) rows r new) A.is G)
