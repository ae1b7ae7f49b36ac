-- Rows that keep their links and versions keep the tables sound.
use Rattle.std.proofs.Common.{◌≡◌, ℕ, ◌+◌, ◌<◌, List, length, get_or, sym, ap, ◌∙◌, subst, arith}
use Rattle.chain_rows.specs.declared.row.EntryRow.{EntryRow}
use Rattle.fields.specs.declared.kinds.Value.{Value}
use Rattle.chain_rows.specs.Chains.{blank, chain, node, Shape, Off}
use Rattle.chain_rows.proofs.Nodes.{node_shape, chain_frame}
use Rattle.entries.specs.Entries.{Entry}
use Rattle.chain_rows.specs.declared.row.Chain.{Chain}
use Rattle.chain_rows.specs.Sound.{Sound, chain_at}

pub map_sound : (cs : List Chain) (rows rows' : List EntryRow) (made used k : ℕ) → Shape rows rows' → Sound cs rows made used k → Sound cs rows' made used k
map_sound cs rows rows' made used k P S =
    let N = node_shape rows rows' P in (
      (λ i l. (
        (λ a la. subst (λ (z : ℕ). z < used) (sym (N (chain_at cs i).head a)) ((S.0 i l).0 a la)),
        (λ a la. subst (λ (z : ℕ). z < k) (sym (ap (λ (z : ℕ). (get_or rows' z blank).version) (N (chain_at cs i).head a) ∙ (P (node rows (chain_at cs i).head a)).1)) ((S.0 i l).1 a la)),
        (λ a b la lb e. (S.0 i l).2 a b la lb (sym (N (chain_at cs i).head a) ∙ (e ∙ N (chain_at cs i).head b))),
      )),
      (λ i j a b li lj la lb e. S.1 i j a b li lj la lb (sym (N (chain_at cs i).head a) ∙ (e ∙ N (chain_at cs j).head b))),
      S.2,
    )

pub map_other : (cs : List Chain) (rows rows' : List EntryRow) (made used k i : ℕ) → Sound cs rows made used k → i < made
    → ((j : ℕ) → Off j rows (chain_at cs i).head (chain_at cs i).len → get_or rows' j blank ≡ get_or rows j blank)
    → (j : ℕ) → j < made → (j ≡ i → ⊥) → chain rows' (chain_at cs j).head (chain_at cs j).len ≡ chain rows (chain_at cs j).head (chain_at cs j).len
map_other cs rows rows' made used k i S li fr j lj n =
    chain_frame rows rows' (chain_at cs j).head (chain_at cs j).len (λ a la. fr (node rows (chain_at cs j).head a) (λ b lb e. n (sym (S.1 i j b a li lj lb la e))))

-- the chain i after a renaming
pub map_here : (F : List (Entry Value) → List (Entry Value)) (cs : List Chain) (rows rows' : List EntryRow) (i used : ℕ) (row : Chain)
    → row ≡ chain_at cs i → ((es : List (Entry Value)) → length (F es) ≡ length es)
    → chain rows' row.head row.len ≡ F (chain rows row.head row.len)
    → (chain rows' (chain_at cs i).head (chain_at cs i).len ≡ F (chain rows (chain_at cs i).head (chain_at cs i).len))
    × (used + length (chain rows (chain_at cs i).head (chain_at cs i).len) ≡ used + length (F (chain rows (chain_at cs i).head (chain_at cs i).len)))
map_here F cs rows rows' i used row e keeps is =
    subst
    (λ (r : Chain).
    (chain rows' r.head r.len ≡ F (chain rows r.head r.len))
    × (used + length (chain rows r.head r.len) ≡ used + length (F (chain rows r.head r.len))))
    e
    (is, (let k = keeps (chain rows row.head row.len) in omega (arith, k)))
