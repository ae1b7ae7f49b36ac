-- The entries of a copy after the version behind a change keeps its value.
use Rattle.std.proofs.Common.{◌≡◌, ℕ, ◌+◌, true, Some, List, length, sym, refl, ap, ◌∙◌, arith}
use Rattle.fields.specs.declared.kinds.Value.{Value}
use Rattle.entries.specs.Entries.{Entry, keep}
use Rattle.entries.proofs.Counting.{keep_adds}
use Rattle.slices.specs.Copies.{value_at}
use Rattle.chains.specs.declared.table.ChainTable.{ChainTable}
use Rattle.chains.specs.Views.{Alters, asked, entries_of}
use Rattle.copies.specs.declared.table.CopyTable.{CopyTable}
use Rattle.copies.specs.Views.{Placed, Holds, copy_of}

pub holding : (pos : ℕ → ℕ) (n u s i f : ℕ) (t : CopyTable) (chains : ChainTable) (old : Value)
    → (Placed t → asked t.chains n i u ≡ true → old ≡ value_at pos (pos u) (copy_of t i) f)
    → Alters (asked t.chains n i s) t.chains chains i (keep pos f s old (entries_of t.chains i))
    → Holds pos n u (Some s) i f t (record { root = t.root; copies = t.copies; chains = chains; nodes = t.nodes })
holding pos n u s i f t chains old old_is A = record {
  same = record { rows = λ j. refl; long = refl; nodes = refl };
  made = A.made;
  versions = A.versions;
  room = A.rows;
  others = A.others;
  here = λ q.
      let ad = (keep_adds pos f s old (entries_of t.chains i)).0 in
      let free = q.3 in
      let h = A.here q.2 (omega (arith, ad, free)) in (
        h.0 ∙ ap (λ (v : Value). keep pos f s v (entries_of t.chains i)) (old_is q.0 q.1),
        h.1 ∙ ap (λ (l : List (Entry Value)). t.chains.used + length l) (sym h.0),
      );
}
