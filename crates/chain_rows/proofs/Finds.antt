-- One turn of the walk that seeks the place of an entry.
use Rattle.std.proofs.Common.{◌≡◌, ℕ, zero, suc, ◌+◌, ◌-◌, ◌<◌, true, false, ltb, Option, Some, List, [], ◌∷◌, ◌++◌, get_or, sym, refl, ap, ◌∙◌, subst, append_assoc, add-one, arith}
use Rattle.std.proofs.lemmas.List.{get_or_default}
use Rattle.chain_rows.specs.declared.row.EntryRow.{EntryRow}
use Rattle.fields.specs.declared.kinds.Field.{Field}
use Rattle.fields.specs.declared.kinds.Value.{Value}
use Rattle.fields.specs.Fields.{field_number}
use Rattle.fields.proofs.Numbers.{same_field}
use Rattle.entries.specs.Entries.{Entry, entry, put, sets}
use Rattle.chain_rows.specs.Chains.{blank, entry_of, chain, node, last_of}
use Rattle.chain_rows.specs.Spots.{Passed, Replaces, Enters}
use Rattle.chain_rows.proofs.Nodes.{node_next}
use Rattle.chain_rows.proofs.Walks.{within_step, chain_next}

put_here : (pos : ℕ → ℕ) (f v : ℕ) (w : Value) (e : Entry Value) (es : List (Entry Value)) → true ≡ ltb (pos v) (pos e.version)
    → put pos f v w (e ∷ es) ≡ entry v f w ∷ (e ∷ es)
put_here pos f v w e es t = rw (← t) refl

put_same : (pos : ℕ → ℕ) (f v : ℕ) (w : Value) (e : Entry Value) (es : List (Entry Value)) → e.version ≡ v → e.field ≡ f
    → put pos f v w (e ∷ es) ≡ entry v f w ∷ es
put_same pos f v w e es ev ef =
    let a : ltb (pos v) (pos e.version) ≡ false = let q = ap pos ev in grind arith in
    let b : sets pos f (pos v) e ≡ true = let q = ap pos ev in grind arith in
    rw a (rw b refl)

put_skip : (pos : ℕ → ℕ) (f v : ℕ) (w : Value) (e : Entry Value) (es : List (Entry Value)) → false ≡ ltb (pos v) (pos e.version)
    → (pos e.version ≡ pos v → e.field ≡ f → ⊥) → put pos f v w (e ∷ es) ≡ e ∷ put pos f v w es
put_skip pos f v w e es t n =
    let b : sets pos f (pos v) e ≡ false = grind arith in
    rw (← t) (rw b refl)

chain_one : (rows : List EntryRow) (h k : ℕ) → chain rows h (suc k) ≡ chain rows h k ++ (entry_of (get_or rows (node rows h k) blank) ∷ [])
chain_one rows h zero = refl
chain_one rows h (suc k) = ap (λ (t : List (Entry Value)). entry_of (get_or rows h blank) ∷ t) (chain_one rows (get_or rows h blank).next k)

pub passed_last : (pos : ℕ → ℕ) (k : ℕ) (rows : List EntryRow) (head len : ℕ) (f : Field) (v steps at left : ℕ) → Passed pos k rows head len f v steps at left
    → Some at ≡ last_of rows head (steps + 1)
passed_last pos k rows head len f v steps at left P = rw (add-one steps) (ap Some P.reached)

module _ (pos : ℕ → ℕ) (k : ℕ) (rows : List EntryRow) (head len : ℕ) (f : Field) (v steps at' left : ℕ) (P : Passed pos k rows head len f v steps at' left)
    (d : EntryRow) (some : 0 < left) where
  step : chain rows at' left ≡ entry_of (get_or rows at' d) ∷ chain rows (get_or rows at' d).next (left - 1)
  step = chain_next rows at' left d some P.within.0

  row_is : get_or rows at' d ≡ get_or rows at' blank
  row_is = get_or_default rows at' d blank (P.within.0 0 some)

  pub found_before : true ≡ ltb (pos v) (pos (get_or rows at' d).version) → (prev : Option ℕ) → prev ≡ last_of rows head steps
      → Enters pos k rows head len f v (record { prev = prev; next = at' })
  found_before t prev e = record {
    steps = steps;
    left = left;
    passed = P;
    last = e;
    placed = λ w. ap (put pos (field_number f) v w) step
        ∙ (put_here pos (field_number f) v w (entry_of (get_or rows at' d)) _ t ∙ ap (λ (z : List (Entry Value)). entry v (field_number f) w ∷ z) (sym step));
  }

  pub found_same : (get_or rows at' d).version ≡ v → (get_or rows at' d).field ≡ f → Replaces pos k rows head len f v at'
  found_same ev ef = record {
    steps = steps;
    left = left;
    passed = P;
    here = some;
    placed = λ w. ap (put pos (field_number f) v w) step
        ∙ (put_same pos (field_number f) v w (entry_of (get_or rows at' d)) _ ev (ap field_number ef)
        ∙ ap (λ (z : EntryRow). entry v (field_number f) w ∷ chain rows z.next (left - 1)) row_is);
  }

  pub passed_more : false ≡ ltb (pos v) (pos (get_or rows at' d).version) → (pos (get_or rows at' d).version ≡ pos v → (get_or rows at' d).field ≡ f → ⊥)
      → Passed pos k rows head len f v (steps + 1) (get_or rows at' d).next (len - (steps + 1))
  passed_more t n =
      let row = get_or rows at' d in
      let tot = P.total in
      let e : len - (steps + 1) ≡ left - 1 = omega (arith, tot, some) in
      let is : get_or rows at' d ≡ get_or rows (node rows head steps) blank = row_is ∙ ap (λ (z : ℕ). get_or rows z blank) P.reached in
      subst (λ (z : ℕ). Passed pos k rows head len f v (steps + 1) (get_or rows at' d).next z) (sym e)
      (record {
        total = omega (arith, tot, some);
        reached = rw (add-one steps) (ap (λ (z : EntryRow). z.next) is ∙ sym (node_next rows head steps));
        within = (within_step rows at' left d some k P.within).1;
        puts = λ w.
            P.puts w ∙ (ap (λ (z : List (Entry Value)). chain rows head steps ++ put pos (field_number f) v w z) step
            ∙ (ap (λ (z : List (Entry Value)). chain rows head steps ++ z)
            (put_skip pos (field_number f) v w (entry_of (get_or rows at' d)) _ t (λ a b. n a (same_field (get_or rows at' d).field f b)))
            ∙ (sym (append_assoc (chain rows head steps) (entry_of (get_or rows at' d) ∷ []) _)
            ∙ ap (λ (z : List (Entry Value)). z ++ put pos (field_number f) v w (chain rows (get_or rows at' d).next (left - 1)))
            (ap (λ (z : EntryRow). chain rows head steps ++ (entry_of z ∷ [])) is
            ∙ (sym (chain_one rows head steps) ∙ ap (chain rows head) (sym (add-one steps)))))));
      })
