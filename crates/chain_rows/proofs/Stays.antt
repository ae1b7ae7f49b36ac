-- What a put leaves of the table, from where find came to.
use Rattle.std.proofs.Common.{◌≡◌, ℕ, suc, ◌+◌, ◌-◌, ◌<◌, Some, None, List, length, get_or, set, sym, ap, ◌∙◌, subst, arith, length-set}
use Rattle.std.proofs.lemmas.List.{get_or_default}
use Rattle.chain_rows.specs.declared.row.Chain.{Chain}
use Rattle.chain_rows.specs.declared.row.EntryRow.{EntryRow}
use Rattle.chain_rows.specs.declared.row.Gap.{Gap}
use Rattle.fields.specs.declared.kinds.Field.{Field}
use Rattle.fields.specs.declared.kinds.Value.{Value}
use Rattle.chain_rows.specs.Chains.{blank, node, Chained, Frame, Drawn, Grows, relinked}
use Rattle.chain_rows.specs.Spots.{Replaces, Enters}
use Rattle.chain_rows.proofs.Nodes.{inserted_drawn}
use Rattle.chain_rows.proofs.Puts.{found_at, found_first, found_behind, found_prev}
use Rattle.chain_rows.proofs.Keeps.{same_chained, same_drawn, same_frame, first_inserted, first_frame, first_chained, behind_inserted, behind_frame, behind_chained}

-- a chain of one row more
one_longer : (k u : ℕ) (rows rows' : List EntryRow) (from : Chain) (h : ℕ) → Frame u from.head from.len rows rows' → Chained k (u + 1) rows' h (from.len + 1)
    → Drawn u rows from.head from.len rows' h (from.len + 1) → Grows k u rows rows' from (record { head = h; len = from.len + 1 })
one_longer k u rows rows' from h F C D = record {
  longer = (omega arith, omega arith);
  frame = F;
  kept = subst (λ (z : ℕ). Chained k (u + z) rows' h (from.len + 1)) (let e : 1 ≡ from.len + 1 - from.len = omega arith in e) C;
  drawn = D;
}

module _ (pos : ℕ → ℕ) (k u : ℕ) (rows : List EntryRow) (from : Chain) (f : Field) (v : ℕ) (w : Value) (C : Chained k u rows from.head from.len) (lv : v < k) where
  pub grows_same : (at : ℕ) (d : EntryRow) → Replaces pos k rows from.head from.len f v at
      → Grows k u rows (set rows at (record { version = v; field = f; value = w; next = (get_or rows at d).next })) from from
  grows_same at d R =
      let l = found_at pos k rows from.head from.len f v at R in
      let e : (get_or rows at d).next ≡ (get_or rows at blank).next = ap (λ (z : EntryRow). z.next) (get_or_default rows at d blank l) in
      let tot = R.passed.total in
      let h = R.here in record {
        longer = (omega arith, omega arith);
        frame = same_frame u rows from.head from.len R.steps at _ (omega (arith, tot, h)) R.passed.reached;
        kept = subst (λ (z : ℕ). Chained k z (set rows at (record { version = v; field = f; value = w; next = (get_or rows at d).next })) from.head from.len)
            (let e : u ≡ u + (from.len - from.len) = omega arith in e)
            (same_chained k u rows from.head from.len at (record { version = v; field = f; value = w; next = (get_or rows at d).next }) l e lv C);
        drawn = same_drawn u rows from.head from.len at (record { version = v; field = f; value = w; next = (get_or rows at d).next }) l e;
      }

  module _ (gap : Gap) (E : Enters pos k rows from.head from.len f v gap) (lu : u < length rows) where
    pub grows_first : gap.prev ≡ None
        → Grows k u rows (set rows u (record { version = v; field = f; value = w; next = gap.next })) from (record { head = u; len = from.len + 1 })
    grows_first n =
        let e = (found_first pos k rows from.head from.len f v gap w E n).1 in
        let new : EntryRow = record { version = v; field = f; value = w; next = gap.next } in
        one_longer k u rows _ from u
        (first_frame u rows from.head from.len new)
        (first_chained k u rows from.head from.len new lu e lv C)
        (inserted_drawn u 0 rows from.head from.len _ u (first_inserted u rows from.head from.len new lu e C.0))

    pub grows_behind : (prev : ℕ) → gap.prev ≡ Some prev → (R : List EntryRow) (d : EntryRow) → R ≡ set rows u (record { version = v; field = f; value = w; next = gap.next })
        → Grows k u rows (set R prev (relinked (get_or R prev d) u)) from (record { head = from.head; len = from.len + 1 })
    grows_behind prev some R d r =
        let new : EntryRow = record { version = v; field = f; value = w; next = gap.next } in
        let B = found_behind pos k rows from.head from.len f v gap w E prev some in
        let lp = found_prev pos k rows from.head from.len f v gap w E prev some u C.0 in
        let ls = length-set rows u new in
        let last : EntryRow = get_or (set rows u new) prev d in
        let is : get_or (set rows u new) prev d ≡ get_or (set rows u new) (node rows from.head B.0) blank =
        get_or_default (set rows u new) prev d blank (omega (arith, lp, lu, ls)) ∙ ap (λ (z : ℕ). get_or (set rows u new) z blank) B.2 in
        let nx : gap.next ≡ node rows from.head (suc B.0) = E.passed.reached ∙ ap (node rows from.head) B.1 in
        subst (λ (z : List EntryRow). Grows k u rows (set z prev (relinked (get_or z prev d) u)) from (record { head = from.head; len = from.len + 1 })) (sym r)
        (subst (λ (z : ℕ). Grows k u rows (set (set rows u new) z (relinked last u)) from (record { head = from.head; len = from.len + 1 })) (sym B.2)
        (one_longer k u rows _ from from.head
        (behind_frame k u B.0 rows from.head from.len new last C B.3 lu nx is)
        (behind_chained k u B.0 rows from.head from.len new last C B.3 lu nx is lv)
        (inserted_drawn u (suc B.0) rows from.head from.len _ from.head (behind_inserted k u B.0 rows from.head from.len new last C B.3 lu nx is))))
