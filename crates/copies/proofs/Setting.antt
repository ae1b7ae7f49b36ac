-- A field of a copy after its change: a new first value, or an entry.
use Rattle.std.proofs.Common.{◌≡◌, ℕ, ◌+◌, ◌<◌, ◌≤◌, Bool, Option, true, false, cond, eqb, ltb, List, length, vec_len, sym, ap, ◌∙◌, subst, inl, inr, arith}
use Rattle.std.specs.Option.{is_some}
use Rattle.std.proofs.lemmas.Bool.{cases_Bool, cases_eq, eq-eqb, ne_eqb}
use Rattle.fields.specs.declared.kinds.Value.{Value}
use Rattle.order.specs.Items.{member, known, position}
use Rattle.entries.specs.Entries.{Entry, both, put}
use Rattle.entries.proofs.Counting.{keep_adds, put_adds}
use Rattle.slices.specs.Copies.{Copy, value_at}
use Rattle.chain_rows.proofs.Orders.{apart}
use Rattle.chains.specs.declared.table.ChainTable.{ChainTable}
use Rattle.chains.specs.Views.{Alters, asked, entries_of}
use Rattle.chains.proofs.Asked.{is_asked}
use Rattle.copy_rows.specs.declared.row.CopyRow.{CopyRow}
use Rattle.copy_rows.specs.Rows.{first_of, Renewed}
use Rattle.copies.specs.declared.table.CopyTable.{CopyTable}
use Rattle.copies.specs.Views.{RowSet, Holds, Changes, behind_of, held, row_at, copy_of}
use Rattle.copies.proofs.Owning.{in_rows}

-- a copy by its row and its entries
abbrev copy_with : CopyRow → List (Entry Value) → Copy
copy_with r es = record { serial = r.serial; key = r.key; lo = r.lo; first = first_of r; entries = es }

copy_same : (r r' : CopyRow) (es es' : List (Entry Value)) → r' ≡ r → es' ≡ es → copy_with r' es' ≡ copy_with r es
copy_same r r' es es' a b = λ z. copy_with (a z) (b z)

-- at most one entry comes in
held_adds : (pos : ℕ → ℕ) (u : ℕ) (behind : Option ℕ) (f : ℕ) (k : Copy) → length (held pos u behind f k) ≤ length k.entries + 1
held_adds pos u behind f k =
    let q = (keep_adds pos f (behind_of behind) (value_at pos (pos u) k f) k.entries).0 in
    elim (cases_Bool (is_some behind)) [ inl t ↦ rw t q | inr t ↦ rw t (omega arith) ]

-- the copy begins at u: a new first value
pub first_changes : (pos : ℕ → ℕ) (n u : ℕ) (behind : Option ℕ) (i f : ℕ) (w : Value) (t a t' : CopyTable) (row row' : CopyRow) → Holds pos n u behind i f t a
    → (i ≤ vec_len a.copies → row ≡ row_at a i) → row.lo ≡ u → Renewed row f w row' → RowSet i row' a t'
    → Changes pos n u behind i f w t t'
first_changes pos n u behind i f w t a t' row row' H row_is at N R =
    let near = λ (l : i ≤ vec_len t.copies). row_is (subst (λ (z : ℕ). i ≤ z) (sym H.same.long) l) ∙ H.same.rows i in
    let now_is = λ (l : i ≤ vec_len t.copies). R.here (subst (λ (z : ℕ). i ≤ z) (sym H.same.long) l) in
    record {
      nodes = R.nodes ∙ H.same.nodes;
      long = R.long ∙ H.same.long;
      made = ap (λ (c : ChainTable). c.made) R.chains ∙ H.made;
      versions = ap (λ (c : ChainTable). c.versions) R.chains ∙ H.versions;
      room = ap (λ (c : ChainTable). vec_len c.rows) R.chains ∙ H.room;
      marks = λ j l.
          elim (cases_eq j i) [
            | inl e ↦
                let li : i ≤ vec_len t.copies = subst (λ (z : ℕ). z ≤ vec_len t.copies) e l in
                subst (λ (z : ℕ). ((row_at t' z).lo ≡ (row_at t z).lo) × ((row_at t' z).next ≡ (row_at t z).next)) (sym e) (
                  ap (λ (r : CopyRow). r.lo) (now_is li) ∙ (N.lo ∙ ap (λ (r : CopyRow). r.lo) (near li)),
                  ap (λ (r : CopyRow). r.next) (now_is li) ∙ (N.next ∙ ap (λ (r : CopyRow). r.next) (near li)),
                )
            | inr m ↦
                let q = R.others j m ∙ H.same.rows j in
                (ap (λ (r : CopyRow). r.lo) q, ap (λ (r : CopyRow). r.next) q)
          ];
      others = λ j l m.
          copy_same (row_at t j) (row_at t' j) (entries_of t.chains j) (entries_of t'.chains j) (R.others j m ∙ H.same.rows j)
          (ap (λ (c : ChainTable). entries_of c j) R.chains ∙ H.others j l m);
      here = λ P st au near_asked free.
          let A = is_asked t.chains n i u (sym au) in
          let li = in_rows t i P A.there in
          let E = H.here (P, au, near_asked, free) in
          let e = near li in
          let b : eqb (pos u) (pos (row_at t i).lo) ≡ true = eq-eqb (pos u) (pos (row_at t i).lo) (ap pos (sym at ∙ ap (λ (r : CopyRow). r.lo) e)) in
          let serial = ap (λ (r : CopyRow). r.serial) (now_is li) ∙ (N.serial ∙ ap (λ (r : CopyRow). r.serial) e) in
          let key = ap (λ (r : CopyRow). r.key) (now_is li) ∙ (N.key ∙ ap (λ (r : CopyRow). r.key) e) in
          let lo = ap (λ (r : CopyRow). r.lo) (now_is li) ∙ (N.lo ∙ ap (λ (r : CopyRow). r.lo) e) in
          let first = λ (g : ℕ).
          ap (λ (r : CopyRow). first_of r g) (now_is li)
          ∙ (N.first st g
          ∙ (ap (λ (r : CopyRow). cond (eqb g f) w (first_of r g)) e
          ∙ sym (ap (λ (x : Bool). cond (both x (eqb g f)) w (first_of (row_at t i) g)) b))) in
          let entries =
          ap (λ (c : ChainTable). entries_of c i) R.chains
          ∙ (E.0
          ∙ sym (ap (λ (x : Bool). cond x (held pos u behind f (copy_of t i)) (put pos f u w (held pos u behind f (copy_of t i)))) b)) in (
            (λ z. record { serial = serial z; key = key z; lo = lo z; first = λ g. first g z; entries = entries z }),
            subst (λ (c : ChainTable). c.used + length (entries_of t.chains i) ≡ t.chains.used + length (entries_of c i)) (sym R.chains) E.1,
          );
    }

-- the copy begins before u: an entry at u
pub put_changes : (xs : List ℕ) → ((b : ℕ) → member xs b ≡ known xs b) → (u : ℕ) (behind : Option ℕ) (i f : ℕ) (w : Value) (t a : CopyTable) (chains : ChainTable) (row : CopyRow)
    → Holds (position xs) (length xs) u behind i f t a
    → (i ≤ vec_len a.copies → row ≡ row_at a i) → (row.lo ≡ u → ⊥)
    → Alters (asked a.chains (length xs) i u) a.chains chains i (put (position xs) f u w (entries_of a.chains i))
    → Changes (position xs) (length xs) u behind i f w t (record { root = a.root; copies = a.copies; chains = chains; nodes = a.nodes })
put_changes xs numbered u behind i f w t a chains row H row_is off L =
    record {
      nodes = H.same.nodes;
      long = H.same.long;
      made = L.made ∙ H.made;
      versions = L.versions ∙ H.versions;
      room = L.rows ∙ H.room;
      marks = λ j l. (ap (λ (r : CopyRow). r.lo) (H.same.rows j), ap (λ (r : CopyRow). r.next) (H.same.rows j));
      others = λ j l m.
          copy_same (row_at t j) (row_at a j) (entries_of t.chains j) (entries_of chains j) (H.same.rows j)
          (L.others j (subst (λ (z : ℕ). j < z) (sym H.made) l) m ∙ H.others j l m);
      here = λ P st au near_asked free.
          let A = is_asked t.chains (length xs) i u (sym au) in
          let li = in_rows t i P A.there in
          let E = H.here (P, au, near_asked, free) in
          let e : row ≡ row_at t i = row_is (subst (λ (z : ℕ). i ≤ z) (sym H.same.long) li) ∙ H.same.rows i in
          let lu : u < length xs = subst (λ (z : ℕ). u < z) A.same A.version in
          let ll : (row_at t i).lo < length xs = subst (λ (z : ℕ). (row_at t i).lo < z) A.same (P.known i A.there) in
          let b : eqb (position xs u) (position xs (row_at t i).lo) ≡ false =
          ne_eqb (position xs u) (position xs (row_at t i).lo)
          (λ q. off (ap (λ (r : CopyRow). r.lo) e ∙ sym (apart xs numbered u (row_at t i).lo lu ll q))) in
          let told : asked a.chains (length xs) i u ≡ true =
          ap (λ (z : ℕ). both (ltb i z) (both (ltb u a.chains.versions) (eqb (length xs) a.chains.versions))) H.made
          ∙ (ap (λ (z : ℕ). both (ltb i t.chains.made) (both (ltb u z) (eqb (length xs) z))) H.versions ∙ au) in
          let adds = (put_adds (position xs) f u w (entries_of a.chains i)).0 in
          let few = subst (λ (l : List (Entry Value)). length l ≤ length (entries_of t.chains i) + 1) (sym E.0) (held_adds (position xs) u behind f (copy_of t i)) in
          let taken = E.1 in
          let room = H.room in
          let D = L.here told (omega (arith, adds, few, taken, room, free)) in
          let first = λ (g : ℕ). ap (λ (r : CopyRow). first_of r g) (H.same.rows i) ∙ sym (ap (λ (x : Bool). cond (both x (eqb g f)) w (first_of (row_at t i) g)) b) in
          let entries =
          D.0
          ∙ (ap (λ (l : List (Entry Value)). put (position xs) f u w l) E.0
          ∙ sym (ap (λ (x : Bool). cond x (held (position xs) u behind f (copy_of t i)) (put (position xs) f u w (held (position xs) u behind f (copy_of t i)))) b)) in
          let long = ap length D.0 in
          let used = D.1 in (
            (λ z. record { serial = (H.same.rows i z).serial; key = (H.same.rows i z).key; lo = (H.same.rows i z).lo; first = λ g. first g z; entries = entries z }),
            omega (arith, taken, used, long),
          );
    }
