-- A walk that renames the values of a field.
use Rattle.std.proofs.Common.{◌≡◌, ℕ, zero, suc, ◌+◌, ◌<◌, ◌≤◌, true, false, cond, eqb, ltb, leb, List, ◌∷◌, length, get_or, set, sym, refl, ap, ◌∙◌, subst, inl, inr, arith, length-set}
use Rattle.std.proofs.lemmas.List.{get_or-set_same, get_or-set_other, get_or_default}
use Rattle.std.proofs.lemmas.Bool.{cases_Bool, cases_eq}
use Rattle.chain_rows.specs.declared.row.EntryRow.{EntryRow}
use Rattle.fields.specs.declared.kinds.Field.{Field}
use Rattle.fields.specs.declared.kinds.Value.{Value}
use Rattle.fields.specs.Fields.{field_number}
use Rattle.fields.proofs.Numbers.{same_number, other_number}
use Rattle.entries.specs.Entries.{Entry, entry, both, mapped}
use Rattle.chain_rows.specs.Chains.{blank, entry_of, chain, node, Chained, Off, Shape}
use Rattle.chain_rows.proofs.Nodes.{node_next}

abbrev pub turned_entry : (ℕ → ℕ) → (Value → Value) → ℕ → ℕ → Entry Value → Entry Value
turned_entry pos r f x e = cond (both (eqb e.field f) (leb x (pos e.version))) (entry e.version e.field (r e.value)) e

-- what a turn made of a row
pub record Turn (pos : ℕ → ℕ) (r : Value → Value) (f x : ℕ) (row new : EntryRow) : Type 0 where
  pub ver_is : new.version ≡ row.version
  pub fld_is : new.field ≡ row.field
  pub next_is : new.next ≡ row.next
  pub val_is : new.value ≡ cond (both (eqb (field_number row.field) f) (leb x (pos row.version))) (r row.value) row.value

turned : (pos : ℕ → ℕ) (r : Value → Value) (f x : ℕ) (row new : EntryRow) → Turn pos r f x row new
    → cond (both (eqb (field_number row.field) f) (leb x (pos row.version))) (entry row.version (field_number row.field) (r row.value)) (entry_of row) ≡ entry_of new
turned pos r f x row new T =
    elim (cases_Bool (both (eqb (field_number row.field) f) (leb x (pos row.version)))) [
      | inl t ↦ let v : new.value ≡ r row.value = rw t at T.val_is in
          rw t (ap (λ (z : ℕ). entry z (field_number row.field) (r row.value)) (sym T.ver_is) ∙ (ap (λ (z : ℕ). entry new.version z (r row.value)) (ap field_number (sym T.fld_is)) ∙ ap (entry new.version (field_number new.field)) (sym v)))
      | inr t ↦ let v : new.value ≡ row.value = rw t at T.val_is in
          rw t (ap (λ (z : ℕ). entry z (field_number row.field) row.value) (sym T.ver_is) ∙ (ap (λ (z : ℕ). entry new.version z row.value) (ap field_number (sym T.fld_is)) ∙ ap (entry new.version (field_number new.field)) (sym v)))
    ]

-- the first steps rows hold what they should, the rest are as they were
pub record Done (pos : ℕ → ℕ) (r : Value → Value) (f x : ℕ) (old rows : List EntryRow) (head len at steps : ℕ) : Type 0 where
  pub short : steps ≤ len
  pub reached : at ≡ node old head steps
  pub shape : Shape old rows
  pub long : length rows ≡ length old
  pub frame : (j : ℕ) → Off j old head len → get_or rows j blank ≡ get_or old j blank
  pub done : (a : ℕ) → a < steps → entry_of (get_or rows (node old head a) blank) ≡ turned_entry pos r f x (entry_of (get_or old (node old head a) blank))
  pub rest : (a : ℕ) → steps ≤ a → a < len → get_or rows (node old head a) blank ≡ get_or old (node old head a) blank

chain_points : (pos : ℕ → ℕ) (r : Value → Value) (f x : ℕ) (old rows : List EntryRow) (h n : ℕ) → Shape old rows
    → ((a : ℕ) → a < n → entry_of (get_or rows (node old h a) blank) ≡ turned_entry pos r f x (entry_of (get_or old (node old h a) blank)))
    → chain rows h n ≡ mapped pos r f x (chain old h n)
chain_points pos r f x old rows h zero s d = refl
chain_points pos r f x old rows h (suc n) s d =
    ap (λ (z : Entry Value). z ∷ chain rows (get_or rows h blank).next n) (d 0 (omega arith))
    ∙ ap (λ (z : List (Entry Value)). turned_entry pos r f x (entry_of (get_or old h blank)) ∷ z)
    (ap (λ (z : ℕ). chain rows z n) (s h).0 ∙ chain_points pos r f x old rows (get_or old h blank).next n s (λ a l. d (suc a) (omega (arith, l))))

pub done_all : (pos : ℕ → ℕ) (r : Value → Value) (f x : ℕ) (old rows : List EntryRow) (head len at steps : ℕ) → Done pos r f x old rows head len at steps → len ≤ steps
    → chain rows head len ≡ mapped pos r f x (chain old head len)
done_all pos r f x old rows head len at steps D z =
    chain_points pos r f x old rows head len D.shape (λ a l. D.done a (omega (arith, l, z)))

pub done_at : (pos : ℕ → ℕ) (k u : ℕ) (r : Value → Value) (f x : ℕ) (old rows : List EntryRow) (head len at steps : ℕ) → Done pos r f x old rows head len at steps → Chained k u old head len → u ≤ length old
    → steps < len → at < length rows
done_at pos k u r f x old rows head len at steps D C l some =
    let s = D.short in
    let q = C.0 steps (omega (arith, some, s)) in
    let e = D.reached in
    let g = D.long in
    omega (arith, q, e, g, l)

pub done_version : (pos : ℕ → ℕ) (k u : ℕ) (r : Value → Value) (f x : ℕ) (old rows : List EntryRow) (head len at steps : ℕ) (d : EntryRow) → Done pos r f x old rows head len at steps → Chained k u old head len → u ≤ length old
    → steps < len → (get_or rows at d).version < k
done_version pos k u r f x old rows head len at steps d D C l some =
    let s = D.short in
    let ri : get_or rows at d ≡ get_or rows at blank = get_or_default rows at d blank (done_at pos k u r f x old rows head len at steps D C l some) in
    subst (λ (z : ℕ). z < k) (sym (ap (λ (z : EntryRow). z.version) ri ∙ ((D.shape at).1 ∙ ap (λ (z : ℕ). (get_or old z blank).version) D.reached)))
    (C.1 steps (omega (arith, some, s)))

pub done_more : (pos : ℕ → ℕ) (k u : ℕ) (r : Value → Value) (f x : ℕ) (old rows : List EntryRow) (head len at steps : ℕ) (d new : EntryRow) → Done pos r f x old rows head len at steps → Chained k u old head len → u ≤ length old
    → steps < len → Turn pos r f x (get_or rows at d) new
    → Done pos r f x old (set rows at new) head len new.next (steps + 1)
done_more pos k u r f x old rows head len at steps d new D C l some T =
    let s = D.short in
    let lt = done_at pos k u r f x old rows head len at steps D C l some in
    let ri : get_or rows at d ≡ get_or rows at blank = get_or_default rows at d blank lt in
    let ra = D.reached in
    let e : steps + 1 ≡ suc steps = omega (arith, s, some) in
    let ml : steps < len = omega (arith, s, some) in
    let nx : new.next ≡ (get_or old at blank).next = T.next_is ∙ (ap (λ (z : EntryRow). z.next) ri ∙ (D.shape at).0) in
    let vx : new.version ≡ (get_or old at blank).version = T.ver_is ∙ (ap (λ (z : EntryRow). z.version) ri ∙ (D.shape at).1) in
    let g : get_or (set rows at new) at blank ≡ new = get_or-set_same rows at new blank lt in
    let ro : get_or rows at d ≡ get_or old (node old head steps) blank = ri ∙ (ap (λ (z : ℕ). get_or rows z blank) ra ∙ D.rest steps (omega arith) ml) in
    let off : (a : ℕ) → a < len → (a ≡ steps → ⊥) → node old head a ≡ at → ⊥ = λ a la ne q. ne (C.2 a steps la ml (q ∙ ra)) in
    record {
      short = omega (arith, s);
      reached = nx ∙ (ap (λ (z : ℕ). (get_or old z blank).next) ra ∙ (sym (node_next old head steps) ∙ ap (node old head) (sym e)));
      shape = λ j. elim (cases_eq j at) [
        | inl q ↦ (
          ap (λ (z : ℕ). (get_or (set rows at new) z blank).next) q ∙ (ap (λ (z : EntryRow). z.next) g ∙ (nx ∙ ap (λ (z : ℕ). (get_or old z blank).next) (sym q))),
          ap (λ (z : ℕ). (get_or (set rows at new) z blank).version) q ∙ (ap (λ (z : EntryRow). z.version) g ∙ (vx ∙ ap (λ (z : ℕ). (get_or old z blank).version) (sym q))),
        )
        | inr q ↦ (ap (λ (z : EntryRow). z.next) (get_or-set_other rows at j new blank q) ∙ (D.shape j).0, ap (λ (z : EntryRow). z.version) (get_or-set_other rows at j new blank q) ∙ (D.shape j).1)
      ];
      long = length-set rows at new ∙ D.long;
      frame = λ j o. get_or-set_other rows at j new blank (λ q. o steps ml (sym ra ∙ sym q)) ∙ D.frame j o;
      done = λ a la. elim (cases_eq a steps) [
        | inl q ↦
            ap (λ (z : ℕ). entry_of (get_or (set rows at new) (node old head z) blank)) q
            ∙ (ap (λ (z : ℕ). entry_of (get_or (set rows at new) z blank)) (sym ra)
            ∙ (ap entry_of g
            ∙ (sym (turned pos r f x (get_or rows at d) new T)
            ∙ (ap (λ (z : EntryRow). turned_entry pos r f x (entry_of z)) ro ∙ ap (λ (z : ℕ). turned_entry pos r f x (entry_of (get_or old (node old head z) blank))) (sym q)))))
        | inr q ↦
            ap entry_of (get_or-set_other rows at (node old head a) new blank (off a (omega (arith, la, e, ml)) q)) ∙ D.done a (omega (arith, la, e, q))
      ];
      rest = λ a la lb.
          get_or-set_other rows at (node old head a) new blank (off a lb (λ q. omega (arith, q, la, e))) ∙ D.rest a (omega (arith, la, e)) lb;
    }

-- one turn, by what its tests said
pub turn_hit : (pos : ℕ → ℕ) (r : Value → Value) (f : Field) (x : ℕ) (row new : EntryRow) (v : Value) → row.field ≡ f → false ≡ ltb (pos row.version) x
    → v ≡ r row.value → new ≡ record { version = row.version; field = row.field; value = v; next = row.next } → Turn pos r (field_number f) x row new
turn_hit pos r f x row new v ef l ev e = record {
  ver_is = ap (λ (y : EntryRow). y.version) e;
  fld_is = ap (λ (y : EntryRow). y.field) e;
  next_is = ap (λ (y : EntryRow). y.next) e;
  val_is = let t : both (eqb (field_number row.field) (field_number f)) (leb x (pos row.version)) ≡ true = let q = same_number row.field f ef in grind arith in rw t (ap (λ (y : EntryRow). y.value) e ∙ ev);
}

pub turn_late : (pos : ℕ → ℕ) (r : Value → Value) (f : Field) (x : ℕ) (row new : EntryRow) → true ≡ ltb (pos row.version) x → new ≡ row → Turn pos r (field_number f) x row new
turn_late pos r f x row new l e = record {
  ver_is = ap (λ (y : EntryRow). y.version) e;
  fld_is = ap (λ (y : EntryRow). y.field) e;
  next_is = ap (λ (y : EntryRow). y.next) e;
  val_is = let t : both (eqb (field_number row.field) (field_number f)) (leb x (pos row.version)) ≡ false = grind arith in rw t (ap (λ (y : EntryRow). y.value) e);
}

pub turn_other : (pos : ℕ → ℕ) (r : Value → Value) (f : Field) (x : ℕ) (row new : EntryRow) → (row.field ≡ f → ⊥) → new ≡ row → Turn pos r (field_number f) x row new
turn_other pos r f x row new n e = record {
  ver_is = ap (λ (y : EntryRow). y.version) e;
  fld_is = ap (λ (y : EntryRow). y.field) e;
  next_is = ap (λ (y : EntryRow). y.next) e;
  val_is = let t : both (eqb (field_number row.field) (field_number f)) (leb x (pos row.version)) ≡ false = let q = other_number row.field f n in rw q refl in rw t (ap (λ (y : EntryRow). y.value) e);
}
