-- What a put leaves of a chain.
use Rattle.std.proofs.Common.{◌≡◌, ℕ, zero, suc, ◌+◌, ◌-◌, ◌<◌, ◌≤◌, Some, None, List, ◌∷◌, ◌++◌, length, get_or, set, sym, refl, ap, ◌∙◌, subst, arith, length-append, length-set}
use Rattle.std.proofs.lemmas.List.{get_or-set_same, get_or-set_other, get_or_default}
use Rattle.chain_rows.specs.declared.row.EntryRow.{EntryRow}
use Rattle.chain_rows.specs.declared.row.Gap.{Gap}
use Rattle.fields.specs.declared.kinds.Field.{Field}
use Rattle.fields.specs.declared.kinds.Value.{Value}
use Rattle.fields.specs.Fields.{field_number}
use Rattle.entries.specs.Entries.{Entry, entry, put}
use Rattle.chain_rows.specs.Chains.{blank, entry_of, chain, node, last_of, Below, Chained, Once, relinked}
use Rattle.chain_rows.specs.Spots.{Replaces, Enters}
use Rattle.chain_rows.proofs.Nodes.{Inserted}
use Rattle.chain_rows.proofs.Keeps.{first_inserted, behind_inserted, behind_entries, behind_new}
use Rattle.chain_rows.proofs.Spelling.{inserted_spells, replaced_spells}

last_none : (rows : List EntryRow) (h n : ℕ) → None ≡ last_of rows h n → n ≡ 0
last_none rows h zero e = refl
last_none rows h (suc j) e = cc

last_some : (rows : List EntryRow) (h n p : ℕ) → Some p ≡ last_of rows h n → (j : ℕ) × (n ≡ suc j) × (p ≡ node rows h j)
last_some rows h zero p e = cc
last_some rows h (suc j) p e = (j, refl, (let i : p ≡ node rows h j = cc in i))

pub chain_length : (rows : List EntryRow) (h n : ℕ) → length (chain rows h n) ≡ n
chain_length rows h zero = refl
chain_length rows h (suc n) = ap suc (chain_length rows (get_or rows h blank).next n)

module _ (pos : ℕ → ℕ) (k : ℕ) (rows : List EntryRow) (head len : ℕ) (f : Field) (v : ℕ) where
  pub found_at : (at : ℕ) → Replaces pos k rows head len f v at → at < length rows
  found_at at R = R.passed.within.0 0 R.here

  pub puts_same : (at : ℕ) (w : Value) (d : EntryRow) → Replaces pos k rows head len f v at → Once rows head len
      → chain (set rows at (record { version = v; field = f; value = w; next = (get_or rows at d).next })) head len ≡ put pos (field_number f) v w (chain rows head len)
  puts_same at w d R o =
      let h = R.here in
      let tot = R.passed.total in
      let q : len ≡ R.steps + suc (R.left - 1) = omega (arith, h, tot) in
      let l = found_at at R in
      let new : EntryRow = record { version = v; field = f; value = w; next = (get_or rows at d).next } in
      ap (chain (set rows at new) head) q
      ∙ (replaced_spells rows head R.steps (R.left - 1) at new (subst (Once rows head) q o) R.passed.reached l (ap (λ (z : EntryRow). z.next) (get_or_default rows at d blank l))
      ∙ sym (R.passed.puts w ∙ ap (λ (es : List (Entry Value)). chain rows head R.steps ++ es) (R.placed w)))

  module _ (gap : Gap) (w : Value) (E : Enters pos k rows head len f v gap) where
    whole : put pos (field_number f) v w (chain rows head len) ≡ chain rows head E.steps ++ (entry v (field_number f) w ∷ chain rows gap.next E.left)
    whole = E.passed.puts w ∙ ap (λ (es : List (Entry Value)). chain rows head E.steps ++ es) (E.placed w)

    -- an entry that replaces none makes the list longer by one
    pub found_grows : length (put pos (field_number f) v w (chain rows head len)) ≡ len + 1
    found_grows =
        let a = ap (λ (es : List (Entry Value)). length es) whole in
        let b = length-append (chain rows head E.steps) (entry v (field_number f) w ∷ chain rows gap.next E.left) in
        let c = chain_length rows head E.steps in
        let d = chain_length rows gap.next E.left in
        let tot = E.passed.total in
        omega (arith, a, b, c, d, tot)

    -- a new row that comes in there
    puts_inserted : (u : ℕ) (R : List EntryRow) (h : ℕ) → Inserted u E.steps rows head len R h
        → ((a : ℕ) → a < len → entry_of (get_or R (node rows head a) blank) ≡ entry_of (get_or rows (node rows head a) blank))
        → get_or R u blank ≡ record { version = v; field = f; value = w; next = gap.next }
        → chain R h (len + 1) ≡ put pos (field_number f) v w (chain rows head len)
    puts_inserted u R h I same new =
        let tot = E.passed.total in
        let e : len - E.steps ≡ E.left = omega (arith, tot) in
        inserted_spells u E.steps rows head len R h I same
        ∙ (ap (λ (z : EntryRow). chain rows head E.steps ++ (entry_of z ∷ chain rows (node rows head E.steps) (len - E.steps))) new
        ∙ (ap (λ (n : ℕ). chain rows head E.steps ++ (entry v (field_number f) w ∷ chain rows (node rows head E.steps) n)) e
        ∙ (ap (λ (at : ℕ). chain rows head E.steps ++ (entry v (field_number f) w ∷ chain rows at E.left)) (sym E.passed.reached) ∙ sym whole)))

    -- no row has been passed
    pub found_first : gap.prev ≡ None → (E.steps ≡ 0) × (gap.next ≡ head)
    found_first n =
        let z = last_none rows head E.steps (sym n ∙ E.last) in
        (z, E.passed.reached ∙ ap (node rows head) z)

    pub puts_first : (u : ℕ) → gap.prev ≡ None → Below u rows head len → u < length rows
        → chain (set rows u (record { version = v; field = f; value = w; next = gap.next })) u (len + 1) ≡ put pos (field_number f) v w (chain rows head len)
    puts_first u n b l =
        let F = found_first n in
        let new : EntryRow = record { version = v; field = f; value = w; next = gap.next } in
        puts_inserted u (set rows u new) u
        (subst (λ (z : ℕ). Inserted u z rows head len (set rows u new) u) (sym F.0) (first_inserted u rows head len new l F.1 b))
        (λ a la. let q = b a la in ap entry_of (get_or-set_other rows u (node rows head a) new blank (λ z. omega (arith, z, q))))
        (get_or-set_same rows u new blank l)

    -- the last row passed
    module _ (prev : ℕ) (some : gap.prev ≡ Some prev) where
      pub found_behind : (j : ℕ) × (E.steps ≡ suc j) × (prev ≡ node rows head j) × (suc j ≤ len)
      found_behind =
          let s = last_some rows head E.steps prev (sym some ∙ E.last) in
          let tot = E.passed.total in
          let e = s.1 in
          (s.0, s.1, s.2, omega (arith, tot, e))

      pub found_prev : (u : ℕ) → Below u rows head len → prev < u
      found_prev u b =
          let B = found_behind in
          let l = B.3 in
          subst (λ (y : ℕ). y < u) (sym B.2) (b B.0 (omega (arith, l)))

      pub puts_behind : (c u : ℕ) (R : List EntryRow) (d : EntryRow) → Chained c u rows head len → u < length rows
          → R ≡ set rows u (record { version = v; field = f; value = w; next = gap.next })
          → chain (set R prev (relinked (get_or R prev d) u)) head (len + 1) ≡ put pos (field_number f) v w (chain rows head len)
      puts_behind c u R d C l r =
          let new : EntryRow = record { version = v; field = f; value = w; next = gap.next } in
          let B = found_behind in
          let lp = found_prev u C.0 in
          let ls = length-set rows u new in
          let last : EntryRow = get_or (set rows u new) prev d in
          let is : get_or (set rows u new) prev d ≡ get_or (set rows u new) (node rows head B.0) blank =
          get_or_default (set rows u new) prev d blank (omega (arith, lp, l, ls)) ∙ ap (λ (z : ℕ). get_or (set rows u new) z blank) B.2 in
          let nx : gap.next ≡ node rows head (suc B.0) = E.passed.reached ∙ ap (node rows head) B.1 in
          let S = set (set rows u new) (node rows head B.0) (relinked last u) in
          subst (λ (z : List EntryRow). chain (set z prev (relinked (get_or z prev d) u)) head (len + 1) ≡ put pos (field_number f) v w (chain rows head len)) (sym r)
          (subst (λ (z : ℕ). chain (set (set rows u new) z (relinked last u)) head (len + 1) ≡ put pos (field_number f) v w (chain rows head len)) (sym B.2)
          (puts_inserted u S head
          (subst (λ (z : ℕ). Inserted u z rows head len S head) (sym B.1) (behind_inserted c u B.0 rows head len new last C B.3 l nx is))
          (behind_entries c u B.0 rows head len new last C B.3 l nx is) (behind_new c u B.0 rows head len new last C B.3 l nx is)))
