-- A table whose row 0 is blank holds item 0 alone.
use Rattle.std.proofs.Common.{◌≡◌, ℕ, ◌<◌, ◌≤◌, List, [], ◌∷◌, length, set, None, sym, refl, ap, ◌∙◌, subst, inl, inr, arith, lit≤}
use Rattle.std.proofs.lemmas.Bool.{eq-eqb, ne_eqb, false≢true, cases_eq}
use Rattle.std.proofs.lemmas.List.{length-set}
use Rattle.labels.specs.Labels.{fresh}
use Rattle.linked_lists.proofs.Rows.{field_same}
use Rattle.linked_lists.specs.Chain.{Sound, Above, blank, tag_at, listed, labelled}
use Rattle.linked_lists.specs.declared.row.Row.{Row}

module _ {T : Type 0} (t : T) (rows : List (Row T)) (limit : ℕ) (lo : 0 < limit) (hi : limit ≤ 4096) (room : limit ≤ length rows) where
  pub fresh_sound : Sound (set rows 0 (blank t)) 1 limit
  fresh_sound = record {
    some = lit≤ tt;
    few = lo;
    small = hi;
    room = simp length-set room;
    links = record {
      linked = (refl, field_same (λ (r : Row T). r.next) None rows 0 (blank t) (omega arith));
      backed = (field_same (λ (r : Row T). r.prev) None rows 0 (blank t) (omega arith), tt);
      distinct = (refl, tt);
      long = refl;
      known = λ a h. simp (eq-eqb 0 a (omega arith));
      within = λ a m. elim (cases_eq 0 a) [ inl e ↦ omega arith | inr d ↦ absurd (false≢true (simp (ne_eqb 0 a d) at m)) ];
    };
  }

-- the same as the code has it: F are the rows of a new table, and k is the count of its items
module _ {T : Type 0} (t : T) (rows : List (Row T)) {F : List (Row T)} {k limit : ℕ} (s : Sound F k limit) (e : F ≡ set rows 0 (blank t)) (one : k ≡ 1) where
  pub made_items : listed F k ≡ 0 ∷ []
  made_items = ap (listed F) one

  pub made_tag : (d : T) → tag_at d F 0 ≡ t
  made_tag d =
      ap (λ (G : List (Row T)). tag_at d G 0) e
      ∙ field_same (λ (r : Row T). r.tag) d rows 0 (blank t)
      (let a = s.some in let b = s.few in let c = s.room in let l = ap length e in let m = length-set rows 0 (blank t) in omega arith)

  -- labels rise along a list of one item whose label is 0
  pub made_rising : (lab : ℕ → ℕ) → lab 0 ≡ 0 → Above lab 0 (listed F k)
  made_rising lab z = subst (λ (xs : List ℕ). Above lab 0 xs) (sym made_items) (omega arith, omega arith)

pub made_entries : (rows : List (Row ℕ)) {F : List (Row ℕ)} {k limit : ℕ} → Sound F k limit → F ≡ set rows 0 (blank 0) → k ≡ 1 → labelled F k ≡ fresh
made_entries rows {F} s e one = ap (labelled F) one ∙ ap (λ (l : ℕ). (0, l) ∷ []) (made_tag 0 rows s e one 0)
