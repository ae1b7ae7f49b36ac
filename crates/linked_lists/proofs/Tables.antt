-- What the writes to a table leave of its invariant.
use Rattle.std.proofs.Common.{◌≡◌, ℕ, ◌+◌, ◌<◌, List, length, get_or, set, Option, sym, ap, ◌∙◌, subst, arith}
use Rattle.std.proofs.lemmas.List.{length-set}
use Rattle.linked_lists.proofs.Linking.{next_fits, links_linked, length_linked, links_retagged}
use Rattle.linked_lists.proofs.Rows.{row_read}
use Rattle.linked_lists.specs.Chain.{Sound, linked_rows, next_at, prev_at}
use Rattle.linked_lists.specs.declared.row.Row.{Row}

module _ {T : Type 0} {rows : List (Row T)} {n limit : ℕ} (s : Sound rows n limit) (a : ℕ) (t : T) (h : a < n) where
  pub sound_linked : n < limit → (F : List (Row T)) → F ≡ linked_rows rows a n t → Sound F (n + 1) limit
  sound_linked k F e =
      let r = s.room in
      let hn : n < length rows = omega arith in
      let l = length_linked rows a n t h hn (next_fits rows n a s.links h) in
      subst (λ (R : List (Row T)). Sound R (n + 1) limit) (sym e)
      (record {
        some = omega arith;
        few = omega arith;
        small = s.small;
        room = omega arith;
        links = links_linked rows a n t h hn (next_fits rows n a s.links h) s.links;
      })

  in_table : a < length rows
  in_table = let f = s.few in let r = s.room in omega arith

  pub sound_retagged : (r : Row T) → r ≡ get_or rows a r → Sound (set rows a (record { tag = t; next = r.next; prev = r.prev })) n limit
  sound_retagged r e =
      let is = row_read rows a r in_table e in
      let row : record { tag = t; next = next_at rows a; prev = prev_at rows a } ≡ record { tag = t; next = r.next; prev = r.prev } =
      ap (λ (o : Option ℕ). record { tag = t; next = o; prev = prev_at rows a }) (sym is.next) ∙ ap (λ (o : Option ℕ). record { tag = t; next = r.next; prev = o }) (sym is.prev) in
      let l = length-set rows a (record { tag = t; next = next_at rows a; prev = prev_at rows a }) in
      let k = s.room in
      subst (λ (q : Row T). Sound (set rows a q) n limit) row
      (record {
        some = s.some;
        few = s.few;
        small = s.small;
        room = omega arith;
        links = links_retagged rows a t in_table n s.links;
      })
