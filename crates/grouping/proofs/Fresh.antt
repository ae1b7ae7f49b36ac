-- A table of item 0 alone, in group 0: F are its rows, and k is the count of its items.
use Rattle.std.proofs.Common.{◌≡◌, ℕ, ◌+◌, ◌*◌, List, [], ◌∷◌, set, sym, ap, ◌∙◌, subst, arith, lit≤}
use Rattle.std.proofs.lemmas.Bool.{eq-eqb}
use Rattle.grouping.specs.Blocks.{flat, Grouped}
use Rattle.grouping.specs.Groups.{Item, Sound, blocked, first_seat, seat_at, group_at, rank_at, key}
use Rattle.grouping.specs.declared.item.Seat.{Seat}
use Rattle.linked_lists.proofs.Fresh.{made_items, made_tag, made_rising}
use Rattle.linked_lists.specs.Chain as lists
use Rattle.linked_lists.specs.Chain.{listed, blank}
use Rattle.order.specs.Items.{position}

module _ (rows : List Item) {F : List Item} {k limit : ℕ} (s : lists.Sound F k limit) (e : F ≡ set rows 0 (blank first_seat)) (n : k ≡ 1)
    (groups : List ℕ) (gs : groups ≡ 0 ∷ []) where
  start : seat_at F 0 ≡ first_seat
  start = made_tag first_seat rows s e n first_seat

  in_0 : group_at F 0 ≡ 0
  in_0 = ap (λ (t : Seat). t.group) start

  rank_0 : rank_at F 0 ≡ 0
  rank_0 = ap (λ (t : Seat). t.rank) start

  key_0 : key F groups 0 ≡ 0
  key_0 = ap (λ (l : List ℕ). key F l 0) gs ∙ ap (λ (t : Seat). position (0 ∷ []) t.group * 64 + t.rank) start

  pub fresh_blocks : blocked F groups k ≡ (0 ∷ []) ∷ []
  fresh_blocks = ap (λ (i : ℕ). blocked F groups i) n ∙ (ap (λ (l : List ℕ). blocked F l 1) gs ∙ one)
    where
      one : blocked F (0 ∷ []) 1 ≡ (0 ∷ []) ∷ []
      one = simp (eq-eqb (group_at F 0) 0 in_0)

  pub fresh_sound : (glimit : ℕ) → glimit ≡ limit → Sound F groups glimit k limit
  fresh_sound glimit gl = record {
    rising = made_rising first_seat rows s e n (key F groups) key_0;
    same = gl;
    blocks = subst (λ (l : List ℕ). Grouped (group_at F) (rank_at F) l (blocked F groups k)) (sym gs)
        (subst (λ (b : List (List ℕ)). Grouped (group_at F) (rank_at F) (0 ∷ []) b) (sym fresh_blocks)
        (record { all = (in_0, tt); ranks = (omega arith, let r = rank_0 in omega arith); some = lit≤ tt; few = lit≤ tt }, tt));
    whole = ap flat fresh_blocks ∙ sym (made_items first_seat rows s e n);
  }
