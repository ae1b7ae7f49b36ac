-- One item more, right behind another: the walks that find its group, and what the rows then mean.
use Rattle.std.proofs.Common.{◌≡◌, ℕ, ◌+◌, ◌*◌, ◌<◌, ◌≤◌, true, List, [], ◌∷◌, ◌++◌, length, Some, None, sym, refl, ap, ◌∙◌, subst, inl, inr, arith}
use Rattle.std.proofs.lemmas.Bool.{cases_eq, cases_Bool, both_ways}
use Rattle.grouping.proofs.Blocks.{member_left, member_right, inside_at, grouped_above, blocks_are, groups_few}
use Rattle.grouping.proofs.Found.{Found, find, flat_parts, home_parts, same_groups, more_groups, Numbered, Parted}
use Rattle.grouping.proofs.Laws.{groups_flat}
use Rattle.grouping.proofs.Open.{Opened}
use Rattle.grouping.proofs.Regrouped.{regrouped_out, regrouped_next, regrouped_numbered, regrouped_parted}
use Rattle.grouping.proofs.Walked.{head_of, head_behind, linked_from, walk_is, run_is, first_is, first_stops}
use Rattle.grouping.specs.Blocks.{flat, blocks_with, home, blocks_of, Inside, Grouped}
use Rattle.grouping.specs.Groups.{Item, Sound, blocked, first_seat, seat_at, group_at, rank_at, key, first_of, run_of, regrouped}
use Rattle.grouping.specs.declared.item.Seat.{Seat}
use Rattle.linked_lists.proofs.Insert.{walk_same, above_same}
use Rattle.linked_lists.proofs.Linking.{Fits, links_behind, listed_linked, length_linked, tag_x, tag_n, next_fits}
use Rattle.linked_lists.specs.Chain.{Links, Linked, Backed, Above, walk, listed, next_at, prev_at, linked_rows}
use Rattle.order.proofs.Members.{member_here, member_there, member_behind_new, member_behind_cases, long_behind, behind_left, behind_right, tail_distinct}
use Rattle.order.specs.Items.{member, behind, Distinct, position}

distinct_left : (xs ys : List ℕ) → Distinct (xs ++ ys) → Distinct xs
distinct_left [] ys d = tt
distinct_left (x ∷ xs) ys d =
    (elim (cases_Bool (member xs x)) [ inl t ↦ absurd (both_ways (member (xs ++ ys) x) d.0 (member_left xs ys x t)) | inr f ↦ f ], distinct_left xs ys d.1)

inside_all : (grp : ℕ → ℕ) (g : ℕ) (ys : List ℕ) → ((x : ℕ) → member ys x ≡ true → grp x ≡ g) → Inside grp g ys
inside_all grp g [] h = tt
inside_all grp g (y ∷ ys) h = (h y (member_here y ys), inside_all grp g ys (λ x m. h x (member_there y ys x m)))

-- the rows F mean the list with n right behind a
pub record Added (rows F : List Item) (groups groups' : List ℕ) (glimit n limit a : ℕ) : Type 0 where
  pub sound : Sound F groups' glimit (n + 1) limit
  pub items : listed F (n + 1) ≡ behind (listed rows n) a n
  pub blocks : blocked F groups' (n + 1) ≡ blocks_with (blocked rows groups n) a n

module _ {rows : List Item} {groups : List ℕ} {glimit n limit : ℕ} (s : Opened rows groups glimit n limit) where
  pub few_groups : length groups ≤ n
  few_groups =
      let g = groups_few (group_at rows) (rank_at rows) groups (blocked rows groups n) s.blocks in
      let e = ap length s.whole in
      let l = s.list.table.links.long in
      omega arith

-- the group of an item, and the walk that finds its first
module _ {rows : List Item} {groups : List ℕ} {glimit n limit : ℕ} (s : Opened rows groups glimit n limit) (dis : Distinct groups) (a : ℕ) (ha : a < n) where
  found : Found (group_at rows) (rank_at rows) groups (blocked rows groups n) a
  found =
      find (group_at rows) (rank_at rows) groups (blocked rows groups n) a dis s.blocks
      (subst (λ (l : List ℕ). member l a ≡ true) (sym s.whole) (s.list.table.links.known a ha))

  found_backed : Backed (prev_at rows) None (flat found.bl ++ (found.b ++ flat found.br))
  found_backed =
      subst (λ (l : List ℕ). Backed (prev_at rows) None l) (sym s.whole ∙ (ap flat found.bs_is ∙ flat_parts found.bl found.b found.br)) s.list.table.links.backed

  found_first : first_of (prev_at rows) (group_at rows) (group_at rows a) a ≡ head_of found.b
  found_first =
      first_is (prev_at rows) (group_at rows) (group_at rows a) (flat found.bl) found.b (flat found.br) a found_backed found.mid.all found.apart_left found.here found.mid.few

  -- what stands before the first is of another group
  pub before_first : (x : ℕ) → prev_at rows (first_of (prev_at rows) (group_at rows) (group_at rows a) a) ≡ Some x → group_at rows x ≡ group_at rows a → ⊥
  before_first x e =
      first_stops (prev_at rows) (group_at rows) (group_at rows a) (flat found.bl) found.b (flat found.br) a found_backed found.apart_left found.here x
      (ap (prev_at rows) (sym found_first) ∙ e)

module _ {rows : List Item} {groups : List ℕ} {glimit n limit : ℕ} (s : Opened rows groups glimit n limit) (dis : Distinct groups)
    (a : ℕ) (ha : a < n) (hl : n < limit) where
  pub fd : Found (group_at rows) (rank_at rows) groups (blocked rows groups n) a
  fd = found s dis a ha

  pub ys : List ℕ
  ys = behind fd.b a n

  parts : listed rows n ≡ flat fd.bl ++ (fd.b ++ flat fd.br)
  parts = sym s.whole ∙ (ap flat fd.bs_is ∙ flat_parts fd.bl fd.b fd.br)

  pub first_at : first_of (prev_at rows) (group_at rows) (group_at rows a) a ≡ head_of fd.b
  unfolding fd
  first_at = found_first s dis a ha

  pub size_at : run_of (next_at rows) (group_at rows) (group_at rows a) 33 (Some (head_of fd.b)) ≡ fd.b
  size_at =
      run_is (next_at rows) (group_at rows) (group_at rows a) 33 (Some (head_of fd.b)) fd.b (flat fd.br)
      (linked_from (next_at rows) (Some 0) (flat fd.bl) fd.b (flat fd.br) fd.mid.some (subst (λ (l : List ℕ). Linked (next_at rows) (Some 0) l) parts s.list.table.links.linked))
      fd.mid.all fd.apart_right (let f = fd.mid.few in omega arith)

  pub home_at : home (blocked rows groups n) a ≡ fd.b
  home_at =
      ap (λ (l : List (List ℕ)). home l a) fd.bs_is ∙ home_parts fd.bl fd.b fd.br a (λ m. fd.apart_left a m refl) fd.here

  pub wide : n < length rows
  wide = let r = s.list.table.room in omega arith

  ho : Fits (next_at rows a) n
  ho = next_fits rows n a s.list.table.links ha

  links : Links (next_at (linked_rows rows a n (seat_at rows a))) (prev_at (linked_rows rows a n (seat_at rows a))) (n + 1) (behind (listed rows n) a n)
  links = links_behind rows a n (seat_at rows a) ha wide ho s.list.table.links

  fresh : member (listed rows n) n ≡ true → ⊥
  fresh m = let k = s.list.table.links.within n m in omega arith

  new_parts : behind (listed rows n) a n ≡ flat fd.bl ++ (ys ++ flat fd.br)
  unfolding ys
  new_parts =
      ap (λ (l : List ℕ). behind l a n) parts
      ∙ (behind_right (flat fd.bl) (fd.b ++ flat fd.br) a n
      (elim (cases_Bool (member (flat fd.bl) a)) [ inl t ↦ absurd (fd.apart_left a t refl) | inr f ↦ f ])
      ∙ ap (λ (l : List ℕ). flat fd.bl ++ l) (behind_left fd.b (flat fd.br) a n fd.here))

  ys_long : length ys ≡ length fd.b + 1
  unfolding ys
  ys_long = let e = long_behind fd.b a n fd.here in omega arith

  ys_head : head_of ys ≡ head_of fd.b
  unfolding ys
  ys_head = head_behind fd.b a n

  ys_walk : walk (next_at (linked_rows rows a n (seat_at rows a))) (length fd.b + 1) (Some (head_of fd.b)) ≡ ys
  ys_walk =
      let l = ys_long in
      ap (λ (k : ℕ). walk (next_at (linked_rows rows a n (seat_at rows a))) k (Some (head_of fd.b))) (sym ys_long)
      ∙ (ap (λ (k : ℕ). walk (next_at (linked_rows rows a n (seat_at rows a))) (length ys) (Some k)) (sym ys_head)
      ∙ walk_is (next_at (linked_rows rows a n (seat_at rows a))) (Some (head_of ys)) ys (flat fd.br)
      (linked_from (next_at (linked_rows rows a n (seat_at rows a))) (Some 0) (flat fd.bl) ys (flat fd.br) (omega arith)
      (subst (λ (q : List ℕ). Linked (next_at (linked_rows rows a n (seat_at rows a))) (Some 0) q) new_parts links.linked)))

  ys_below : (x : ℕ) → member ys x ≡ true → x < n + 1
  ys_below x m =
      links.within x (subst (λ (l : List ℕ). member l x ≡ true) (sym new_parts) (member_right (flat fd.bl) (ys ++ flat fd.br) x (member_left ys (flat fd.br) x m)))

  ys_known : (x : ℕ) → member ys x ≡ true → x < length (linked_rows rows a n (seat_at rows a))
  ys_known x m = let k = ys_below x m in let e = length_linked rows a n (seat_at rows a) ha wide ho in let w = wide in omega arith

  ys_distinct : Distinct ys
  ys_distinct =
      distinct_left ys (flat fd.br)
      (tail_distinct (flat fd.bl) (ys ++ flat fd.br)
      (subst Distinct new_parts links.distinct))

  ys_inside : Inside (group_at (linked_rows rows a n (seat_at rows a))) (group_at rows a) ys
  unfolding ys
  ys_inside =
      inside_all (group_at (linked_rows rows a n (seat_at rows a))) (group_at rows a) (behind fd.b a n)
      (λ x m. elim (cases_eq n x) [
        | inl e ↦ subst (λ (k : ℕ). group_at (linked_rows rows a n (seat_at rows a)) k ≡ group_at rows a) e (ap (λ (t : Seat). t.group) (tag_n rows a n (seat_at rows a) ha wide ho first_seat))
        | inr d ↦ ap (λ (t : Seat). t.group) (tag_x rows a n (seat_at rows a) ha wide ho first_seat x (λ e. d (sym e)))
            ∙ elim (member_behind_cases fd.b a n x m) [ inl e ↦ absurd (d e) | inr k ↦ inside_at (group_at rows) (group_at rows a) fd.b x fd.mid.all k ]
      ])

  pub walked : (first size : ℕ) → first ≡ head_of fd.b → size ≡ length fd.b + 1 → walk (next_at (linked_rows rows a n (seat_at rows a))) size (Some first) ≡ ys
  walked first size ef es =
      ap (λ (k : ℕ). walk (next_at (linked_rows rows a n (seat_at rows a))) k (Some first)) es
      ∙ (ap (λ (k : ℕ). walk (next_at (linked_rows rows a n (seat_at rows a))) (length fd.b + 1) (Some k)) ef ∙ ys_walk)

  -- what the numbering asks
  pub asked_within : (first size : ℕ) → first ≡ head_of fd.b → size ≡ length fd.b + 1 →
      (x : ℕ) → member (walk (next_at (linked_rows rows a n (seat_at rows a))) size (Some first)) x ≡ true → x < n + 1
  asked_within first size ef es x m = ys_below x (subst (λ (l : List ℕ). member l x ≡ true) (walked first size ef es) m)

  pub asked_distinct : (first size : ℕ) → first ≡ head_of fd.b → size ≡ length fd.b + 1 → Distinct (walk (next_at (linked_rows rows a n (seat_at rows a))) size (Some first))
  asked_distinct first size ef es = subst Distinct (sym (walked first size ef es)) ys_distinct

  module _ (h : ℕ) where
    pub F : List Item
    F = regrouped (linked_rows rows a n (seat_at rows a)) ys 0 h

    nexts : (x : ℕ) → next_at F x ≡ next_at (linked_rows rows a n (seat_at rows a)) x
    unfolding F
    nexts = regrouped_next (linked_rows rows a n (seat_at rows a)) ys 0 h ys_known

    outside : (x : ℕ) → (member (behind fd.b a n) x ≡ true → ⊥) → (group_at F x ≡ group_at rows x) × (rank_at F x ≡ rank_at rows x)
    unfolding F ys
    outside x d =
        let xn : x ≡ n → ⊥ = λ e. d (subst (λ (k : ℕ). member (behind fd.b a n) k ≡ true) (sym e) (member_behind_new fd.b a n fd.here)) in
        let q = regrouped_out (λ (r : Item). r.tag) first_seat (linked_rows rows a n (seat_at rows a)) (behind fd.b a n) 0 h x d
        ∙ tag_x rows a n (seat_at rows a) ha wide ho first_seat x xn in
        (ap (λ (t : Seat). t.group) q, ap (λ (t : Seat). t.rank) q)

    numbered : Numbered (rank_at F) 0 (behind fd.b a n)
    unfolding F ys
    numbered = regrouped_numbered (linked_rows rows a n (seat_at rows a)) (behind fd.b a n) 0 h ys_known ys_distinct

    parted : Parted (group_at F) (group_at rows a) h 0 (behind fd.b a n)
    unfolding F ys
    parted = regrouped_parted (linked_rows rows a n (seat_at rows a)) (behind fd.b a n) (group_at rows a) 0 h ys_known ys_distinct ys_inside

    not_yet : member (flat (blocked rows groups n)) n ≡ true → ⊥
    not_yet m = fresh (subst (λ (l : List ℕ). member l n ≡ true) s.whole m)

    pub easy : length fd.b < 32 → h ≡ group_at rows a → Grouped (group_at F) (rank_at F) groups (blocks_with (blocked rows groups n) a n)
    easy = same_groups (group_at rows) (rank_at rows) (group_at F) (rank_at F) groups (blocked rows groups n) a n h fd not_yet outside numbered parted

    pub dividing : 32 ≤ length fd.b → Grouped (group_at F) (rank_at F) (behind groups (group_at rows a) h) (blocks_with (blocked rows groups n) a n)
    dividing = more_groups (group_at rows) (rank_at rows) (group_at F) (rank_at F) groups (blocked rows groups n) a n h fd not_yet outside numbered parted

    listed_f : listed F (n + 1) ≡ behind (listed rows n) a n
    listed_f = walk_same (next_at (linked_rows rows a n (seat_at rows a))) (next_at F) (n + 1) (Some 0) nexts ∙ listed_linked rows a n (seat_at rows a) ha wide ho s.list.table.links

    flat_after : flat (blocks_with (blocked rows groups n) a n) ≡ behind (listed rows n) a n
    flat_after =
        groups_flat (blocked rows groups n) a n
        (subst Distinct (sym s.whole) s.list.table.links.distinct)
        ∙ ap (λ (l : List ℕ). behind l a n) s.whole

    module _ (groups' : List ℕ) (glimit' : ℕ) (gl : glimit' ≡ limit) (dis' : Distinct groups') (few' : length groups' ≤ 4096)
        (G : Grouped (group_at F) (rank_at F) groups' (blocks_with (blocked rows groups n) a n)) where
      blocks_f : blocked F groups' (n + 1) ≡ blocks_with (blocked rows groups n) a n
      blocks_f =
          ap (blocks_of (group_at F) groups') (listed_f ∙ sym flat_after) ∙ blocks_are (group_at F) (rank_at F) groups' (blocks_with (blocked rows groups n) a n) dis' G

      rising_f : Above (key F groups') 0 (behind (listed rows n) a n)
      rising_f =
          subst (λ (l : List ℕ). Above (key F groups') 0 l) flat_after
          (above_same (λ x. (0 + position groups' (group_at F x)) * 64 + rank_at F x) (key F groups') 0 (flat (blocks_with (blocked rows groups n) a n)) (λ x m. omega arith)
          (grouped_above (group_at F) (rank_at F) 0 groups' (blocks_with (blocked rows groups n) a n) dis' G (omega arith)))

      pub added : Added rows F groups groups' glimit' n limit a
      added = record {
        sound = record {
          rising = subst (λ (l : List ℕ). Above (key F groups') 0 l) (sym listed_f) rising_f;
          same = gl;
          blocks = subst (λ (l : List (List ℕ)). Grouped (group_at F) (rank_at F) groups' l) (sym blocks_f) G;
          whole = ap flat blocks_f ∙ (flat_after ∙ sym listed_f);
        };
        items = listed_f;
        blocks = blocks_f;
      }

  -- the rows as the code leaves them
  module _ (first size : ℕ) (ef : first ≡ first_of (prev_at rows) (group_at rows) (group_at rows a) a)
      (es : size ≡ length (run_of (next_at rows) (group_at rows) (group_at rows a) 33 (Some first))) where
    pub head_is : first ≡ head_of fd.b
    head_is = ef ∙ first_at

    pub size_is : size ≡ length fd.b
    size_is = es ∙ (ap (λ (k : ℕ). length (run_of (next_at rows) (group_at rows) (group_at rows a) 33 (Some k))) head_is ∙ ap length size_at)

    pub code_within : (L : List Item) → L ≡ linked_rows rows a n (seat_at rows a) → (x : ℕ) → member (walk (next_at L) (size + 1) (Some first)) x ≡ true → x < n + 1
    code_within L el =
        subst (λ (q : List Item). (x : ℕ) → member (walk (next_at q) (size + 1) (Some first)) x ≡ true → x < n + 1) (sym el)
        (asked_within first (size + 1) head_is (let e = size_is in omega arith))

    pub code_distinct : (L : List Item) → L ≡ linked_rows rows a n (seat_at rows a) → Distinct (walk (next_at L) (size + 1) (Some first))
    code_distinct L el =
        subst (λ (q : List Item). Distinct (walk (next_at q) (size + 1) (Some first))) (sym el) (asked_distinct first (size + 1) head_is (let e = size_is in omega arith))

    module _ (h : ℕ) (L T : List Item) (el : L ≡ linked_rows rows a n (seat_at rows a)) (et : T ≡ regrouped L (walk (next_at L) (size + 1) (Some first)) 0 h) where
      table_is : F h ≡ T
      unfolding F
      table_is =
          sym (et ∙ (ap (λ (q : List Item). regrouped q (walk (next_at q) (size + 1) (Some first)) 0 h) el
          ∙ ap (λ (l : List ℕ). regrouped (linked_rows rows a n (seat_at rows a)) l 0 h) (walked first (size + 1) head_is (let e = size_is in omega arith))))

      pub put_easy : size < 32 → h ≡ group_at rows a → (groups' : List ℕ) (glimit' : ℕ) → groups' ≡ groups → glimit' ≡ glimit → Added rows T groups groups' glimit' n limit a
      put_easy lt eh groups' glimit' eg el' =
          let k = s.list.table.small in
          let w = few_groups s in
          let q = size_is in
          subst (λ (t : List Item). Added rows t groups groups' glimit' n limit a) table_is
          (subst (λ (gs : List ℕ). Added rows (F h) groups gs glimit' n limit a) (sym eg)
          (added h groups glimit' (el' ∙ s.same) dis (omega arith) (easy h (omega arith) eh)))

      pub put_divided : 32 ≤ size → (groups' : List ℕ) (glimit' : ℕ) → groups' ≡ behind groups (group_at rows a) h → glimit' ≡ glimit → Distinct groups' → length groups' ≤ 4096 →
          Added rows T groups groups' glimit' n limit a
      put_divided le groups' glimit' eg el' dis' few' =
          let q = size_is in
          subst (λ (t : List Item). Added rows t groups groups' glimit' n limit a) table_is
          (added h groups' glimit' (el' ∙ s.same) dis' few'
          (subst (λ (gs : List ℕ). Grouped (group_at (F h)) (rank_at (F h)) gs (blocks_with (blocked rows groups n) a n)) (sym eg) (dividing h (omega arith))))
