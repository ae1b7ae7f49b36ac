-- What the reading calls answer.
use Rattle.std.proofs.Common.{◌≡◌, ℕ, ◌+◌, ◌*◌, ◌<◌, Bool, true, cond, ltb, List, length, Ok, Err, Result, sym, ap, ◌∙◌, subst, arith}
use Rattle.std.proofs.lemmas.Bool.{lt-ltb, and_from, cond-true}
use Rattle.grouping.proofs.Blocks.{group_in, rank_in}
use Rattle.grouping.proofs.Open.{Opened}
use Rattle.grouping.proofs.Keys.{keys_same, keys_apart}
use Rattle.grouping.specs.Blocks.{flat}
use Rattle.grouping.specs.Groups.{Item, blocked, first_seat, group_at, rank_at, key}
use Rattle.grouping.specs.declared.item.Seat.{Seat}
use Rattle.labels.specs.Labels.{Entries, label_of, label_answer}
use Rattle.linked_lists.proofs.Replies.{is_known, before_is}
use Rattle.linked_lists.specs.Chain.{RowOf, listed}
use Rattle.order.proofs.Positions.{position_apart, earlier_position}
use Rattle.order.specs.Items.{member, Distinct, known, before_answer, position}
use Rattle.refusals.specs.declared.kinds.OrderRefusal.{OrderRefusal}
use Rattle.refusals.specs.declared.kinds.OrderRefusal.TheVariants.{UnknownItem}

module _ {rows : List Item} {groups : List ℕ} {glimit n limit : ℕ} (s : Opened rows groups glimit n limit) where
  in_blocks : (a : ℕ) → a < n → member (flat (blocked rows groups n)) a ≡ true
  in_blocks a h = subst (λ (l : List ℕ). member l a ≡ true) (sym s.whole) (s.list.table.links.known a h)

  pub grouped : (a : ℕ) → a < n → member groups (group_at rows a) ≡ true
  grouped a h = group_in (group_at rows) (rank_at rows) groups (blocked rows groups n) a s.blocks (in_blocks a h)

  pub ranked : (a : ℕ) → a < n → rank_at rows a < 64
  ranked a h = rank_in (group_at rows) (rank_at rows) groups (blocked rows groups n) a s.blocks (in_blocks a h)

  pub before_same : (a b : ℕ) (x y : Item) → a < n → b < n → RowOf rows a x → RowOf rows b y → x.tag.group ≡ y.tag.group →
      Ok (ltb x.tag.rank y.tag.rank) ≡ before_answer (listed rows n) a b
  before_same a b x y ha hb ex ey e =
      let gx : x.tag.group ≡ group_at rows a = ap (λ (r : Seat). r.group) (ex.tag first_seat) in
      let gy : y.tag.group ≡ group_at rows b = ap (λ (r : Seat). r.group) (ey.tag first_seat) in
      let rx : x.tag.rank ≡ rank_at rows a = ap (λ (r : Seat). r.rank) (ex.tag first_seat) in
      let ry : y.tag.rank ≡ rank_at rows b = ap (λ (r : Seat). r.rank) (ey.tag first_seat) in
      let same : group_at rows a ≡ group_at rows b = cc in
      before_is s.list a b (ltb x.tag.rank y.tag.rank) ha hb
      (ap (λ (k : ℕ). ltb k y.tag.rank) rx
      ∙ (ap (λ (k : ℕ). ltb (rank_at rows a) k) ry
      ∙ (keys_same (position groups (group_at rows a)) (rank_at rows a) (rank_at rows b)
      ∙ ap (λ (g : ℕ). ltb (key rows groups a) (position groups g * 64 + rank_at rows b)) same)))

  pub before_apart : (a b : ℕ) (x y : Item) (r : Result Bool OrderRefusal) → a < n → b < n → RowOf rows a x → RowOf rows b y → (x.tag.group ≡ y.tag.group → ⊥) →
      Distinct groups → ((g : ℕ) → member groups g ≡ true → g < length groups) → r ≡ before_answer groups x.tag.group y.tag.group → r ≡ before_answer (listed rows n) a b
  before_apart a b x y r ha hb ex ey d dis inn e =
      let gx : x.tag.group ≡ group_at rows a = ap (λ (q : Seat). q.group) (ex.tag first_seat) in
      let gy : y.tag.group ≡ group_at rows b = ap (λ (q : Seat). q.group) (ey.tag first_seat) in
      let d' : group_at rows a ≡ group_at rows b → ⊥ = λ k. d (gx ∙ (k ∙ sym gy)) in
      let ka = grouped a ha in
      let kb = grouped b hb in
      let go : before_answer groups (group_at rows a) (group_at rows b) ≡ Ok (ltb (position groups (group_at rows a)) (position groups (group_at rows b))) =
      cond-true _ _ _ (and_from _ _ (lt-ltb _ _ (inn _ ka)) (lt-ltb _ _ (inn _ kb)))
      ∙ ap (λ (t : Bool). Ok t) (earlier_position groups (group_at rows a) (group_at rows b) dis ka kb) in
      e ∙ (ap (λ (k : ℕ). before_answer groups k y.tag.group) gx ∙ (ap (λ (k : ℕ). before_answer groups (group_at rows a) k) gy ∙ (go
      ∙ before_is s.list a b _ ha hb
      (keys_apart (position groups (group_at rows a)) (position groups (group_at rows b)) (rank_at rows a) (rank_at rows b)
      (λ k. d' (position_apart groups (group_at rows a) (group_at rows b) ka kb k)) (ranked a ha) (ranked b hb)))))

  -- the label of the group that the code read
  pub label_ok : (a : ℕ) (x : Item) (r : Result ℕ OrderRefusal) (es : Entries) → a < n → RowOf rows a x → ((g : ℕ) → member groups g ≡ true → g < length groups) →
      length es ≡ length groups → r ≡ label_answer es x.tag.group → r ≡ cond (known (listed rows n) a) (Ok (label_of es (group_at rows a))) (Err UnknownItem)
  label_ok a x r es h ex inn le e =
      let gx : x.tag.group ≡ group_at rows a = ap (λ (q : Seat). q.group) (ex.tag first_seat) in
      let low = inn (group_at rows a) (grouped a h) in
      e
      ∙ (ap (label_answer es) gx
      ∙ (cond-true _ _ _ (lt-ltb (group_at rows a) (length es) (omega arith)) ∙ sym (cond-true _ _ _ (is_known s.list.table a h))))
