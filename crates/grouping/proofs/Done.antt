-- What the call `after` answers and leaves, of the list of items, the groups and their labels.
use Rattle.std.proofs.Common.{◌≡◌, ℕ, ◌+◌, ◌<◌, ◌≤◌, Bool, true, false, cond, ltb, List, length, Some, Ok, Err, Result, sym, refl, ap, ◌∙◌, subst, inl, inr, arith}
use Rattle.std.proofs.lemmas.Bool.{lt-ltb, le-ltb, cases_lt, cond-true, cond-false}
use Rattle.refusals.specs.declared.kinds.OrderRefusal.{OrderRefusal}
use Rattle.order.specs.Items.{member, Distinct, behind, after_answer, items_after}
use Rattle.labels.specs.Labels.{Entries, inserted, entries_after}
use Rattle.linked_lists.specs.Chain.{walk, listed, next_at, prev_at, linked_rows}
use Rattle.grouping.specs.Blocks.{home, blocks_with}
use Rattle.grouping.specs.Groups.{Item, Sound, blocked, seat_at, group_at, first_of, run_of, regrouped}
use Rattle.grouping.specs.declared.item.Seat.{Seat}
use Rattle.grouping.proofs.Open.{Opened}
use Rattle.grouping.proofs.Replies.{grouped}
use Rattle.grouping.proofs.Adding.{Added, fd, few_groups, home_at, size_is, code_within, code_distinct, put_easy, put_divided}

-- what a call that gave item n leaves: the rows T, of m items up to the limit l
pub record Done (rows T : List Item) (groups groups' : List ℕ) (es es' : Entries) (glimit' n m l a : ℕ) : Type 0 where
  pub sound : Sound T groups' glimit' m l
  pub items : listed T m ≡ behind (listed rows n) a n
  pub blocks : blocked T groups' m ≡ blocks_with (blocked rows groups n) a n
  pub labels : es' ≡ cond (ltb 31 (length (home (blocked rows groups n) a))) (inserted es (group_at rows a) (length es)) es

ok_same : (x y : ℕ) → ◌≡◌ {A = Result ℕ OrderRefusal} (Ok x) (Ok y) → x ≡ y
ok_same x y e = cc

ok_apart : (e : OrderRefusal) (k : ℕ) → ◌≡◌ {A = Result ℕ OrderRefusal} (Err e) (Ok k) → ⊥
ok_apart e k q = let z : ◌≡◌ {A = ℕ} 0 1 = cc in absurd (omega arith)

module _ {rows : List Item} {groups : List ℕ} {glimit n limit : ℕ} (s : Opened rows groups glimit n limit) (a : ℕ) where
  module _ (h : a < n) (l : n < limit) where
    -- the groups have room for one more
    module _ (within : (g : ℕ) → member groups g ≡ true → g < length groups) where
      group_known : ltb (group_at rows a) (length groups) ≡ true
      group_known = lt-ltb (group_at rows a) (length groups) (within (group_at rows a) (grouped s a h))

      group_room : ltb (length groups) glimit ≡ true
      group_room = lt-ltb (length groups) glimit (let k = few_groups s in let e = s.same in omega arith)

      answer_is : (size : ℕ) → cond (ltb size 32) (Ok (group_at rows a)) (after_answer groups glimit (group_at rows a)) ≡ Ok (cond (ltb size 32) (group_at rows a) (length groups))
      answer_is size = pick (ltb size 32)
        where
          pick : (t : Bool) → cond {A = Result ℕ OrderRefusal} t (Ok (group_at rows a)) (after_answer groups glimit (group_at rows a)) ≡ Ok (cond t (group_at rows a) (length groups))
          pick true = refl
          pick false = cond-true _ _ _ group_known ∙ cond-true _ _ _ group_room

      pub never : (size g : ℕ) (e : OrderRefusal) → g ≡ group_at rows a → ◌≡◌ {A = Result ℕ OrderRefusal} (Err e) (cond (ltb size 32) (Ok g) (after_answer groups glimit g)) → ⊥
      never size g e eg q =
          ok_apart e (cond (ltb size 32) (group_at rows a) (length groups))
          (q ∙ (ap (λ (k : ℕ). cond {A = Result ℕ OrderRefusal} (ltb size 32) (Ok k) (after_answer groups glimit k)) eg ∙ answer_is size))

      module _ (dis : Distinct groups) (first size fresh : ℕ) (L T : List Item) (groups' : List ℕ) (glimit' : ℕ) (es es' : Entries)
          (le : length es ≡ length groups)
          (ef : first ≡ first_of (prev_at rows) (group_at rows) (group_at rows a) a)
          (ez : size ≡ length (run_of (next_at rows) (group_at rows) (group_at rows a) 33 (Some first)))
          (ea : ◌≡◌ {A = Result ℕ OrderRefusal} (Ok fresh) (cond (ltb size 32) (Ok (group_at rows a)) (after_answer groups glimit (group_at rows a))))
          (eg : groups' ≡ cond (ltb size 32) groups (behind groups (group_at rows a) fresh))
          (ee : es' ≡ cond (ltb size 32) es (inserted es (group_at rows a) fresh))
          (eq : glimit' ≡ glimit) (dis' : Distinct groups') (few' : length groups' ≤ 4096)
          (el : L ≡ linked_rows rows a n (seat_at rows a)) (et : T ≡ regrouped L (walk (next_at L) (size + 1) (Some first)) 0 fresh) where
        fresh_is : fresh ≡ cond (ltb size 32) (group_at rows a) (length groups)
        fresh_is = ok_same _ _ (ea ∙ answer_is size)

        long_home : length (home (blocked rows groups n) a) ≡ size
        long_home = ap length (home_at s dis a h l) ∙ sym (size_is s dis a h l first size ef ez)

        pub code_added : Added rows T groups groups' glimit' n limit a
        code_added =
            elim (cases_lt size 32) [
              | inl t ↦ put_easy s dis a h l first size ef ez fresh L T el et t (fresh_is ∙ cond-true _ _ _ (lt-ltb size 32 t)) groups' glimit' (eg ∙ cond-true _ _ _ (lt-ltb size 32 t)) eq
              | inr t ↦ put_divided s dis a h l first size ef ez fresh L T el et t groups' glimit' (eg ∙ cond-false _ _ _ (le-ltb size 32 t)) eq dis' few'
            ]

        pub labels_are : es' ≡ cond (ltb 31 (length (home (blocked rows groups n) a))) (inserted es (group_at rows a) (length es)) es
        labels_are =
            elim (cases_lt size 32) [
              | inl t ↦ ee ∙ (cond-true _ _ _ (lt-ltb size 32 t) ∙ sym (cond-false _ _ _ (le-ltb 31 (length (home (blocked rows groups n) a)) (let k = long_home in omega arith))))
              | inr t ↦
                  let k : fresh ≡ length es = fresh_is ∙ (cond-false _ _ _ (le-ltb size 32 t) ∙ sym le) in
                  ee ∙ (cond-false _ _ _ (le-ltb size 32 t) ∙ (ap (inserted es (group_at rows a)) k
                  ∙ sym (cond-true _ _ _ (lt-ltb 31 (length (home (blocked rows groups n) a)) (let q = long_home in omega arith)))))
            ]

    -- as the code has it, t being the seat that it read
    module _ (dis : Distinct groups) (t : Seat) (is : t ≡ seat_at rows a) (first size : ℕ)
        (ef : first ≡ first_of (prev_at rows) (group_at rows) (group_at rows a) a)
        (ez : size ≡ length (run_of (next_at rows) (group_at rows) t.group 33 (Some first))) where
      er : t.group ≡ group_at rows a
      er = ap (λ (q : Seat). q.group) is

      ez' : size ≡ length (run_of (next_at rows) (group_at rows) (group_at rows a) 33 (Some first))
      ez' = ez ∙ ap (λ (k : ℕ). length (run_of (next_at rows) (group_at rows) k 33 (Some first))) er

      pub size_few : size ≤ 32
      size_few = let e = size_is s dis a h l first size ef ez' in let f = (fd s dis a h l).mid.few in omega arith

      -- once the item was linked in
      module _ (L : List Item) (el : L ≡ linked_rows rows a n t) (k : ℕ) (ek : k ≡ n + 1) where
        linked : L ≡ linked_rows rows a n (seat_at rows a)
        linked = el ∙ ap (linked_rows rows a n) is

        pub ask_within : (x : ℕ) → member (walk (next_at L) (size + 1) (Some first)) x ≡ true → x < k
        ask_within x m = let b = code_within s dis a h l first size ef ez' L linked x m in omega arith

        pub ask_distinct : Distinct (walk (next_at L) (size + 1) (Some first))
        ask_distinct = code_distinct s dis a h l first size ef ez' L linked

        -- r being what the groups answered
        module _ (within : (q : ℕ) → member groups q ≡ true → q < length groups) (fresh : ℕ) (r : Result ℕ OrderRefusal) (was : r ≡ Ok fresh)
            (groups' : List ℕ) (glimit' : ℕ) (es es' : Entries) (le : length es ≡ length groups)
            (ea : r ≡ cond (ltb size 32) (Ok t.group) (after_answer groups glimit t.group))
            (eg : groups' ≡ cond (ltb size 32) groups (items_after r groups t.group))
            (ee : es' ≡ cond (ltb size 32) es (entries_after r es t.group))
            (eq : glimit' ≡ glimit) (dis' : Distinct groups') (few' : length groups' ≤ 4096)
            (T : List Item) (et : T ≡ regrouped L (walk (next_at L) (size + 1) (Some first)) 0 fresh) (m m' : ℕ) (em : m ≡ k) (el' : m' ≡ limit) where
          ea' : ◌≡◌ {A = Result ℕ OrderRefusal} (Ok fresh) (cond (ltb size 32) (Ok (group_at rows a)) (after_answer groups glimit (group_at rows a)))
          ea' = sym was ∙ (ea ∙ ap (λ (i : ℕ). cond {A = Result ℕ OrderRefusal} (ltb size 32) (Ok i) (after_answer groups glimit i)) er)

          eg' : groups' ≡ cond (ltb size 32) groups (behind groups (group_at rows a) fresh)
          eg' = eg ∙ (ap (λ (q : Result ℕ OrderRefusal). cond (ltb size 32) groups (items_after q groups t.group)) was ∙ ap (λ (i : ℕ). cond (ltb size 32) groups (behind groups i fresh)) er)

          ee' : es' ≡ cond (ltb size 32) es (inserted es (group_at rows a) fresh)
          ee' = ee ∙ (ap (λ (q : Result ℕ OrderRefusal). cond (ltb size 32) es (entries_after q es t.group)) was ∙ ap (λ (i : ℕ). cond (ltb size 32) es (inserted es i fresh)) er)

          pub final : Done rows T groups groups' es es' glimit' n m m' a
          final =
              let d = code_added within dis first size fresh L T groups' glimit' es es' le ef ez' ea' eg' ee' eq dis' few' linked et in
              subst (λ (i : ℕ). Done rows T groups groups' es es' glimit' n i m' a) (sym (em ∙ ek))
              (subst (λ (i : ℕ). Done rows T groups groups' es es' glimit' n (n + 1) i a) (sym el')
              (record {
                sound = d.sound;
                items = d.items;
                blocks = d.blocks;
                labels = labels_are within dis first size fresh L T groups' glimit' es es' le ef ez' ea' eg' ee' eq dis' few' linked et;
              }))
