-- For those who write rows of calls: what each step does where it is ready, and what it leaves alone. A row is proved from its first
-- call to its last, each `by-` lemma taking one call off the front.
use Rattle.std.proofs.Common.{◌≡◌, ℕ, ◌+◌, ◌<◌, ◌≤◌, Bool, true, false, cond, is_some, Some, None, Option, sym, refl, ap, ◌∙◌, subst, arith}
use Rattle.memory.specs.Memory.{Node, State, Memory, hits, with_link, with_number, new_node, renamed, names_of, node_hits, Orderly}
use Rattle.memory.specs.Steps.{Done, done, no, then, with_reg, of_link, of_number, written, root_set, link_set, node_set, born, entered, opened, closed, is_nil, same_ref, load_of, follow_of, move_of, key_of, number_of, nil_of, same_of, make_of, save_of, link_of, set_number_of, open_of, enter_of, close_of}
use Rattle.memory.specs.Effects.{Ends, Holds, Free, Changed, Linked, Numbered, Rooted}
use Rattle.memory.proofs.Numbers.{put_same, put_other, hits_one, hits_none, none_some, sum_part, sum_zero, names_at_most}
use Rattle.memory.proofs.Accepted.{load_done, follow_done, move_done, key_done, number_done, nil_done, same_done, make_done, save_done, link_done, set_number_done, open_done, enter_done, close_done}
use Rattle.memory.proofs.Kept.{low}

-- Rows in general.

-- a row after a row
pub ends_then : {A B : Type 0} (d : Done A) (k : A → Memory → Done B) (P : A → Memory → Type 0) (Q : B → Memory → Type 0) → Ends d P → ((a : A) (m : Memory) → P a m → Ends (k a m) Q) → Ends (then d k) Q
ends_then (done a m) k P Q h f = f a m h
ends_then (no e) k P Q h f = absurd h

-- what follows from where a row ends
pub ends_all : {A : Type 0} (d : Done A) (P Q : A → Memory → Type 0) → Ends d P → ((a : A) (m : Memory) → P a m → Q a m) → Ends d Q
ends_all (done a m) P Q h f = f a m h
ends_all (no e) P Q h f = absurd h

-- a row that branches
pub ends_cond : {A : Type 0} (b : Bool) (x y : Done A) (Q : A → Memory → Type 0) → (b ≡ true → Ends x Q) → (b ≡ false → Ends y Q) → Ends (cond b x y) Q
ends_cond true x y Q f g = f refl
ends_cond false x y Q f g = g refl

-- a row that ends is accepted
pub ends_done : {A : Type 0} (d : Done A) (Q : A → Memory → Type 0) → Ends d Q → (a : A) × (m : Memory) × (d ≡ done a m) × Q a m
ends_done (done a m) Q h = (a, m, refl, h)
ends_done (no e) Q h = absurd h

-- the last call of a row, as a row of its own
pub ends_last : {A : Type 0} (d : Done A) (Q : A → Memory → Type 0) → Ends (then d (λ a m. done a m)) Q → Ends d Q
ends_last (done a m) Q h = h
ends_last (no e) Q h = h

-- Names in a state that is in order: what one link or root adds to a count, the count has.

pub link_names : (made : ℕ) (s : State) (k : ℕ) (n : Node) (side i : ℕ) → Orderly made s → side < 2 → s.nodes k ≡ Some n → hits i (n.links side) ≤ s.names i
link_names made s k n side i O l e =
    let a = sum_part made k (λ j. node_hits i (s.nodes j)) (low made s k n O e) in
    let b : node_hits i (s.nodes k) ≡ node_hits i (Some n) = ap (node_hits i) e in
    let d = sum_part 2 side (λ q. hits i (n.links q)) l in
    let c = O.counted i in
    omega arith

pub root_names : (made : ℕ) (s : State) (r i : ℕ) → Orderly made s → r < 3 → hits i (s.roots r) ≤ s.names i
root_names made s r i O l = let a = sum_part 3 r (λ j. hits i (s.roots j)) l in let c = O.counted i in omega arith

-- a node that is not made yet is not named
node_unnamed : (i : ℕ) (x : Option Node) → ((n : Node) (side : ℕ) → side < 2 → x ≡ Some n → n.links side ≡ Some i → ⊥) → node_hits i x ≡ 0
node_unnamed i None h = refl
node_unnamed i (Some n) h = sum_zero 2 (λ side. hits i (n.links side)) (λ side l. hits_none i (n.links side) (λ e. h n side l refl e))

absent : (x : Option Node) → x ≡ None → is_some x ≡ true → ⊥
absent None e h = let z : ◌≡◌ {A = ℕ} 0 1 = cc in omega arith
absent (Some n) e h = absurd (none_some (sym e))

pub unborn_names : (made : ℕ) (s : State) (k : ℕ) → Orderly made s → made ≤ k → s.names k ≡ 0
unborn_names made s k O l =
    let none = O.unborn k l in
    let a = sum_zero 3 (λ r. hits k (s.roots r)) (λ r h. hits_none k (s.roots r) (λ e. absent (s.nodes k) none (O.rooted r k h e))) in
    let b = sum_zero made (λ j. node_hits k (s.nodes j)) (λ j h. node_unnamed k (s.nodes j) (λ n side g e f. absent (s.nodes k) none (O.linked j n side k g e f))) in
    let c = O.counted k in
    omega arith

-- The memory after a write.

link_changed : (m : Memory) (s : State) → Changed 1 0 m (written of_link m s)
link_changed m s = record { regs = λ r. refl; made = refl; linked = refl; numbered = omega arith; node_limit = refl; change_limit = refl; writable = refl; rest = refl }

number_changed : (m : Memory) (s : State) → Changed 0 1 m (written of_number m s)
number_changed m s = record { regs = λ r. refl; made = refl; linked = omega arith; numbered = refl; node_limit = refl; change_limit = refl; writable = refl; rest = refl }

two_names : (names : ℕ → ℕ) (x y : Option ℕ) → ((i : ℕ) → x ≡ Some i → names i ≤ 1 + hits i y) → names_of (renamed names y x) x ≤ 2
two_names names x y few = names_at_most (renamed names y x) x 2 (λ i e. let a = few i e in let b = hits_one i x in omega arith)

linked_set : (m : Memory) (j : ℕ) (n : Node) (side : ℕ) (x : Option ℕ) → ((i : ℕ) → hits i (n.links side) ≤ m.state.names i) → Linked m (written of_link m (link_set m.state j n side x)) j n side x
linked_set m j n side x true_old = record {
  change = link_changed m (link_set m.state j n side x);
  wrote = record { here = put_same m.state.nodes j (Some (with_link side x n)); else = λ i g. put_other m.state.nodes j i (Some (with_link side x n)) g; roots = λ i. refl };
  named = λ i. let a = true_old i in omega arith;
}

rooted_set : (m : Memory) (root : ℕ) (x : Option ℕ) → ((i : ℕ) → hits i (m.state.roots root) ≤ m.state.names i) → Rooted m (written of_link m (root_set m.state root x)) root x
rooted_set m root x true_old = record {
  change = link_changed m (root_set m.state root x);
  here = put_same m.state.roots root x;
  else = λ i g. put_other m.state.roots root i x g;
  nodes = λ i. refl;
  named = λ i. let a = true_old i in omega arith;
}

numbered_set : (m : Memory) (j : ℕ) (n : Node) (field x : ℕ) → Numbered m (written of_number m (node_set m.state j (with_number field x n))) j n field x
numbered_set m j n field x = record {
  change = number_changed m (node_set m.state j (with_number field x n));
  wrote = record { here = put_same m.state.nodes j (Some (with_number field x n)); else = λ i g. put_other m.state.nodes j i (Some (with_number field x n)) g; roots = λ i. refl };
  named = λ i. refl;
}

-- One call off the front of a row.

module _ {A B : Type 0} (k : A → Memory → Done B) (Q : B → Memory → Type 0) where
  pub by_done : (d : Done A) (a : A) (m : Memory) → d ≡ done a m → Ends (k a m) Q → Ends (then d k) Q
  by_done d a m e h = subst (λ x. Ends (then x k) Q) (sym e) h

module _ {B : Type 0} (k : ℕ → Memory → Done B) (Q : B → Memory → Type 0) where
  pub by_key : (reg j : ℕ) (n : Node) (m : Memory) → Holds m reg j n → Ends (k n.key m) Q → Ends (then (key_of reg m) k) Q
  by_key reg j n m H h = by_done k Q (key_of reg m) n.key m (key_done reg j n m H) h

  pub by_number : (field reg j : ℕ) (n : Node) (m : Memory) → Holds m reg j n → Ends (k (n.numbers field) m) Q → Ends (then (number_of field reg m) k) Q
  by_number field reg j n m H h = by_done k Q (number_of field reg m) (n.numbers field) m (number_done field reg j n m H) h

  pub by_open : (limit a : ℕ) (m : Memory) → m.rest.draft ≡ None → a < m.rest.versions → m.rest.versions < limit → Ends (k m.rest.versions (opened m a)) Q → Ends (then (open_of limit a m) k) Q
  by_open limit a m e l l' h = by_done k Q (open_of limit a m) m.rest.versions (opened m a) (open_done limit a m e l l') h

module _ {B : Type 0} (k : Bool → Memory → Done B) (Q : B → Memory → Type 0) where
  pub by_nil : (reg : ℕ) (x : Option ℕ) (m : Memory) → reg < 40 → m.regs reg ≡ x → Ends (k (is_nil x) m) Q → Ends (then (nil_of reg m) k) Q
  by_nil reg x m l e h = by_done k Q (nil_of reg m) (is_nil x) m (nil_done reg m l ∙ ap (λ y. done (is_nil y) m) e) h

  pub by_same : (a b : ℕ) (x y : Option ℕ) (m : Memory) → a < 40 → b < 40 → m.regs a ≡ x → m.regs b ≡ y → Ends (k (same_ref x y) m) Q → Ends (then (same_of a b m) k) Q
  by_same a b x y m l l' e f h = by_done k Q (same_of a b m) (same_ref x y) m (same_done a b m l l' ∙ ap (λ u. done (same_ref u (m.regs b)) m) e ∙ ap (λ u. done (same_ref x u) m) f) h

module _ {B : Type 0} (k : Unit {0} → Memory → Done B) (Q : B → Memory → Type 0) where
  pub by_load : (root reg : ℕ) (m : Memory) (x : Option ℕ) → root < 3 → reg < 40 → m.state.roots root ≡ x → Ends (k tt (with_reg m reg x)) Q → Ends (then (load_of root reg m) k) Q
  by_load root reg m x l l' e h = by_done k Q (load_of root reg m) tt (with_reg m reg x) (load_done root reg m l l' ∙ ap (λ y. done tt (with_reg m reg y)) e) h

  pub by_move : (from reg : ℕ) (m : Memory) (x : Option ℕ) → from < 40 → reg < 40 → m.regs from ≡ x → Ends (k tt (with_reg m reg x)) Q → Ends (then (move_of from reg m) k) Q
  by_move from reg m x l l' e h = by_done k Q (move_of from reg m) tt (with_reg m reg x) (move_done from reg m l l' ∙ ap (λ y. done tt (with_reg m reg y)) e) h

  pub by_follow : (from side reg j : ℕ) (n : Node) (m : Memory) (x : Option ℕ) → Holds m from j n → side < 2 → reg < 40 → n.links side ≡ x → Ends (k tt (with_reg m reg x)) Q → Ends (then (follow_of from side reg m) k) Q
  by_follow from side reg j n m x H l l' e h = by_done k Q (follow_of from side reg m) tt (with_reg m reg x) (follow_done from side reg j n m H l l' ∙ ap (λ y. done tt (with_reg m reg y)) e) h

  pub by_make : (reg key value mark : ℕ) (m : Memory) → reg < 40 → m.writable ≡ true → m.made < m.node_limit → Ends (k tt (born m reg (new_node key value mark))) Q → Ends (then (make_of reg key value mark m) k) Q
  by_make reg key value mark m l w r h = by_done k Q (make_of reg key value mark m) tt (born m reg (new_node key value mark)) (make_done reg key value mark m l w r) h

  pub by_link : (from side reg j : ℕ) (n : Node) (m : Memory) (x : Option ℕ) → Holds m from j n → side < 2 → reg < 40 → Free m → m.regs reg ≡ x
      → ((i : ℕ) → hits i (n.links side) ≤ m.state.names i) → ((i : ℕ) → x ≡ Some i → m.state.names i ≤ 1 + hits i (n.links side))
      → ((m' : Memory) → Linked m m' j n side x → Ends (k tt m') Q) → Ends (then (link_of from side reg m) k) Q
  by_link from side reg j n m x H l l' F e true_old few h =
      by_done k Q (link_of from side reg m) tt (written of_link m (link_set m.state j n side x))
      (link_done from side reg j n m H l l' F (subst (λ y. names_of (renamed m.state.names (n.links side) y) y ≤ 2) (sym e) (two_names m.state.names x (n.links side) few))
      ∙ ap (λ y. done tt (written of_link m (link_set m.state j n side y))) e) (h _ (linked_set m j n side x true_old))

  pub by_save : (root reg : ℕ) (m : Memory) (x : Option ℕ) → root < 3 → reg < 40 → Free m → m.regs reg ≡ x
      → ((i : ℕ) → hits i (m.state.roots root) ≤ m.state.names i) → ((i : ℕ) → x ≡ Some i → m.state.names i ≤ 1 + hits i (m.state.roots root))
      → ((m' : Memory) → Rooted m m' root x → Ends (k tt m') Q) → Ends (then (save_of root reg m) k) Q
  by_save root reg m x l l' F e true_old few h =
      by_done k Q (save_of root reg m) tt (written of_link m (root_set m.state root x))
      (save_done root reg m l l' F (subst (λ y. names_of (renamed m.state.names (m.state.roots root) y) y ≤ 2) (sym e) (two_names m.state.names x (m.state.roots root) few))
      ∙ ap (λ y. done tt (written of_link m (root_set m.state root y))) e) (h _ (rooted_set m root x true_old))

  pub by_set_number : (field reg x j : ℕ) (n : Node) (m : Memory) → Holds m reg j n → Free m → ((m' : Memory) → Numbered m m' j n field x → Ends (k tt m') Q) → Ends (then (set_number_of field reg x m) k) Q
  by_set_number field reg x j n m H F h = by_done k Q (set_number_of field reg x m) tt (written of_number m (node_set m.state j (with_number field x n))) (set_number_done field reg x j n m H F) (h _ (numbered_set m j n field x))

  pub by_enter : (v : ℕ) (m : Memory) → v < m.rest.versions → Ends (k tt (entered m v)) Q → Ends (then (enter_of v m) k) Q
  by_enter v m l h = by_done k Q (enter_of v m) tt (entered m v) (enter_done v m l) h

  pub by_close : (d : ℕ) (m : Memory) → m.rest.draft ≡ Some d → Ends (k tt (closed m)) Q → Ends (then (close_of m) k) Q
  by_close d m e h = by_done k Q (close_of m) tt (closed m) (close_done d m e) h
