-- A node with one child at most leaves its place.
use Rattle.std.proofs.Common.{◌≡◌, ℕ, ◌+◌, ◌<◌, ◌≤◌, Bool, true, false, cond, not, Some, None, sym, refl, ap, ◌∙◌, subst, arith}
use Rattle.trees.specs.Trees.{Tree, leaf, node, root_of, child, with_mark, occurrences}
use Rattle.trees.specs.RedBlack.{red}
use Rattle.trees.specs.Removal.{Shrunk, spliced}
use Rattle.memory.specs.Memory.{Node, Memory, changed, put, hits}
use Rattle.memory.specs.Steps.{with_reg}
use Rattle.memory.specs.Effects.{Ends, Holds}
use Rattle.memory.proofs.Numbers.{put_same, put_other, hits_some, some_same}
use Rattle.memory.proofs.By.{ends_then, ends_all, ends_cond, by_move}
use Rattle.stored.specs.Stored.{side, colour}
use Rattle.stored.specs.Writes.{relink_of, blank_of, Relinked, Cleared}
use Rattle.stored.proofs.Blanks.{blank_ends}
use Rattle.stored.specs.Becomes.{Cost, cost, nothing, plus, Ready, Becomes}
use Rattle.stored.proofs.Parts.{no_node, hits_root, of_children, inside_children, is_node_lem, stored_child, stored_root, keep_else}
use Rattle.stored.proofs.Writing.{relink_ends}
use Rattle.stored.proofs.Changes.{stay, by_mark}
use Rattle.map_steps.specs.Remove.{spliced_of, take_of}
use Rattle.map_steps.proofs.Reds.{red_node, by_red, by_child}

module _ {K : Type 0} where
  abbrev pub spliced_cost : Bool → Tree Bool K → Cost
  spliced_cost c u = cond c nothing (cond (red u) (cost 0 1 0) nothing)

  -- both links are written where the node is taken out
  abbrev pub take_cost : Bool → Bool → Tree Bool K → Cost
  take_cost out s t = plus (cost (cond out 2 1) 0 0) (spliced_cost (red t) (child s t))

  spliced_red : (u : Tree Bool K) → spliced true u ≡ record { tree = u; short = false }
  unfolding spliced
  spliced_red u = refl

  spliced_mark : (u : Tree Bool K) → red u ≡ true → spliced false u ≡ record { tree = with_mark false u; short = false }
  unfolding spliced
  spliced_mark u h = rw h

  spliced_black : (u : Tree Bool K) → red u ≡ false → spliced false u ≡ record { tree = u; short = true }
  unfolding spliced
  spliced_black leaf h = refl
  spliced_black (node n c e l r) h = rw h

pub spliced_ends : (m : Memory) (d : ℕ) (c : Bool) (u : Tree Bool ℕ) → Ready colour m d u → d < 26 → changed m < m.change_limit
    → Ends (spliced_of d c m) (λ short m'. (short ≡ (spliced c u).short) × Becomes colour m m' d u (spliced c u).tree (spliced_cost c u))
unfolding spliced_of
spliced_ends m d true u R l q = subst (λ (y : Shrunk ℕ). (false ≡ y.short) × Becomes colour m m d u y.tree nothing) (sym (spliced_red u)) (refl, stay colour m d u u R refl)
spliced_ends m d false u R l q = by_red _ _ d (omega arith) m u R.reg R.stored (ends_cond (red u) _ _ _
    (λ h. by_mark colour _ _ m d (omega arith) false u (red_node u h) R q (λ m' G V. rw h (subst (λ (y : Shrunk ℕ). (false ≡ y.short) × Becomes colour m m' d u y.tree (cost 0 1 0)) (sym (spliced_mark u h)) (refl, V))))
    (λ h. rw h (subst (λ (y : Shrunk ℕ). (true ≡ y.short) × Becomes colour m m d u y.tree nothing) (sym (spliced_black u h)) (refl, stay colour m d u u R refl))))

-- one link is nil already, and the other is written
one_link : (m m' : Memory) (n : ℕ) (x : Node) (s : Bool) → x.links (side (not s)) ≡ None → Relinked m m' n x s None → Cleared 1 m m' n x
one_link m m' n x s bare L = record {
  y = L.y;
  edited = L.edited;
  spends = L.spends;
  key = L.key;
  numbers = L.numbers;
  nil = both_nil s L.y L.near (L.far ∙ bare);
  named = λ i. let a : hits i (x.links (side (not s))) ≡ 0 = ap (hits i) bare in let b = sides s i in omega (arith, L.named i);
}
  where
    both_nil : (s : Bool) (y : Node) → y.links (side s) ≡ None → y.links (side (not s)) ≡ None → (r : Bool) → y.links (side r) ≡ None
    both_nil true y a b true = a
    both_nil true y a b false = b
    both_nil false y a b true = b
    both_nil false y a b false = a

    sides : (s : Bool) (i : ℕ) → hits i (x.links 0) + hits i (x.links 1) ≡ hits i (x.links (side s)) + hits i (x.links (side (not s)))
    sides true i = omega arith
    sides false i = omega arith

pub sides_sum : (x : Node) (s : Bool) (i : ℕ) → hits i (x.links 0) + hits i (x.links 1) ≡ hits i (x.links (side s)) + hits i (x.links (side (not s)))
sides_sum x true i = omega arith
sides_sum x false i = omega arith

clear_ends : (out : Bool) (m : Memory) (s : Bool) (n : ℕ) (x : Node) → Holds m 36 n x → m.regs 35 ≡ None → m.writable ≡ true → changed m + 2 ≤ m.change_limit → ((i : ℕ) → hits i (x.links 0) + hits i (x.links 1) ≤ m.state.names i) → x.links (side (not s)) ≡ None
    → Ends (cond out (blank_of 36 m) (relink_of 36 s 35 m)) (λ _ m'. Cleared (cond out 2 1) m m' n x)
clear_ends true m s n x H nil may q true_old bare = blank_ends m 36 n x H nil may q true_old
clear_ends false m s n x H nil may q true_old bare =
    ends_all (relink_of 36 s 35 m) _ _ (relink_ends m 36 s 35 n x None H (omega arith) (omega arith) (omega arith) (record { writable = may; left = omega arith }) nil (λ i. omega (arith, true_old i, sides_sum x s i)) (λ i g. no_node g))
    (λ _ m' L. one_link m m' n x s bare L)

-- the node n, which was x, is in register 36, without links
pub record Taken (out : Bool) (m m' : Memory) (d : ℕ) (s : Bool) (t : Tree Bool ℕ) (n : ℕ) (x : Node) (short : Bool) : Type 0 where
  pub flag : short ≡ (spliced (red t) (child s t)).short
  pub becomes : Becomes colour (with_reg m 36 (Some n)) m' d t (spliced (red t) (child s t)).tree (take_cost out s t)
  pub y : Node
  pub there : m'.state.nodes n ≡ Some y
  pub key : y.key ≡ x.key
  pub numbers : (i : ℕ) → y.numbers i ≡ x.numbers i
  pub nil : (r : Bool) → y.links (side r) ≡ None

small : (out : Bool) → cond {A = ℕ} out 2 1 ≤ 2
small true = omega arith
small false = omega arith

pub take_ends : (out : Bool) (m : Memory) (d : ℕ) (s : Bool) (t : Tree Bool ℕ) (n : ℕ) (x : Node) → root_of t ≡ Some n → m.state.nodes n ≡ Some x → child (not s) t ≡ leaf → Ready colour m d t → m.regs 35 ≡ None → d < 26 → changed m + 3 ≤ m.change_limit
    → Ends (take_of out d s m) (λ short m'. Taken out m m' d s t n x short)
unfolding take_of
take_ends out m d s t n x e hx bare R nil l q =
    let u = child s t in
    let m₁ = with_reg m 36 (Some n) in
    let m₂ = with_reg m₁ d (root_of u) in
    let zn : occurrences n u ≡ 0 = omega (arith, R.distinct n, of_children n s t, hits_some n (root_of t) e) in
    let zb : (i : ℕ) → occurrences i (child (not s) t) ≡ 0 = λ i. ap (λ (y : Tree Bool ℕ). occurrences i y) bare in
    let wn : n < m.made = R.within n (omega (arith, hits_root n t, hits_some n (root_of t) e)) in
    let N = stored_root colour m.state.nodes s t n e R.stored in
    let same : N.0 ≡ x = some_same (sym N.1 ∙ hx) in
    let near : x.links (side s) ≡ root_of u = ap (λ (y : Node). y.links (side s)) (sym same) ∙ N.2 in
    let far : x.links (side (not s)) ≡ None = ap (λ (y : Node). y.links (side (not s))) (sym same) ∙ N.3 ∙ ap root_of bare in
    let sums : (i : ℕ) → hits i (x.links 0) + hits i (x.links 1) ≡ hits i (root_of u) = λ i. let a : hits i (x.links (side s)) ≡ hits i (root_of u) = ap (hits i) near in let b : hits i (x.links (side (not s))) ≡ 0 = ap (hits i) far in omega (arith, sides_sum x s i) in
    let r36 : m₂.regs 36 ≡ Some n = put_other (put m.regs 36 (Some n)) d 36 (root_of u) (omega arith) ∙ put_same m.regs 36 (Some n) in
    let r35 : m₂.regs 35 ≡ None = put_other (put m.regs 36 (Some n)) d 35 (root_of u) (omega arith) ∙ put_other m.regs 36 35 (Some n) (omega arith) ∙ nil in
    let few = small out in
    by_move _ _ d 36 m (Some n) (omega arith) (omega arith) (R.reg ∙ e)
    (by_red _ _ 36 (omega arith) m₁ t (put_same m.regs 36 (Some n) ∙ sym e) R.stored
    (by_child _ _ colour m₁ 36 d s t (omega arith) (omega arith) (is_node_lem t n e) (put_same m.regs 36 (Some n) ∙ sym e) R.stored
    (ends_then (cond out (blank_of 36 m₂) (relink_of 36 s 35 m₂)) _ (λ _ m₃. Cleared (cond out 2 1) m₂ m₃ n x) _
    (clear_ends out m₂ s n x (record { low = omega arith; names = r36; node = hx }) r35 R.may (omega arith) (λ i. omega (arith, sums i, R.counted i, inside_children i s t, hits_root i u)) far)
    (λ _ m₃ C.
    let S = C.spends in
    let R₃ : Ready colour m₃ d u = record {
      reg = S.regs d (omega arith) ∙ put_same (put m.regs 36 (Some n)) d (root_of u);
      stored = keep_else colour m.state.nodes m₃.state.nodes n u C.edited.else zn (stored_child colour m.state.nodes s t R.stored);
      distinct = λ i. omega (arith, R.distinct i, of_children i s t);
      within = λ i p. let w = R.within i (omega (arith, of_children i s t)) in omega (arith, S.made);
      counted = λ i. omega (arith, C.named i, sums i, R.counted i, inside_children i s t, hits_root i u);
      may = S.writable ∙ R.may;
    } in
    ends_all (spliced_of d (red t) m₃) _ _ (spliced_ends m₃ d (red t) u R₃ l (omega (arith, S.linked, S.numbered, S.change_limit)))
    (λ short m' F. let W = F.1 in record {
      flag = F.0;
      y = C.y;
      there = W.others n zn (omega (arith, S.made)) ∙ C.edited.here;
      key = C.key;
      numbers = C.numbers;
      nil = C.nil;
      becomes = record {
        reg = W.reg;
        stored = W.stored;
        others = λ i z v. W.others i (omega (arith, of_children i s t)) (omega (arith, S.made)) ∙ C.edited.else i (λ g. let y : root_of t ≡ Some i = e ∙ ap Some g in omega (arith, hits_some i (root_of t) y, hits_root i t));
        kept = λ j p. W.kept j p ∙ S.regs j (omega arith) ∙ put_other (put m.regs 36 (Some n)) d j (root_of u) (omega arith);
        still = λ w w₁ w₂. W.still w w₁ w₂ ∙ S.regs w (omega arith) ∙ put_other (put m.regs 36 (Some n)) d w (root_of u) (omega arith);
        named = λ i. omega (arith, W.named i, C.named i, sums i, inside_children i s t, zb i, hits_root i u);
        roots = λ i. W.roots i ∙ C.edited.roots i;
        linked = omega (arith, W.linked, S.linked);
        numbered = omega (arith, W.numbered, S.numbered);
        made = omega (arith, W.made, S.made);
        node_limit = W.node_limit ∙ S.node_limit;
        change_limit = W.change_limit ∙ S.change_limit;
        writable = W.writable ∙ S.writable;
        rest = W.rest ∙ S.rest;
      };
    })))))
