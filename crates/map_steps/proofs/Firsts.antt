-- The first node of a tree leaves its place, and what removals take.
use Rattle.std.proofs.Common.{◌≡◌, ℕ, zero, suc, ◌+◌, ◌*◌, ◌<◌, ◌≤◌, Bool, true, false, cond, Some, None, Option, sym, refl, ◌∙◌, subst, arith}
use Rattle.trees.specs.Trees.{Entry, Tree, leaf, node, is_node, root_of, with_child, occurrences, height}
use Rattle.trees.specs.RedBlack.{Balanced}
use Rattle.trees.specs.Removal.{Shrunk, sibling_fixed, short_fixed, step_up, without_first, first_entry, first_serial}
use Rattle.trees.proofs.Removals.{first_occurrences, first_shrinks}
use Rattle.memory.specs.Memory.{Node, Memory, changed, put}
use Rattle.memory.specs.Steps.{with_reg}
use Rattle.memory.specs.Effects.{Ends}
use Rattle.memory.proofs.Numbers.{put_same, put_other}
use Rattle.memory.proofs.By.{ends_then, ends_all, by_nil}
use Rattle.stored.specs.Stored.{side, colour, NamedOnce}
use Rattle.stored.specs.Becomes.{Cost, nothing, plus, Ready, Becomes}
use Rattle.stored.proofs.Parts.{self, no_test}
use Rattle.stored.proofs.Changes.{ready_child, ready_scratch, once_child}
use Rattle.map_steps.specs.Remove.{step_up_of, take_of, first_of}
use Rattle.map_steps.proofs.Reds.{by_child}
use Rattle.map_steps.proofs.Shorts.{short_cost}
use Rattle.map_steps.proofs.Takes.{take_cost, take_ends}
use Rattle.map_steps.proofs.StepsUp.{step_cost, as_step, step_ends}

short_low : (s : Bool) (t : Tree Bool ℕ) → ((short_cost s t).links ≤ cond (short_fixed s t).short 0 9) × ((short_cost s t).numbers ≤ 2 + cond (short_fixed s t).short 0 5) × ((short_cost s t).nodes ≡ 0)
unfolding short_fixed sibling_fixed
short_low s t = (grind arith, grind arith, grind arith)

-- what a removal takes, by the height: at most 1 link and 2 numbers a level, and 9 and 5 where nothing is passed on
pub record Thrifty (h p q : ℕ) (x : Shrunk ℕ) (c : Cost) : Type 0 where
  pub links : c.links ≤ h + p + cond x.short 0 9
  pub numbers : c.numbers ≤ 2 * h + q + cond x.short 0 5
  pub nodes : c.nodes ≡ 0

pub thrifty_more : (h h' p q : ℕ) (x : Shrunk ℕ) (c : Cost) → h ≤ h' → Thrifty h p q x c → Thrifty h' p q x c
thrifty_more h h' p q x c l T = record { links = omega (arith, T.links); numbers = omega (arith, T.numbers); nodes = T.nodes }

-- at most so much, whether short or not
pub thrifty_all : (h p q : ℕ) (x : Shrunk ℕ) (c : Cost) → Thrifty h p q x c → (c.links ≤ h + p + 9) × (c.numbers ≤ 2 * h + q + 5)
thrifty_all h p q x c T = (let a = T.links in grind arith, let b = T.numbers in grind arith)

-- the side put right
pub thrifty_short : (h p q : ℕ) (s : Bool) (v : Tree Bool ℕ) (b : Bool) (c : Cost) → c.links ≤ h + p + cond b 0 9 → c.numbers ≤ 2 * h + q + cond b 0 5 → c.nodes ≡ 0
    → Thrifty (suc h) p q (cond b (short_fixed s v) (record { tree = v; short = false })) (plus c (cond b (short_cost s v) nothing))
thrifty_short h p q s v true c x y z = let f = short_low s v in record { links = omega (arith, f.0); numbers = omega (arith, f.1); nodes = omega (arith, f.2) }
thrifty_short h p q s v false c x y z = record { links = omega arith; numbers = omega arith; nodes = omega arith }

pub thrifty_step : (h p q : ℕ) (s : Bool) (t : Tree Bool ℕ) (x : Shrunk ℕ) (c : Cost) → Thrifty h p q x c → Thrifty (suc h) p q (step_up s t x) (plus c (step_cost s t x))
thrifty_step h p q s t x c T = go x.short refl
  where
    go : (b : Bool) → x.short ≡ b → Thrifty (suc h) p q (step_up s t x) (plus c (step_cost s t x))
    go true e =
        let f = short_low s (with_child s t x.tree) in
        let a : c.links ≤ h + p + 0 = rw e at T.links in
        let b : c.numbers ≤ 2 * h + q + 0 = rw e at T.numbers in
        subst (λ (y : Shrunk ℕ). Thrifty (suc h) p q y (plus c (step_cost s t x))) (sym (as_step s t x true e)) (rw e (record { links = omega (arith, f.0); numbers = omega (arith, f.1); nodes = omega (arith, f.2, T.nodes) }))
    go false e =
        let a : c.links ≤ h + p + 9 = rw e at T.links in
        let b : c.numbers ≤ 2 * h + q + 5 = rw e at T.numbers in
        subst (λ (y : Shrunk ℕ). Thrifty (suc h) p q y (plus c (step_cost s t x))) (sym (as_step s t x false e)) (rw e (record { links = omega arith; numbers = omega arith; nodes = omega (arith, T.nodes) }))

pub take_low : (out s : Bool) (t : Tree Bool ℕ) → ((take_cost out s t).links ≤ cond out 2 1) × ((take_cost out s t).numbers ≤ 1) × ((take_cost out s t).nodes ≡ 0)
take_low out s t = (grind arith, grind arith, grind arith)

abbrev pub first_cost : Tree Bool ℕ → Cost
first_cost leaf = nothing
first_cost (node n c e l r) = cond (is_node l) (plus (first_cost l) (step_cost false (node n c e l r) (without_first l))) (take_cost false true (node n c e l r))

pub first_thrifty : (t : Tree Bool ℕ) → Thrifty (height t) 0 0 (without_first t) (first_cost t)
first_thrifty leaf = record { links = omega arith; numbers = omega arith; nodes = refl }
first_thrifty (node n c e leaf r) = let z = take_low false true (node n c e leaf r) in record { links = omega (arith, z.0); numbers = omega (arith, z.1); nodes = z.2 }
first_thrifty (node n c e (node n₂ c₂ e₂ l₂ r₂) r) =
    let l = node n₂ c₂ e₂ l₂ r₂ in
    thrifty_more (suc (height l)) _ 0 0 _ _ (omega arith) (thrifty_step (height l) 0 0 false (node n c e l r) (without_first l) (first_cost l) (first_thrifty (node n₂ c₂ e₂ l₂ r₂)))

pub serial_any : (t : Tree Bool ℕ) (a b : ℕ) → is_node t ≡ true → first_serial t a ≡ first_serial t b
serial_any leaf a b h = no_test h
serial_any (node n c e l r) a b h = refl

-- the same memory with other registers
abbrev pub over : Memory → (ℕ → Option ℕ) → Memory
over m f = record { state = m.state; regs = f; made = m.made; birth = m.birth; linked = m.linked; numbered = m.numbered; node_limit = m.node_limit; change_limit = m.change_limit; writable = m.writable; rest = m.rest }

pub ready_over : (m : Memory) (f : ℕ → Option ℕ) (d : ℕ) (t : Tree Bool ℕ) → f d ≡ root_of t → Ready colour m d t → Ready colour (over m f) d t
ready_over m f d t e R = record { reg = e; stored = R.stored; distinct = R.distinct; within = R.within; counted = R.counted; may = R.may }

-- The first node is in register 36, without links; registers start were set on the way.
pub record FirstTaken (m m' : Memory) (d : ℕ) (t : Tree Bool ℕ) (short : Bool) : Type 0 where
  pub flag : short ≡ (without_first t).short
  pub start : ℕ → Option ℕ
  pub below : (r : ℕ) → r < d → start r ≡ m.regs r
  pub nil : start 35 ≡ m.regs 35
  pub beside : start 37 ≡ m.regs 37
  pub becomes : Becomes colour (over m start) m' d t (without_first t).tree (first_cost t)
  pub taken : m'.regs 36 ≡ Some (first_serial t 0)
  pub y : Node
  pub there : m'.state.nodes (first_serial t 0) ≡ Some y
  pub key : (e : Entry ℕ) → y.key ≡ (first_entry t e).key
  pub value : (e : Entry ℕ) → y.numbers 0 ≡ (first_entry t e).value
  pub bare : (s : Bool) → y.links (side s) ≡ None

pub first_ends : (g : ℕ) (m : Memory) (d : ℕ) (t : Tree Bool ℕ) → is_node t ≡ true → Ready colour m d t → NamedOnce m t → m.regs 35 ≡ None → Balanced t → height t ≤ g → height t + d ≤ 25 → changed m + (3 * height t + 40) ≤ m.change_limit
    → Ends (first_of g d m) (λ short m'. FirstTaken m m' d t short)
unfolding first_of
first_ends g m d leaf h R L nil balanced hg hd q = no_test h
first_ends zero m d (node n c e l r) h R L nil balanced hg hd q = absurd (omega arith)
first_ends (suc g) m d (node n c e leaf r) h R L nil balanced hg hd q =
    let t = node n c e leaf r in
    let m₁ = with_reg m (suc d) None in
    let N = R.stored.0 in
    by_child _ _ colour m d (suc d) false t (omega arith) (omega arith) refl R.reg R.stored
    (by_nil _ _ (suc d) None m₁ (omega arith) (put_same m.regs (suc d) None)
    (ends_all (take_of false d true m₁) _ _ (take_ends false m₁ d true t n N.it refl N.there refl (ready_scratch colour m d (suc d) None t (omega arith) R) (put_other m.regs (suc d) 35 None (omega arith) ∙ nil) (omega arith) (omega arith))
    (λ short m' T. record {
      flag = T.flag;
      start = put (put m.regs (suc d) None) 36 (Some n);
      below = λ j p. put_other (put m.regs (suc d) None) 36 j (Some n) (omega arith) ∙ put_other m.regs (suc d) j None (omega arith);
      nil = put_other (put m.regs (suc d) None) 36 35 (Some n) (omega arith) ∙ put_other m.regs (suc d) 35 None (omega arith);
      beside = put_other (put m.regs (suc d) None) 36 37 (Some n) (omega arith) ∙ put_other m.regs (suc d) 37 None (omega arith);
      becomes = T.becomes;
      taken = T.becomes.still 36 (omega arith) (omega arith) ∙ put_same (put m.regs (suc d) None) 36 (Some n);
      y = T.y;
      there = T.there;
      key = λ _. T.key ∙ N.key;
      value = λ _. T.numbers 0 ∙ N.value;
      bare = T.nil;
    })))
first_ends (suc g) m d (node n c e (node n₂ c₂ e₂ l₂ r₂) r) h R L nil balanced hg hd q =
    let l = node n₂ c₂ e₂ l₂ r₂ in
    let t = node n c e l r in
    let m₁ = with_reg m (suc d) (Some n₂) in
    let low = thrifty_all (height l) 0 0 (without_first l) (first_cost l) (first_thrifty l) in
    by_child _ _ colour m d (suc d) false t (omega arith) (omega arith) refl R.reg R.stored
    (by_nil _ _ (suc d) (Some n₂) m₁ (omega arith) (put_same m.regs (suc d) (Some n₂))
    (ends_then (first_of g (suc d) m₁) _ (λ short m₂. FirstTaken m₁ m₂ (suc d) l short) _
    (first_ends g m₁ (suc d) l refl (ready_child colour m₁ d (suc d) false t (put_same m.regs (suc d) (Some n₂)) (ready_scratch colour m d (suc d) (Some n₂) t (omega arith) R)) (once_child colour m false t L) (put_other m.regs (suc d) 35 (Some n₂) (omega arith) ∙ nil) balanced.0 (omega arith) (omega arith) (omega arith))
    (λ short m₂ B.
    let f = B.start in
    let x = first_serial l 0 in
    let tb = first_occurrences l 0 x refl in
    let z : occurrences x (node n c e (without_first l).tree r) ≡ 0 = let a = R.distinct x in omega (arith, self x) in
    let wx : x < m.made = R.within x (omega (arith, self x)) in
    subst (λ (b : Bool). Ends (step_up_of d false b m₂) (λ short' m'. FirstTaken m m' d t short')) (sym B.flag)
    (ends_all (step_up_of d false (without_first l).short m₂) _ _
    (step_ends (over m f) m₂ d false t (without_first l) (first_cost l) (ready_over m f d t (B.below d (omega arith) ∙ put_other m.regs (suc d) d (Some n₂) (omega arith) ∙ R.reg) R) L (B.nil ∙ put_other m.regs (suc d) 35 (Some n₂) (omega arith) ∙ nil) (omega arith) refl balanced (first_shrinks l balanced.0)
    (λ i. omega (arith, first_occurrences l 0 i refl)) (omega (arith, low.0, low.1)) B.becomes)
    (λ short' m' S.
    let same = S.2 x z wx in
    record {
      flag = S.0;
      start = f;
      below = λ j p. B.below j (omega arith) ∙ put_other m.regs (suc d) j (Some n₂) (omega arith);
      nil = B.nil ∙ put_other m.regs (suc d) 35 (Some n₂) (omega arith);
      beside = B.beside ∙ put_other m.regs (suc d) 37 (Some n₂) (omega arith);
      becomes = S.1;
      taken = S.1.still 36 (omega arith) (omega arith) ∙ sym (B.becomes.still 36 (omega arith) (omega arith)) ∙ B.taken;
      y = B.y;
      there = same ∙ B.there;
      key = λ _. B.key e;
      value = λ _. B.value e;
      bare = B.bare;
    })))))
