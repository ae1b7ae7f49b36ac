-- The colour of a register's node, and the child of one, off the front of a row; red children.
use Rattle.std.proofs.Common.{◌≡◌, ℕ, ◌<◌, Bool, true, false, eqb, Some, None, refl, ◌∙◌}
use Rattle.trees.specs.Trees.{Tree, leaf, node, is_node, root_of, child}
use Rattle.trees.specs.RedBlack.{red}
use Rattle.memory.specs.Memory.{Memory}
use Rattle.memory.specs.Steps.{Done, done, no, then, with_reg, follow_of, number_of, nil_of}
use Rattle.memory.specs.Effects.{Ends}
use Rattle.memory.proofs.By.{by_nil, by_number, by_follow}
use Rattle.stored.specs.Stored.{side, colour, Stored}
use Rattle.stored.proofs.Parts.{side_low, root_of_lem, stored_root}
use Rattle.map_steps.specs.Insert.{red_of}

pub red_node : (t : Tree Bool ℕ) → red t ≡ true → is_node t ≡ true
red_node leaf h = h
red_node (node n c e l r) h = refl

module _ {A : Type 0} (k : Bool → Memory → Done A) (Q : A → Memory → Type 0) where
  then_in : {X Y : Type 0} (a : Done X) (f : X → Memory → Done Y) (h : Y → Memory → Done A) → Ends (then a (λ x m. then (f x m) h)) Q → Ends (then (then a f) h) Q
  then_in (done x m) f h e = e
  then_in (no z) f h e = e

  pub by_red : (r : ℕ) → r < 40 → (m : Memory) (u : Tree Bool ℕ) → m.regs r ≡ root_of u → Stored colour m.state.nodes u → Ends (k (red u) m) Q → Ends (then (red_of r m) k) Q
  unfolding red_of
  by_red r l m leaf e h g = then_in (nil_of r m) _ k (by_nil _ Q r None m l e g)
  by_red r l m (node n true f a b) e h g =
      then_in (nil_of r m) _ k (by_nil _ Q r (Some n) m l e (then_in (number_of 1 r m) _ k
      (by_number (λ x m2. k (eqb x 1) m2) Q 1 r n h.0.it m (record { low = l; names = e; node = h.0.there }) (rw h.0.mark g))))
  by_red r l m (node n false f a b) e h g =
      then_in (nil_of r m) _ k (by_nil _ Q r (Some n) m l e (then_in (number_of 1 r m) _ k
      (by_number (λ x m2. k (eqb x 1) m2) Q 1 r n h.0.it m (record { low = l; names = e; node = h.0.there }) (rw h.0.mark g))))

module _ {A : Type 0} (k : Unit {0} → Memory → Done A) (Q : A → Memory → Type 0) where
  -- register d holds t; its child goes into register r
  pub by_child : {M : Type 0} (enc : M → ℕ) (m : Memory) (d r : ℕ) (s : Bool) (t : Tree M ℕ) → d < 40 → r < 40 → is_node t ≡ true → m.regs d ≡ root_of t → Stored enc m.state.nodes t
      → Ends (k tt (with_reg m r (root_of (child s t)))) Q → Ends (then (follow_of d (side s) r m) k) Q
  by_child enc m d r s t ld lr f e h go =
      let nt = root_of_lem t f in
      let N = stored_root enc m.state.nodes s t nt.0 nt.1 h in
      by_follow k Q d (side s) r nt.0 N.0 m (root_of (child s t)) (record { low = ld; names = e ∙ nt.1; node = N.1 }) (side_low s) lr N.2 go
