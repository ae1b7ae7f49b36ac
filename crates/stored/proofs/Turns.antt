-- The rotation of the tree under a register.
use Rattle.std.proofs.Common.{◌≡◌, ℕ, ◌+◌, ◌<◌, ◌≤◌, Bool, true, false, not, Some, sym, ap, ◌∙◌, subst, arith}
use Rattle.trees.specs.Trees.{Entry, Tree, leaf, node, is_node, root_of, child, node_on, rotated, occurrences}
use Rattle.memory.specs.Memory.{Memory, changed, put, hits}
use Rattle.memory.specs.Steps.{with_reg, move_of}
use Rattle.memory.specs.Effects.{Ends}
use Rattle.memory.proofs.Numbers.{put_same, put_other, hits_some, some_same}
use Rattle.memory.proofs.By.{ends_last, by_follow, by_link, by_move}
use Rattle.stored.specs.Stored.{side, Stored, inside, NamedOnce}
use Rattle.stored.specs.Writes.{rotate_of}
use Rattle.stored.specs.Becomes.{cost, Ready, Becomes}
use Rattle.stored.proofs.Parts.{self, side_low, no_test, hits_root, node_on_lem, on_node_lem, keep_else}
use Rattle.stored.proofs.Nodes.{root_on, of_on, inside_on, link_node, move_node}
use Rattle.stored.proofs.Writing.{from_linked}

module _ {M : Type 0} (enc : M → ℕ) where
  -- n on top, with p on the side s, whose inner child is b; then p on top, with n, which has b
  turn_on : (m : Memory) (d : ℕ) (s : Bool) (n : ℕ) (c : M) (e : Entry ℕ) (p : ℕ) (f : M) (g : Entry ℕ) (a b r : Tree M ℕ)
      → Ready enc m d (node_on s n c e (node_on (not s) p f g b a) r) → NamedOnce m (node_on s n c e (node_on (not s) p f g b a) r) → d < 30 → changed m + 2 ≤ m.change_limit
      → Ends (rotate_of d s m) (λ _ m'. Becomes enc m m' d (node_on s n c e (node_on (not s) p f g b a) r) (node_on (not s) p f g (node_on s n c e b r) a) (cost 2 0 0))
  unfolding rotate_of
  turn_on m d s n c e p f g a b r R low dl sp =
      let P = node_on (not s) p f g b a in
      let T = node_on s n c e P r in
      let I = node_on s n c e b r in
      let nodes = m.state.nodes in
      let o_t : (i : ℕ) → occurrences i T ≡ hits i (Some n) + (hits i (Some p) + occurrences i b + occurrences i a) + occurrences i r = λ i. omega (arith, of_on i s n c e P r, of_on i (not s) p f g b a) in
      let o_i : (i : ℕ) → occurrences i I ≡ hits i (Some n) + occurrences i b + occurrences i r = λ i. of_on i s n c e b r in
      let r_p : root_of P ≡ Some p = root_on (not s) p f g b a in
      let i_t : (i : ℕ) → inside i T ≡ hits i (Some p) + hits i (root_of r) + (hits i (root_of b) + hits i (root_of a) + inside i b + inside i a) + inside i r = λ i. let y : hits i (root_of P) ≡ hits i (Some p) = ap (hits i) r_p in omega (arith, inside_on i s n c e P r, inside_on i (not s) p f g b a) in
      let H = node_on_lem enc nodes s n c e P r R.stored in
      let G = node_on_lem enc nodes (not s) p f g b a H.1 in
      let xn = H.0 in
      let xp = G.0 in
      let dn = R.distinct n in
      let dp = R.distinct p in
      let on = o_t n in
      let op = o_t p in
      let sn = self n in
      let ss = self p in
      let nb : occurrences n b ≡ 0 = omega arith in
      let nr : occurrences n r ≡ 0 = omega arith in
      let pb : occurrences p b ≡ 0 = omega arith in
      let pa : occurrences p a ≡ 0 = omega arith in
      let pr : occurrences p r ≡ 0 = omega arith in
      let pn : hits p (Some n) ≡ 0 = omega arith in
      let np : n ≡ p → ⊥ = λ q. (let y : hits p (Some n) ≡ hits p (Some p) = ap (λ (j : ℕ). hits p (Some j)) q in omega arith) in
      let ln : m.state.names n ≤ 1 = low n (omega arith) in
      let rb = root_of b in
      let m₁ = with_reg m 30 (Some p) in
      let m₂ = with_reg m₁ 31 rb in
      let near : xn.it.links (side s) ≡ Some p = xn.near ∙ r_p in
      let r30 : m₂.regs 30 ≡ Some p = put_other (put m.regs 30 (Some p)) 31 30 rb (omega arith) ∙ put_same m.regs 30 (Some p) in
      let rd : m₂.regs d ≡ Some n = put_other (put m.regs 30 (Some p)) 31 d rb (omega arith) ∙ put_other m.regs 30 d (Some p) (omega arith) ∙ R.reg ∙ root_on s n c e P r in
      by_follow _ _ d (side s) 30 n xn.it m (Some p) (record { low = omega arith; names = R.reg ∙ root_on s n c e P r; node = xn.there }) (side_low s) (omega arith) near
      (by_follow _ _ 30 (side (not s)) 31 p xp.it m₁ rb (record { low = omega arith; names = put_same m.regs 30 (Some p); node = xp.there }) (side_low (not s)) (omega arith) xp.near
      (by_link _ _ d (side s) 31 n xn.it m₂ rb (record { low = omega arith; names = rd; node = xn.there }) (side_low s) (omega arith) (record { writable = R.may; left = omega arith }) (put_same (put m.regs 30 (Some p)) 31 rb)
      (λ i. let y : hits i (xn.it.links (side s)) ≡ hits i (Some p) = ap (hits i) near in omega (arith, R.counted i, i_t i))
      (λ i q. let w = low i (omega (arith, o_t i, hits_root i b, hits_some i rb q)) in omega arith)
      (λ m₃ L₁.
      let E₁ = from_linked m₂ m₃ n xn.it s rb L₁ in
      let n₁ : (i : ℕ) → m₃.state.names i + hits i (Some p) ≡ m.state.names i + hits i rb = λ i. let y : hits i (xn.it.links (side s)) ≡ hits i (Some p) = ap (hits i) near in omega (arith, L₁.named i) in
      let p₃ : m₃.state.nodes p ≡ nodes p = L₁.wrote.else p np in
      by_link _ _ 30 (side (not s)) d p xp.it m₃ (Some n) (record { low = omega arith; names = L₁.change.regs 30 ∙ r30; node = p₃ ∙ xp.there }) (side_low (not s)) (omega arith)
      (record { writable = L₁.change.writable ∙ R.may; left = omega (arith, L₁.change.linked, L₁.change.numbered, L₁.change.change_limit) }) (L₁.change.regs d ∙ rd)
      (λ i. let y : hits i (xp.it.links (side (not s))) ≡ hits i rb = ap (hits i) xp.near in omega (arith, n₁ i, R.counted i, i_t i))
      (λ i q. let z : n ≡ i = some_same q in subst (λ (j : ℕ). m₃.state.names j ≤ 1 + hits j (xp.it.links (side (not s)))) z (omega (arith, n₁ n, hits_root n b)))
      (λ m₄ L₂.
      let E₂ = from_linked m₃ m₄ p xp.it (not s) (Some n) L₂ in
      let n₂ : (i : ℕ) → m₄.state.names i + hits i rb ≡ m₃.state.names i + hits i (Some n) = λ i. let y : hits i (xp.it.links (side (not s))) ≡ hits i rb = ap (hits i) xp.near in omega (arith, L₂.named i) in
      let inner : Stored enc m₃.state.nodes I = on_node_lem enc m₃.state.nodes s n c e b r
      (link_node enc nodes m₃.state.nodes s n c e P r b xn.it E₁.y xn xn.there E₁.edited.here E₁.key E₁.numbers E₁.near E₁.far)
      (keep_else enc nodes m₃.state.nodes n b L₁.wrote.else nb G.1) (keep_else enc nodes m₃.state.nodes n r L₁.wrote.else nr H.2) in
      let p_i : occurrences p I ≡ 0 = omega (arith, o_i p) in
      let na : occurrences n a ≡ 0 = omega arith in
      ends_last (move_of 30 d m₄) _ (by_move _ _ 30 d m₄ (Some p) (omega arith) (omega arith) (L₂.change.regs 30 ∙ L₁.change.regs 30 ∙ r30)
      (record {
        reg = put_same m₄.regs d (Some p) ∙ sym (root_on (not s) p f g I a);
        stored = on_node_lem enc m₄.state.nodes (not s) p f g I a
            (link_node enc m₃.state.nodes m₄.state.nodes (not s) p f g b a I xp.it E₂.y (move_node enc nodes m₃.state.nodes (not s) p f g b a p₃ xp) (p₃ ∙ xp.there) E₂.edited.here E₂.key E₂.numbers (E₂.near ∙ sym (root_on s n c e b r)) E₂.far)
            (keep_else enc m₃.state.nodes m₄.state.nodes p I L₂.wrote.else p_i inner)
            (keep_else enc m₃.state.nodes m₄.state.nodes p a L₂.wrote.else pa (keep_else enc nodes m₃.state.nodes n a L₁.wrote.else na G.2));
        others = λ i z v. L₂.wrote.else i (λ q. let y : occurrences p T ≡ 0 = ap (λ (j : ℕ). occurrences j T) q ∙ z in omega arith) ∙ L₁.wrote.else i (λ q. let y : occurrences n T ≡ 0 = ap (λ (j : ℕ). occurrences j T) q ∙ z in omega arith);
        kept = λ i l. put_other m₄.regs d i (Some p) (omega arith) ∙ L₂.change.regs i ∙ L₁.change.regs i ∙ put_other (put m.regs 30 (Some p)) 31 i rb (omega arith) ∙ put_other m.regs 30 i (Some p) (omega arith);
        still = λ w w₁ w₂. put_other m₄.regs d w (Some p) (omega arith) ∙ L₂.change.regs w ∙ L₁.change.regs w ∙ put_other (put m.regs 30 (Some p)) 31 w rb (omega arith) ∙ put_other m.regs 30 w (Some p) (omega arith);
        named = λ i. let y : hits i (root_of I) ≡ hits i (Some n) = ap (hits i) (root_on s n c e b r) in omega (arith, n₂ i, n₁ i, i_t i, inside_on i (not s) p f g I a, inside_on i s n c e b r);
        roots = λ i. L₂.wrote.roots i ∙ L₁.wrote.roots i;
        linked = omega (arith, L₂.change.linked, L₁.change.linked);
        numbered = omega (arith, L₂.change.numbered, L₁.change.numbered);
        made = omega (arith, L₂.change.made, L₁.change.made);
        node_limit = L₂.change.node_limit ∙ L₁.change.node_limit;
        change_limit = L₂.change.change_limit ∙ L₁.change.change_limit;
        writable = L₂.change.writable ∙ L₁.change.writable;
        rest = L₂.change.rest ∙ L₁.change.rest;
      }))))))

  pub turn : (m : Memory) (d : ℕ) (s : Bool) (t : Tree M ℕ) → is_node (child s t) ≡ true → Ready enc m d t → NamedOnce m t → d < 30 → changed m + 2 ≤ m.change_limit
      → Ends (rotate_of d s m) (λ _ m'. Becomes enc m m' d t (rotated s t) (cost 2 0 0))
  turn m d s leaf h R low dl sp = no_test h
  turn m d false (node n c e leaf r) h R low dl sp = no_test h
  turn m d true (node n c e r leaf) h R low dl sp = no_test h
  turn m d false (node n c e (node p f g a b) r) h R low dl sp = turn_on m d false n c e p f g a b r R low dl sp
  turn m d true (node n c e r (node p f g b a)) h R low dl sp = turn_on m d true n c e p f g a b r R low dl sp
