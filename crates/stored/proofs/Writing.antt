-- The steps that write only what differs.
use Rattle.std.proofs.Common.{◌≡◌, ℕ, ◌+◌, ◌<◌, ◌≤◌, Bool, true, false, not, eqb, Some, None, Option, sym, refl, ap, ◌∙◌, arith}
use Rattle.memory.specs.Memory.{Node, Memory, hits, with_link, with_number}
use Rattle.memory.specs.Steps.{with_reg, same_ref, save_of, link_of, set_number_of}
use Rattle.memory.specs.Effects.{Ends, Holds, Free, Changed, Linked}
use Rattle.memory.proofs.Numbers.{put_same, put_other, eq_from}
use Rattle.memory.proofs.By.{ends_cond, ends_last, by_load, by_follow, by_number, by_same, by_link, by_save, by_set_number}
use Rattle.stored.specs.Stored.{side}
use Rattle.stored.specs.Writes.{relink_of, renumber_of, resave_of, Spends, Relinked, Renumbered, Resaved}
use Rattle.stored.proofs.Parts.{side_low, no_test}

same_true : (x y : Option ℕ) → same_ref x y ≡ true → x ≡ y
same_true None None h = refl
same_true None (Some k) h = no_test h
same_true (Some j) None h = no_test h
same_true (Some j) (Some k) h = ap Some (eq_from j k h)

other_side : (s : Bool) → side s ≡ side (not s) → ⊥
other_side true h = omega arith
other_side false h = omega arith

pub spent : (links numbers : ℕ) (m m' : Memory) → Changed links numbers m m' → Spends links numbers m m'
spent links numbers m m' c = record { regs = λ r _. c.regs r; made = c.made; linked = omega (arith, c.linked); numbered = omega (arith, c.numbered); node_limit = c.node_limit; change_limit = c.change_limit; writable = c.writable; rest = c.rest }

-- only register 32 is set before
pub spent_after : (links numbers : ℕ) (x : Option ℕ) (m m' : Memory) → Spends links numbers (with_reg m 32 x) m' → Spends links numbers m m'
spent_after links numbers x m m' c = record { regs = λ r h. c.regs r h ∙ put_other m.regs 32 r x (λ e. h (sym e)); made = c.made; linked = c.linked; numbered = c.numbered; node_limit = c.node_limit; change_limit = c.change_limit; writable = c.writable; rest = c.rest }

pub unspent : (links numbers : ℕ) (m : Memory) → Spends links numbers m m
unspent links numbers m = record { regs = λ r _. refl; made = refl; linked = omega arith; numbered = omega arith; node_limit = refl; change_limit = refl; writable = refl; rest = refl }

-- a link that was written
pub from_linked : (m m' : Memory) (k : ℕ) (n : Node) (s : Bool) (x : Option ℕ) → Linked m m' k n (side s) x → Relinked m m' k n s x
from_linked m m' k n s x L = record {
  y = with_link (side s) x n;
  edited = record { here = L.wrote.here; else = L.wrote.else; roots = L.wrote.roots };
  spends = spent 1 0 m m' L.change;
  key = refl;
  numbers = λ i. refl;
  near = put_same n.links (side s) x;
  far = put_other n.links (side s) (side (not s)) x (other_side s);
  named = L.named;
}

relinked_after : (m m' : Memory) (k : ℕ) (n : Node) (s : Bool) (x v : Option ℕ) → Relinked (with_reg m 32 v) m' k n s x → Relinked m m' k n s x
relinked_after m m' k n s x v L = record { y = L.y; edited = record { here = L.edited.here; else = L.edited.else; roots = L.edited.roots }; spends = spent_after 1 0 v m m' L.spends; key = L.key; numbers = L.numbers; near = L.near; far = L.far; named = L.named }

pub relink_ends : (m : Memory) (d : ℕ) (s : Bool) (r j : ℕ) (n : Node) (x : Option ℕ) → Holds m d j n → (d ≡ 32 → ⊥) → (r ≡ 32 → ⊥) → r < 40 → Free m → m.regs r ≡ x
    → ((i : ℕ) → hits i (n.links (side s)) ≤ m.state.names i) → ((i : ℕ) → x ≡ Some i → m.state.names i ≤ 1 + hits i (n.links (side s)))
    → Ends (relink_of d s r m) (λ _ m'. Relinked m m' j n s x)
unfolding relink_of
relink_ends m d s r j n x H hd hr lr F e true_old few =
    let old = n.links (side s) in
    let m₁ = with_reg m 32 old in
    let er : m₁.regs r ≡ x = put_other m.regs 32 r old (λ q. hr (sym q)) ∙ e in
    by_follow _ _ d (side s) 32 j n m old H (side_low s) (omega arith) refl
    (by_same _ _ 32 r old x m₁ (omega arith) lr (put_same m.regs 32 old) er
    (ends_cond (same_ref old x) _ _ _
    (λ same.
    let q = same_true old x same in
    relinked_after m m₁ j n s x old (record {
      y = n;
      edited = record { here = H.node; else = λ i _. refl; roots = λ i. refl };
      spends = unspent 1 0 m₁;
      key = refl;
      numbers = λ i. refl;
      near = q;
      far = refl;
      named = λ i. ap (λ (v : Option ℕ). m.state.names i + hits i v) q;
    }))
    (λ _. ends_last (link_of d (side s) r m₁) _
    (by_link _ _ d (side s) r j n m₁ x (record { low = H.low; names = put_other m.regs 32 d old (λ q. hd (sym q)) ∙ H.names; node = H.node }) (side_low s) lr (record { writable = F.writable; left = F.left }) er true_old few
    (λ m' L. relinked_after m m' j n s x old (from_linked m₁ m' j n s x L))))))

pub renumber_ends : (m : Memory) (field d v j : ℕ) (n : Node) → Holds m d j n → Free m → Ends (renumber_of field d v m) (λ _ m'. Renumbered m m' j n field v)
unfolding renumber_of
renumber_ends m field d v j n H F =
    by_number _ _ field d j n m H
    (ends_cond (eqb (n.numbers field) v) _ _ _
    (λ same. record {
      y = n;
      edited = record { here = H.node; else = λ i _. refl; roots = λ i. refl };
      spends = unspent 0 1 m;
      key = refl;
      number = eq_from (n.numbers field) v same;
      others = λ i _. refl;
      links = λ i. refl;
      named = λ i. refl;
    })
    (λ _. ends_last (set_number_of field d v m) _ (by_set_number _ _ field d v j n m H F
    (λ m' W. record {
      y = with_number field v n;
      edited = record { here = W.wrote.here; else = W.wrote.else; roots = W.wrote.roots };
      spends = spent 0 1 m m' W.change;
      key = refl;
      number = put_same n.numbers field v;
      others = λ i h. put_other n.numbers field i v h;
      links = λ i. refl;
      named = W.named;
    }))))

pub resave_ends : (m : Memory) (root r : ℕ) (x : Option ℕ) → root < 3 → r < 40 → (r ≡ 32 → ⊥) → Free m → m.regs r ≡ x
    → ((i : ℕ) → hits i (m.state.roots root) ≤ m.state.names i) → ((i : ℕ) → x ≡ Some i → m.state.names i ≤ 1 + hits i (m.state.roots root))
    → Ends (resave_of root r m) (λ _ m'. Resaved m m' root x)
unfolding resave_of
resave_ends m root r x lo lr hr F e true_old few =
    let old = m.state.roots root in
    let m₁ = with_reg m 32 old in
    let er : m₁.regs r ≡ x = put_other m.regs 32 r old (λ q. hr (sym q)) ∙ e in
    by_load _ _ root 32 m old lo (omega arith) refl
    (by_same _ _ 32 r old x m₁ (omega arith) lr (put_same m.regs 32 old) er
    (ends_cond (same_ref old x) _ _ _
    (λ same.
    let q = same_true old x same in
    record { here = q; else = λ i _. refl; nodes = λ k. refl; spends = spent_after 1 0 old m m₁ (unspent 1 0 m₁); named = λ i. ap (λ (v : Option ℕ). m.state.names i + hits i v) q })
    (λ _. ends_last (save_of root r m₁) _ (by_save _ _ root r m₁ x lo lr (record { writable = F.writable; left = F.left }) er true_old few
    (λ m' W. record { here = W.here; else = W.else; nodes = W.nodes; spends = spent_after 1 0 old m m' (spent 1 0 m₁ m' W.change); named = W.named })))))
