-- A node that is taken out loses both its links.
use Rattle.std.proofs.Common.{◌≡◌, ℕ, ◌+◌, ◌≤◌, Bool, true, false, None, refl, ◌∙◌, arith}
use Rattle.memory.specs.Memory.{Node, Memory, changed, hits, with_link}
use Rattle.memory.specs.Steps.{link_of}
use Rattle.memory.specs.Effects.{Ends, Holds}
use Rattle.memory.proofs.By.{ends_last, by_link}
use Rattle.stored.specs.Stored.{side}
use Rattle.stored.specs.Writes.{blank_of, Cleared}
use Rattle.stored.proofs.Parts.{no_node}

pub blank_ends : (m : Memory) (r n : ℕ) (x : Node) → Holds m r n x → m.regs 35 ≡ None → m.writable ≡ true → changed m + 2 ≤ m.change_limit → ((i : ℕ) → hits i (x.links 0) + hits i (x.links 1) ≤ m.state.names i)
    → Ends (blank_of r m) (λ _ m'. Cleared 2 m m' n x)
unfolding blank_of
blank_ends m r n x H nil may q true_old =
    by_link _ _ r 0 35 n x m None H (omega arith) (omega arith) (record { writable = may; left = omega arith }) nil (λ i. omega (arith, true_old i)) (λ i g. no_node g) (λ m₁ L₁.
    let C₁ = L₁.change in
    let x₁ = with_link 0 None x in
    ends_last (link_of r 1 35 m₁) _ (by_link _ _ r 1 35 n x₁ m₁ None (record { low = H.low; names = C₁.regs r ∙ H.names; node = L₁.wrote.here }) (omega arith) (omega arith)
    (record { writable = C₁.writable ∙ may; left = omega (arith, C₁.linked, C₁.numbered, C₁.change_limit) }) (C₁.regs 35 ∙ nil)
    (λ i. omega (arith, L₁.named i, true_old i)) (λ i g. no_node g) (λ m₂ L₂.
    let C₂ = L₂.change in
    record {
      y = with_link 1 None x₁;
      edited = record { here = L₂.wrote.here; else = λ j ne. L₂.wrote.else j ne ∙ L₁.wrote.else j ne; roots = λ i. L₂.wrote.roots i ∙ L₁.wrote.roots i };
      spends = record { regs = λ j _. C₂.regs j ∙ C₁.regs j; made = C₂.made ∙ C₁.made; linked = omega (arith, C₂.linked, C₁.linked); numbered = omega (arith, C₂.numbered, C₁.numbered); node_limit = C₂.node_limit ∙ C₁.node_limit; change_limit = C₂.change_limit ∙ C₁.change_limit; writable = C₂.writable ∙ C₁.writable; rest = C₂.rest ∙ C₁.rest };
      key = refl;
      numbers = λ i. refl;
      nil = both_nil x;
      named = λ i. omega (arith, L₂.named i, L₁.named i);
    })))
  where
    both_nil : (x : Node) (s : Bool) → (with_link 1 None (with_link 0 None x)).links (side s) ≡ None
    both_nil x true = refl
    both_nil x false = refl
