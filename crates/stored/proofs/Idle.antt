-- A link, number or root that holds what it should is not written.
use Rattle.std.proofs.Common.{◌≡◌, ℕ, ◌<◌, Bool, true, cond, eqb, Some, None, Option, sym, refl, ◌∙◌, arith}
use Rattle.memory.specs.Memory.{Node, Memory}
use Rattle.memory.specs.Steps.{Done, with_reg, same_ref}
use Rattle.memory.specs.Effects.{Ends, Holds}
use Rattle.memory.proofs.Numbers.{put_same, put_other, eq_true}
use Rattle.memory.proofs.By.{ends_cond, by_load, by_follow, by_number, by_same}
use Rattle.stored.specs.Stored.{side}
use Rattle.stored.specs.Writes.{relink_of, renumber_of, resave_of}
use Rattle.stored.specs.Theorems.{Idle, IdleWritesHold}
use Rattle.stored.proofs.Parts.{side_low, no_test}

same_self : (x : Option ℕ) → same_ref x x ≡ true
same_self None = refl
same_self (Some j) = eq_true j j refl

by_true : {A : Type 0} (b : Bool) (x y : Done A) (Q : A → Memory → Type 0) → b ≡ true → Ends x Q → Ends (cond b x y) Q
by_true b x y Q h e = ends_cond b x y Q (λ _. e) (λ f. no_test (sym f ∙ h))

idle_link : (m : Memory) (d : ℕ) (s : Bool) (r j : ℕ) (n : Node) → Holds m d j n → (r ≡ 32 → ⊥) → r < 40 → n.links (side s) ≡ m.regs r → Ends (relink_of d s r m) (λ _ m'. Idle m m')
unfolding relink_of
idle_link m d s r j n H hr lr e =
    let old = n.links (side s) in
    by_follow _ _ d (side s) 32 j n m old H (side_low s) (omega arith) refl
    (by_same _ _ 32 r old old (with_reg m 32 old) (omega arith) lr (put_same m.regs 32 old) (put_other m.regs 32 r old (λ q. hr (sym q)) ∙ sym e)
    (by_true (same_ref old old) _ _ _ (same_self old) (record { state = refl; linked = refl; numbered = refl })))

idle_number : (m : Memory) (field d v j : ℕ) (n : Node) → Holds m d j n → n.numbers field ≡ v → Ends (renumber_of field d v m) (λ _ m'. Idle m m')
unfolding renumber_of
idle_number m field d v j n H e =
    by_number _ _ field d j n m H (by_true (eqb (n.numbers field) v) _ _ _ (eq_true (n.numbers field) v e) (record { state = refl; linked = refl; numbered = refl }))

idle_root : (m : Memory) (root r : ℕ) → root < 3 → r < 40 → (r ≡ 32 → ⊥) → m.state.roots root ≡ m.regs r → Ends (resave_of root r m) (λ _ m'. Idle m m')
unfolding resave_of
idle_root m root r lo lr hr e =
    let old = m.state.roots root in
    by_load _ _ root 32 m old lo (omega arith) refl
    (by_same _ _ 32 r old old (with_reg m 32 old) (omega arith) lr (put_same m.regs 32 old) (put_other m.regs 32 r old (λ q. hr (sym q)) ∙ sym e)
    (by_true (same_ref old old) _ _ _ (same_self old) (record { state = refl; linked = refl; numbered = refl })))

pub idle_writes : IdleWritesHold
idle_writes m = record { link = idle_link m; number = idle_number m; root = idle_root m }
