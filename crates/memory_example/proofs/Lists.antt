-- What the rows of the linked list come to.
use Rattle.std.proofs.Common.{◌≡◌, ℕ, zero, suc, ◌-◌, ◌<◌, List, [], ◌∷◌, length, get_or, Some, Option, sym, refl, ap, ◌∙◌, arith}
use Rattle.memory.specs.Memory.{Node, Memory, hits, with_link, new_node}
use Rattle.memory.specs.Steps.{done, then, with_reg, born, follow_of}
use Rattle.memory.specs.Effects.{Ends, Holds}
use Rattle.memory.proofs.Numbers.{put_same, put_other, some_same, none_some, hits_one}
use Rattle.memory.proofs.Each.{here}
use Rattle.memory.proofs.By.{ends_then, ends_last, unborn_names, root_names, by_load, by_make, by_link, by_save, by_follow, by_number}
use Rattle.memory_example.specs.Chains.{Listed, advance_of, PushLists, WalkAnswers}

-- a list stays where its nodes do
kept : (old new : ℕ → Option Node) (x : Option ℕ) (vs : List ℕ) → ((k : ℕ) (n : Node) → old k ≡ Some n → new k ≡ Some n) → Listed old x vs → Listed new x vs
kept old new x [] h L = L
kept old new x (v ∷ vs) h L = (L.0, L.1, L.2, h L.0 L.1 L.3, L.4, kept old new (L.1.links 1) vs h L.5)

pub push_lists : PushLists
push_lists key value vs m R L =
    let Q : Unit {0} → Memory → Type 0 = λ _ m'. Listed m'.state.nodes (m'.state.roots 0) (value ∷ vs) in
    let O = here R.sound in
    let n = new_node key value 0 in
    let m2 = with_reg (born m 0 n) 1 (m.state.roots 0) in
    let other : (k : ℕ) (n1 : Node) → m.state.nodes k ≡ Some n1 → m.made ≡ k → ⊥ = λ k n1 e g. none_some (sym (O.unborn k (omega arith)) ∙ e) in
    let H : Holds m2 0 m.made n = record { low = omega arith; names = refl; node = put_same m.state.nodes m.made (Some n) } in
    by_make _ Q 0 key value 0 m (omega arith) R.writable R.room
    (by_load _ Q 0 1 (born m 0 n) (m.state.roots 0) (omega arith) (omega arith) refl
    (by_link _ Q 0 1 1 m.made n m2 (m.state.roots 0) H (omega arith) (omega arith) (record { writable = R.writable; left = let a = R.changes in omega arith }) refl
    (λ i. omega arith) (λ i e. let a = R.named i e in omega arith)
    (λ m3 K. ends_last _ Q (by_save _ Q 0 0 m3 (Some m.made) (omega arith) (omega arith)
    (record { writable = K.change.writable ∙ R.writable; left = let a = R.changes in let b = K.change.linked in let c = K.change.numbered in let d = K.change.change_limit in omega arith })
    (K.change.regs 0)
    (λ i. let a = root_names m.made m.state 0 i O (omega arith) in let b = K.named i in let c : hits i (m3.state.roots 0) ≡ hits i (m.state.roots 0) = ap (hits i) (K.wrote.roots 0) in omega arith)
    (λ i e. let a = unborn_names m.made m.state i O (let z = some_same e in omega arith) in let b = K.named i in let c : hits i (m3.state.roots 0) ≡ hits i (m.state.roots 0) = ap (hits i) (K.wrote.roots 0) in let d = hits_one i (m.state.roots 0) in omega arith)
    (λ m4 T.
    let L' : Listed m4.state.nodes (m.state.roots 0) vs = kept m.state.nodes m4.state.nodes (m.state.roots 0) vs
    (λ k n1 e. T.nodes k ∙ K.wrote.else k (other k n1 e) ∙ put_other m.state.nodes m.made k (Some n) (other k n1 e) ∙ e) L in
    (m.made, with_link 1 (m.state.roots 0) n, T.here, T.nodes m.made ∙ K.wrote.here, refl, L'))))))

-- register 0 holds the node that stands at a place, and the state is as it was
abbrev Stands : Memory → ℕ → Memory → Type 0
Stands m v m' = (k : ℕ) × (n : Node) × (m'.regs 0 ≡ Some k) × (m'.state.nodes k ≡ Some n) × (n.numbers 0 ≡ v) × (m'.state ≡ m.state)

none_there : (place : ℕ) → place < 0 → ⊥
none_there place l = omega arith

advances : (place : ℕ) (vs : List ℕ) (m : Memory) → place < length vs → Listed m.state.nodes (m.regs 0) vs → Ends (advance_of place m) (λ _ m'. Stands m (get_or vs place 0) m')
unfolding advance_of
advances place [] m l L = absurd (none_there place l)
advances zero (v ∷ vs) m l L = (L.0, L.1, L.2, L.3, L.4, refl)
advances (suc place) (v ∷ vs) m l L =
    by_follow _ (λ _ m'. Stands m (get_or vs place 0) m') 0 1 0 L.0 L.1 m (L.1.links 1) (record { low = omega arith; names = L.2; node = L.3 }) (omega arith) (omega arith) refl
    (advances place vs (with_reg m 0 (L.1.links 1)) (omega arith) L.5)

pub walk_answers : WalkAnswers
walk_answers place vs m l L =
    let Q : ℕ → Memory → Type 0 = λ v m'. (v ≡ get_or vs place 0) × (m'.state ≡ m.state) in
    by_load _ Q 0 0 m (m.state.roots 0) (omega arith) (omega arith) refl
    (ends_then _ _ (λ _ m'. Stands m (get_or vs place 0) m') Q (advances place vs (with_reg m 0 (m.state.roots 0)) l L)
    (λ _ m2 S. ends_last _ Q (by_number _ Q 0 0 S.0 S.1 m2 (record { low = omega arith; names = S.2; node = S.3 }) (S.4, S.5))))

-- one level of the way along a list
pub advance_none : (steps : ℕ) (m : Memory) → steps ≡ 0 → advance_of steps m ≡ done tt m
unfolding advance_of
advance_none steps m e = ap (λ n. advance_of n m) e

pub advance_more : (steps : ℕ) (m : Memory) → (steps ≡ 0 → ⊥) → advance_of steps m ≡ then (follow_of 0 1 0 m) (λ _ m1. advance_of (steps - 1) m1)
unfolding advance_of
advance_more steps m h = let e : steps ≡ suc (steps - 1) = omega arith in ap (λ n. advance_of n m) e
