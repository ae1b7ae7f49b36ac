-- What a call reads first, and the refusals that come of it.
use Rattle.std.proofs.Common.{◌≡◌, ℕ, ◌<◌, ◌≤◌, Bool, true, false, cond, ltb, get_or, List, IsErrAnd, Some, None, vec_items, vec_len, Ok, Err, Option, Result, sym, refl, ap, ◌∙◌, arith}
use Rattle.std.specs.Option.{ok_or}
use mathlib.Core.Path.{subst⁻¹}
use Rattle.std.proofs.lemmas.Result.{err_from_is_err_and}
use Rattle.std.proofs.lemmas.Bool.Decides.{nat_tests}
use Rattle.refusals.specs.declared.kinds.MemoryRefusal.{MemoryRefusal}
use Rattle.refusals.specs.declared.kinds.MemoryRefusal.TheVariants.{OutOfRange, NilRegister, ChangesSpent, ThirdName}
use Rattle.memory.specs.Memory.{Node, Memory}
use Rattle.memory.specs.Steps.{Done, no, check, on_ref, is_reg, at_node, set_number_of, save_of, link_of}
use Rattle.memory.specs.Promises.{Meets}
use Rattle.memory.specs.Effects.{Holds}
use Rattle.memory.proofs.Numbers.{lt_from}
use Rattle.memory.proofs.Refused.{set_number_spent, save_spent, save_third, link_spent, link_third}
use Rattle.memory.proofs.Rows.{ok_same, err_same, ok_err, err_ok}
use Rattle.single.specs.declared.node.Node.{Node as Row}
use Rattle.single.specs.declared.store.SingleMemory.{SingleMemory}
use Rattle.single.specs.Rows.{blank, node_of, change_left, crowds, node_free, name_free}
use Rattle.single.specs.Single.{SameNode, SingleMeans}
use Rattle.single.proofs.Table.{any_default}
use Rattle.single.proofs.Means.{table_long, held_low, holds, free, spent, reg_crowds}

-- a `?` that passes on the refusal of the step
pub refuses : {S A : Type 0} {P : S → Memory → Type 0} {s : S} {e : MemoryRefusal} {r : Result A MemoryRefusal} {d : Done A} → IsErrAnd r (λ y. y ≡ e) → d ≡ no e → Meets P s s r d
refuses {A = A} {P = P} {s = s} {e = e} {r = r} q f =
    let p = err_from_is_err_and r q in
    let t = p.1 ∙ ap Err p.2 in
    let z : Meets {A = A} P s s (Err e) (no e) = record { is = (refl, refl) } in
    subst⁻¹ (λ x. Meets P s s r x) f (subst⁻¹ (λ (x : Result A MemoryRefusal). Meets P s s x (no e)) t z)

-- the same where the call put back what it had changed
pub refuses_back : {S A : Type 0} {P : S → Memory → Type 0} {s t : S} {e : MemoryRefusal} {r : Result A MemoryRefusal} {d : Done A} → t ≡ s → IsErrAnd r (λ y. y ≡ e) → d ≡ no e → Meets P s t r d
refuses_back {P = P} {s = s} {r = r} {d = d} b q f = subst⁻¹ (λ x. Meets P s x r d) b (refuses q f)

unread : {A : Type 0} (nodes : ℕ → Option Node) (e : MemoryRefusal) (f : ℕ → Node → Done A) (b : Bool) (x y : Option ℕ) → (b ≡ true → y ≡ x) → cond b (ok_or x NilRegister) (Err OutOfRange) ≡ Err e → check b OutOfRange (on_ref nodes y f) ≡ no e
unread nodes e f false x y q h = ap no (err_same h)
unread nodes e f true None y q h = rw (q refl) (ap no (err_same h))
unread nodes e f true (Some k) y q h = absurd (ok_err h)

-- the register is refused as it was read
pub no_node : {A : Type 0} (s : SingleMemory) (m : Memory) (reg : ℕ) (e : MemoryRefusal) (f : ℕ → Node → Done A) → SingleMeans s m → node_of s.regs reg ≡ Err e → is_reg reg (at_node m reg f) ≡ no e
no_node s m reg e f M h = unread m.state.nodes e f (ltb reg 40) (get_or s.regs reg None) (m.regs reg) (λ l. M.regs reg (lt_from reg 40 l)) h

read : (b : Bool) (x : Option ℕ) (k : ℕ) → cond b (ok_or x NilRegister) (Err OutOfRange) ≡ Ok k → (b ≡ true) × (x ≡ Some k)
read false x k h = absurd (err_ok h)
read true None k h = absurd (err_ok h)
read true (Some j) k h = (refl, ap Some (ok_same h))

-- the register was read, and holds a node
node_read : (regs : List (Option ℕ)) (reg k : ℕ) → node_of regs reg ≡ Ok k → (reg < 40) × (get_or regs reg None ≡ Some k)
node_read regs reg k h = let t = read (ltb reg 40) (get_or regs reg None) k h in (lt_from reg 40 t.0, t.1)

-- so it is a node that was made, and has a row
pub node_low : (s : SingleMemory) (reg k : ℕ) → node_of s.regs reg ≡ Ok k → k < s.made
node_low s reg k h = held_low s reg k (node_read s.regs reg k h).1

pub node_in : (s : SingleMemory) (reg k : ℕ) → node_of s.regs reg ≡ Ok k → k < vec_len s.rows
node_in s reg k h = let l = node_low s reg k h in let b = s.few in let d = s.roomy in omega arith

-- the node that was read, and its row
pub row_read : (s : SingleMemory) (m : Memory) (reg k : ℕ) (r : Row) → SingleMeans s m → r ≡ get_or (vec_items s.rows) k r → node_of s.regs reg ≡ Ok k → (n : Node) × Holds m reg k n × SameNode n r
row_read s m reg k r M f h = let t = node_read s.regs reg k h in holds s m reg k r M f t.0 t.1

left_is : (b : Bool) → ◌≡◌ {A = Result (Unit {0}) MemoryRefusal} (cond b (Ok tt) (Err ChangesSpent)) (Ok tt) → b ≡ true
left_is true h = refl
left_is false h = absurd (err_ok h)

pub is_left : (s : SingleMemory) → change_left s.changed s.change_limit ≡ Ok tt → s.changed < s.change_limit
is_left s h = lt_from s.changed s.change_limit (left_is (ltb s.changed s.change_limit) h)

spent_is : (e : MemoryRefusal) (b : Bool) → ◌≡◌ {A = Result (Unit {0}) MemoryRefusal} (cond b (Ok tt) (Err ChangesSpent)) (Err e) → (b ≡ false) × (e ≡ ChangesSpent)
spent_is e true h = absurd (ok_err h)
spent_is e false h = (refl, sym (err_same h))

is_spent : (s : SingleMemory) (e : MemoryRefusal) → change_left s.changed s.change_limit ≡ Err e → (s.change_limit ≤ s.changed) × (e ≡ ChangesSpent)
is_spent s e h = let t = spent_is e (ltb s.changed s.change_limit) h in (grind (arith, nat_tests), t.1)

-- What a change asks first.

node_refused : {C : Type 0} (node : Result ℕ MemoryRefusal) (left : Result (Unit {0}) MemoryRefusal) (e : MemoryRefusal) → node_free node left ≡ Err e → (node ≡ Err e → C) → ((k : ℕ) → node ≡ Ok k → left ≡ Err e → C) → C
node_refused (Err d) left e h f g = f h
node_refused (Ok k) (Err d) e h f g = g k refl (ap Err (err_same h))
node_refused (Ok k) (Ok _) e h f g = absurd (ok_err h)

pub node_given : (node : Result ℕ MemoryRefusal) (left : Result (Unit {0}) MemoryRefusal) (k : ℕ) → node_free node left ≡ Ok k → (node ≡ Ok k) × (left ≡ Ok tt)
node_given (Err d) left k h = absurd (err_ok h)
node_given (Ok j) (Err d) k h = absurd (err_ok h)
node_given (Ok j) (Ok _) k h = (h, refl)

name_refused : {C : Type 0} (rows : List Row) (old new : Option ℕ) (left : Result (Unit {0}) MemoryRefusal) (e : MemoryRefusal) → name_free rows old new left ≡ Err e → (left ≡ Err e → C) → (left ≡ Ok tt → crowds rows old new ≡ true → e ≡ ThirdName → C) → C
name_refused rows old new (Err d) e h f g = f h
name_refused rows old new (Ok _) e h f g = let t = parts (crowds rows old new) h in g refl t.0 t.1
  where
    parts : (b : Bool) → ◌≡◌ {A = Result (Unit {0}) MemoryRefusal} (cond b (Err ThirdName) (Ok tt)) (Err e) → (b ≡ true) × (e ≡ ThirdName)
    parts true h = (refl, sym (err_same h))
    parts false h = absurd (ok_err h)

pub name_given : (rows : List Row) (old new : Option ℕ) (left : Result (Unit {0}) MemoryRefusal) → name_free rows old new left ≡ Ok tt → (left ≡ Ok tt) × (crowds rows old new ≡ false)
name_given rows old new (Err d) h = absurd (err_ok h)
name_given rows old new (Ok _) h = (refl, parts (crowds rows old new) h)
  where
    parts : (b : Bool) → ◌≡◌ {A = Result (Unit {0}) MemoryRefusal} (cond b (Err ThirdName) (Ok tt)) (Ok tt) → b ≡ false
    parts true h = absurd (err_ok h)
    parts false h = refl

-- The refusals of the calls that read more than a register.

-- the node was read, with its row in the table
held : (s : SingleMemory) (m : Memory) (reg k : ℕ) → SingleMeans s m → node_of s.regs reg ≡ Ok k → (n : Node) × Holds m reg k n
held s m reg k M h = let R = row_read s m reg k (get_or (vec_items s.rows) k blank) M (any_default (vec_items s.rows) k _ _ (let a = node_low s reg k h in let b = table_long s in omega arith)) h in (R.0, R.1)

pub number_refused : (s : SingleMemory) (m : Memory) (field reg x : ℕ) (e : MemoryRefusal) → SingleMeans s m → node_free (node_of s.regs reg) (change_left s.changed s.change_limit) ≡ Err e → set_number_of field reg x m ≡ no e
unfolding set_number_of
number_refused s m field reg x e M f = node_refused (node_of s.regs reg) (change_left s.changed s.change_limit) e f
    (λ h. no_node s m reg e _ M h)
    (λ k h l. let H = held s m reg k M h in let t = is_spent s e l in set_number_spent field reg x k H.0 m H.1 M.writable (spent s m M t.0) ∙ ap no (sym t.1))

pub save_refused : (s : SingleMemory) (m : Memory) (root reg : ℕ) (e : MemoryRefusal) → SingleMeans s m → root < 3 → reg < 40
    → name_free (vec_items s.rows) (get_or s.roots root None) (get_or s.regs reg None) (change_left s.changed s.change_limit) ≡ Err e → save_of root reg m ≡ no e
save_refused s m root reg e M h1 h2 f = name_refused (vec_items s.rows) (get_or s.roots root None) (get_or s.regs reg None) (change_left s.changed s.change_limit) e f
    (λ l. let t = is_spent s e l in save_spent root reg m h1 h2 M.writable (spent s m M t.0) ∙ ap no (sym t.1))
    (λ l c q. save_third root reg m h1 h2 (free s m M (is_left s l)) (rw (M.roots root h1) (reg_crowds s m reg (get_or s.roots root None) M h2 c)) ∙ ap no (sym q))

pub relink_refused : (s : SingleMemory) (m : Memory) (from side reg k : ℕ) (n : Node) (e : MemoryRefusal) → SingleMeans s m → Holds m from k n → side < 2 → reg < 40
    → name_free (vec_items s.rows) (n.links side) (get_or s.regs reg None) (change_left s.changed s.change_limit) ≡ Err e → link_of from side reg m ≡ no e
relink_refused s m from side reg k n e M H h1 h2 f = name_refused (vec_items s.rows) (n.links side) (get_or s.regs reg None) (change_left s.changed s.change_limit) e f
    (λ l. let t = is_spent s e l in link_spent from side reg k n m H h1 h2 M.writable (spent s m M t.0) ∙ ap no (sym t.1))
    (λ l c q. link_third from side reg k n m H h1 h2 (free s m M (is_left s l)) (reg_crowds s m reg (n.links side) M h2 c) ∙ ap no (sym q))
