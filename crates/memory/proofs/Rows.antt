-- One call after another: how the results of a row of calls in code tie to its chain of steps.
use Rattle.std.proofs.Common.{◌≡◌, ℕ, IsErrAnd, Ok, Err, Result, sym, ap, ◌∙◌, subst, arith}
use mathlib.Core.Path.{subst⁻¹}
use Rattle.std.proofs.lemmas.Result.{err_from_is_err_and}
use Rattle.refusals.specs.declared.kinds.MemoryRefusal.{MemoryRefusal}
use Rattle.memory.specs.Memory.{Memory}
use Rattle.memory.specs.Steps.{Done, done, no, then}
use Rattle.memory.specs.Promises.{Meets, MeetsIs, Comes, ComesTo}
use Rattle.memory.specs.Effects.{Ends}

ok_is : {S A B : Type 0} (P : S → Memory → Type 0) (s s1 s' : S) (a : A) (r : Result B MemoryRefusal) (d : Done A) (k : A → Memory → Done B) → MeetsIs P s s1 (Ok a) d → ((m : Memory) → P s1 m → Comes P s' r (k a m)) → Comes P s' r (then d k)
ok_is P s s1 s' a r (done b m) k h f = subst (λ x. Comes P s' r (k x m)) h.0 (f m h.1)
ok_is P s s1 s' a r (no e) k h f = absurd h

pub step_ok : {S A B : Type 0} {P : S → Memory → Type 0} {s s1 s' : S} {a : A} {r : Result B MemoryRefusal} {d : Done A} (k : A → Memory → Done B) → Meets P s s1 (Ok a) d → ((m : Memory) → P s1 m → Comes P s' r (k a m)) → Comes P s' r (then d k)
step_ok {P = P} {s = s} {s1 = s1} {s' = s'} {a = a} {r = r} {d = d} k h f = ok_is P s s1 s' a r d k h.is f

err_is : {S A B : Type 0} (P : S → Memory → Type 0) (s s1 s' : S) (e : MemoryRefusal) (d : Done A) (k : A → Memory → Done B) → MeetsIs {A = A} P s s1 (Err e) d → ComesTo P s' (Err e) (then d k)
err_is P s s1 s' e (done b m) k h = absurd h
err_is P s s1 s' e (no f) k h = ap Err h.0

pub step_err : {S A B : Type 0} {P : S → Memory → Type 0} {s s1 s' : S} {e : MemoryRefusal} {d : Done A} (k : A → Memory → Done B) → Meets {A = A} P s s1 (Err e) d → Comes P s' (Err e) (then d k)
step_err {P = P} {s = s} {s1 = s1} {s' = s'} {e = e} {d = d} k h = record { to = err_is P s s1 s' e d k h.is }

last_is : {S A : Type 0} (P : S → Memory → Type 0) (s s' : S) (r : Result A MemoryRefusal) (d : Done A) → MeetsIs P s s' r d → ComesTo P s' r d
last_is P s s' (Ok a) (done b m) h = (ap Ok h.0, h.1)
last_is P s s' (Ok a) (no e) h = absurd h
last_is P s s' (Err e) (done b m) h = absurd h
last_is P s s' (Err e) (no f) h = ap Err h.0

-- the last call
pub last_call : {S A : Type 0} {P : S → Memory → Type 0} {s s' : S} {r : Result A MemoryRefusal} {d : Done A} → Meets P s s' r d → Comes P s' r d
last_call {P = P} {s = s} {s' = s'} {r = r} {d = d} h = record { to = last_is P s s' r d h.is }

-- the exit of a `?`
pub step_exit : {S A B : Type 0} {P : S → Memory → Type 0} {s s1 s' : S} {e : MemoryRefusal} {d : Done A} {r : Result B MemoryRefusal} (k : A → Memory → Done B) → IsErrAnd r (λ y. y ≡ e) → Meets {A = A} P s s1 (Err e) d → Comes P s' r (then d k)
step_exit {P = P} {s' = s'} {d = d} {r = r} k q h =
    let p = err_from_is_err_and r q in
    let t = p.1 ∙ ap Err p.2 in
    subst⁻¹ (λ x. Comes P s' x (then d k)) t (step_err k h)

went_is : {S A : Type 0} (P : S → Memory → Type 0) (s s1 : S) (a : A) (d : Done A) → MeetsIs P s s1 (Ok a) d → (m : Memory) × (d ≡ done a m) × P s1 m
went_is P s s1 a (done b m) h = (m, ap (λ x. done x m) (sym h.0), h.1)
went_is P s s1 a (no e) h = absurd h

-- an accepted call: the state after it
pub went : {S A : Type 0} {P : S → Memory → Type 0} {s s1 : S} {a : A} {d : Done A} → Meets P s s1 (Ok a) d → (m : Memory) × (d ≡ done a m) × P s1 m
went {P = P} {s = s} {s1 = s1} {a = a} {d = d} h = went_is P s s1 a d h.is

stopped_is : {S A : Type 0} (P : S → Memory → Type 0) (s s1 : S) (e : MemoryRefusal) (d : Done A) → MeetsIs P s s1 (Err e) d → d ≡ no e
stopped_is P s s1 e (done b m) h = absurd h
stopped_is P s s1 e (no f) h = ap no (sym h.0)

-- a refused call
pub stopped : {S A : Type 0} {P : S → Memory → Type 0} {s s1 : S} {e : MemoryRefusal} {d : Done A} → Meets P s s1 (Err e) d → d ≡ no e
stopped {P = P} {s = s} {s1 = s1} {e = e} {d = d} h = stopped_is P s s1 e d h.is

pub ok_same : {A : Type 0} {a b : A} → ◌≡◌ {A = Result A MemoryRefusal} (Ok a) (Ok b) → a ≡ b
ok_same e = cc

pub err_same : {A : Type 0} {a b : MemoryRefusal} → ◌≡◌ {A = Result A MemoryRefusal} (Err a) (Err b) → a ≡ b
err_same e = cc

pub ok_err : {A : Type 0} {a : A} {b : MemoryRefusal} → ◌≡◌ {A = Result A MemoryRefusal} (Ok a) (Err b) → ⊥
ok_err e = let z : ◌≡◌ {A = ℕ} 0 1 = cc in omega arith

pub err_ok : {A : Type 0} {a : A} {b : MemoryRefusal} → ◌≡◌ {A = Result A MemoryRefusal} (Err b) (Ok a) → ⊥
err_ok e = let z : ◌≡◌ {A = ℕ} 0 1 = cc in omega arith

ran_is : {S A : Type 0} (P : S → Memory → Type 0) (s1 : S) (a : A) (d : Done A) → ComesTo P s1 (Ok a) d → (m : Memory) × (d ≡ done a m) × P s1 m
ran_is P s1 a (done b m) h = (m, ap (λ x. done x m) (sym (ok_same h.0)), h.1)
ran_is P s1 a (no e) h = absurd (ok_err (h))

-- a row of calls that was accepted
pub ran : {S A : Type 0} {P : S → Memory → Type 0} {s1 : S} {a : A} {d : Done A} → Comes P s1 (Ok a) d → (m : Memory) × (d ≡ done a m) × P s1 m
ran {P = P} {s1 = s1} {a = a} {d = d} h = ran_is P s1 a d h.to

failed_is : {S A : Type 0} (P : S → Memory → Type 0) (s1 : S) (e : MemoryRefusal) (d : Done A) → ComesTo P s1 (Err e) d → d ≡ no e
failed_is P s1 e (done b m) h = absurd (err_ok h.0)
failed_is P s1 e (no f) h = ap no (sym (err_same h))

pub failed : {S A : Type 0} {P : S → Memory → Type 0} {s1 : S} {e : MemoryRefusal} {d : Done A} → Comes P s1 (Err e) d → d ≡ no e
failed {P = P} {s1 = s1} {e = e} {d = d} h = failed_is P s1 e d h.to

-- after a row of calls that was accepted
pub run_ok : {S A B : Type 0} {P : S → Memory → Type 0} {s1 s' : S} {a : A} {r : Result B MemoryRefusal} {d : Done A} (k : A → Memory → Done B) → Comes P s1 (Ok a) d → ((m : Memory) → P s1 m → Comes P s' r (k a m)) → Comes P s' r (then d k)
run_ok {P = P} {s' = s'} {r = r} {d = d} k h f = let w = ran h in subst⁻¹ (λ x. Comes P s' r (then x k)) w.1 (f w.0 w.2)

-- the exit of a `?` at a row of calls
pub run_exit : {S A B : Type 0} {P : S → Memory → Type 0} {s1 s' : S} {e : MemoryRefusal} {d : Done A} {r : Result B MemoryRefusal} (k : A → Memory → Done B) → IsErrAnd r (λ y. y ≡ e) → Comes {A = A} P s1 (Err e) d → Comes P s' r (then d k)
run_exit {P = P} {s' = s'} {d = d} {r = r} k q h =
    let p = err_from_is_err_and r q in
    let t = p.1 ∙ ap Err p.2 in
    subst⁻¹ (λ x. Comes P s' r (then x k)) (failed h) (record { to = t })

comes_is : {S A : Type 0} (P : S → Memory → Type 0) (t : S) (r : Result A MemoryRefusal) (d : Done A) (Q : A → Memory → Type 0) → ComesTo P t r d → Ends d Q → (a : A) × (m : Memory) × (r ≡ Ok a) × P t m × Q a m
comes_is P t r (done a m) Q c h = (a, m, c.0, c.1, h)
comes_is P t r (no e) Q c h = absurd h

-- a row of calls whose steps are accepted to the end: its answer, what the memory then means, and what holds of both
pub comes_to_end : {S A : Type 0} {P : S → Memory → Type 0} {t : S} {r : Result A MemoryRefusal} (d : Done A) (Q : A → Memory → Type 0) → Comes P t r d → Ends d Q → (a : A) × (m : Memory) × (r ≡ Ok a) × P t m × Q a m
comes_to_end {P = P} {t = t} {r = r} d Q c h = comes_is P t r d Q c.to h
