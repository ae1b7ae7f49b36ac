-- Entering, looking and coming back, over what a memory means.
use Rattle.std.proofs.Common.{◌≡◌, ℕ, ◌<◌, ◌≤◌, Bool, IsErrAnd, Ok, Err, Result, sym, refl, ap, ◌∙◌, subst, ⊎_elim, arith}
use mathlib.Core.Path.{subst⁻¹}
use Rattle.std.proofs.lemmas.Bool.{cases_lt}
use Rattle.std.proofs.lemmas.Result.{err_from_is_err_and}
use Rattle.refusals.specs.declared.kinds.OrderRefusal.TheVariants.{UnknownItem}
use Rattle.refusals.specs.declared.kinds.MemoryRefusal.{MemoryRefusal}
use Rattle.refusals.specs.declared.kinds.MemoryRefusal.TheVariants.{Order}
use Rattle.memory.specs.Memory.{Memory, state_of, AllNil}
use Rattle.memory.specs.Steps.{done, no, with_reg, entered, is_nil, load_of, nil_of, enter_of}
use Rattle.memory.specs.Promises.{Meets, Comes}
use Rattle.memory.proofs.Numbers.{lt_true, lt_false}
use Rattle.memory.proofs.Accepted.{enter_done}
use Rattle.looking_example.specs.Looks.{root_nil_of, Looks, Resting}

enter_unknown : (v : ℕ) (m : Memory) → m.rest.versions ≤ v → enter_of v m ≡ no (Order UnknownItem)
unfolding enter_of
enter_unknown v m l = rw (lt_false v m.rest.versions l) refl

-- the memory after the look, before coming back
abbrev looked : ℕ → Memory → Memory
looked v m = with_reg (entered m v) 0 ((state_of m v).roots 0)

root_nil : (v : ℕ) (m : Memory) → root_nil_of (entered m v) ≡ done (is_nil ((state_of m v).roots 0)) (looked v m)
unfolding load_of nil_of
root_nil v m = refl

module _ {S : Type 0} (P : S → Memory → Type 0) where
  entered_ok : (v : ℕ) (s t : S) (m : Memory) → Meets P s t (Ok tt) (enter_of v m) → (v < m.rest.versions) × P t (entered m v)
  entered_ok v s t m M = ⊎_elim
      (λ (l : v < m.rest.versions). let k : Meets P s t (Ok tt) (done tt (entered m v)) = subst (Meets P s t (Ok tt)) (enter_done v m l) M in (l, k.is.1))
      (λ (l : m.rest.versions ≤ v). let k : Meets {A = Unit {0}} P s t (Ok tt) (no (Order UnknownItem)) = subst (Meets P s t (Ok tt)) (enter_unknown v m l) M in absurd k.is)
      (cases_lt v m.rest.versions)

  never_refused : (v : ℕ) (s t : S) (e : MemoryRefusal) (m : Memory) → v < m.rest.versions → Meets P s t (Err e) (enter_of v m) → ⊥
  never_refused v s t e m l M = let k : Meets P s t (Err e) (done tt (entered m v)) = subst (Meets P s t (Err e)) (enter_done v m l) M in k.is

  -- the first call is refused
  refused_look : (v : ℕ) (s t : S) (e : MemoryRefusal) (m : Memory) → Meets P s t (Err e) (enter_of v m) → Looks v s t (Err e) m
  refused_look v s t e m M = ⊎_elim
      (λ (l : v < m.rest.versions). absurd (never_refused v s t e m l M))
      (λ (l : m.rest.versions ≤ v).
      let k : Meets {A = Unit {0}} P s t (Err e) (no (Order UnknownItem)) = subst (Meets P s t (Err e)) (enter_unknown v m l) M in
      let q = lt_false v m.rest.versions l in
      record { answer = rw q (ap Err k.is.0); same = k.is.1 })
      (cases_lt v m.rest.versions)

  -- the same at the exit of a `?`
  pub exit_look : (v : ℕ) (s t : S) (e : MemoryRefusal) (r : Result Bool MemoryRefusal) (m : Memory) → IsErrAnd r (λ y. y ≡ e) → Meets P s t (Err e) (enter_of v m) → Looks v s t r m
  exit_look v s t e r m q M = let p = err_from_is_err_and r q in subst⁻¹ (λ x. Looks v s t x m) (p.1 ∙ ap Err p.2) (refused_look v s t e m M)

  -- the whole look; alike memories at rest at one version are equal
  module _ (alike : S → S → Type 0) (restored : (s t : S) (m n : Memory) → alike s t → P s m → P t n → m.rest.working ≡ n.rest.working → AllNil m → AllNil n → s ≡ t) where
    asked : (v : ℕ) (s : S) (r : Result Bool MemoryRefusal) (m : Memory) → Comes P s r (root_nil_of (entered m v)) → (r ≡ Ok (is_nil ((state_of m v).roots 0))) × P s (looked v m)
    asked v s r m C = let k : Comes P s r (done (is_nil ((state_of m v).roots 0)) (looked v m)) = subst (Comes P s r) (root_nil v m) C in k.to

    pub whole_look : (v back : ℕ) (s s1 s2 s3 : S) (r : Result Bool MemoryRefusal) (m : Memory) → Resting back m → P s m → alike s s3
        → ((m : Memory) → P s m → Meets P s s1 (Ok tt) (enter_of v m)) → ((m : Memory) → P s1 m → Comes P s2 r (root_nil_of m)) → ((m : Memory) → P s2 m → Meets P s2 s3 (Ok tt) (enter_of back m))
        → Looks v s s3 r m
    whole_look v back s s1 s2 s3 r m R h A first ask last =
        let one = entered_ok v s s1 m (first m h) in
        let two = asked v s2 r m (ask (entered m v) one.1) in
        let three = entered_ok back s2 s3 (looked v m) (last (looked v m) two.1) in
        let q = lt_true v m.rest.versions one.0 in
        record {
          answer = rw q two.0;
          same = sym (restored s s3 m (entered (looked v m) back) A h three.1 R.working R.nil (λ reg l. refl));
        }

    -- coming back is never refused
    pub back_refused : (v back : ℕ) (s s1 s2 s3 : S) (r q : Result Bool MemoryRefusal) (e : MemoryRefusal) (m : Memory) → Resting back m → P s m
        → ((m : Memory) → P s m → Meets P s s1 (Ok tt) (enter_of v m)) → ((m : Memory) → P s1 m → Comes P s2 r (root_nil_of m)) → ((m : Memory) → P s2 m → Meets P s2 s3 (Err e) (enter_of back m))
        → Looks v s s3 q m
    back_refused v back s s1 s2 s3 r q e m R h first ask last =
        let one = entered_ok v s s1 m (first m h) in
        let two = asked v s2 r m (ask (entered m v) one.1) in
        let known : back < m.rest.versions = let a = R.sound.works in let b = R.working in omega arith in
        absurd (never_refused back s2 s3 e (looked v m) known (last (looked v m) two.1))
