-- The queues' rows leave register 35 as it was.
use Rattle.std.proofs.Common.{◌≡◌, ℕ, zero, suc, ◌+◌, ◌<◌, ◌≤◌, Bool, true, false, eqb, ltb, leb, Option, refl, arith}
use Rattle.refusals.specs.declared.kinds.MemoryRefusal.TheVariants.{OutOfRange}
use Rattle.memory.specs.Memory.{Memory}
use Rattle.memory.specs.Steps.{done}
use Rattle.stored.specs.Writes.{relink_of, renumber_of, resave_of, blank_of}
use Rattle.queue_steps.specs.Merge.{rank_of, next_rank_of, ranked_of, hang_of, sink_of, swap_of, merge_of}
use Rattle.queue_steps.specs.Queues.{push_of, part_of, pop_of, top_of, release_of}
use Rattle.queue_registers.specs.Registers.{Keeps, NilStays}
use Rattle.queue_registers.proofs.Steps.{keeps_then, keeps_cond, keeps_check, keeps_load, keeps_follow, keeps_move, keeps_key, keeps_number, keeps_nil, keeps_same, keeps_make, keeps_save, keeps_link, keeps_set}

module _ {x : Option ℕ} where
  keeps_relink : (m : Memory) → m.regs 35 ≡ x → (d : ℕ) (s : Bool) (r : ℕ) → Keeps x (relink_of d s r m)
  unfolding relink_of
  keeps_relink m h d s r = keeps_then _ _ (keeps_follow m h d _ 32 (λ e. omega arith)) (λ _ m1 h1. keeps_then _ _ (keeps_same m1 h1 32 r) (λ b m2 h2. keeps_cond b _ _ (record { is = h2 }) (keeps_link m2 h2 d _ r)))

  keeps_resave : (m : Memory) → m.regs 35 ≡ x → (root r : ℕ) → Keeps x (resave_of root r m)
  unfolding resave_of
  keeps_resave m h root r = keeps_then _ _ (keeps_load m h root 32 (λ e. omega arith)) (λ _ m1 h1. keeps_then _ _ (keeps_same m1 h1 32 r) (λ b m2 h2. keeps_cond b _ _ (record { is = h2 }) (keeps_save m2 h2 root r)))

  keeps_rank : (m : Memory) → m.regs 35 ≡ x → (r : ℕ) → Keeps x (rank_of r m)
  unfolding rank_of
  keeps_rank m h r = keeps_then _ _ (keeps_nil m h r) (λ b m1 h1. keeps_cond b _ _ (record { is = h1 }) (keeps_number m1 h1 1 r))

  keeps_next : (m : Memory) → m.regs 35 ≡ x → (r : ℕ) → Keeps x (next_rank_of r m)
  unfolding next_rank_of
  keeps_next m h r = keeps_check (ltb r 4294967295) OutOfRange (done (suc r) m) (record { is = h })

  keeps_renumber : (m : Memory) → m.regs 35 ≡ x → (field d v : ℕ) → Keeps x (renumber_of field d v m)
  unfolding renumber_of
  keeps_renumber m h field d v = keeps_then _ _ (keeps_number m h field d) (λ old m1 h1. keeps_cond (eqb old v) _ _ (record { is = h1 }) (keeps_set m1 h1 field d v))

  keeps_ranked : (m : Memory) → m.regs 35 ≡ x → (d r : ℕ) → Keeps x (ranked_of d r m)
  unfolding ranked_of
  keeps_ranked m h d r = keeps_then _ _ (keeps_next m h r) (λ mark m1 h1. keeps_renumber m1 h1 1 d mark)

  keeps_hang : (m : Memory) → m.regs 35 ≡ x → (d : ℕ) → Keeps x (hang_of d m)
  unfolding hang_of
  keeps_hang m h d =
      keeps_then _ _ (keeps_follow m h d 0 38 (λ e. omega arith)) (λ _ m1 h1.
      keeps_then _ _ (keeps_rank m1 h1 38) (λ rl m2 h2.
      keeps_then _ _ (keeps_rank m2 h2 (suc d)) (λ rr m3 h3.
      keeps_cond (leb rr rl) _ _
      (keeps_then _ _ (keeps_relink m3 h3 d true (suc d)) (λ _ m4 h4. keeps_ranked m4 h4 d rr))
      (keeps_then _ _ (keeps_relink m3 h3 d false (suc d)) (λ _ m4 h4. keeps_then _ _ (keeps_relink m4 h4 d true 38) (λ _ m5 h5. keeps_ranked m5 h5 d rl))))))

  keeps_swap : (m : Memory) → m.regs 35 ≡ x → (d : ℕ) → d < 35 → Keeps x (swap_of d m)
  unfolding swap_of
  keeps_swap m h d l =
      keeps_then _ _ (keeps_move m h d 38 (λ e. omega arith)) (λ _ m1 h1.
      keeps_then _ _ (keeps_move m1 h1 39 d (λ e. omega arith)) (λ _ m2 h2. keeps_move m2 h2 38 39 (λ e. omega arith)))

  keeps_merge : (before : ℕ → ℕ → Bool) (g d : ℕ) (m : Memory) → m.regs 35 ≡ x → g + d ≤ 25 → Keeps x (merge_of before g d m)
  unfolding merge_of sink_of
  keeps_merge before zero d m h l = record { is = tt }
  keeps_merge before (suc g) d m h l =
      let sink : (m1 : Memory) → m1.regs 35 ≡ x → Keeps x (sink_of (merge_of before g) d m1) = λ m1 h1.
      keeps_then _ _ (keeps_follow m1 h1 d 1 (suc d) (λ e. omega arith)) (λ _ m2 h2. keeps_then _ _ (keeps_merge before g (suc d) m2 h2 (omega arith)) (λ _ m3 h3. keeps_hang m3 h3 d)) in
      keeps_then _ _ (keeps_nil m h 39) (λ nil m1 h1. keeps_cond nil _ _ (record { is = h1 })
      (keeps_then _ _ (keeps_nil m1 h1 d) (λ bare m2 h2. keeps_cond bare _ _ (keeps_move m2 h2 39 d (λ e. omega arith))
      (keeps_then _ _ (keeps_key m2 h2 39) (λ b m3 h3.
      keeps_then _ _ (keeps_key m3 h3 d) (λ a m4 h4.
      keeps_cond (before b a) _ _ (keeps_then _ _ (keeps_swap m4 h4 d (omega arith)) (λ _ m5 h5. sink m5 h5)) (sink m4 h4)))))))

  keeps_part : (m : Memory) → m.regs 35 ≡ x → Keeps x (part_of m)
  unfolding part_of blank_of
  keeps_part m h =
      keeps_then _ _ (keeps_move m h 0 36 (λ e. omega arith)) (λ _ m1 h1.
      keeps_then _ _ (keeps_follow m1 h1 36 0 0 (λ e. omega arith)) (λ _ m2 h2.
      keeps_then _ _ (keeps_follow m2 h2 36 1 39 (λ e. omega arith)) (λ _ m3 h3.
      keeps_then _ _ (keeps_link m3 h3 36 0 35) (λ _ m4 h4. keeps_link m4 h4 36 1 35))))

keeps_push : (before : ℕ → ℕ → Bool) (m : Memory) (root k : ℕ) → Keeps (m.regs 35) (push_of before root k m)
unfolding push_of
keeps_push before m root k =
    keeps_then _ _ (keeps_load m refl root 0 (λ e. omega arith)) (λ _ m1 h1.
    keeps_then _ _ (keeps_make m1 h1 39 k 0 1 (λ e. omega arith)) (λ _ m2 h2.
    keeps_then _ _ (keeps_merge before 25 0 m2 h2 (omega arith)) (λ _ m3 h3. keeps_resave m3 h3 root 0)))

keeps_pop : (before : ℕ → ℕ → Bool) (m : Memory) → Keeps (m.regs 35) (pop_of before 1 m)
unfolding pop_of
keeps_pop before m =
    keeps_then _ _ (keeps_load m refl 1 0 (λ e. omega arith)) (λ _ m1 h1.
    keeps_then _ _ (keeps_nil m1 h1 0) (λ nil m2 h2. keeps_cond nil _ _ (record { is = h2 })
    (keeps_then _ _ (keeps_key m2 h2 0) (λ k m3 h3.
    keeps_then _ _ (keeps_part m3 h3) (λ _ m4 h4.
    keeps_then _ _ (keeps_merge before 25 0 m4 h4 (omega arith)) (λ _ m5 h5.
    keeps_then _ _ (keeps_resave m5 h5 1 0) (λ _ m6 h6. record { is = h6 })))))))

keeps_top : (m : Memory) → Keeps (m.regs 35) (top_of 1 m)
unfolding top_of
keeps_top m =
    keeps_then _ _ (keeps_load m refl 1 0 (λ e. omega arith)) (λ _ m1 h1.
    keeps_then _ _ (keeps_nil m1 h1 0) (λ nil m2 h2. keeps_cond nil _ _ (record { is = h2 }) (keeps_then _ _ (keeps_key m2 h2 0) (λ k m3 h3. record { is = h3 }))))

keeps_release : (before : ℕ → ℕ → Bool) (m : Memory) → Keeps (m.regs 35) (release_of before m)
unfolding release_of
keeps_release before m =
    keeps_then _ _ (keeps_load m refl 1 0 (λ e. omega arith)) (λ _ m1 h1.
    keeps_then _ _ (keeps_load m1 h1 2 39 (λ e. omega arith)) (λ _ m2 h2.
    keeps_then _ _ (keeps_merge before 25 0 m2 h2 (omega arith)) (λ _ m3 h3.
    keeps_then _ _ (keeps_resave m3 h3 1 0) (λ _ m4 h4. keeps_resave m4 h4 2 35))))

pub nil_stays : NilStays
nil_stays before m = record { push = λ root k. keeps_push before m root k; pop = keeps_pop before m; top = keeps_top m; release = keeps_release before m }
