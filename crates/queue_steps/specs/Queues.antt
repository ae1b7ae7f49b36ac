-- The calls of a queue as rows of steps. Root 1 is due, root 2 is held; register 35 is nil.
--
--   push_of      a job joins the queue of a root
--   part_of      the first node of a heap leaves its children in registers 0 and 39, and loses both links
--   pop_of       the first job of a root's queue goes, and its key is answered; nothing where the queue is empty
--   top_of       the key of the first job, or nothing
--   release_of   the held jobs become due
use Rattle.std.specs.Prelude.{ℕ, Bool, cond, Some, None, Option}
use Rattle.memory.specs.Memory.{Memory}
use Rattle.memory.specs.Steps.{Done, done, then, load_of, follow_of, move_of, key_of, nil_of, make_of}
use Rattle.stored.specs.Writes.{resave_of, blank_of}
use Rattle.queue_steps.specs.Merge.{merge_of}

-- the job's key is at a place of the book; its value is not used
unfoldable pub push_of : (ℕ → ℕ → Bool) → ℕ → ℕ → Memory → Done Unit
push_of before root place m =
    then (load_of root 0 m) (λ _ m1.
    then (make_of 39 place 0 1 m1) (λ _ m2.
    then (merge_of before 25 0 m2) (λ _ m3.
    resave_of root 0 m3)))

unfoldable pub part_of : Memory → Done Unit
part_of m =
    then (move_of 0 36 m) (λ _ m1.
    then (follow_of 36 0 0 m1) (λ _ m2.
    then (follow_of 36 1 39 m2) (λ _ m3.
    blank_of 36 m3)))

unfoldable pub pop_of : (ℕ → ℕ → Bool) → ℕ → Memory → Done (Option ℕ)
pop_of before root m =
    then (load_of root 0 m) (λ _ m1.
    then (nil_of 0 m1) (λ nil m2. cond nil (done None m2)
    (then (key_of 0 m2) (λ k m3.
    then (part_of m3) (λ _ m4.
    then (merge_of before 25 0 m4) (λ _ m5.
    then (resave_of root 0 m5) (λ _ m6. done (Some k) m6)))))))

unfoldable pub top_of : ℕ → Memory → Done (Option ℕ)
top_of root m = then (load_of root 0 m) (λ _ m1. then (nil_of 0 m1) (λ nil m2. cond nil (done None m2) (then (key_of 0 m2) (λ k m3. done (Some k) m3))))

unfoldable pub release_of : (ℕ → ℕ → Bool) → Memory → Done Unit
release_of before m =
    then (load_of 1 0 m) (λ _ m1.
    then (load_of 2 39 m1) (λ _ m2.
    then (merge_of before 25 0 m2) (λ _ m3.
    then (resave_of 1 0 m3) (λ _ m4.
    resave_of 2 35 m4))))
