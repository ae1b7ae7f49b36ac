use Rattle.std.proofs.Common.{arith, rules}
use Rattle.memory.proofs.Rows.{step_ok, step_exit, run_ok, run_exit, last_call}
use Rattle.tree_calls.proofs.Chains.{on_true, on_false}
use Rattle.books.specs.Books.{book_keys}
use Rattle.places.specs.Places.{place_first}
use Rattle.queue_calls.proofs.Merges.{merge_step}
use Rattle.queue_calls.proofs.merging.+merge.Goals as goal

pub returns-in_err-is_nil : goal.returns-in_err-is_nil
returns-in_err-is_nil g t c = record { runs = λ m h. rw (merge_step (place_first g.K.Key.first (book_keys c.args.book.now)) c.args.d m (omega arith)) (search rules); same = search rules }

pub returns-then-branch : goal.returns-then-branch
returns-then-branch g t c = record { runs = λ m h. rw (merge_step (place_first g.K.Key.first (book_keys c.args.book.now)) c.args.d m (omega arith)) (search rules); same = search rules }

pub returns-in_err-is_nil-2 : goal.returns-in_err-is_nil-2
returns-in_err-is_nil-2 g t c = record {
  runs = λ m h. rw (merge_step (place_first g.K.Key.first (book_keys c.args.book.now)) c.args.d m (omega arith))
      (step_ok _ (c.in_ok-is_nil.ensures.does m h) (λ m1 p1.
      on_false _ _ _ c.if-branch.false (step_exit _ c.from_residual-in_err-is_nil-2.ensures.1 (c.in_err-is_nil-2.ensures.does m1 p1))));
  same = search rules;
}

pub returns-then-branch-2 : goal.returns-then-branch-2
returns-then-branch-2 g t c = record {
  runs = λ m h. rw (merge_step (place_first g.K.Key.first (book_keys c.args.book.now)) c.args.d m (omega arith))
      (step_ok _ (c.in_ok-is_nil.ensures.does m h) (λ m1 p1.
      on_false _ _ _ c.if-branch.false
      (step_ok _ (c.in_ok-is_nil-2.ensures.does m1 p1) (λ m2 p2.
      on_true _ _ _ c.if-branch-2.true (last_call (c.copy.ensures.calls.does m2 p2))))));
  same = search rules;
}

pub returns-in_err-lead : goal.returns-in_err-lead
returns-in_err-lead g t c = record {
  runs = λ m h. rw (merge_step (place_first g.K.Key.first (book_keys c.args.book.now)) c.args.d m (omega arith))
      (step_ok _ (c.in_ok-is_nil.ensures.does m h) (λ m1 p1.
      on_false _ _ _ c.if-branch.false
      (step_ok _ (c.in_ok-is_nil-2.ensures.does m1 p1) (λ m2 p2.
      on_false _ _ _ c.if-branch-2.false (run_exit _ c.from_residual-in_err-lead.ensures.1 (c.in_err-lead.ensures.runs m2 p2))))));
  same = search rules;
}

pub returns-in_err-follow : goal.returns-in_err-follow
returns-in_err-follow g t c = record {
  runs = λ m h. rw (merge_step (place_first g.K.Key.first (book_keys c.args.book.now)) c.args.d m (omega arith))
      (step_ok _ (c.in_ok-is_nil.ensures.does m h) (λ m1 p1.
      on_false _ _ _ c.if-branch.false
      (step_ok _ (c.in_ok-is_nil-2.ensures.does m1 p1) (λ m2 p2.
      on_false _ _ _ c.if-branch-2.false
      (run_ok _ (c.in_ok-lead.ensures.runs m2 p2) (λ m3 p3.
      step_exit _ c.from_residual-in_err-follow.ensures.1 (c.in_err-follow.ensures.calls.does m3 p3)))))));
  same = search rules;
}

pub returns-in_err-merge : goal.returns-in_err-merge
returns-in_err-merge g t c = record {
  runs = λ m h. rw (merge_step (place_first g.K.Key.first (book_keys c.args.book.now)) c.args.d m (omega arith))
      (step_ok _ (c.in_ok-is_nil.ensures.does m h) (λ m1 p1.
      on_false _ _ _ c.if-branch.false
      (step_ok _ (c.in_ok-is_nil-2.ensures.does m1 p1) (λ m2 p2.
      on_false _ _ _ c.if-branch-2.false
      (run_ok _ (c.in_ok-lead.ensures.runs m2 p2) (λ m3 p3.
      step_ok _ (c.in_ok-follow.ensures.calls.does m3 p3) (λ m4 p4.
      run_exit _ c.from_residual-in_err-merge.ensures.1 (c.in_err-merge.ensures.runs m4 p4))))))));
  same = search rules;
}

pub returns : goal.returns
returns g t c = record {
  runs = λ m h. rw (merge_step (place_first g.K.Key.first (book_keys c.args.book.now)) c.args.d m (omega arith))
      (step_ok _ (c.in_ok-is_nil.ensures.does m h) (λ m1 p1.
      on_false _ _ _ c.if-branch.false
      (step_ok _ (c.in_ok-is_nil-2.ensures.does m1 p1) (λ m2 p2.
      on_false _ _ _ c.if-branch-2.false
      (run_ok _ (c.in_ok-lead.ensures.runs m2 p2) (λ m3 p3.
      step_ok _ (c.in_ok-follow.ensures.calls.does m3 p3) (λ m4 p4.
      run_ok _ (c.in_ok-merge.ensures.runs m4 p4) (λ m5 p5. c.hang.ensures.runs m5 p5))))))));
  same = search rules;
}
