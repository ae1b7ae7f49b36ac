use Rattle.std.proofs.Common.{add-one, suc, ◌-◌, not, arith, ◌∙◌, rules}
use Rattle.memory.proofs.Rows.{step_ok, step_exit, last_call, run_ok, run_exit}
use Rattle.tree_calls.proofs.Chains.{on_true, on_false, via_call, via_run, side_at}
use Rattle.books.specs.Books.{book_keys}
use Rattle.places.specs.Places.{goes_left}
use Rattle.memory.specs.Steps.{follow_of}
use Rattle.stored.specs.Writes.{relink_of}
use Rattle.map_steps.specs.Insert.{insert_of}
use Rattle.map_insert.proofs.Insertions.{side_of, level}
use Rattle.map_insert.proofs.+insert.Goals as goal

pub returns-in_err-is_nil : goal.returns-in_err-is_nil
returns-in_err-is_nil g t c = record {
  runs = λ m h. level (goes_left g.K.Key.first (book_keys c.args.book.now) c.args.key) c.args.place c.args.value c.args.d m (omega arith) (step_exit _ c.from_residual.ensures.1 (c.in_err-is_nil.ensures.does m h));
  same = search rules;
}

pub returns-then-branch : goal.returns-then-branch
returns-then-branch g t c = record {
  runs = λ m h. level (goes_left g.K.Key.first (book_keys c.args.book.now) c.args.key) c.args.place c.args.value c.args.d m (omega arith) (step_ok _ (c.in_ok-is_nil.ensures.does m h) (λ m1 p1. on_true _ _ _ c.if-branch.true (last_call (c.make.ensures.does m1 p1))));
  same = search rules;
}

pub returns-in_err-here : goal.returns-in_err-here
returns-in_err-here g t c = record {
  runs = λ m h. level (goes_left g.K.Key.first (book_keys c.args.book.now) c.args.key) c.args.place c.args.value c.args.d m (omega arith) (step_ok _ (c.in_ok-is_nil.ensures.does m h) (λ m1 p1. on_false _ _ _ c.if-branch.false (step_exit _ c.from_residual-in_err-here.ensures.1 (c.in_err-here.ensures.does m1 p1))));
  same = search rules;
}

pub returns-in_err-follow : goal.returns-in_err-follow
returns-in_err-follow g t c = record {
  runs = λ m h. level (goes_left g.K.Key.first (book_keys c.args.book.now) c.args.key) c.args.place c.args.value c.args.d m (omega arith) (step_ok _ (c.in_ok-is_nil.ensures.does m h) (λ m1 p1. on_false _ _ _ c.if-branch.false (step_ok _ (c.in_ok-here.ensures.does m1 p1) (λ m2 p2. via_run (λ b. side_of (goes_left g.K.Key.first (book_keys c.args.book.now) c.args.key) c.args.place c.args.value c.args.d (not b)) c.goes_left-right.ensures (step_exit _ c.from_residual-in_err-follow.ensures.1 (via_call (λ n. follow_of c.args.d n (suc c.args.d)) (c.from-side.ensures ∙ side_at (not c.goes_left-right.result)) (via_call (λ n. follow_of c.args.d c.from-side.result n) (add-one c.args.d) c.in_err-follow.ensures.calls.does) m2 p2))))));
  same = search rules;
}

pub returns-in_err-insert : goal.returns-in_err-insert
returns-in_err-insert g t c = record {
  runs = λ m h. level (goes_left g.K.Key.first (book_keys c.args.book.now) c.args.key) c.args.place c.args.value c.args.d m (omega arith) (step_ok _ (c.in_ok-is_nil.ensures.does m h) (λ m1 p1. on_false _ _ _ c.if-branch.false (step_ok _ (c.in_ok-here.ensures.does m1 p1) (λ m2 p2. via_run (λ b. side_of (goes_left g.K.Key.first (book_keys c.args.book.now) c.args.key) c.args.place c.args.value c.args.d (not b)) c.goes_left-right.ensures (step_ok _ (via_call (λ n. follow_of c.args.d n (suc c.args.d)) (c.from-side.ensures ∙ side_at (not c.goes_left-right.result)) (via_call (λ n. follow_of c.args.d c.from-side.result n) (add-one c.args.d) c.in_ok-follow.ensures.calls.does) m2 p2) (λ m3 p3. run_exit _ c.from_residual-in_err-insert.ensures.1 (via_run (λ n. insert_of (goes_left g.K.Key.first (book_keys c.args.book.now) c.args.key) c.args.place c.args.value (25 - n) n) (add-one c.args.d) (c.in_err-insert.ensures.runs m3 p3))))))));
  same = search rules;
}

pub returns-in_err-relink : goal.returns-in_err-relink
returns-in_err-relink g t c = record {
  runs = λ m h. level (goes_left g.K.Key.first (book_keys c.args.book.now) c.args.key) c.args.place c.args.value c.args.d m (omega arith) (step_ok _ (c.in_ok-is_nil.ensures.does m h) (λ m1 p1. on_false _ _ _ c.if-branch.false (step_ok _ (c.in_ok-here.ensures.does m1 p1) (λ m2 p2. via_run (λ b. side_of (goes_left g.K.Key.first (book_keys c.args.book.now) c.args.key) c.args.place c.args.value c.args.d (not b)) c.goes_left-right.ensures (step_ok _ (via_call (λ n. follow_of c.args.d n (suc c.args.d)) (c.from-side.ensures ∙ side_at (not c.goes_left-right.result)) (via_call (λ n. follow_of c.args.d c.from-side.result n) (add-one c.args.d) c.in_ok-follow.ensures.calls.does) m2 p2) (λ m3 p3. run_ok _ (via_run (λ n. insert_of (goes_left g.K.Key.first (book_keys c.args.book.now) c.args.key) c.args.place c.args.value (25 - n) n) (add-one c.args.d) (c.in_ok-insert.ensures.runs m3 p3)) (λ m4 p4. run_exit _ c.from_residual-in_err-relink.ensures.1 (via_run (λ n. relink_of c.args.d (not c.goes_left-right.result) n) (add-one c.args.d) (c.in_err-relink.ensures.runs m4 p4)))))))));
  same = search rules;
}

pub returns : goal.returns
returns g t c = record {
  runs = λ m h. level (goes_left g.K.Key.first (book_keys c.args.book.now) c.args.key) c.args.place c.args.value c.args.d m (omega arith) (step_ok _ (c.in_ok-is_nil.ensures.does m h) (λ m1 p1. on_false _ _ _ c.if-branch.false (step_ok _ (c.in_ok-here.ensures.does m1 p1) (λ m2 p2. via_run (λ b. side_of (goes_left g.K.Key.first (book_keys c.args.book.now) c.args.key) c.args.place c.args.value c.args.d (not b)) c.goes_left-right.ensures (step_ok _ (via_call (λ n. follow_of c.args.d n (suc c.args.d)) (c.from-side.ensures ∙ side_at (not c.goes_left-right.result)) (via_call (λ n. follow_of c.args.d c.from-side.result n) (add-one c.args.d) c.in_ok-follow.ensures.calls.does) m2 p2) (λ m3 p3. run_ok _ (via_run (λ n. insert_of (goes_left g.K.Key.first (book_keys c.args.book.now) c.args.key) c.args.place c.args.value (25 - n) n) (add-one c.args.d) (c.in_ok-insert.ensures.runs m3 p3)) (λ m4 p4. run_ok _ (via_run (λ n. relink_of c.args.d (not c.goes_left-right.result) n) (add-one c.args.d) (c.in_ok-relink.ensures.runs m4 p4)) (λ m5 p5. c.insert_fix.ensures.runs m5 p5))))))));
  same = search rules;
}
