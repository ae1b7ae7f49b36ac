use Rattle.std.proofs.Common.{◌+◌, sym, ◌∙◌, arith, rules}
use Rattle.books.specs.Books.{book_keys}
use Rattle.tree_calls.proofs.Chains.{via_call, side_at}
use Rattle.map_remove.proofs.Levels.{came_by, on_some, remove_step}
use Rattle.memory.proofs.Rows.{step_ok, step_exit, run_ok, run_exit}
use Rattle.memory.specs.Steps.{follow_of}
use Rattle.places.specs.Places.{way_from}
use Rattle.map_remove.proofs.+remove.Goals as goal

pub returns-in_err-here : goal.returns-in_err-here
returns-in_err-here g t c = record { runs = λ m h. came_by (remove_step (way_from g.K.Key.first (book_keys c.args.book.now) c.args.key) c.args.d m (omega arith)) (search rules); same = search rules }

pub returns-in_default : goal.returns-in_default
returns-in_default g t c = record { runs = λ m h. came_by (remove_step (way_from g.K.Key.first (book_keys c.args.book.now) c.args.key) c.args.d m (omega arith)) (search rules); same = search rules }

pub returns-in_err-follow : goal.returns-in_err-follow
returns-in_err-follow g t c = record {
  runs = λ m h. came_by (remove_step (way_from g.K.Key.first (book_keys c.args.book.now) c.args.key) c.args.d m (omega arith))
      (step_ok _ (c.in_ok-here.ensures.does m h) (λ m1 p1.
      on_some _ c.in-Some.right _ _ (sym c.way.ensures ∙ c.in-Some.is) (step_exit _ c.from_residual-in_err-follow.ensures.1 (via_call (λ k. follow_of c.args.d k (c.args.d + 1)) (c.from.ensures ∙ side_at _) c.in_err-follow.ensures.calls.does m1 p1))));
  same = search rules;
}

pub returns-in_err-short : goal.returns-in_err-short
returns-in_err-short g t c = record {
  runs = λ m h. came_by (remove_step (way_from g.K.Key.first (book_keys c.args.book.now) c.args.key) c.args.d m (omega arith))
      (step_ok _ (c.in_ok-here.ensures.does m h) (λ m1 p1.
      on_some _ c.in-Some.right _ _ (sym c.way.ensures ∙ c.in-Some.is) (step_ok _ (via_call (λ k. follow_of c.args.d k (c.args.d + 1)) (c.from.ensures ∙ side_at _) c.in_ok-follow.ensures.calls.does m1 p1) (λ m2 p2.
      run_exit _ c.from_residual-in_err-short.ensures.1 (c.in_err-short.ensures.runs m2 p2)))));
  same = search rules;
}

pub returns : goal.returns
returns g t c = record {
  runs = λ m h. came_by (remove_step (way_from g.K.Key.first (book_keys c.args.book.now) c.args.key) c.args.d m (omega arith))
      (step_ok _ (c.in_ok-here.ensures.does m h) (λ m1 p1.
      on_some _ c.in-Some.right _ _ (sym c.way.ensures ∙ c.in-Some.is) (step_ok _ (via_call (λ k. follow_of c.args.d k (c.args.d + 1)) (c.from.ensures ∙ side_at _) c.in_ok-follow.ensures.calls.does m1 p1) (λ m2 p2.
      run_ok _ (c.in_ok-short.ensures.runs m2 p2) (λ m3 p3.
      c.step_up.ensures.runs m3 p3)))));
  same = search rules;
}
