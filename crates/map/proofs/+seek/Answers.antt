use Rattle.std.proofs.Common.{sym, ◌∙◌, arith, rules}
use Rattle.memory.proofs.Rows.{step_ok, step_exit}
use Rattle.tree_calls.proofs.Chains.{on_true, on_false}
use Rattle.books.specs.Books.{book_keys}
use Rattle.places.specs.Places.{goes_left}
use Rattle.map.proofs.Lookups.{seek_level_lem}
use Rattle.map.proofs.+seek.Goals as goal

pub returns-in_err-is_nil : goal.returns-in_err-is_nil
returns-in_err-is_nil g t c = record {
  runs = λ m h. seek_level_lem (goes_left g.K.Key.first (book_keys c.args.book.now) c.args.key) c.args.d c.args.best m (omega arith) (search rules);
  same = search rules;
}

pub returns-then-branch : goal.returns-then-branch
returns-then-branch g t c = record {
  runs = λ m h. seek_level_lem (goes_left g.K.Key.first (book_keys c.args.book.now) c.args.key) c.args.d c.args.best m (omega arith) (search rules);
  same = search rules;
}

pub returns-in_err-here : goal.returns-in_err-here
returns-in_err-here g t c = record {
  runs = λ m h. seek_level_lem (goes_left g.K.Key.first (book_keys c.args.book.now) c.args.key) c.args.d c.args.best m (omega arith) (search rules);
  same = search rules;
}

pub returns-in_err-follow : goal.returns-in_err-follow
returns-in_err-follow g t c = record {
  runs = λ m h. seek_level_lem (goes_left g.K.Key.first (book_keys c.args.book.now) c.args.key) c.args.d c.args.best m (omega arith) (step_ok _ (c.in_ok-is_nil.ensures.does m h) (λ m1 p1. on_false _ _ _ c.if-branch.false (step_ok _ (c.in_ok-here.ensures.does m1 p1) (λ m2 p2. on_true _ _ _ (sym c.goes_left.ensures ∙ c.if-goes_left.true) (step_exit _ c.from_residual-in_err-follow.ensures.1 (c.in_err-follow.ensures.calls.does m2 p2))))));
  same = search rules;
}

pub returns-then-goes_left : goal.returns-then-goes_left
returns-then-goes_left g t c = record {
  runs = λ m h. seek_level_lem (goes_left g.K.Key.first (book_keys c.args.book.now) c.args.key) c.args.d c.args.best m (omega arith) (step_ok _ (c.in_ok-is_nil.ensures.does m h) (λ m1 p1. on_false _ _ _ c.if-branch.false (step_ok _ (c.in_ok-here.ensures.does m1 p1) (λ m2 p2. on_true _ _ _ (sym c.goes_left.ensures ∙ c.if-goes_left.true) (step_ok _ (c.in_ok-follow.ensures.calls.does m2 p2) (λ m3 p3. c.seek.ensures.runs m3 p3))))));
  same = search rules;
}

pub returns-in_err-follow-2 : goal.returns-in_err-follow-2
returns-in_err-follow-2 g t c = record {
  runs = λ m h. seek_level_lem (goes_left g.K.Key.first (book_keys c.args.book.now) c.args.key) c.args.d c.args.best m (omega arith) (step_ok _ (c.in_ok-is_nil.ensures.does m h) (λ m1 p1. on_false _ _ _ c.if-branch.false (step_ok _ (c.in_ok-here.ensures.does m1 p1) (λ m2 p2. on_false _ _ _ (sym c.goes_left.ensures ∙ c.if-goes_left.false) (step_exit _ c.from_residual-in_err-follow-2.ensures.1 (c.in_err-follow-2.ensures.calls.does m2 p2))))));
  same = search rules;
}

pub returns : goal.returns
returns g t c = record {
  runs = λ m h. seek_level_lem (goes_left g.K.Key.first (book_keys c.args.book.now) c.args.key) c.args.d c.args.best m (omega arith) (step_ok _ (c.in_ok-is_nil.ensures.does m h) (λ m1 p1. on_false _ _ _ c.if-branch.false (step_ok _ (c.in_ok-here.ensures.does m1 p1) (λ m2 p2. on_false _ _ _ (sym c.goes_left.ensures ∙ c.if-goes_left.false) (step_ok _ (c.in_ok-follow-2.ensures.calls.does m2 p2) (λ m3 p3. c.seek-2.ensures.runs m3 p3))))));
  same = search rules;
}
