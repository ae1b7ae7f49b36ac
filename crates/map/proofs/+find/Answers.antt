use Rattle.std.proofs.Common.{◌+◌, sym, ◌∙◌, arith, rules}
use Rattle.memory.specs.Steps.{follow_of}
use Rattle.memory.proofs.Rows.{step_ok, step_exit}
use Rattle.tree_calls.proofs.Chains.{on_false, side_at, via_call}
use Rattle.books.specs.Books.{book_keys}
use Rattle.places.specs.Places.{way_from}
use Rattle.map.proofs.Lookups.{at_side, find_level_lem}
use Rattle.map.proofs.+find.Goals as goal

pub returns-in_err-is_nil : goal.returns-in_err-is_nil
returns-in_err-is_nil g t c = record {
  runs = λ m h. find_level_lem (way_from g.K.Key.first (book_keys c.args.book.now) c.args.key) c.args.d m (omega arith) (search rules);
  same = search rules;
}

pub returns-then-branch : goal.returns-then-branch
returns-then-branch g t c = record {
  runs = λ m h. find_level_lem (way_from g.K.Key.first (book_keys c.args.book.now) c.args.key) c.args.d m (omega arith) (search rules);
  same = search rules;
}

pub returns-in_err-here : goal.returns-in_err-here
returns-in_err-here g t c = record {
  runs = λ m h. find_level_lem (way_from g.K.Key.first (book_keys c.args.book.now) c.args.key) c.args.d m (omega arith) (search rules);
  same = search rules;
}

pub returns-in_default : goal.returns-in_default
returns-in_default g t c = record {
  runs = λ m h. find_level_lem (way_from g.K.Key.first (book_keys c.args.book.now) c.args.key) c.args.d m (omega arith) (search rules);
  same = search rules;
}

pub returns-in_err-follow : goal.returns-in_err-follow
returns-in_err-follow g t c = record {
  runs = λ m h. find_level_lem (way_from g.K.Key.first (book_keys c.args.book.now) c.args.key) c.args.d m (omega arith) (step_ok _ (c.in_ok-is_nil.ensures.does m h) (λ m1 p1. on_false _ _ _ c.if-branch.false (step_ok _ (c.in_ok-here.ensures.does m1 p1) (λ m2 p2. at_side _ _ _ (sym c.way.ensures ∙ c.in-Some.is) (step_exit _ c.from_residual-in_err-follow.ensures.1 (via_call (λ n. follow_of c.args.d n (c.args.d + 1)) (c.from-side.ensures ∙ side_at _) c.in_err-follow.ensures.calls.does m2 p2))))));
  same = search rules;
}

pub returns : goal.returns
returns g t c = record {
  runs = λ m h. find_level_lem (way_from g.K.Key.first (book_keys c.args.book.now) c.args.key) c.args.d m (omega arith) (step_ok _ (c.in_ok-is_nil.ensures.does m h) (λ m1 p1. on_false _ _ _ c.if-branch.false (step_ok _ (c.in_ok-here.ensures.does m1 p1) (λ m2 p2. at_side _ _ _ (sym c.way.ensures ∙ c.in-Some.is) (step_ok _ (via_call (λ n. follow_of c.args.d n (c.args.d + 1)) (c.from-side.ensures ∙ side_at _) c.in_ok-follow.ensures.calls.does m2 p2) (λ m3 p3. c.find.ensures.runs m3 p3))))));
  same = search rules;
}
