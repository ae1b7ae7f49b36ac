-- The rule of the capacity table, one test over all of it.
use Rattle.std.proofs.Common.{◌≡◌, ℕ, ◌<◌, Bool, eqb, ltb, List, [], ◌∷◌, get_or, Option, Some, None, IfSome, Bor, is_some, unwrap_or, option_copied, sym, ◌∙◌, eqb→eq}
use Rattle.std.proofs.lemmas.Bool.{ltb-true, cond-true, cond-false}
use Rattle.std.proofs.lemmas.Grind.{get_or_default_zero}
use Rattle.labels.proofs.Table.{at}
use Rattle.labels.specs.Capacity.{capacity, room_of}

abbrev pub table : List ℕ
table = 1 ∷ 1 ∷ 1 ∷ 2 ∷ 3 ∷ 4 ∷ 5 ∷ 7 ∷ 9 ∷ 13 ∷ 17 ∷ 23 ∷ 31 ∷ 42 ∷ 56 ∷ 74 ∷ 99 ∷ 133 ∷ 177 ∷ 236 ∷ 315 ∷ 420 ∷ 560 ∷ 747 ∷ 996 ∷ 1328 ∷ 1771 ∷ 2362 ∷ 3149 ∷ 4199 ∷ 5599 ∷ 7466 ∷ []

right : ℕ → ℕ → Bool
right k x = eqb x (capacity k)

pub rule : (k : ℕ) → k < 32 → get_or table k 0 ≡ capacity k
unfolding right
rule k h = eqb→eq (get_or table k 0) (capacity k) (at right table tt k h)

-- what a look into the table gives, r being the number found there
pub room_is : (i : ℕ) (r : Option (Bor ℕ)) → is_some r ≡ ltb i 32 → IfSome r (λ x. x.now ≡ get_or table i x.now) → unwrap_or (option_copied r) 0 ≡ room_of i
room_is i None e h = sym (cond-false _ _ _ (sym e))
room_is i (Some x) e h =
    let lt = ltb-true i 32 (sym e) in
    h ∙ (get_or_default_zero table i x.now lt ∙ (rule i lt ∙ sym (cond-true _ _ _ (sym e))))
