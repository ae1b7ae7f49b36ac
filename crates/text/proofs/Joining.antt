-- Parts joined again, and keys as two words.
use Rattle.std.proofs.Common.{◌≡◌, ℕ, suc, ◌^◌, ◌<◌, true, leb, List, [], ◌∷◌, ◌++◌, length, ℤ, pos, negsuc, Some, None, decimal, Option, sym, refl, ap, ◌∙◌, ap₂, inl, inr, arith, w32, SFits}
use Rattle.std.specs.Fmt.{signed_decimal}
use Rattle.std.specs.Char.{is_ascii_digit}
use Rattle.std.specs.Str.{all_ascii_digits}
use Rattle.std.proofs.lemmas.Bool.{cases_eq, eq-eqb, ne_eqb, and_parts, leb-true}
use Rattle.keys.specs.declared.piece.PieceKey.{PieceKey}
use Rattle.keys.specs.declared.job.JobKey.{JobKey}
use Rattle.keys.specs.Shown.{piece_text, job_text}
use Rattle.text.specs.Numbers.{both}
use Rattle.text.specs.Parts.{in_front, parts, joined, Without, words}
use Rattle.text.specs.Keyed.{piece_key, job_key, piece_of, job_of}
use Rattle.text.specs.Laws.{PartsJoin, PartsSplit, PiecesReadBack, PiecesAreWritten, JobsReadBack, JobsAreWritten}
use Rattle.text.proofs.Cuts.{parts_first}
use Rattle.text.proofs.Inverse.{some_same, none_some, decimal_digits, numbers_read_back, numbers_are_written, integers_read_back, integers_are_written}

-- a byte in front of the first part is a byte in front of the text
front_joined : (s c : ℕ) (ws : List (List ℕ)) → joined s (in_front c ws) ≡ c ∷ joined s ws
front_joined s c [] = refl
front_joined s c (w ∷ []) = refl
front_joined s c (w ∷ v ∷ ws) = refl

pub parts_join : PartsJoin
parts_join s [] = refl
parts_join s (c ∷ cs) =
    elim (cases_eq c s) [
      | inl e ↦ simp (eq-eqb c s e) (ap (λ (l : List (List ℕ)). joined s ([] ∷ l)) (parts_first s cs) ∙ ap (λ (l : List (List ℕ)). s ∷ joined s l) (sym (parts_first s cs)) ∙ ap₂ (λ (x : ℕ) (l : List ℕ). x ∷ l) (sym e) (parts_join s cs))
      | inr n ↦ simp (ne_eqb c s n) (front_joined s c (parts s cs) ∙ ap (λ (l : List ℕ). c ∷ l) (parts_join s cs))
    ]

pub parts_split : PartsSplit
parts_split s w text h = (single w h, first w text h)
  where
    single : (w : List ℕ) → Without s w → parts s w ≡ w ∷ []
    single [] h = refl
    single (c ∷ cs) h = simp (ne_eqb c s h.0) (ap (in_front c) (single cs h.1))

    first : (w text : List ℕ) → Without s w → parts s (w ++ (s ∷ text)) ≡ w ∷ parts s text
    first [] text h = simp (eq-eqb s s refl)
    first (c ∷ cs) text h = simp (ne_eqb c s h.0) (ap (in_front c) (first cs text h.1))

-- digits are no spaces
digits_spaceless : (ds : List ℕ) → all_ascii_digits ds ≡ true → Without 32 ds
digits_spaceless [] h = tt
digits_spaceless (c ∷ cs) h =
    let parts = and_parts (is_ascii_digit c) (all_ascii_digits cs) h in
    let low = and_parts (leb 48 c) (leb c 57) parts.0 in
    (λ e. omega (arith, leb-true 48 c low.0), digits_spaceless cs parts.1)

number_spaceless : (n : ℕ) → n < 2 ^ 64 → Without 32 (decimal n)
number_spaceless n lt = digits_spaceless (decimal n) (decimal_digits n lt)

signed_spaceless : (z : ℤ) → SFits w32 z → Without 32 (signed_decimal z)
signed_spaceless (pos n) h = let lt : n < 2 ^ 31 = h.sfits in number_spaceless n (omega arith)
signed_spaceless (negsuc n) h = let lt : n < 2 ^ 31 = h.sfits in ((λ e. omega arith), number_spaceless (suc n) (omega arith))

-- two words
two : (a b : List ℕ) → Without 32 a → Without 32 b → words (a ++ (32 ∷ b)) ≡ a ∷ (b ∷ [])
two a b ha hb = (parts_split 32 a b ha).1 ∙ ap (λ (l : List (List ℕ)). a ∷ l) (parts_split 32 b [] hb).0

pub pieces_read_back : PiecesReadBack
pieces_read_back k lf lp =
    ap piece_of (two (decimal k.file) (decimal k.piece) (number_spaceless k.file (omega arith)) (number_spaceless k.piece (omega arith)))
    ∙ ap₂ (both piece_key) (numbers_read_back 32 k.file (omega arith) lf) (numbers_read_back 32 k.piece (omega arith) lp)

pub jobs_read_back : JobsReadBack
jobs_read_back k lu ln =
    ap job_of (two (signed_decimal k.urgency) (decimal k.number) (signed_spaceless k.urgency lu) (number_spaceless k.number (omega arith)))
    ∙ ap₂ (both job_key) (integers_read_back k.urgency lu) (numbers_read_back 32 k.number (omega arith) ln)

-- what both values are where their pair is there
pub record Both {A B C : Type 0} (f : A → B → C) (x : Option A) (y : Option B) (z : C) : Type 0 where
  pub a : A
  pub b : B
  pub x_is : x ≡ Some a
  pub y_is : y ≡ Some b
  pub z_is : f a b ≡ z

both_there : {A B C : Type 0} (f : A → B → C) (x : Option A) (y : Option B) (z : C) → both f x y ≡ Some z → Both f x y z
both_there f None y z e = absurd (none_some z e)
both_there f (Some a) None z e = absurd (none_some z e)
both_there f (Some a) (Some b) z e = record { a = a; b = b; x_is = refl; y_is = refl; z_is = some_same (f a b) z e }

-- a text of two words: the first, a space and the second
pub record Two (text : List ℕ) : Type 0 where
  pub a : List ℕ
  pub b : List ℕ
  pub words_are : words text ≡ a ∷ (b ∷ [])
  pub text_is : text ≡ a ++ (32 ∷ b)

pair : (text : List ℕ) (ws : List (List ℕ)) → words text ≡ ws → length ws ≡ 2 → Two text
pair text [] e n = absurd (omega arith)
pair text (a ∷ []) e n = absurd (omega arith)
pair text (a ∷ b ∷ []) e n = record { a = a; b = b; words_are = e; text_is = sym (parts_join 32 text) ∙ ap (joined 32) e }
pair text (a ∷ b ∷ c ∷ ws) e n = absurd (omega arith)

pub pieces_are_written : PiecesAreWritten
pieces_are_written k text n e =
    let p = pair text (words text) refl n in
    let r = both_there piece_key _ _ k (sym (ap piece_of p.words_are) ∙ e) in
    p.text_is
    ∙ ap₂ (λ (a b : List ℕ). a ++ (32 ∷ b)) (numbers_are_written 32 r.a p.a (omega arith) r.x_is).0 (numbers_are_written 32 r.b p.b (omega arith) r.y_is).0
    ∙ ap (λ (q : PieceKey). piece_text q.file q.piece) r.z_is

pub jobs_are_written : JobsAreWritten
jobs_are_written k text n e =
    let p = pair text (words text) refl n in
    let r = both_there job_key _ _ k (sym (ap job_of p.words_are) ∙ e) in
    p.text_is
    ∙ ap₂ (λ (a b : List ℕ). a ++ (32 ∷ b)) (integers_are_written r.a p.a r.x_is).0 (numbers_are_written 32 r.b p.b (omega arith) r.y_is).0
    ∙ ap (λ (q : JobKey). job_text q.urgency q.number) r.z_is
