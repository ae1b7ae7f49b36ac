-- Passing over lines that are not to be answered.
use Rattle.std.proofs.Common.{◌≡◌, ℕ, Bool, true, false, cond, filter, length, List, [], ◌∷◌, Some, None, Option, sym, refl, ap, ◌∙◌, subst, inl, inr, rules, Bor}
use Rattle.std.proofs.lemmas.Bool.{cases_Bool}
use Rattle.std.specs.Fn.{CalledAt}
use Rattle.std.specs.Iterator.{Yields, YieldsFirstRef, FindsItem, item_count, MakesProgress}
use Rattle.std.specs.Prelude.{⊤}
use Rattle.std.specs.List.{FoldsTo}
use Rattle.std.specs.Option.{option_map}
use denote.Param.Members.{Mut}
use Rattle.text.specs.declared.split.Parts.{Parts}
use Rattle.text.specs.declared.split.Lines.{Lines}
use Rattle.text.specs.Left.{left}
use Rattle.text.proofs.Inverse.{some_same, none_some}
use Rattle.text.specs.Lines.{told, next_told, behind_told, told_left}

-- the lines that are left give the same next line as all lines
pub record Passing (all now : List (List ℕ)) : Type 0 where
  pub line : next_told now ≡ next_told all
  pub rest : behind_told now ≡ behind_told all

-- a line that is not to be answered is passed over, and one that is to be answered is the next
pass : (all now : List (List ℕ)) (l : List ℕ) → all ≡ l ∷ now → false ≡ told l → Passing all now
pass all now l e t = record {
  line = sym (ap next_told e ∙ ap (λ (b : Bool). cond b (Some l) (next_told now)) (sym t));
  rest = sym (ap behind_told e ∙ ap (λ (b : Bool). cond b now (behind_told now)) (sym t));
}

tell : (all now : List (List ℕ)) (l : List ℕ) → all ≡ l ∷ now → true ≡ told l → (Some l ≡ next_told all) × (now ≡ behind_told all)
tell all now l e t = (
  sym (ap next_told e ∙ ap (λ (b : Bool). cond b (Some l) (next_told now)) (sym t)),
  sym (ap behind_told e ∙ ap (λ (b : Bool). cond b now (behind_told now)) (sym t)),
)

module _ {F : Type 0} (g : Mut F (Bor (Bor (List ℕ)) × Unit {0}) Bool) (f : F) (tells : (x : Bor (List ℕ)) (b : Bool) (q : F) → CalledAt g f x b q → (q ≡ f) × (b ≡ told x.now)) where
  -- lines that the test refused are passed over
  passed : (s t : Parts) (p j : F) (xs : List (Bor (List ℕ))) → p ≡ f → Yields (YieldsFirstRef left) s xs t → FoldsTo (λ p x q. CalledAt g p x false q) p xs j → Passing (left s) (left t) × (j ≡ f)
  passed s t p j [] e y c = (record { line = ap (λ (u : Parts). next_told (left u)) (sym y); rest = ap (λ (u : Parts). behind_told (left u)) (sym y) }, sym c ∙ e)
  passed s t p j (x ∷ xs) e y c =
      let first = tells x false c.0 (subst (λ (q : F). CalledAt g q x false c.0) e c.1) in
      let one = pass (left s) (left y.0) x.now y.1 first.1 in
      let others = passed y.0 t c.0 j xs first.0 y.2 c.2 in
      (record { line = others.0.line ∙ one.line; rest = others.0.rest ∙ one.rest }, others.1)

  -- the first line that the test accepts is the next that is to be answered
  pub found : (s u : Parts) (r : Option (Bor (List ℕ))) → FindsItem (YieldsFirstRef left) g s f r u → (option_map (λ x. x.now) r ≡ next_told (left s)) × (left u ≡ behind_told (left s))
  found s u None ran =
      let over = passed s ran.2.0 f ran.1 ran.0 refl ran.2.1 ran.3 in
      (sym (ap next_told ran.2.2.0) ∙ over.0.line, ran.2.2.1 ∙ sym (ap behind_told ran.2.2.0) ∙ over.0.rest)
  found s u (Some x) ran =
      let over = passed s ran.2.0 f ran.1 ran.0 refl ran.2.1 ran.3 in
      let yes = tells x true ran.4.0 (subst (λ (q : F). CalledAt g q x true ran.4.0) over.1 ran.4.1) in
      let here = tell (left ran.2.0) (left u) x.now ran.2.2 yes.1 in
      (here.0 ∙ over.0.line, here.1 ∙ over.0.rest)

-- of the lines that are to be answered the next one is the first, and those behind it are the others
pub first_told : (ls : List (List ℕ)) (l : List ℕ) → Some l ≡ next_told ls → filter told ls ≡ l ∷ filter told (behind_told ls)
first_told [] l e = absurd (none_some l (sym e))
first_told (x ∷ xs) l e =
    elim (cases_Bool (told x)) [
      | inl t ↦ simp t (ap (λ (y : List ℕ). y ∷ filter told xs) (some_same x l (sym (simp t at e))))
      | inr t ↦ simp t (first_told xs l (simp t at e))
    ]

pub none_told : (ls : List (List ℕ)) → None ≡ next_told ls → (filter told ls ≡ []) × (filter told (behind_told ls) ≡ [])
none_told [] e = (refl, refl)
none_told (x ∷ xs) e =
    elim (cases_Bool (told x)) [
      | inl t ↦ absurd (none_some x (simp t at e))
      | inr t ↦ simp t (none_told xs (simp t at e))
    ]

-- so a call for the next line gives the first of those that are left
pub gives : (r : Option (Bor (List ℕ))) (s t : Lines) → option_map (λ x. x.now) r ≡ next_told (left s.parts) → left t.parts ≡ behind_told (left s.parts) → YieldsFirstRef told_left s r t
gives None s t e b = let n = none_told (left s.parts) e in (n.0, ap (filter told) b ∙ n.1)
gives (Some x) s t e b = first_told (left s.parts) x.now e ∙ ap (λ (l : List (List ℕ)). x.now ∷ filter told l) (sym b)

pub progresses : (r : Option (Bor (List ℕ))) (s t : Lines) → YieldsFirstRef told_left s r t → MakesProgress (λ _. ⊤) (item_count told_left) s r t
progresses None s t h = search rules
progresses (Some x) s t h = let n = ap length h in search (rules, n)
