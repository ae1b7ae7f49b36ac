-- Parts: finding the first separator from left to right, and all parts from the first one.
use Rattle.std.proofs.Common.{◌≡◌, ℕ, suc, ◌+◌, ◌-◌, ◌<◌, ◌≤◌, Bool, true, false, cond, not, eqb, List, [], ◌∷◌, length, take, drop, is_some, Some, None, Option, sym, refl, ap, ◌∙◌, subst, inl, inr, arith, Bor}
use Rattle.std.proofs.lemmas.List.{take_all, take_rest}
use Rattle.std.proofs.lemmas.Bool.{cases_lt, cases_eq, lt-ltb, le-ltb, eq-eqb, ne_eqb, true≢false, false≢true}
use Rattle.std.specs.Option.{option_map}
use Rattle.std.specs.List.{position, position_or_len}
use Rattle.text.proofs.Inverse.{some_same, none_some}
use Rattle.text.specs.Parts.{up_to, beyond, in_front, parts}
use Rattle.text.specs.Left.{parts_of, is_none}

-- the place of the first separator, or the length
abbrev place : ℕ → List ℕ → ℕ
place s text = position_or_len (λ b. eqb b s) text

-- the first part ends there, and the text behind it is left
part_ends : (s : ℕ) (text : List ℕ) → take (place s text) text ≡ up_to s text
part_ends s [] = refl
part_ends s (c ∷ cs) =
    let next : 1 + place s cs ≡ suc (place s cs) = omega arith in
    elim (cases_eq c s)
    [ inl e ↦ simp (eq-eqb c s e) | inr n ↦ simp (ne_eqb c s n) (ap (λ (m : ℕ). take m (c ∷ cs)) next ∙ ap (λ (l : List ℕ). c ∷ l) (part_ends s cs)) ]

rest_begins : (s : ℕ) (text : List ℕ) → place s text < length text → Some (drop (place s text + 1) text) ≡ beyond s text
rest_begins s [] lt = absurd (omega arith)
rest_begins s (c ∷ cs) lt =
    elim (cases_eq c s) [
      | inl e ↦ simp (eq-eqb c s e)
      | inr n ↦
          let more : 1 + place s cs < length (c ∷ cs) = simp (ne_eqb c s n) at lt in
          let next : (1 + place s cs) + 1 ≡ suc (place s cs + 1) = omega arith in
          simp (ne_eqb c s n) (ap (λ (m : ℕ). Some (drop m (c ∷ cs))) next ∙ rest_begins s cs (omega arith))
    ]

no_rest : (s : ℕ) (text : List ℕ) → length text ≤ place s text → None ≡ beyond s text
no_rest s [] le = refl
no_rest s (c ∷ cs) le =
    elim (cases_eq c s) [
      | inl e ↦ let none : length (c ∷ cs) ≤ 0 = simp (eq-eqb c s e) at le in absurd (omega arith)
      | inr n ↦ let more : length (c ∷ cs) ≤ 1 + place s cs = simp (ne_eqb c s n) at le in simp (ne_eqb c s n) (no_rest s cs (omega arith))
    ]

-- the first separator stands at the place i
pub cut_at : (s : ℕ) (text : List ℕ) (i : ℕ) → Some i ≡ position (λ b. eqb b s) text → (take i text ≡ up_to s text) × (Some (take (length text - (i + 1)) (drop (i + 1) text)) ≡ beyond s text)
cut_at s text i e =
    elim (cases_lt (place s text) (length text)) [
      | inl lt ↦
          let is : place s text ≡ i = some_same (place s text) i (sym (e ∙ ap (λ (b : Bool). cond b (Some (place s text)) None) (lt-ltb _ _ lt))) in
          (subst (λ (j : ℕ). take j text ≡ up_to s text) is (part_ends s text), ap Some (take_rest text (i + 1)) ∙ subst (λ (j : ℕ). Some (drop (j + 1) text) ≡ beyond s text) is (rest_begins s text lt))
      | inr le ↦ absurd (none_some i (sym (e ∙ ap (λ (b : Bool). cond b (Some (place s text)) None) (le-ltb _ _ le))))
    ]

-- there is no separator
pub cut_nowhere : (s : ℕ) (text : List ℕ) → None ≡ position (λ b. eqb b s) text → (text ≡ up_to s text) × (None ≡ beyond s text)
cut_nowhere s text e =
    elim (cases_lt (place s text) (length text)) [
      | inl lt ↦ absurd (none_some (place s text) (e ∙ ap (λ (b : Bool). cond b (Some (place s text)) None) (lt-ltb _ _ lt)))
      | inr le ↦ (sym (take_all (place s text) text le) ∙ part_ends s text, no_rest s text le)
    ]

-- all parts are the first one and those behind it
pub parts_first : (s : ℕ) (text : List ℕ) → parts s text ≡ up_to s text ∷ parts_of s (beyond s text)
parts_first s [] = refl
parts_first s (c ∷ cs) =
    elim (cases_eq c s)
    [ inl e ↦ simp (eq-eqb c s e) | inr n ↦ simp (ne_eqb c s n) (ap (in_front c) (parts_first s cs)) ]

-- parts are left exactly where text is
pub none_left : (s : ℕ) (o : Option (Bor (List ℕ))) (r : Bool) → is_some o ≡ not r → r ≡ is_none (parts_of s (option_map (λ x. x.now) o))
none_left s None true e = refl
none_left s None false e = absurd (false≢true e)
none_left s (Some t) true e = absurd (true≢false e)
none_left s (Some t) false e = sym (ap is_none (parts_first s t.now))

-- the next part, and the parts behind it
pub parts_left : (s : ℕ) (o : Option (Bor (List ℕ))) (t : Bor (List ℕ)) → o ≡ Some t → parts_of s (option_map (λ x. x.now) o) ≡ up_to s t.now ∷ parts_of s (beyond s t.now)
parts_left s o t e = ap (λ (p : Option (Bor (List ℕ))). parts_of s (option_map (λ x. x.now) p)) e ∙ parts_first s t.now
