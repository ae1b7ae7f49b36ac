-- The number of names of a node is at least two exactly when two links or roots of the state name it; so a third link is refused by both
-- memories alike.
use Rattle.std.proofs.Common.{◌≡◌, ℕ, zero, suc, ◌+◌, ◌-◌, ◌<◌, ◌≤◌, Bool, true, false, eqb, ltb, leb, ◌⊎◌, is_some, Some, None, Option, sym, refl, ap, ◌∙◌, subst, inl, inr, not-suc-le-zero, arith}
use Rattle.std.proofs.lemmas.Bool.{cases_lt, cases_Bool, cases_eq, eq-eqb, ne_eqb, lt-ltb, le-ltb, le-leb, lt-leb}
use Rattle.fields.specs.declared.kinds.Value.TheVariants.{Number, Nil, To}
use Rattle.fields.specs.Fields.{Shown}
use Rattle.memory.specs.Memory.{Node, State, hits, renamed, sum_to, node_hits, count, Orderly}
use Rattle.memory.proofs.Numbers.{hits_one, hits_some, sum_part}
use Rattle.memory.proofs.Kept.{low}
use Rattle.slices.proofs.Cells.{with_cases, with_other}
use Rattle.states.specs.Relinks.{not}
use Rattle.states.specs.Nodes.{wrote}
use Rattle.states.specs.Listed.{TwoNames}
use Rattle.states.proofs.Linking.{clash_to, to_same}
use Rattle.meaning.specs.Meaning.{ref, field_of, node_fields, graph_has, graph_get, graph_of}
use Rattle.meaning.proofs.Graphs.{Alike}

-- sums that are at least one or two
sum_pick : (n : ℕ) (f : ℕ → ℕ) → 1 ≤ sum_to n f → (j : ℕ) × (j < n) × (1 ≤ f j)
sum_pick zero f h = absurd (omega (arith, h))
sum_pick (suc n) f h =
    elim (cases_lt 0 (f n)) [
      | inl l ↦ (n, omega arith, l)
      | inr g ↦ let r = sum_pick n f (omega (arith, h, g)) in let b = r.1 in (r.0, omega (arith, b), r.2)
    ]

sum_two : (n : ℕ) (f : ℕ → ℕ) → 2 ≤ sum_to n f
    → ((j : ℕ) × (j < n) × (2 ≤ f j)) ⊎ ((j : ℕ) × (k : ℕ) × (j < n) × (k < n) × (j ≡ k → ⊥) × (1 ≤ f j) × (1 ≤ f k))
sum_two zero f h = absurd (omega (arith, h))
sum_two (suc n) f h =
    elim (cases_lt 1 (f n)) [
      | inl l ↦ inl (n, omega arith, l)
      | inr g ↦
          elim (cases_lt 0 (f n)) [
            | inl l ↦ let r = sum_pick n f (omega (arith, h, g)) in let b = r.1 in inr (r.0, n, omega (arith, b), omega arith, (λ e. omega (arith, e, b)), r.2, l)
            | inr z ↦
                elim (sum_two n f (omega (arith, h, z))) [
                  | inl r ↦ let b = r.1 in inl (r.0, omega (arith, b), r.2)
                  | inr r ↦ let b = r.2 in let c = r.3 in inr (r.0, r.1, omega (arith, b), omega (arith, c), r.4, r.5, r.6)
                ]
          ]
    ]

sum_parts : (n j k : ℕ) (f : ℕ → ℕ) → j < n → k < n → (j ≡ k → ⊥) → f j + f k ≤ sum_to n f
sum_parts zero j k f hj hk d = absurd (not-suc-le-zero hj)
sum_parts (suc n) j k f hj hk d =
    elim (cases_eq j n) [
      | inl e ↦ let a = sum_part n k f (omega (arith, hk, d, e)) in let b = ap f e in omega (arith, a, b)
      | inr m ↦
          elim (cases_eq k n) [
            | inl e ↦ let a = sum_part n j f (omega (arith, hj, m)) in let b = ap f e in omega (arith, a, b)
            | inr o ↦ let a = sum_parts n j k f (omega (arith, hj, m)) (omega (arith, hk, o)) d in omega (arith, a)
          ]
    ]

eq_is : (a b : ℕ) → eqb a b ≡ true → a ≡ b
eq_is a b h = grind arith

hits_is : (t : ℕ) (x : Option ℕ) → 1 ≤ hits t x → x ≡ Some t
hits_is t None h = absurd (omega (arith, h))
hits_is t (Some k) h =
    elim (cases_eq t k) [
      | inl e ↦ ap (λ (z : ℕ). Some z) (sym e)
      | inr n ↦ absurd (let z : 1 ≤ 0 = rw (ne_eqb t k n) at h in omega (arith, z))
    ]

ref_is : (x : Option ℕ) (t : ℕ) → ref x ≡ To (suc t) → x ≡ Some t
ref_is None t e = clash_to _ (suc t) Nil refl e
ref_is (Some k) t e = let q : suc k ≡ suc t = to_same (suc k) (suc t) (To (suc k)) refl e in ap (λ (z : ℕ). Some z) (omega (arith, q))

-- the name of t by the link or root m of the serial number a
data Name (s : State) (t a m : ℕ) : Type 0 where
  root : a ≡ 0 → m < 3 → s.roots m ≡ Some t → Name s t a m
  side : (k : ℕ) (n : Node) → a ≡ suc k → m < 2 → s.nodes k ≡ Some n → n.links m ≡ Some t → Name s t a m

field_name : (s : State) (t k m : ℕ) (n : Node) → s.nodes k ≡ Some n → field_of n m ≡ To (suc t) → Name s t (suc k) m
field_name s t k m n en e =
    elim (cases_lt m 2) [
      | inl l ↦ side k n refl l en (ref_is (n.links m) t (sym (rw (lt-ltb m 2 l) refl) ∙ e))
      | inr g ↦
          elim (cases_Bool (ltb m 5)) [
            | inl q ↦ clash_to _ (suc t) Nil refl (rw (le-ltb m 2 g, q) at e)
            | inr q ↦ absurd (let r : Number (n.numbers (m - 5)) ≡ To (suc t) = rw (le-ltb m 2 g, q) at e in let z : ◌≡◌ {A = ℕ} 0 1 = cc in omega arith)
          ]
    ]

node_name : (s : State) (t k m : ℕ) (o : Option Node) → s.nodes k ≡ o → node_fields o m ≡ To (suc t) → Name s t (suc k) m
node_name s t k m None en e = clash_to _ (suc t) Nil refl e
node_name s t k m (Some n) en e = field_name s t k m n en e

name_of : (s : State) (t a m : ℕ) → graph_get s a m ≡ To (suc t) → Name s t a m
name_of s t zero m e =
    elim (cases_lt m 3) [
      | inl l ↦ root refl l (ref_is (s.roots m) t (sym (rw (lt-ltb m 3 l) refl) ∙ e))
      | inr g ↦ clash_to _ (suc t) Nil refl (rw (le-ltb m 3 g) at e)
    ]
name_of s t (suc k) m e = node_name s t k m (s.nodes k) refl e

-- two names, counted
side_hit : (s : State) (t k m : ℕ) (n : Node) → m < 2 → s.nodes k ≡ Some n → n.links m ≡ Some t → 1 ≤ node_hits t (s.nodes k)
side_hit s t k m n l en e =
    let a = hits_some t (n.links m) e in
    let b = sum_part 2 m (λ q. hits t (n.links q)) l in
    let c : node_hits t (s.nodes k) ≡ node_hits t (Some n) = ap (node_hits t) en in
    omega (arith, a, b, c)

module _ (made : ℕ) (s : State) (O : Orderly made s) (t : ℕ) where
  root_part : (m : ℕ) → m < 3 → s.roots m ≡ Some t → 1 ≤ sum_to 3 (λ r. hits t (s.roots r))
  root_part m l e = let a = hits_some t (s.roots m) e in let b = sum_part 3 m (λ r. hits t (s.roots r)) l in omega (arith, a, b)

  node_part : (k m : ℕ) (n : Node) → m < 2 → s.nodes k ≡ Some n → n.links m ≡ Some t → 1 ≤ sum_to made (λ j. node_hits t (s.nodes j))
  node_part k m n l en e =
      let a = side_hit s t k m n l en e in
      let b = sum_part made k (λ j. node_hits t (s.nodes j)) (low made s k n O en) in
      omega (arith, a, b)

  one_node : (k m o : ℕ) (n : Node) → m < 2 → o < 2 → (m ≡ o → ⊥) → s.nodes k ≡ Some n → n.links m ≡ Some t → n.links o ≡ Some t
      → 2 ≤ sum_to made (λ j. node_hits t (s.nodes j))
  one_node k m o n lm lo d en e f =
      let a = hits_some t (n.links m) e in
      let b = hits_some t (n.links o) f in
      let c = sum_parts 2 m o (λ q. hits t (n.links q)) lm lo d in
      let g : node_hits t (s.nodes k) ≡ node_hits t (Some n) = ap (node_hits t) en in
      let h = sum_part made k (λ j. node_hits t (s.nodes j)) (low made s k n O en) in
      omega (arith, a, b, c, g, h)

  two_counted : (a m b o : ℕ) → Name s t a m → Name s t b o → (a ≡ b → m ≡ o → ⊥) → 2 ≤ count made s t
  two_counted a m b o (root ea lm e) (root eb lo f) d =
      let x = hits_some t (s.roots m) e in
      let y = hits_some t (s.roots o) f in
      let z = sum_parts 3 m o (λ r. hits t (s.roots r)) lm lo (λ q. d (ea ∙ sym eb) q) in
      omega (arith, x, y, z)
  two_counted a m b o (root ea lm e) (side k n eb lo en f) d =
      let x = root_part m lm e in let y = node_part k o n lo en f in omega (arith, x, y)
  two_counted a m b o (side k n ea lm en e) (root eb lo f) d =
      let x = root_part o lo f in let y = node_part k m n lm en e in omega (arith, x, y)
  two_counted a m b o (side k n ea lm en e) (side j n' eb lo en' f) d =
      elim (cases_eq k j) [
        | inl q ↦
            let same : n ≡ n' = some_node n n' (sym en ∙ (ap s.nodes q ∙ en')) in
            let z = one_node k m o n lm lo (λ y. d (ea ∙ (ap suc q ∙ sym eb)) y) en e (ap (λ (y : Node). y.links o) same ∙ f) in
            omega (arith, z)
        | inr q ↦
            let x = side_hit s t k m n lm en e in
            let y = side_hit s t j o n' lo en' f in
            let z = sum_parts made k j (λ i. node_hits t (s.nodes i)) (low made s k n O en) (low made s j n' O en') q in
            omega (arith, x, y, z)
      ]
    where
      some_node : (n n' : Node) → ◌≡◌ {A = Option Node} (Some n) (Some n') → n ≡ n'
      some_node n n' e = cc

-- a name found
abbrev Found : State → ℕ → ℕ → ℕ → Type 0
Found s t a m = (graph_has s a ≡ true) × Shown m × (graph_get s a m ≡ To (suc t))

low_shown : (m : ℕ) → m < 3 → Shown m
low_shown m l = ((λ e. omega (arith, l, e)), (λ e. omega (arith, l, e)))

root_found : (s : State) (t m : ℕ) → m < 3 → 1 ≤ hits t (s.roots m) → Found s t 0 m
root_found s t m l h = (refl, low_shown m l, (let q = hits_is t (s.roots m) h in rw (lt-ltb m 3 l) (ap ref q)))

side_found : (s : State) (t k m : ℕ) (n : Node) → s.nodes k ≡ Some n → m < 2 → 1 ≤ hits t (n.links m) → Found s t (suc k) m
side_found s t k m n en l h = (
  ap (λ (o : Option Node). is_some o) en,
  low_shown m (omega (arith, l)),
  ap (λ (o : Option Node). node_fields o m) en ∙ rw (lt-ltb m 2 l) (ap ref (hits_is t (n.links m) h)),
)

node_found : (s : State) (t k : ℕ) (o : Option Node) → s.nodes k ≡ o → 1 ≤ node_hits t o → (m : ℕ) × Found s t (suc k) m
node_found s t k None en h = absurd (omega (arith, h))
node_found s t k (Some n) en h = let r = sum_pick 2 (λ q. hits t (n.links q)) h in (r.0, side_found s t k r.0 n en r.1 r.2)

node_twice : (s : State) (t k : ℕ) (o : Option Node) → s.nodes k ≡ o → 2 ≤ node_hits t o → (m : ℕ) × (p : ℕ) × Found s t (suc k) m × Found s t (suc k) p × (m ≡ p → ⊥)
node_twice s t k None en h = absurd (omega (arith, h))
node_twice s t k (Some n) en h =
    elim (sum_two 2 (λ q. hits t (n.links q)) h) [
      | inl r ↦ absurd (let a = r.2 in let b = hits_one t (n.links r.0) in omega (arith, a, b))
      | inr r ↦ (r.0, r.1, side_found s t k r.0 n en r.2 r.5, side_found s t k r.1 n en r.3 r.6, r.4)
    ]

abbrev Pair : State → ℕ → Type 0
Pair s t = (a : ℕ) × (m : ℕ) × (b : ℕ) × (o : ℕ) × Found s t a m × Found s t b o × (a ≡ b → m ≡ o → ⊥)

counted_two : (made : ℕ) (s : State) (t : ℕ) → 2 ≤ count made s t → Pair s t
counted_two made s t h =
    elim (cases_lt 1 (sum_to 3 (λ r. hits t (s.roots r)))) [
      | inl two ↦
          elim (sum_two 3 (λ r. hits t (s.roots r)) two) [
            | inl r ↦ absurd (let a = r.2 in let b = hits_one t (s.roots r.0) in omega (arith, a, b))
            | inr r ↦ (0, r.0, 0, r.1, root_found s t r.0 r.2 r.5, root_found s t r.1 r.3 r.6, (λ _ e. r.4 e))
          ]
      | inr few ↦
          elim (cases_lt 0 (sum_to 3 (λ r. hits t (s.roots r)))) [
            | inl one ↦
                let r = sum_pick 3 (λ r. hits t (s.roots r)) one in
                let q = sum_pick made (λ j. node_hits t (s.nodes j)) (omega (arith, h, few)) in
                let n = node_found s t q.0 (s.nodes q.0) refl q.2 in
                (0, r.0, suc q.0, n.0, root_found s t r.0 r.1 r.2, n.1, (λ e _. omega (arith, e)))
            | inr none ↦
                elim (sum_two made (λ j. node_hits t (s.nodes j)) (omega (arith, h, none))) [
                  | inl r ↦
                      let n = node_twice s t r.0 (s.nodes r.0) refl r.2 in
                      (suc r.0, n.0, suc r.0, n.1, n.2, n.3, (λ _ e. n.4 e))
                  | inr r ↦
                      let x = node_found s t r.0 (s.nodes r.0) refl r.5 in
                      let y = node_found s t r.1 (s.nodes r.1) refl r.6 in
                      (suc r.0, x.0, suc r.1, y.0, x.1, y.1, (λ e _. r.4 (omega (arith, e))))
                ]
          ]
    ]

-- the state s, and the state s₀ that has nil in place of the link l of the serial number a: two other links name t exactly when two links
-- of s₀ do
module _ (made : ℕ) (s s₀ : State) (O : Orderly made s₀) (a l t : ℕ) (same : Alike (wrote a l Nil (graph_of s)) (graph_of s₀)) where
  others_two : TwoNames (graph_of s) a l (suc t) → 2 ≤ s₀.names t
  others_two (b, m, c, o, hb, hc, sb, sc, eb, ec, apart, nb, nc) =
      let x = name_of s₀ t b m (sym (same.get_is b m) ∙ (with_other (graph_get s) a l Nil b m nb ∙ eb)) in
      let y = name_of s₀ t c o (sym (same.get_is c o) ∙ (with_other (graph_get s) a l Nil c o nc ∙ ec)) in
      subst (λ (z : ℕ). 2 ≤ z) (sym (O.counted t)) (two_counted made s₀ O t b m c o x y apart)

  not_here : (b m : ℕ) → graph_get s₀ b m ≡ To (suc t) → (b ≡ a → m ≡ l → ⊥) × (graph_get s b m ≡ To (suc t))
  not_here b m e =
      elim (with_cases (graph_get s) a l Nil b m) [
        | inl h ↦ clash_to _ (suc t) (graph_get s₀ b m) (sym (same.get_is b m) ∙ h.2) e
        | inr h ↦ (h.0, sym h.1 ∙ (same.get_is b m ∙ e))
      ]

  two_others : 2 ≤ s₀.names t → TwoNames (graph_of s) a l (suc t)
  two_others h =
      let p = counted_two made s₀ t (subst (λ (z : ℕ). 2 ≤ z) (O.counted t) h) in
      let x = not_here p.0 p.1 p.4.2 in
      let y = not_here p.2 p.3 p.5.2 in
      (p.0, p.1, p.2, p.3, same.has_is p.0 ∙ p.4.0, same.has_is p.2 ∙ p.5.0, p.4.1, p.5.1, x.1, y.1, p.6, x.0, y.0)

-- the test of the abstract memory, where the old link or root held old and the new one is to name t
pub third_test : (made : ℕ) (s s₀ : State) (O : Orderly made s₀) (a l t : ℕ) (old : Option ℕ) → Alike (wrote a l Nil (graph_of s)) (graph_of s₀)
    → s₀.names t ≡ renamed s.names old None t → (b : Bool)
    → (b ≡ true → TwoNames (graph_of s) a l (suc t)) → (TwoNames (graph_of s) a l (suc t) → b ≡ true)
    → not b ≡ leb (renamed s.names old (Some t) t) 2
third_test made s s₀ O a l t old same e true f g =
    let h = others_two made s s₀ O a l t same (f refl) in
    let one : hits t (Some t) ≡ 1 = rw (eq-eqb t t refl) refl in
    sym (lt-leb (renamed s.names old (Some t) t) 2 (omega (arith, h, e, one)))
third_test made s s₀ O a l t old same e false f g =
    let one : hits t (Some t) ≡ 1 = rw (eq-eqb t t refl) refl in
    elim (cases_lt 1 (s₀.names t)) [
      | inl h ↦ absurd (let y = g (two_others made s s₀ O a l t same h) in let z : ◌≡◌ {A = ℕ} 0 1 = cc in omega arith)
      | inr h ↦ sym (le-leb (renamed s.names old (Some t) t) 2 (omega (arith, h, e, one)))
    ]
