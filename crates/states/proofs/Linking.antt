-- A link set and taken away with its back link, and a number set: the slice stays coherent.
use Rattle.std.proofs.Common.{◌≡◌, ℕ, ◌<◌, ◌≤◌, true, ◌⊎◌, sym, refl, ap, ◌∙◌, subst, inl, inr, arith}
use Rattle.fields.specs.declared.kinds.Value.{Value}
use Rattle.fields.specs.declared.kinds.Value.TheVariants.{Number, Nil, To, From}
use Rattle.fields.specs.Fields.{suits, is_number, HasLink}
use Rattle.slices.specs.Slices.{Coherent, with_value}
use Rattle.slices.proofs.Cells.{with_cases, with_same, with_other}
use Rattle.slices.proofs.Swapping.{from_spot}

pub clash : (P : Type 0) (i l : ℕ) (v : Value) → v ≡ Nil → v ≡ From i l → P
clash P i l v a b = absurd (let z : ◌≡◌ {A = ℕ} 0 1 = cc in omega arith)

pub clash_to : (P : Type 0) (k : ℕ) (v : Value) → v ≡ Nil → v ≡ To k → P
clash_to P k v a b = absurd (let z : ◌≡◌ {A = ℕ} 0 1 = cc in omega arith)

pub clash_both : (P : Type 0) (i l k : ℕ) (v : Value) → v ≡ From i l → v ≡ To k → P
clash_both P i l k v a b = absurd (let z : ◌≡◌ {A = ℕ} 0 1 = cc in omega arith)

pub to_same : (a b : ℕ) (v : Value) → v ≡ To a → v ≡ To b → a ≡ b
to_same a b v p q = cc

pub from_same : (a b i l : ℕ) (v : Value) → v ≡ From a b → v ≡ From i l → (a ≡ i) × (b ≡ l)
from_same a b i l v p q = ((cc), (cc))

num_to : (P : Type 0) (w k : ℕ) (v : Value) → v ≡ Number w → v ≡ To k → P
num_to P w k v a b = absurd (let z : ◌≡◌ {A = ℕ} 0 1 = cc in omega arith)

num_from : (P : Type 0) (w i l : ℕ) (v : Value) → v ≡ Number w → v ≡ From i l → P
num_from P w i l v a b = absurd (let z : ◌≡◌ {A = ℕ} 0 1 = cc in omega arith)

num_not_to : (P : Type 0) (k : ℕ) (v : Value) → is_number v ≡ true → v ≡ To k → P
num_not_to P k v a b = absurd (let q : is_number (To k) ≡ true = sym (ap is_number b) ∙ a in let z : ◌≡◌ {A = ℕ} 0 1 = cc in omega arith)

suits_num : (i f w : ℕ) → (i ≡ 0 → ⊥) → 5 ≤ f → suits i f (Number w) ≡ true
suits_num i f w n h = grind arith

suits_number : (i f : ℕ) (v : Value) → (i ≡ 0 → ⊥) → 5 ≤ f → suits i f v ≡ true → is_number v ≡ true
suits_number i f v n h t = grind arith

-- links and back links are apart
spot_slot : (i l b : ℕ) → HasLink i l → (b ≡ 3) ⊎ (b ≡ 4) → l ≡ b → ⊥
spot_slot i l b s h e = grind arith

suits_to : (i l k : ℕ) → HasLink i l → suits i l (To k) ≡ true
suits_to i l k s = grind arith

pub suits_nil_link : (i l : ℕ) → HasLink i l → suits i l Nil ≡ true
suits_nil_link i l s = grind arith

suits_from : (k b i l : ℕ) → (k ≡ 0 → ⊥) → (b ≡ 3) ⊎ (b ≡ 4) → suits k b (From i l) ≡ true
suits_from k b i l n h = grind arith

pub suits_nil_back : (k b : ℕ) → (b ≡ 3) ⊎ (b ≡ 4) → suits k b Nil ≡ true
suits_nil_back k b h = grind arith

module _ (on : ℕ → Type 0) (get : ℕ → ℕ → Value) (G : Coherent on get)
    (i l k b : ℕ) (oi : on i) (hl : HasLink i l) (empty : get i l ≡ Nil) (ok : on k) (nk : k ≡ 0 → ⊥) (hb : (b ≡ 3) ⊎ (b ≡ 4)) (free : get k b ≡ Nil) where
  abbrev new : ℕ → ℕ → Value
  new = with_value (with_value get i l (To k)) k b (From i l)

  new_cases : (j s : ℕ) → ((j ≡ k) × (s ≡ b) × (new j s ≡ From i l)) ⊎ (((j ≡ i) × (s ≡ l) × (new j s ≡ To k)) ⊎ ((j ≡ k → s ≡ b → ⊥) × (j ≡ i → s ≡ l → ⊥) × (new j s ≡ get j s)))
  new_cases j s =
      elim (with_cases (with_value get i l (To k)) k b (From i l) j s) [
        | inl h ↦ inl h
        | inr h ↦
            elim (with_cases get i l (To k) j s) [
              | inl g ↦ inr (inl (g.0, g.1, h.1 ∙ g.2))
              | inr g ↦ inr (inr (h.0, g.0, h.1 ∙ g.1))
            ]
      ]

  at_old : (j s a c : ℕ) → j ≡ a → s ≡ c → get j s ≡ get a c
  at_old j s a c p q = ap (λ (x : ℕ). get x s) p ∙ ap (get a) q

  new_at : new k b ≡ From i l
  new_at = with_same (with_value get i l (To k)) k b (From i l)

  new_link : new i l ≡ To k
  new_link = with_other (with_value get i l (To k)) k b (From i l) i l (λ _ e. spot_slot i l b hl hb e) ∙ with_same get i l (To k)

  keeps_back : (j s a m : ℕ) → get j s ≡ From a m → new j s ≡ From a m
  keeps_back j s a m e =
      elim (new_cases j s) [
        | inl h ↦ clash _ a m (get k b) free (sym (at_old j s k b h.0 h.1) ∙ e)
        | inr g ↦ elim g [
          | inl h ↦ clash _ a m (get i l) empty (sym (at_old j s i l h.0 h.1) ∙ e)
          | inr h ↦ h.2 ∙ e
        ]
      ]

  keeps_link : (j m t : ℕ) → get j m ≡ To t → new j m ≡ To t
  keeps_link j m t e =
      elim (new_cases j m) [
        | inl h ↦ clash_to _ t (get k b) free (sym (at_old j m k b h.0 h.1) ∙ e)
        | inr g ↦ elim g [
          | inl h ↦ clash_to _ t (get i l) empty (sym (at_old j m i l h.0 h.1) ∙ e)
          | inr h ↦ h.2 ∙ e
        ]
      ]

  -- nothing said yet that i's link l names k
  unsaid : (P : Type 0) (t s : ℕ) → on t → get t s ≡ From i l → P
  unsaid P t s ot e = clash_to P t (get i l) empty (G.backed t s i l ot e).1

  at_b : (j m : ℕ) → j ≡ i → m ≡ l → (new k 3 ≡ From j m) ⊎ (new k 4 ≡ From j m)
  at_b j m ej em =
      let e : From i l ≡ From j m = ap (λ (x : ℕ). From x l) (sym ej) ∙ ap (From j) (sym em) in
      elim hb [
        | inl q ↦ inl (ap (new k) (sym q) ∙ (new_at ∙ e))
        | inr q ↦ inr (ap (new k) (sym q) ∙ (new_at ∙ e))
      ]

  pub good_link : Coherent on (with_value (with_value get i l (To k)) k b (From i l))
  good_link = record {
    named = λ j m t oj e.
        elim (new_cases j m) [
          | inl h ↦ clash_both _ i l t (new j m) h.2 e
          | inr g ↦ elim g [
            | inl h ↦
                let tk : k ≡ t = to_same k t (new j m) h.2 e in
                subst (λ (z : ℕ). on z × ((new z 3 ≡ From j m) ⊎ (new z 4 ≡ From j m))) tk (ok, at_b j m h.0 h.1)
            | inr h ↦
                let q = G.named j m t oj (sym h.2 ∙ e) in
                (q.0, elim q.1 [ inl z ↦ inl (keeps_back t 3 j m z) | inr z ↦ inr (keeps_back t 4 j m z) ])
          ]
        ];
    backed = λ t s j m ot e.
        elim (new_cases t s) [
          | inl h ↦
              let q = from_same i l j m (new t s) h.2 e in
              (subst on q.0 oi, subst (λ (z : ℕ). new j m ≡ To z) (sym h.0) (ap (λ (z : ℕ). new z m) (sym q.0) ∙ (ap (new i) (sym q.1) ∙ new_link)))
          | inr g ↦ elim g [
            | inl h ↦ clash_both _ j m k (new t s) e h.2
            | inr h ↦ let q = G.backed t s j m ot (sym h.2 ∙ e) in (q.0, keeps_link j m t q.1)
          ]
        ];
    single = λ t ot e.
        elim (new_cases t 3) [
          | inl h ↦
              elim (new_cases t 4) [
                | inl h' ↦ absurd (let x = h.1 in let y = h'.1 in omega (arith, x, y))
                | inr g' ↦ elim g' [
                  | inl h' ↦ clash_both _ i l k (new t 4) (sym e ∙ h.2) h'.2
                  | inr h' ↦ unsaid _ t 4 ot (sym h'.2 ∙ (sym e ∙ h.2))
                ]
              ]
          | inr g ↦ elim g [
            | inl h ↦ absurd (let x = h.1 in spot_slot i l 3 hl (inl refl) (sym x))
            | inr h ↦
                elim (new_cases t 4) [
                  | inl h' ↦ unsaid _ t 3 ot (sym h.2 ∙ (e ∙ h'.2))
                  | inr g' ↦ elim g' [
                    | inl h' ↦ absurd (let x = h'.1 in spot_slot i l 4 hl (inr refl) (sym x))
                    | inr h' ↦ h.2 ∙ G.single t ot (sym h.2 ∙ (e ∙ h'.2))
                  ]
                ]
          ]
        ];
    typed = λ j s oj.
        elim (new_cases j s) [
          | inl h ↦ ap (suits j s) h.2 ∙ (ap (λ (z : ℕ). suits z s (From i l)) h.0 ∙ (ap (λ (z : ℕ). suits k z (From i l)) h.1 ∙ suits_from k b i l nk hb))
          | inr g ↦ elim g [
            | inl h ↦ ap (suits j s) h.2 ∙ (ap (λ (z : ℕ). suits z s (To k)) h.0 ∙ (ap (λ (z : ℕ). suits i z (To k)) h.1 ∙ suits_to i l k hl))
            | inr h ↦ ap (suits j s) h.2 ∙ G.typed j s oj
          ]
        ];
  }

module _ (on : ℕ → Type 0) (get : ℕ → ℕ → Value) (G : Coherent on get)
    (i l k b : ℕ) (oi : on i) (hl : HasLink i l) (held : get i l ≡ To k) (ok : on k) (hb : (b ≡ 3) ⊎ (b ≡ 4)) (said : get k b ≡ From i l) where
  abbrev old : ℕ → ℕ → Value
  old = with_value (with_value get k b Nil) i l Nil

  old_cases : (j s : ℕ) → ((j ≡ i) × (s ≡ l) × (old j s ≡ Nil)) ⊎ (((j ≡ k) × (s ≡ b) × (old j s ≡ Nil)) ⊎ ((j ≡ i → s ≡ l → ⊥) × (j ≡ k → s ≡ b → ⊥) × (old j s ≡ get j s)))
  old_cases j s =
      elim (with_cases (with_value get k b Nil) i l Nil j s) [
        | inl h ↦ inl h
        | inr h ↦
            elim (with_cases get k b Nil j s) [
              | inl g ↦ inr (inl (g.0, g.1, h.1 ∙ g.2))
              | inr g ↦ inr (inr (h.0, g.0, h.1 ∙ g.1))
            ]
      ]

  old_at : (j s a c : ℕ) → j ≡ a → s ≡ c → get j s ≡ get a c
  old_at j s a c p q = ap (λ (x : ℕ). get x s) p ∙ ap (get a) q

  -- only one slot of k says i and l
  one : (P : Type 0) (s : ℕ) → get k s ≡ From i l → (s ≡ 3) ⊎ (s ≡ 4) → (s ≡ b → ⊥) → P
  one P s e hs n =
      elim hb [
        | inl q ↦ elim hs [
          | inl z ↦ absurd (n (z ∙ sym q))
          | inr z ↦ clash P i l (get k 3) (G.single k ok ((ap (get k) (sym q) ∙ said) ∙ sym (ap (get k) (sym z) ∙ e))) (ap (get k) (sym q) ∙ said)
        ]
        | inr q ↦ elim hs [
          | inl z ↦ clash P i l (get k 3) (G.single k ok ((ap (get k) (sym z) ∙ e) ∙ sym (ap (get k) (sym q) ∙ said))) (ap (get k) (sym z) ∙ e)
          | inr z ↦ absurd (n (z ∙ sym q))
        ]
      ]

  stays_back : (j s a m : ℕ) → (a ≡ i → m ≡ l → ⊥) → get j s ≡ From a m → old j s ≡ From a m
  stays_back j s a m n e =
      elim (old_cases j s) [
        | inl h ↦ clash_both _ a m k (get j s) e (old_at j s i l h.0 h.1 ∙ held)
        | inr g ↦ elim g [
          | inl h ↦ let q = from_same a m i l (get j s) e (old_at j s k b h.0 h.1 ∙ said) in absurd (n q.0 q.1)
          | inr h ↦ h.2 ∙ e
        ]
      ]

  pub good_unlink : Coherent on (with_value (with_value get k b Nil) i l Nil)
  good_unlink = record {
    named = λ j m t oj e.
        elim (old_cases j m) [
          | inl h ↦ clash_to _ t (old j m) h.2 e
          | inr g ↦ elim g [
            | inl h ↦ clash_to _ t (old j m) h.2 e
            | inr h ↦
                let q = G.named j m t oj (sym h.2 ∙ e) in
                (q.0, elim q.1 [ inl z ↦ inl (stays_back t 3 j m h.0 z) | inr z ↦ inr (stays_back t 4 j m h.0 z) ])
          ]
        ];
    backed = λ t s j m ot e.
        elim (old_cases t s) [
          | inl h ↦ clash _ j m (old t s) h.2 e
          | inr g ↦ elim g [
            | inl h ↦ clash _ j m (old t s) h.2 e
            | inr h ↦
                let said' : get t s ≡ From j m = sym h.2 ∙ e in
                let q = G.backed t s j m ot said' in (
                  q.0,
                  elim (old_cases j m) [
                    | inl z ↦
                        let held' : get j m ≡ To k = old_at j m i l z.0 z.1 ∙ held in
                        let tk : t ≡ k = to_same t k (get j m) q.1 held' in
                        let f : get k s ≡ From i l = ap (λ (y : ℕ). get y s) (sym tk) ∙ (said' ∙ (ap (λ (y : ℕ). From y m) z.0 ∙ ap (From i) z.1)) in
                        one _ s f (from_spot k s i l (sym (ap (suits k s) f) ∙ G.typed k s ok)) (h.1 tk)
                    | inr z' ↦ elim z' [
                      | inl z ↦ clash_both _ i l t (get j m) (old_at j m k b z.0 z.1 ∙ said) q.1
                      | inr z ↦ z.2 ∙ q.1
                    ]
                  ],
                )
          ]
        ];
    single = λ t ot e.
        elim (old_cases t 3) [
          | inl h ↦ h.2
          | inr g ↦ elim g [
            | inl h ↦ h.2
            | inr h ↦
                elim (old_cases t 4) [
                  | inl h' ↦ e ∙ h'.2
                  | inr g' ↦ elim g' [
                    | inl h' ↦ e ∙ h'.2
                    | inr h' ↦ h.2 ∙ G.single t ot (sym h.2 ∙ (e ∙ h'.2))
                  ]
                ]
          ]
        ];
    typed = λ j s oj.
        elim (old_cases j s) [
          | inl h ↦ ap (suits j s) h.2 ∙ (ap (λ (z : ℕ). suits z s Nil) h.0 ∙ (ap (λ (z : ℕ). suits i z Nil) h.1 ∙ suits_nil_link i l hl))
          | inr g ↦ elim g [
            | inl h ↦ ap (suits j s) h.2 ∙ (ap (λ (z : ℕ). suits z s Nil) h.0 ∙ (ap (λ (z : ℕ). suits k z Nil) h.1 ∙ suits_nil_back k b hb))
            | inr h ↦ ap (suits j s) h.2 ∙ G.typed j s oj
          ]
        ];
  }

-- a number's field of a node
pub good_number : (on : ℕ → Type 0) (get : ℕ → ℕ → Value) → Coherent on get → (i f w : ℕ) → (i ≡ 0 → ⊥) → 5 ≤ f → Coherent on (with_value get i f (Number w))
good_number on get G i f w ni hf =
    let cs = with_cases get i f (Number w) in
    let far : (j s : ℕ) → s < 5 → with_value get i f (Number w) j s ≡ get j s = λ j s h. with_other get i f (Number w) j s (λ _ e. omega (arith, e, h, hf)) in
    let was : (P : Type 0) → on i → is_number (get i f) ≡ true = λ P oi. suits_number i f (get i f) ni hf (G.typed i f oi) in
    record {
      named = λ j m t oj e.
          elim (cs j m) [
            | inl h ↦ num_to _ w t (with_value get i f (Number w) j m) h.2 e
            | inr h ↦
                let q = G.named j m t oj (sym h.1 ∙ e) in
                (q.0, elim q.1 [ inl z ↦ inl (far t 3 (omega arith) ∙ z) | inr z ↦ inr (far t 4 (omega arith) ∙ z) ])
          ];
      backed = λ t s j m ot e.
          elim (cs t s) [
            | inl h ↦ num_from _ w j m (with_value get i f (Number w) t s) h.2 e
            | inr h ↦
                let q = G.backed t s j m ot (sym h.1 ∙ e) in (
                  q.0,
                  elim (cs j m) [
                    | inl z ↦ num_not_to _ t (get i f) (was ⊥ (subst on z.0 q.0)) (sym (ap (λ (y : ℕ). get y m) z.0 ∙ ap (get i) z.1) ∙ q.1)
                    | inr z ↦ z.1 ∙ q.1
                  ],
                )
          ];
      single = λ t ot e. far t 3 (omega arith) ∙ G.single t ot (sym (far t 3 (omega arith)) ∙ (e ∙ far t 4 (omega arith)));
      typed = λ j s oj.
          elim (cs j s) [
            | inl h ↦ ap (suits j s) h.2 ∙ (ap (λ (z : ℕ). suits z s (Number w)) h.0 ∙ (ap (λ (z : ℕ). suits i z (Number w)) h.1 ∙ suits_num i f w ni hf))
            | inr h ↦ ap (suits j s) h.1 ∙ G.typed j s oj
          ];
    }
