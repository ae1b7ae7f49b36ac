-- What each step does to the states that the copies stand for.
use Rattle.std.proofs.Common.{◌≡◌, ℕ, suc, ◌<◌, Bool, true, false, ltb, List, [], ◌∷◌, sym, refl, ap, ◌∙◌, subst, inl, inr, arith}
use Rattle.std.proofs.lemmas.Bool.{cases_lt, cases_Bool, cases_eq, eq-eqb, ne_eqb, le-leb, lt-leb, lt-ltb}
use Rattle.fields.specs.declared.kinds.Value.{Value}
use Rattle.fields.specs.declared.kinds.Value.TheVariants.{Number, Nil, To, From}
use Rattle.fields.specs.Fields.{number, Shown}
use Rattle.memory.specs.Memory.{put}
use Rattle.slices.specs.Slices.{with_value, swap, swapped}
use Rattle.slices.specs.Copies.{Copy, Copies, value_at, Serves, serving, CoherentAt, Sound}
use Rattle.slices.specs.Splits.{split}
use Rattle.slices.specs.Changes.{FieldWrite, set_all, set_field}
use Rattle.slices.specs.Openings.{opened, down}
use Rattle.slices.specs.Births.{first_values, make_node}
use Rattle.slices.proofs.Swapping.{swap_swap}
use Rattle.slices.proofs.Cells.{with_cases}
use Rattle.slices.proofs.Splitting.{split_sound, split_serial, split_swap, split_key, split_swap_key}
use Rattle.slices.proofs.Opening.{open_sound, down_up}
use Rattle.slices.proofs.Bearing.{make_sound, one_only}
use Rattle.states.specs.Relinks.{slice, relink, relinked, write, set_number}
use Rattle.states.specs.Nodes.{NodeState, by_serial, Shows, Means, Alone, StateClosed, SplitMeans, OpenMeans, with_node, MakeMeans, wrote, RelinkMeans, SetNumberMeans, SplitRegister}
use Rattle.states.proofs.Linking.{clash}
use Rattle.states.proofs.Relinking.{relink_sound, set_number-sound}

abbrev ren : (ℕ → ℕ) → Value → Value
ren g (Number n) = Number n
ren g Nil = Nil
ren g (To k) = To (g k)
ren g (From k l) = From (g k) l

ren_id : (v : Value) → ren (λ i. i) v ≡ v
ren_id (Number n) = refl
ren_id Nil = refl
ren_id (To k) = refl
ren_id (From k l) = refl

ren_swap : (c d : ℕ) (v : Value) → ren (swap c d) v ≡ swapped c d v
ren_swap c d (Number n) = refl
ren_swap c d Nil = refl
ren_swap c d (To k) = refl
ren_swap c d (From k l) = refl

raised_ren : (M D : Copies) (g : ℕ → ℕ) (v : Value) → ((k : ℕ) → v ≡ To k → (D.copy (g k)).serial ≡ (M.copy k).serial) → by_serial D (ren g v) ≡ by_serial M v
raised_ren M D g (Number n) h = refl
raised_ren M D g Nil h = refl
raised_ren M D g (To k) h = ap To (h k refl)
raised_ren M D g (From a l) h = refl

-- a slice whose copies are those of another, under other numbers, shows the same state
module _ (pos pos' : ℕ → ℕ) (M D : Copies) (p p' : ℕ) (G : CoherentAt pos M p) (g : ℕ → ℕ)
    (fwd : (i : ℕ) → Serves pos M p i → Serves pos' D p' (g i))
    (bwd : (i : ℕ) → Serves pos' D p' i → (j : ℕ) × Serves pos M p j × (g j ≡ i))
    (ser : (i : ℕ) → Serves pos M p i → (D.copy (g i)).serial ≡ (M.copy i).serial)
    (key : (i : ℕ) → Serves pos M p i → (D.copy (g i)).key ≡ (M.copy i).key)
    (fld : (i f : ℕ) → Serves pos M p i → value_at pos' p' (D.copy (g i)) f ≡ ren g (value_at pos p (M.copy i) f)) where
  shows_moved : (st : NodeState) → Shows pos M p st → Shows pos' D p' st
  shows_moved st h = record {
    root = h.root;
    held = λ s t. let q = h.held s t in (g q.0, fwd q.0 q.1, ser q.0 q.1 ∙ q.2);
    keyed = λ i si t.
        let q = bwd i si in
        let j = q.0 in
        subst (λ (z : ℕ). st.key (D.copy z).serial ≡ (D.copy z).key) q.2
        (ap st.key (ser j q.1)
        ∙ (h.keyed j q.1 (ap st.has (sym (ser j q.1) ∙ ap (λ (z : ℕ). (D.copy z).serial) q.2) ∙ t)
        ∙ sym (key j q.1)));
    holds = λ i f si t lf.
        let q = bwd i si in
        let j = q.0 in
        subst (λ (z : ℕ). st.get (D.copy z).serial f ≡ by_serial D (value_at pos' p' (D.copy z) f)) q.2
        (ap (λ (z : ℕ). st.get z f) (ser j q.1)
        ∙ (h.holds j f q.1 (ap st.has (sym (ser j q.1) ∙ ap (λ (z : ℕ). (D.copy z).serial) q.2) ∙ t) lf
        ∙ (sym (raised_ren M D g (value_at pos p (M.copy j) f) (λ k e. ser k (G.named j f k q.1 e).0))
        ∙ ap (by_serial D) (sym (fld j f q.1)))));
    blank = λ i f si t low.
        let q = bwd i si in
        let j = q.0 in
        subst (λ (z : ℕ). value_at pos' p' (D.copy z) f ≡ Nil) q.2
        (fld j f q.1 ∙ ap (ren g) (h.blank j f q.1 (ap st.has (sym (ser j q.1) ∙ ap (λ (z : ℕ). (D.copy z).serial) q.2) ∙ t) low));
  }

bool_clash : (P : Type 0) (b : Bool) → b ≡ true → b ≡ false → P
bool_clash P b x y = absurd (let z : ◌≡◌ {A = ℕ} 0 1 = cc in omega arith)

-- a held node names held nodes
names_held : (pos : ℕ → ℕ) (M : Copies) (p : ℕ) (st : NodeState) → CoherentAt pos M p → Shows pos M p st
    → (i f k : ℕ) → Serves pos M p i → value_at pos p (M.copy i) f ≡ To k → st.has (M.copy k).serial ≡ true
names_held pos M p st G h i f k si e =
    let q = G.named i f k si e in
    elim (cases_Bool (st.has (M.copy k).serial)) [
      | inl t ↦ t
      | inr t ↦
          elim q.1 [
            | inl z ↦ clash _ i f (value_at pos p (M.copy k) 3) (h.blank k 3 q.0 t (omega arith)) z
            | inr z ↦ clash _ i f (value_at pos p (M.copy k) 4) (h.blank k 4 q.0 t (omega arith)) z
          ]
    ]

pub raised_to : (M : Copies) (v : Value) (t : ℕ) → by_serial M v ≡ To t → (k : ℕ) × (v ≡ To k) × ((M.copy k).serial ≡ t)
raised_to M (Number n) t e = absurd (let z : ◌≡◌ {A = ℕ} 0 1 = cc in omega arith)
raised_to M Nil t e = absurd (let z : ◌≡◌ {A = ℕ} 0 1 = cc in omega arith)
raised_to M (To k) t e = (k, refl, cc)
raised_to M (From a l) t e = absurd (let z : ◌≡◌ {A = ℕ} 0 1 = cc in omega arith)

pub state_closed : StateClosed
state_closed pos M p st S h s f t hs lf e =
    let q = h.held s hs in
    let i = q.0 in
    let hi : st.has (M.copy i).serial ≡ true = ap st.has q.2 ∙ hs in
    let r = raised_to M (value_at pos p (M.copy i) f) t (sym (h.holds i f q.1 hi lf) ∙ (ap (λ (z : ℕ). st.get z f) q.2 ∙ e)) in
    ap st.has (sym r.2) ∙ names_held pos M p st (S.good p) h i f r.0 q.1 r.1

pub split_means : SplitMeans
split_means pos M A c x S nc sv lt me v hv =
    let R = split_sound pos M c x S nc sv lt in
    let p = pos v in
    elim (cases_lt p (pos x)) [
      | inl l ↦
          shows_moved pos pos M (split pos c x M) p p (S.good p) (λ i. i)
          (λ i s. (R.1 p i l s).0) (λ i s. (i, R.3 p i l s, refl)) (λ i s. split_serial pos M (serving pos M (pos x)) c x i s.0) (λ i s. split_key pos M (serving pos M (pos x)) c x i s.0)
          (λ i f s. (R.1 p i l s).1 f ∙ sym (ren_id (value_at pos p (M.copy i) f))) (A v) (me v hv)
      | inr l ↦
          shows_moved pos pos M (split pos c x M) p p (S.good p) (swap c M.total)
          (λ i s. (R.2 p i l s).0) (λ i s. (swap c M.total i, R.4 p i l s, swap_swap c M.total i)) (λ i s. split_swap pos M (serving pos M (pos x)) c x sv.0 i s.0) (λ i s. split_swap_key pos M (serving pos M (pos x)) c x sv.0 i s.0)
          (λ i f s. (R.2 p i l s).1 f ∙ sym (ren_swap c M.total (value_at pos p (M.copy i) f))) (A v) (me v hv)
    ]

pub at_same : {B : Type 0} (A : ℕ → B) (u : ℕ) (b : B) → put A u b u ≡ b
at_same A u b = rw (eq-eqb u u refl)

pub at_other : {B : Type 0} (A : ℕ → B) (u : ℕ) (b : B) (v : ℕ) → (v ≡ u → ⊥) → put A u b v ≡ A v
at_other A u b v n = rw (ne_eqb u v (λ e. n (sym e)))

down_self : (p : ℕ) → down (suc p) (suc p) ≡ p
down_self p = grind arith

pub open_means : OpenMeans
open_means pos pos' M A a b ha hb shift known S me v hv =
    let q = suc (pos a) in
    let R = open_sound pos pos' q M (omega arith) (omega (arith, ha)) shift S in
    let move : (p' : ℕ) (st : NodeState) → Shows pos M (down q p') st → Shows pos' (opened M) p' st =
    λ p' st h.
    shows_moved pos pos' M (opened M) (down q p') p' (S.good (down q p')) (λ i. i)
    (λ i s. (R.1 p' i).1 s) (λ i s. (i, (R.1 p' i).0 s, refl)) (λ i s. refl) (λ i s. refl)
    (λ i f s. (R.1 p' i).2 s.0 f ∙ sym (ren_id (value_at pos (down q p') (M.copy i) f))) st h in
    elim (cases_eq v b) [
      | inl e ↦
          let at_b : pos' v ≡ q = ap pos' e ∙ hb in
          let d : down q (pos' v) ≡ pos a = ap (down q) at_b ∙ down_self (pos a) in
          subst (λ (st : NodeState). Shows pos' (opened M) (pos' v) st) (sym (ap (put A b (A a)) e ∙ at_same A b (A a)))
          (move (pos' v) (A a) (subst (λ (z : ℕ). Shows pos M z (A a)) (sym d) (me a ha)))
      | inr n ↦
          elim (known v hv) [
            | inl e ↦ absurd (n e)
            | inr k ↦
                let d : down q (pos' v) ≡ pos v = ap (down q) (shift v k) ∙ down_up q (pos v) in
                subst (λ (st : NodeState). Shows pos' (opened M) (pos' v) st) (sym (at_other A b (A a) v n))
                (move (pos' v) (A v) (subst (λ (z : ℕ). Shows pos M z (A v)) (sym d) (me v k)))
          ]
    ]

module _ (pos : ℕ → ℕ) (M : Copies) (A : ℕ → NodeState) (u k : ℕ) (numbers : ℕ → ℕ) (S : Sound pos M) (hu : pos u < M.versions) (me : Means pos M A) where
  -- the new serial is held nowhere yet
  unheld : (x : ℕ) → pos x < M.versions → (A x).has (suc M.made) ≡ false
  unheld x hx =
      elim (cases_Bool ((A x).has (suc M.made))) [
        | inl t ↦ absurd (let q = (me x hx).held (suc M.made) t in let a = S.shape.fewer q.0 q.1.0 in let b = q.2 in omega (arith, a, b))
        | inr t ↦ t
      ]

  ser : (i : ℕ) → i < M.total → ((make_node u k numbers M).copy i).serial ≡ (M.copy i).serial
  ser i h = ap (λ (c : Copy). c.serial) ((make_sound pos M u k numbers S hu).2 i h)

  fld : (p i f : ℕ) → i < M.total → value_at pos p ((make_node u k numbers M).copy i) f ≡ value_at pos p (M.copy i) f
  fld p i f h = ap (λ (c : Copy). value_at pos p c f) ((make_sound pos M u k numbers S hu).2 i h)

  ser_new : (i : ℕ) → i ≡ M.total → ((make_node u k numbers M).copy i).serial ≡ suc M.made
  ser_new i e = ap (λ (z : ℕ). ((make_node u k numbers M).copy z).serial) e ∙ ap (λ (c : Copy). c.serial) (make_sound pos M u k numbers S hu).1

  fld_new : (p i f : ℕ) → i ≡ M.total → value_at pos p ((make_node u k numbers M).copy i) f ≡ first_values numbers f
  fld_new p i f e = ap (λ (z : ℕ). value_at pos p ((make_node u k numbers M).copy z) f) e ∙ ap (λ (c : Copy). value_at pos p c f) (make_sound pos M u k numbers S hu).1

  raised_old : (p i f : ℕ) → Serves pos M p i → by_serial (make_node u k numbers M) (value_at pos p ((make_node u k numbers M).copy i) f) ≡ by_serial M (value_at pos p (M.copy i) f)
  raised_old p i f s =
      ap (by_serial (make_node u k numbers M)) (fld p i f s.0 ∙ sym (ren_id (value_at pos p (M.copy i) f)))
      ∙ raised_ren M (make_node u k numbers M) (λ c. c) (value_at pos p (M.copy i) f) (λ c e. ser c ((S.good p).named i f c s e).0.0)

  new_blank : (f : ℕ) → f < 5 → first_values numbers f ≡ Nil
  new_blank f low = rw (lt-ltb f 5 low) refl

  new_raised : (f : ℕ) → by_serial (make_node u k numbers M) (first_values numbers f) ≡ first_values numbers f
  new_raised f = elim (cases_Bool (ltb f 5)) [ inl t ↦ rw t refl | inr t ↦ rw t refl ]

  key_old : (i : ℕ) → i < M.total → ((make_node u k numbers M).copy i).key ≡ (M.copy i).key
  key_old i h = ap (λ (c : Copy). c.key) ((make_sound pos M u k numbers S hu).2 i h)

  key_new : (i : ℕ) → i ≡ M.total → ((make_node u k numbers M).copy i).key ≡ k
  key_new i e = ap (λ (z : ℕ). ((make_node u k numbers M).copy z).key) e ∙ ap (λ (c : Copy). c.key) (make_sound pos M u k numbers S hu).1

  old_not : (i : ℕ) → i < M.total → (M.copy i).serial ≡ suc M.made → ⊥
  old_not i h e = let a = S.shape.fewer i h in omega (arith, a, e)

  shows_there : (x : ℕ) → pos x < M.versions → Shows pos (make_node u k numbers M) (pos x) (A x)
  shows_there x hx = record {
    root = (me x hx).root;
    held = λ s t. let q = (me x hx).held s t in (q.0, (make_sound pos M u k numbers S hu).4 (pos x) q.0 q.1, ser q.0 q.1.0 ∙ q.2);
    keyed = λ i si t.
        elim ((make_sound pos M u k numbers S hu).5 (pos x) i si) [
          | inl o ↦ ap (A x).key (ser i o.0) ∙ ((me x hx).keyed i o (ap (A x).has (sym (ser i o.0)) ∙ t) ∙ sym (key_old i o.0))
          | inr o ↦ bool_clash _ ((A x).has (suc M.made)) (ap (A x).has (sym (ser_new i o.0)) ∙ t) (unheld x hx)
        ];
    holds = λ i f si t lf.
        elim ((make_sound pos M u k numbers S hu).5 (pos x) i si) [
          | inl o ↦ ap (λ (z : ℕ). (A x).get z f) (ser i o.0) ∙ ((me x hx).holds i f o (ap (A x).has (sym (ser i o.0)) ∙ t) lf ∙ sym (raised_old (pos x) i f o))
          | inr o ↦ bool_clash _ ((A x).has (suc M.made)) (ap (A x).has (sym (ser_new i o.0)) ∙ t) (unheld x hx)
        ];
    blank = λ i f si t low.
        elim ((make_sound pos M u k numbers S hu).5 (pos x) i si) [
          | inl o ↦ fld (pos x) i f o.0 ∙ (me x hx).blank i f o (ap (A x).has (sym (ser i o.0)) ∙ t) low
          | inr o ↦ fld_new (pos x) i f o.0 ∙ new_blank f low
        ];
  }

  shows_here : Shows pos (make_node u k numbers M) (pos u) (with_node (suc M.made) k numbers (A u))
  shows_here =
      let N = suc M.made in
      let st = with_node N k numbers (A u) in
      let first = first_values numbers in
      record {
        root = at_other (A u).has N true 0 (λ e. omega (arith, e)) ∙ (me u hu).root;
        held = λ s t.
            elim (cases_eq s N) [
              | inl e ↦ (M.total, (make_sound pos M u k numbers S hu).3 (pos u) (omega arith) hu, ser_new M.total refl ∙ sym e)
              | inr n ↦ let q = (me u hu).held s (sym (at_other (A u).has N true s n) ∙ t) in (q.0, (make_sound pos M u k numbers S hu).4 (pos u) q.0 q.1, ser q.0 q.1.0 ∙ q.2)
            ];
        keyed = λ i si t.
            elim ((make_sound pos M u k numbers S hu).5 (pos u) i si) [
              | inl o ↦
                  let ne : ((make_node u k numbers M).copy i).serial ≡ N → ⊥ = λ e. old_not i o.0 (sym (ser i o.0) ∙ e) in
                  at_other (A u).key N k ((make_node u k numbers M).copy i).serial ne
                  ∙ (ap (A u).key (ser i o.0)
                  ∙ ((me u hu).keyed i o (ap (A u).has (sym (ser i o.0)) ∙ (sym (at_other (A u).has N true ((make_node u k numbers M).copy i).serial ne) ∙ t))
                  ∙ sym (key_old i o.0)))
              | inr o ↦ ap st.key (ser_new i o.0) ∙ (at_same (A u).key N k ∙ sym (key_new i o.0))
            ];
        holds = λ i f si t lf.
            elim ((make_sound pos M u k numbers S hu).5 (pos u) i si) [
              | inl o ↦
                  let ne : ((make_node u k numbers M).copy i).serial ≡ N → ⊥ = λ e. old_not i o.0 (sym (ser i o.0) ∙ e) in
                  ap (λ (h : ℕ → Value). h f) (at_other (A u).get N first ((make_node u k numbers M).copy i).serial ne)
                  ∙ (ap (λ (z : ℕ). (A u).get z f) (ser i o.0)
                  ∙ ((me u hu).holds i f o (ap (A u).has (sym (ser i o.0)) ∙ (sym (at_other (A u).has N true ((make_node u k numbers M).copy i).serial ne) ∙ t)) lf
                  ∙ sym (raised_old (pos u) i f o)))
              | inr o ↦
                  ap (λ (z : ℕ). st.get z f) (ser_new i o.0)
                  ∙ (ap (λ (h : ℕ → Value). h f) (at_same (A u).get N first)
                  ∙ (sym (new_raised f) ∙ ap (by_serial (make_node u k numbers M)) (sym (fld_new (pos u) i f o.0))))
            ];
        blank = λ i f si t low.
            elim ((make_sound pos M u k numbers S hu).5 (pos u) i si) [
              | inl o ↦
                  let ne : ((make_node u k numbers M).copy i).serial ≡ N → ⊥ = λ e. old_not i o.0 (sym (ser i o.0) ∙ e) in
                  fld (pos u) i f o.0 ∙ (me u hu).blank i f o (ap (A u).has (sym (ser i o.0)) ∙ (sym (at_other (A u).has N true ((make_node u k numbers M).copy i).serial ne) ∙ t)) low
              | inr o ↦ fld_new (pos u) i f o.0 ∙ new_blank f low
            ];
      }

pub make_means : MakeMeans
make_means pos M A u k numbers S hu alone me x hx =
    elim (cases_eq x u) [
      | inl e ↦
          subst (λ (z : ℕ). Shows pos (make_node u k numbers M) (pos z) (put A u (with_node (suc M.made) k numbers (A u)) z)) (sym e)
          (subst (λ (st : NodeState). Shows pos (make_node u k numbers M) (pos u) st) (sym (at_same A u (with_node (suc M.made) k numbers (A u)))) (shows_here pos M A u k numbers S hu me))
      | inr n ↦ subst (λ (st : NodeState). Shows pos (make_node u k numbers M) (pos x) st) (sym (at_other A u (with_node (suc M.made) k numbers (A u)) x n)) (shows_there pos M A u k numbers S hu me x hx)
    ]

set_field-serial : (pos : ℕ → ℕ) (u s : ℕ) (more : Bool) (i f : ℕ) (w : Value) (M : Copies) (j : ℕ) → ((set_field pos u s more i f w M).copy j).serial ≡ (M.copy j).serial
set_field-serial pos u s more i f w M j =
    elim (cases_eq j i) [
      | inl e ↦ rw (eq-eqb j i e) (ap (λ (z : ℕ). (M.copy z).serial) (sym e))
      | inr n ↦ rw (ne_eqb j i n) refl
    ]

pub set_all-serial : (pos : ℕ → ℕ) (u s : ℕ) (more : ℕ → Bool) (ws : List FieldWrite) (M : Copies) (j : ℕ) → ((set_all pos u s more ws M).copy j).serial ≡ (M.copy j).serial
set_all-serial pos u s more [] M j = refl
set_all-serial pos u s more (w ∷ ws) M j =
    set_all-serial pos u s more ws (set_field pos u s (more w.copy) w.copy w.field w.value M) j
    ∙ set_field-serial pos u s (more w.copy) w.copy w.field w.value M j

set_field-key : (pos : ℕ → ℕ) (u s : ℕ) (more : Bool) (i f : ℕ) (w : Value) (M : Copies) (j : ℕ) → ((set_field pos u s more i f w M).copy j).key ≡ (M.copy j).key
set_field-key pos u s more i f w M j =
    elim (cases_eq j i) [
      | inl e ↦ rw (eq-eqb j i e) (ap (λ (z : ℕ). (M.copy z).key) (sym e))
      | inr n ↦ rw (ne_eqb j i n) refl
    ]

pub set_all-key : (pos : ℕ → ℕ) (u s : ℕ) (more : ℕ → Bool) (ws : List FieldWrite) (M : Copies) (j : ℕ) → ((set_all pos u s more ws M).copy j).key ≡ (M.copy j).key
set_all-key pos u s more [] M j = refl
set_all-key pos u s more (w ∷ ws) M j =
    set_all-key pos u s more ws (set_field pos u s (more w.copy) w.copy w.field w.value M) j
    ∙ set_field-key pos u s (more w.copy) w.copy w.field w.value M j

pub set_all-versions : (pos : ℕ → ℕ) (u s : ℕ) (more : ℕ → Bool) (ws : List FieldWrite) (M : Copies) → (set_all pos u s more ws M).versions ≡ M.versions
set_all-versions pos u s more [] M = refl
set_all-versions pos u s more (w ∷ ws) M = set_all-versions pos u s more ws (set_field pos u s (more w.copy) w.copy w.field w.value M)

-- writes that alter at u one link or number of a held copy, and back links of held copies alone
module _ (pos : ℕ → ℕ) (M D : Copies) (A : ℕ → NodeState) (u i l : ℕ) (v : Value) (S : Sound pos M) (alone : Alone pos M u) (me : Means pos M A)
    (count : D.versions ≡ M.versions) (ser : (j : ℕ) → (D.copy j).serial ≡ (M.copy j).serial) (key : (j : ℕ) → (D.copy j).key ≡ (M.copy j).key) (sv : Serves pos M (pos u) i) (hi : (A u).has (M.copy i).serial ≡ true)
    (serves : (p j : ℕ) → (Serves pos M p j → Serves pos D p j) × (Serves pos D p j → Serves pos M p j))
    (there : (p j f : ℕ) → (p ≡ pos u → ⊥) → Serves pos M p j → value_at pos p (D.copy j) f ≡ value_at pos p (M.copy j) f)
    (written : value_at pos (pos u) (D.copy i) l ≡ v)
    (others : (j f : ℕ) → Shown f → (j ≡ i → f ≡ l → ⊥) → Serves pos M (pos u) j → value_at pos (pos u) (D.copy j) f ≡ value_at pos (pos u) (M.copy j) f)
    (away : (j f : ℕ) → (A u).has (M.copy j).serial ≡ false → Serves pos M (pos u) j → value_at pos (pos u) (D.copy j) f ≡ value_at pos (pos u) (M.copy j) f) where
  raise_same : (v : Value) → by_serial D v ≡ by_serial M v
  raise_same v = ap (by_serial D) (sym (ren_id v)) ∙ raised_ren M D (λ k. k) v (λ k _. ser k)

  here_shows : pos u < M.versions → Shows pos D (pos u) (wrote (M.copy i).serial l (by_serial M v) (A u))
  here_shows hu =
      let h = me u hu in
      record {
        root = h.root;
        held = λ s t. let q = h.held s t in (q.0, (serves (pos u) q.0).0 q.1, ser q.0 ∙ q.2);
        keyed = λ j sj t.
            let o = (serves (pos u) j).1 sj in
            ap (A u).key (ser j) ∙ (h.keyed j o (ap (A u).has (sym (ser j)) ∙ t) ∙ sym (key j));
        holds = λ j f sj t lf.
            let o = (serves (pos u) j).1 sj in
            ap (λ (z : ℕ). with_value (A u).get (M.copy i).serial l (by_serial M v) z f) (ser j)
            ∙ elim (with_cases (A u).get (M.copy i).serial l (by_serial M v) (M.copy j).serial f) [
              | inl z ↦
                  let e : j ≡ i = one_only pos M S.shape (pos u) j i o sv z.0 in
                  z.2 ∙ (sym (raise_same v) ∙ ap (by_serial D) (sym (ap (λ (y : ℕ). value_at pos (pos u) (D.copy y) f) e ∙ (ap (value_at pos (pos u) (D.copy i)) z.1 ∙ written))))
              | inr z ↦
                  let n : j ≡ i → f ≡ l → ⊥ = λ a b. z.0 (ap (λ (y : ℕ). (M.copy y).serial) a) b in
                  z.1 ∙ (h.holds j f o (ap (A u).has (sym (ser j)) ∙ t) lf ∙ (sym (raise_same (value_at pos (pos u) (M.copy j) f)) ∙ ap (by_serial D) (sym (others j f lf n o))))
            ];
        blank = λ j f sj t low.
            let o = (serves (pos u) j).1 sj in
            let t' = ap (A u).has (sym (ser j)) ∙ t in
            away j f t' o ∙ h.blank j f o t' low;
      }

  wrote_means : Means pos D (put A u (wrote (M.copy i).serial l (by_serial M v) (A u)))
  wrote_means x hx =
      let hx' : pos x < M.versions = subst (λ (z : ℕ). pos x < z) count hx in
      elim (cases_eq x u) [
        | inl e ↦
            subst (λ (z : ℕ). pos z < M.versions → Shows pos D (pos z) (put A u (wrote (M.copy i).serial l (by_serial M v) (A u)) z)) (sym e)
            (λ hu. subst (λ (st : NodeState). Shows pos D (pos u) st) (sym (at_same A u (wrote (M.copy i).serial l (by_serial M v) (A u)))) (here_shows hu)) hx'
        | inr n ↦
            let np : pos x ≡ pos u → ⊥ = λ e. n (alone x hx' e) in
            subst (λ (st : NodeState). Shows pos D (pos x) st) (sym (at_other A u (wrote (M.copy i).serial l (by_serial M v) (A u)) x n))
            (shows_moved pos pos M D (pos x) (pos x) (S.good (pos x)) (λ j. j)
            (λ j s. (serves (pos x) j).0 s) (λ j s. (j, (serves (pos x) j).1 s, refl)) (λ j s. ser j) (λ j s. key j)
            (λ j f s. there (pos x) j f np s ∙ sym (ren_id (value_at pos (pos x) (M.copy j) f))) (A x) (me x hx'))
      ]

pub relink_means : RelinkMeans
relink_means pos M A u s i l v S alone next sv hl tg hi hv c me =
    let R = relink_sound pos M u s i l v S next sv hl tg c in
    let more = serving pos M (suc (pos u)) in
    wrote_means pos M (relink pos u s i l v M) A u i l v S alone me
    (set_all-versions pos u s more (relinked (slice pos u M) i l v) M)
    (λ j. set_all-serial pos u s more (relinked (slice pos u M) i l v) M j)
    (λ j. set_all-key pos u s more (relinked (slice pos u M) i l v) M j) sv hi R.1 R.5 R.2 R.3
    (λ j f t o.
    R.4 j f
    (λ e. bool_clash ⊥ ((A u).has (M.copy i).serial) hi (ap (λ (z : ℕ). (A u).has (M.copy z).serial) (sym e) ∙ t))
    (λ e. bool_clash ⊥ ((A u).has (M.copy j).serial) (hv j e) t)
    (λ e. bool_clash ⊥ ((A u).has (M.copy j).serial) (names_held pos M (pos u) (A u) (S.good (pos u)) (me u sv.3) i l j sv e) t)
    o)

pub set_number-means : SetNumberMeans
set_number-means pos M A u s i n w S alone next sv ni hi me =
    let R = set_number-sound pos M u s i n w S next sv ni in
    let more = serving pos M (suc (pos u)) in
    wrote_means pos M (set_number pos u s i n w M) A u i (number n) (Number w) S alone me
    (set_all-versions pos u s more (write i (number n) (Number w) ∷ []) M)
    (λ j. set_all-serial pos u s more (write i (number n) (Number w) ∷ []) M j)
    (λ j. set_all-key pos u s more (write i (number n) (Number w) ∷ []) M j) sv hi R.1 R.4 R.2
    (λ j g _ d o. R.3 j g d o)
    (λ j g t o. R.3 j g (λ e _. bool_clash ⊥ ((A u).has (M.copy i).serial) hi (ap (λ (z : ℕ). (A u).has (M.copy z).serial) (sym e) ∙ t)) o)

pub split_register : SplitRegister
split_register pos M c x S nc sv lt p r sr =
    let R = split_sound pos M c x S nc sv lt in
    elim (cases_lt p (pos x)) [
      | inl l ↦ rw (lt-leb (pos x) p l) ((R.1 p r l sr).0, split_serial pos M (serving pos M (pos x)) c x r sr.0)
      | inr g ↦ rw (le-leb (pos x) p g) ((R.2 p r g sr).0, split_swap pos M (serving pos M (pos x)) c x sv.0 r sr.0)
    ]
