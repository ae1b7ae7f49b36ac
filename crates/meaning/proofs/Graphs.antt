-- States of the abstract memory as graphs by serial numbers: what a birth and a write do to them.
use Rattle.std.proofs.Common.{◌≡◌, ℕ, zero, suc, ◌+◌, ◌-◌, ◌<◌, true, cond, eqb, ltb, is_some, Some, Option, sym, refl, ap, ◌∙◌, subst, inl, inr, arith}
use Rattle.std.proofs.lemmas.Bool.{cases_lt, cases_Bool, cases_eq, eq-eqb, ne_eqb, lt-ltb, le-ltb}
use Rattle.fields.specs.declared.kinds.Value.{Value}
use Rattle.fields.specs.declared.kinds.Value.TheVariants.{Number, Nil}
use Rattle.fields.specs.Fields.{number}
use Rattle.order.specs.Items.{position}
use Rattle.memory.specs.Memory.{Node, State, Memory, put, with_link, with_number, new_node, state_of}
use Rattle.memory.specs.Steps.{root_set, link_set, node_set}
use Rattle.memory.proofs.Numbers.{put_same, put_other}
use Rattle.slices.specs.Slices.{with_value}
use Rattle.slices.specs.Copies.{Copies}
use Rattle.slices.specs.Births.{first_values}
use Rattle.slices.proofs.Cells.{with_same, with_other}
use Rattle.states.specs.Nodes.{NodeState, Shows, with_node, wrote}
use Rattle.space.specs.Runs.{World, Kept}
use Rattle.meaning.specs.Meaning.{ref, field_of, node_fields, node_key, graph_has, graph_key, graph_get, graph_of}

-- two states that hold the same
pub record Alike (st st' : NodeState) : Type 0 where
  pub has_is : (s : ℕ) → st.has s ≡ st'.has s
  pub key_is : (s : ℕ) → st.key s ≡ st'.key s
  pub get_is : (s f : ℕ) → st.get s f ≡ st'.get s f

pub alike_self : (st : NodeState) → Alike st st
alike_self st = record { has_is = λ s. refl; key_is = λ s. refl; get_is = λ s f. refl }

shows_alike : (pos : ℕ → ℕ) (M : Copies) (p : ℕ) (st st' : NodeState) → Alike st st' → Shows pos M p st → Shows pos M p st'
shows_alike pos M p st st' a h = record {
  root = sym (a.has_is 0) ∙ h.root;
  held = λ s t. h.held s (a.has_is s ∙ t);
  keyed = λ i si t. sym (a.key_is (M.copy i).serial) ∙ h.keyed i si (a.has_is (M.copy i).serial ∙ t);
  holds = λ i f si t lf. sym (a.get_is (M.copy i).serial f) ∙ h.holds i f si (a.has_is (M.copy i).serial ∙ t) lf;
  blank = λ i f si t low. h.blank i f si (a.has_is (M.copy i).serial ∙ t) low;
}

pub kept_alike : (W : World) (A : ℕ → NodeState) → ((v : ℕ) → position W.order v < W.copies.versions → Alike (W.states v) (A v)) → Kept W
    → Kept (record { order = W.order; copies = W.copies; states = A; splits = W.splits; linked = W.linked; numbered = W.numbered; used = W.used })
kept_alike W A a K = record {
  distinct = K.distinct;
  known = K.known;
  counted = K.counted;
  sound = K.sound;
  means = λ v hv. shows_alike (position W.order) W.copies (position W.order v) (W.states v) (A v) (a v hv) (K.means v hv);
  paid = K.paid;
  copied = K.copied;
  held = K.held;
  rows = K.rows;
}

-- a place in the states that stands for the working version
pub states_at : (m : Memory) (s : State) (u : ℕ) (g : NodeState) → u ≡ m.rest.working → Alike g (graph_of s) → (v : ℕ)
    → Alike (put (λ w. graph_of (state_of m w)) u g v) (graph_of (cond (eqb m.rest.working v) s (m.rest.others v)))
states_at m s u g h a v =
    elim (cases_eq u v) [
      | inl e ↦ rw (eq-eqb u v e, eq-eqb m.rest.working v (sym h ∙ e)) a
      | inr n ↦ rw (ne_eqb u v n, ne_eqb m.rest.working v (λ z. n (h ∙ z))) (alike_self (graph_of (m.rest.others v)))
    ]

put_at : {A : Type 0} (f : ℕ → A) (i j : ℕ) (x : A) → i ≡ j → put f i x j ≡ x
put_at f i j x e = rw (eq-eqb i j e) refl

suc_apart : (k j : ℕ) → (k ≡ j → ⊥) → suc k ≡ suc j → ⊥
suc_apart k j n e = n (omega (arith, e))

-- a new node
born_has : (s : State) (k : ℕ) (n : Node) (t : ℕ) → put (graph_has s) (suc k) true t ≡ graph_has (node_set s k n) t
born_has s k n zero = put_other (graph_has s) (suc k) zero true (λ e. omega (arith, e))
born_has s k n (suc j) =
    elim (cases_eq k j) [
      | inl e ↦ put_at (graph_has s) (suc k) (suc j) true (ap suc e) ∙ sym (ap (λ (o : Option Node). is_some o) (put_at s.nodes k j (Some n) e))
      | inr d ↦ put_other (graph_has s) (suc k) (suc j) true (suc_apart k j d) ∙ sym (ap (λ (o : Option Node). is_some o) (put_other s.nodes k j (Some n) d))
    ]

born_key : (s : State) (k : ℕ) (n : Node) (t : ℕ) → put (graph_key s) (suc k) n.key t ≡ graph_key (node_set s k n) t
born_key s k n zero = put_other (graph_key s) (suc k) zero n.key (λ e. omega (arith, e))
born_key s k n (suc j) =
    elim (cases_eq k j) [
      | inl e ↦ put_at (graph_key s) (suc k) (suc j) n.key (ap suc e) ∙ sym (ap node_key (put_at s.nodes k j (Some n) e))
      | inr d ↦ put_other (graph_key s) (suc k) (suc j) n.key (suc_apart k j d) ∙ sym (ap node_key (put_other s.nodes k j (Some n) d))
    ]

first_fields : (key value mark f : ℕ) → first_values (new_node key value mark).numbers f ≡ field_of (new_node key value mark) f
first_fields key value mark f =
    elim (cases_lt f 2) [
      | inl l ↦ rw (lt-ltb f 2 l, lt-ltb f 5 (omega (arith, l))) refl
      | inr g ↦ rw (le-ltb f 2 g) refl
    ]

born_get : (s : State) (k key value mark t f : ℕ)
    → put (graph_get s) (suc k) (first_values (new_node key value mark).numbers) t f ≡ graph_get (node_set s k (new_node key value mark)) t f
born_get s k key value mark zero f =
    ap (λ (h : ℕ → Value). h f) (put_other (graph_get s) (suc k) zero (first_values (new_node key value mark).numbers) (λ e. omega (arith, e)))
born_get s k key value mark (suc j) f =
    let n = new_node key value mark in
    elim (cases_eq k j) [
      | inl e ↦
          ap (λ (h : ℕ → Value). h f) (put_at (graph_get s) (suc k) (suc j) (first_values n.numbers) (ap suc e))
          ∙ (first_fields key value mark f ∙ sym (ap (λ (o : Option Node). node_fields o f) (put_at s.nodes k j (Some n) e)))
      | inr d ↦
          ap (λ (h : ℕ → Value). h f) (put_other (graph_get s) (suc k) (suc j) (first_values n.numbers) (suc_apart k j d))
          ∙ sym (ap (λ (o : Option Node). node_fields o f) (put_other s.nodes k j (Some n) d))
    ]

pub born_alike : (s : State) (k key value mark : ℕ)
    → Alike (with_node (suc k) key (new_node key value mark).numbers (graph_of s)) (graph_of (node_set s k (new_node key value mark)))
born_alike s k key value mark = record
    { has_is = born_has s k (new_node key value mark); key_is = born_key s k (new_node key value mark); get_is = born_get s k key value mark }

-- one node written: what a field of it holds
module _ (s : State) (k : ℕ) (n n' : Node) (e : s.nodes k ≡ Some n) (same : n'.key ≡ n.key) (f₀ : ℕ) (v : Value)
    (here : field_of n' f₀ ≡ v) (there : (f : ℕ) → (f ≡ f₀ → ⊥) → field_of n' f ≡ field_of n f) where
  wrote_has : (t : ℕ) → graph_has s t ≡ graph_has (node_set s k n') t
  wrote_has zero = refl
  wrote_has (suc j) =
      elim (cases_eq k j) [
        | inl q ↦ ap (λ (o : Option Node). is_some o) (ap s.nodes (sym q) ∙ e) ∙ sym (ap (λ (o : Option Node). is_some o) (put_at s.nodes k j (Some n') q))
        | inr d ↦ sym (ap (λ (o : Option Node). is_some o) (put_other s.nodes k j (Some n') d))
      ]

  wrote_key : (t : ℕ) → graph_key s t ≡ graph_key (node_set s k n') t
  wrote_key zero = refl
  wrote_key (suc j) =
      elim (cases_eq k j) [
        | inl q ↦ ap node_key (ap s.nodes (sym q) ∙ e) ∙ (sym same ∙ sym (ap node_key (put_at s.nodes k j (Some n') q)))
        | inr d ↦ sym (ap node_key (put_other s.nodes k j (Some n') d))
      ]

  wrote_get : (t f : ℕ) → with_value (graph_get s) (suc k) f₀ v t f ≡ graph_get (node_set s k n') t f
  wrote_get zero f = with_other (graph_get s) (suc k) f₀ v zero f (λ z _. omega (arith, z))
  wrote_get (suc j) f =
      elim (cases_eq k j) [
        | inl q ↦
            let r = sym (ap (λ (o : Option Node). node_fields o f) (put_at s.nodes k j (Some n') q)) in
            elim (cases_eq f f₀) [
              | inl z ↦
                  subst (λ (i : ℕ). with_value (graph_get s) (suc k) f₀ v (suc i) f ≡ v) q
                  (subst (λ (g : ℕ). with_value (graph_get s) (suc k) f₀ v (suc k) g ≡ v) (sym z) (with_same (graph_get s) (suc k) f₀ v))
                  ∙ (sym (ap (field_of n') z ∙ here) ∙ r)
              | inr z ↦
                  with_other (graph_get s) (suc k) f₀ v (suc j) f (λ _ y. z y)
                  ∙ (ap (λ (o : Option Node). node_fields o f) (ap s.nodes (sym q) ∙ e) ∙ (sym (there f z) ∙ r))
            ]
        | inr d ↦
            with_other (graph_get s) (suc k) f₀ v (suc j) f (λ z _. d (omega (arith, z)))
            ∙ sym (ap (λ (o : Option Node). node_fields o f) (put_other s.nodes k j (Some n') d))
      ]

  wrote_alike : Alike (wrote (suc k) f₀ v (graph_of s)) (graph_of (node_set s k n'))
  wrote_alike = record { has_is = wrote_has; key_is = wrote_key; get_is = wrote_get }

pub link_alike : (s : State) (k : ℕ) (n : Node) (side : ℕ) (x : Option ℕ) → s.nodes k ≡ Some n → side < 2
    → Alike (wrote (suc k) side (ref x) (graph_of s)) (graph_of (link_set s k n side x))
link_alike s k n side x e l =
    let a = wrote_alike s k n (with_link side x n) e refl side (ref x)
    (rw (lt-ltb side 2 l) (ap ref (put_same n.links side x)))
    (λ f d. elim (cases_Bool (ltb f 2)) [ inl t ↦ rw t (ap ref (put_other n.links side f x (λ z. d (sym z)))) | inr t ↦ rw t refl ]) in
    record { has_is = a.has_is; key_is = a.key_is; get_is = a.get_is }

five_less : (f : ℕ) → (5 + f) - 5 ≡ f
five_less f = omega arith

pub number_alike : (s : State) (k : ℕ) (n : Node) (field x : ℕ) → s.nodes k ≡ Some n
    → Alike (wrote (suc k) (number field) (Number x) (graph_of s)) (graph_of (node_set s k (with_number field x n)))
number_alike s k n field x e =
    wrote_alike s k n (with_number field x n) e refl (number field) (Number x)
    (rw (le-ltb (5 + field) 2 (omega arith), le-ltb (5 + field) 5 (omega arith)) (ap (λ (y : ℕ). Number y) (ap (put n.numbers field x) (five_less field) ∙ put_same n.numbers field x)))
    (λ f d.
    elim (cases_Bool (ltb f 2)) [
      | inl t ↦ rw t refl
      | inr t ↦
          elim (cases_lt f 5) [
            | inl l ↦ rw (t, lt-ltb f 5 l) refl
            | inr g ↦ rw (t, le-ltb f 5 g) (ap (λ (y : ℕ). Number y) (put_other n.numbers field (f - 5) x (λ z. d (omega (arith, z, g)))))
          ]
    ])

-- a root written
root_get : (s : State) (r : ℕ) (x : Option ℕ) → r < 3 → (t f : ℕ) → with_value (graph_get s) 0 r (ref x) t f ≡ graph_get (root_set s r x) t f
root_get s r x l zero f =
    elim (cases_eq f r) [
      | inl z ↦
          subst (λ (g : ℕ). with_value (graph_get s) 0 r (ref x) 0 g ≡ ref x) (sym z) (with_same (graph_get s) 0 r (ref x))
          ∙ sym (rw (lt-ltb f 3 (omega (arith, l, z))) (ap ref (put_at s.roots r f x (sym z))))
      | inr z ↦
          with_other (graph_get s) 0 r (ref x) 0 f (λ _ y. z y)
          ∙ ap (λ (o : Option ℕ). cond (ltb f 3) (ref o) Nil) (sym (put_other s.roots r f x (λ y. z (sym y))))
    ]
root_get s r x l (suc j) f = with_other (graph_get s) 0 r (ref x) (suc j) f (λ z _. omega (arith, z))

has_plain : (s : State) (r : ℕ) (x : Option ℕ) (t : ℕ) → graph_has s t ≡ graph_has (root_set s r x) t
has_plain s r x zero = refl
has_plain s r x (suc j) = refl

key_plain : (s : State) (r : ℕ) (x : Option ℕ) (t : ℕ) → graph_key s t ≡ graph_key (root_set s r x) t
key_plain s r x zero = refl
key_plain s r x (suc j) = refl

pub root_alike : (s : State) (r : ℕ) (x : Option ℕ) → r < 3 → Alike (wrote 0 r (ref x) (graph_of s)) (graph_of (root_set s r x))
root_alike s r x l = record { has_is = has_plain s r x; key_is = key_plain s r x; get_is = root_get s r x l }
