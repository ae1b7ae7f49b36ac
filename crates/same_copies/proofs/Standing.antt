-- Copies that agree below their number stand for the same states, within the same space.
use Rattle.std.proofs.Common.{◌≡◌, ℕ, ◌+◌, ◌-◌, ◌*◌, ◌<◌, ◌≤◌, true, false, cond, eqb, List, length, Some, None, Option, sym, refl, ap, ◌∙◌, subst}
use Rattle.fields.specs.declared.kinds.Value.{Value}
use Rattle.fields.specs.declared.kinds.Value.TheVariants.{Number, Nil, To, From}
use Rattle.order.specs.Items.{position}
use Rattle.memory.proofs.Numbers.{sum_same}
use Rattle.slices.specs.Copies.{Copy, Copies, value_at, Sound}
use Rattle.states.specs.Nodes.{NodeState, by_serial, Shows}
use Rattle.space.specs.Space.{size, all_entries, surplus, except}
use Rattle.space.specs.Runs.{World, Kept}
use Rattle.meaning.specs.Meaning.{world_of, RegisterHolds, Stands}
use Rattle.same_copies.specs.Same.{world_with, memory_with, SameKept, SameStands}
use Rattle.same_copies.proofs.Agreeing.{taking, taken_is, serves_same, serves_back, same_sound}

serial_same : (M : Copies) (g : ℕ → Copy) (h : (i : ℕ) → i < M.total → g i ≡ M.copy i) (v : Value) → ((k : ℕ) → v ≡ To k → k < M.total) → by_serial M v ≡ by_serial (taking M g) v
serial_same M g h (Number n) b = refl
serial_same M g h Nil b = refl
serial_same M g h (To k) b = ap (λ (z : Copy). To z.serial) (sym (h k (b k refl)))
serial_same M g h (From a l) b = refl

shows_same : (pos : ℕ → ℕ) (M : Copies) (g : ℕ → Copy) (h : (i : ℕ) → i < M.total → g i ≡ M.copy i) (p : ℕ) (st : NodeState) → Sound pos M
    → Shows pos M p st → Shows pos (taking M g) p st
shows_same pos M g h p st S H = record {
  root = H.root;
  held = λ s t. let q = H.held s t in (q.0, serves_same pos M g h p q.0 q.1, ap (λ (k : Copy). k.serial) (h q.0 q.1.0) ∙ q.2);
  keyed = λ i s. subst (λ (k : Copy). st.has k.serial ≡ true → st.key k.serial ≡ k.key) (sym (h i s.0)) (H.keyed i (serves_back pos M g h p i s));
  holds = λ i f s.
      let s' = serves_back pos M g h p i s in
      subst (λ (k : Copy). st.has k.serial ≡ true → (f ≡ 3 → ⊥) × (f ≡ 4 → ⊥) → st.get k.serial f ≡ by_serial (taking M g) (value_at pos p k f)) (sym (h i s.0))
      (λ t sh. H.holds i f s' t sh ∙ serial_same M g h (value_at pos p (M.copy i) f) (λ k e. ((S.good p).named i f k s' e).0.0));
  blank = λ i f s. subst (λ (k : Copy). st.has k.serial ≡ false → f < 5 → value_at pos p k f ≡ Nil) (sym (h i s.0)) (H.blank i f (serves_back pos M g h p i s));
}

except_same : (c i : ℕ) (f g : ℕ → ℕ) → f i ≡ g i → except c f i ≡ except c g i
except_same c i f g e = ap (λ (z : ℕ). cond (eqb i c) 0 z) e

kept_same : (W : World) (g : ℕ → Copy) (h : (i : ℕ) → i < W.copies.total → g i ≡ W.copies.copy i) → Kept W → Kept (world_with W (taking W.copies g))
kept_same W g h K =
    let M = W.copies in
    let size_is = λ (i : ℕ) (l : i < W.copies.total). ap (λ (k : Copy). length k.entries) (sym (h i l)) in
    let surplus_is : surplus W.copies ≡ surplus (taking W.copies g) =
    sum_same W.copies.total (except 0 (λ i. size W.copies i - 9)) (except 0 (λ i. size (taking W.copies g) i - 9))
    (λ i l. except_same 0 i (λ j. size W.copies j - 9) (λ j. size (taking W.copies g) j - 9) (ap (λ (z : ℕ). z - 9) (size_is i l))) in
    let all_is : all_entries W.copies ≡ all_entries (taking W.copies g) = sum_same W.copies.total (size W.copies) (size (taking W.copies g)) size_is in
    record {
      distinct = K.distinct;
      known = K.known;
      counted = K.counted;
      sound = same_sound (position W.order) W.copies (taking W.copies g) (record { total = refl; made = refl; versions = refl; copy = h }) K.sound;
      means = λ v l. shows_same (position W.order) W.copies g h (position W.order v) (W.states v) K.sound (K.means v l);
      paid = subst (λ (z : ℕ). 6 * W.splits + z ≤ 6 * W.linked + 2 * W.numbered) surplus_is K.paid;
      copied = K.copied;
      held = subst (λ (z : ℕ). z ≤ W.used) all_is K.held;
      rows = K.rows;
    }

pub same_kept : SameKept
same_kept W D e K = subst (λ (d : Copies). Kept (world_with W d)) (taken_is W.copies D e) (kept_same W D.copy e.copy K)

register_same : (xs : List ℕ) (M : Copies) (g : ℕ → Copy) (h : (i : ℕ) → i < M.total → g i ≡ M.copy i) (w : ℕ) (a b : Option ℕ)
    → RegisterHolds xs M w a b → RegisterHolds xs (taking M g) w a b
register_same xs M g h w None None k = k
register_same xs M g h w None (Some b) k = k
register_same xs M g h w (Some a) None k = k
register_same xs M g h w (Some a) (Some b) k =
    (serves_same (position xs) M g h (position xs w) a k.0, ap (λ (z : Copy). z.serial) (h a k.0.0) ∙ k.1)

pub same_stands : SameStands
same_stands xs T D m e S =
    subst (λ (d : Copies). Stands xs (memory_with T d) m) (taken_is T.copies D e)
    (record {
      splits = S.splits;
      kept = kept_same (world_of xs T m S.splits) D.copy e.copy S.kept;
      sound = S.sound;
      made = S.made;
      versions = S.versions;
      working = S.working;
      draft = S.draft;
      linked = S.linked;
      numbered = S.numbered;
      node_limit = S.node_limit;
      change_limit = S.change_limit;
      regs = λ r l. register_same xs T.copies D.copy e.copy T.working (T.regs r) (m.regs r) (S.regs r l);
    })
