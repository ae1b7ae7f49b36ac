-- A change of one field of a copy: only its version sees it.
use Rattle.std.proofs.Common.{◌≡◌, ℕ, suc, ◌<◌, ◌≤◌, Bool, true, false, cond, eqb, List, sym, refl, ap, ◌∙◌, subst, inl, inr, le_refl, arith}
use Rattle.std.proofs.lemmas.Bool.{cases_lt, cases_eq, eq-eqb, ne_eqb}
use Rattle.fields.specs.declared.kinds.Value.{Value}
use Rattle.entries.specs.Entries.{Entry, read, AllFrom, Sorted, Single, entries_behind, keep, has}
use Rattle.entries.proofs.Parting.{read_late, behind_all, read_behind}
use Rattle.entries.proofs.Writing.{put_before, put_other, put_behind, sorted_put, single_put, from_put, sorted_keep, single_keep, from_keep, has_keep, keep_other, keep_reads, has_forgets, has_behind, read_at}
use Rattle.slices.specs.Copies.{value_at}
use Rattle.slices.specs.Changes.{ChangedReads}

record Kept (pos : ℕ → ℕ) (f u s lo : ℕ) (more : Bool) (a : Value) (es K : List (Entry Value)) : Type 0 where
  sorted : Sorted pos K
  once : Single pos K
  late : AllFrom pos (suc lo) K
  reads : (p : ℕ) → read pos f p a K ≡ read pos f p a es
  others : (p g : ℕ) (b : Value) → (f ≡ g → ⊥) → read pos g p b K ≡ read pos g p b es
  has_it : more ≡ true → has pos f (pos s) K ≡ true

kept_all : (pos : ℕ → ℕ) (f u s lo : ℕ) (more : Bool) (a : Value) (es : List (Entry Value)) → Sorted pos es → Single pos es → AllFrom pos (suc lo) es → (more ≡ true → pos s ≡ suc (pos u)) → lo ≤ pos u
    → Kept pos f u s lo more a es (cond more (keep pos f s (read pos f (pos u) a es) es) es)
kept_all pos f u s lo true a es so d l n h = record {
  sorted = sorted_keep pos f s _ es so;
  once = single_keep pos f s _ es so d;
  late = from_keep pos f s (suc lo) _ es (let e = n refl in omega (arith, e, h)) l;
  reads = λ p. keep_reads pos f u s p a es so d (n refl);
  others = λ p g b ne. keep_other pos f g s p _ b es ne;
  has_it = λ _. has_keep pos f s _ es;
}
kept_all pos f u s lo false a es so d l n h = record {
  sorted = so;
  once = d;
  late = l;
  reads = λ p. refl;
  others = λ p g b ne. refl;
  has_it = λ e. absurd (let z : ◌≡◌ {A = ℕ} 0 1 = cc in omega arith);
}

-- past the next version the value at u does not tell
past : (pos : ℕ → ℕ) (f u s lo p : ℕ) (more : Bool) (a w : Value) (es K : List (Entry Value)) → Kept pos f u s lo more a es K → (more ≡ true → pos s ≡ suc (pos u))
    → pos u < p → (more ≡ false → p < suc (pos u)) → read pos f p w (entries_behind pos (pos u) K) ≡ read pos f p a es
past pos f u s lo p true a w es K k n' h m =
    let n = n' refl in
    let t : has pos f (pos s) (entries_behind pos (pos u) K) ≡ true = has_behind pos f (pos s) (pos u) K (omega (arith, n)) ∙ k.has_it refl in
    has_forgets pos f (pos s) p w (read pos f (pos u) a K) (entries_behind pos (pos u) K) t (omega (arith, n, h))
    ∙ (read_behind pos f (pos u) p a K k.sorted (omega (arith, h)) ∙ k.reads p)
past pos f u s lo p false a w es K k n h m = absurd (let z = m refl in omega (arith, z, n, h))

pub changed_reads : ChangedReads
changed_reads pos k u s f more w ok h n =
    let K = kept_all pos f u s (pos k.lo) more (k.first f) k.entries ok.sorted ok.once ok.late n h in
    elim (cases_eq (pos u) (pos k.lo)) [
      | inl e ↦
          let t = eq-eqb (pos u) (pos k.lo) e in
          let t' = eq-eqb f f refl in
          let late' : AllFrom pos (suc (pos u)) (cond more (keep pos f s (value_at pos (pos u) k f) k.entries) k.entries) = subst (λ (z : ℕ). AllFrom pos (suc z) (cond more (keep pos f s (value_at pos (pos u) k f) k.entries) k.entries)) (sym e) K.late in
          rw t
          (rw t' (
            record { sorted = K.sorted; once = K.once; late = K.late },
            read_late pos f (pos u) w _ late',
            (λ p lo ne m.
                let lt : pos u < p = omega (arith, lo, e, ne) in
                sym (ap (read pos f p w) (behind_all pos (pos u) _ late')) ∙ past pos f u s (pos k.lo) p more (k.first f) w k.entries _ K n lt m),
            (λ p g ne. let q : eqb g f ≡ false = ne_eqb g f (λ z. ne (sym z)) in rw q (K.others p g (k.first g) ne)),
          ))
      | inr ne ↦
          let t = ne_eqb (pos u) (pos k.lo) ne in
          let up : suc (pos k.lo) ≤ pos u = omega (arith, h, ne) in
          rw t (
            record { sorted = sorted_put pos f u w _ K.sorted; once = single_put pos f u w _ K.sorted K.once; late = from_put pos f u (suc (pos k.lo)) w _ up K.late },
            (put_behind pos f u (pos u) w (k.first f) _ K.sorted K.once (le_refl (pos u)) ∙ read_at pos f (pos u) w _),
            (λ p lo ne' m.
                elim (cases_lt p (pos u)) [
                  | inl l ↦ put_before pos f f u p w (k.first f) _ l K.once ∙ K.reads p
                  | inr l ↦
                      put_behind pos f u p w (k.first f) _ K.sorted K.once l
                      ∙ past pos f u s (pos k.lo) p more (k.first f) w k.entries _ K n (omega (arith, l, ne')) m
                ]),
            (λ p g ne'. put_other pos f g u p w (k.first g) _ ne' ∙ K.others p g (k.first g) ne'),
          )
    ]
