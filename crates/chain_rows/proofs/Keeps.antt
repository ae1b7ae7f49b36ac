-- What a put leaves of the table, whatever the order.
use Rattle.std.proofs.Common.{◌≡◌, ℕ, suc, ◌+◌, ◌-◌, ◌<◌, ◌≤◌, ◌≢◌, List, length, get_or, set, sym, refl, ap, ◌∙◌, subst, inl, inr, arith, length-set}
use Rattle.std.proofs.lemmas.List.{get_or-set_same, get_or-set_other}
use Rattle.std.proofs.lemmas.Bool.{cases_eq}
use Rattle.chain_rows.specs.declared.row.EntryRow.{EntryRow}
use Rattle.chain_rows.specs.Chains.{blank, entry_of, node, Chained, Frame, Drawn, relinked}
use Rattle.chain_rows.proofs.Nodes.{node_next, node_add, node_frame, Inserted, inserted_chained}

next_set : (rows : List EntryRow) (at : ℕ) (new : EntryRow) (j : ℕ) → at < length rows → new.next ≡ (get_or rows at blank).next → (get_or (set rows at new) j blank).next ≡ (get_or rows j blank).next
next_set rows at new j l e =
    elim (cases_eq j at) [
      | inl q ↦ ap (λ (z : ℕ). (get_or (set rows at new) z blank).next) q ∙ (ap (λ (z : EntryRow). z.next) (get_or-set_same rows at new blank l) ∙ (e ∙ ap (λ (z : ℕ). (get_or rows z blank).next) (sym q)))
      | inr q ↦ ap (λ (z : EntryRow). z.next) (get_or-set_other rows at j new blank q)
    ]

version_set : (c : ℕ) (rows : List EntryRow) (at : ℕ) (new : EntryRow) (j : ℕ) → at < length rows → new.version < c → (get_or rows j blank).version < c → (get_or (set rows at new) j blank).version < c
version_set c rows at new j l v h =
    elim (cases_eq j at) [
      | inl q ↦ subst (λ (z : ℕ). (get_or (set rows at new) z blank).version < c) (sym q) (subst (λ (z : EntryRow). z.version < c) (sym (get_or-set_same rows at new blank l)) v)
      | inr q ↦ subst (λ (z : EntryRow). z.version < c) (sym (get_or-set_other rows at j new blank q)) h
    ]

pub nodes_same : (rows : List EntryRow) (at : ℕ) (new : EntryRow) → at < length rows → new.next ≡ (get_or rows at blank).next → (h a : ℕ) → node (set rows at new) h a ≡ node rows h a
nodes_same rows at new l e h a = node_frame rows (set rows at new) h a (λ b _. next_set rows at new (node rows h b) l e)

pub same_chained : (c u : ℕ) (rows : List EntryRow) (h n at : ℕ) (new : EntryRow) → at < length rows → new.next ≡ (get_or rows at blank).next → new.version < c → Chained c u rows h n
    → Chained c u (set rows at new) h n
same_chained c u rows h n at new l e v C =
    let N = nodes_same rows at new l e h in (
      (λ a la. subst (λ (z : ℕ). z < u) (sym (N a)) (C.0 a la)),
      (λ a la. subst (λ (z : ℕ). (get_or (set rows at new) z blank).version < c) (sym (N a)) (version_set c rows at new (node rows h a) l v (C.1 a la))),
      (λ a b la lb q. C.2 a b la lb (sym (N a) ∙ (q ∙ N b))),
    )

pub same_drawn : (u : ℕ) (rows : List EntryRow) (h n at : ℕ) (new : EntryRow) → at < length rows → new.next ≡ (get_or rows at blank).next → Drawn u rows h n (set rows at new) h n
same_drawn u rows h n at new l e a la = inr (a, la, nodes_same rows at new l e h a)

pub same_frame : (u : ℕ) (rows : List EntryRow) (h n k at : ℕ) (new : EntryRow) → k < n → at ≡ node rows h k → Frame u h n rows (set rows at new)
same_frame u rows h n k at new l e j lj off = let ne : j ≢ at = λ q. off k l (sym e ∙ sym q) in get_or-set_other rows at j new blank ne

pub first_inserted : (u : ℕ) (rows : List EntryRow) (h n : ℕ) (new : EntryRow) → u < length rows → new.next ≡ h → ((a : ℕ) → a < n → node rows h a < u) → Inserted u 0 rows h n (set rows u new) u
first_inserted u rows h n new l e i = record {
  place = omega arith;
  front = λ a q. absurd (omega (arith, q));
  here = refl;
  rear = λ a _ la.
      ap (λ (z : EntryRow). node (set rows u new) z.next a) (get_or-set_same rows u new blank l)
      ∙ (ap (λ (z : ℕ). node (set rows u new) z a) e
      ∙ node_frame rows (set rows u new) h a (λ b lb. let q = i b (omega (arith, lb, la)) in ap (λ (z : EntryRow). z.next) (get_or-set_other rows u (node rows h b) new blank (λ z. omega (arith, z, q)))));
}

pub first_frame : (u : ℕ) (rows : List EntryRow) (h n : ℕ) (new : EntryRow) → Frame u h n rows (set rows u new)
first_frame u rows h n new j lj off = let ne : j ≢ u = λ q. omega (arith, q, lj) in get_or-set_other rows u j new blank ne

-- a row u, linked behind the first suc k rows
module _ (c u k : ℕ) (rows : List EntryRow) (h n : ℕ) (new last : EntryRow) (C : Chained c u rows h n) (lk : suc k ≤ n) (lu : u < length rows)
    (nx : new.next ≡ node rows h (suc k)) (is : last ≡ get_or (set rows u new) (node rows h k) blank) where
  R : List EntryRow
  R = set (set rows u new) (node rows h k) (relinked last u)

  pu : node rows h k < u
  pu = C.0 k (omega (arith, lk))

  long : length (set rows u new) ≡ length rows
  long = length-set rows u new

  pl : node rows h k < length (set rows u new)
  pl = let a = pu in let b = long in omega (arith, a, b, lu)

  -- rows other than those two stay
  stay : (j : ℕ) → (j ≡ u → ⊥) → (j ≡ node rows h k → ⊥) → get_or (set (set rows u new) (node rows h k) (relinked last u)) j blank ≡ get_or rows j blank
  stay j a b = get_or-set_other (set rows u new) (node rows h k) j (relinked last u) blank b ∙ get_or-set_other rows u j new blank a

  at_prev : get_or (set (set rows u new) (node rows h k) (relinked last u)) (node rows h k) blank ≡ relinked last u
  at_prev = get_or-set_same (set rows u new) (node rows h k) (relinked last u) blank pl

  at_new : get_or (set (set rows u new) (node rows h k) (relinked last u)) u blank ≡ new
  at_new =
      let p = pu in
      get_or-set_other (set rows u new) (node rows h k) u (relinked last u) blank (λ e. omega (arith, e, p)) ∙ get_or-set_same rows u new blank lu

  last_version : last.version ≡ (get_or rows (node rows h k) blank).version
  last_version =
      let p = pu in
      ap (λ (z : EntryRow). z.version) (is ∙ get_or-set_other rows u (node rows h k) new blank (λ e. omega (arith, e, p)))

  front : (a : ℕ) → a < suc k → node (set (set rows u new) (node rows h k) (relinked last u)) h a ≡ node rows h a
  front a la = node_frame rows (set (set rows u new) (node rows h k) (relinked last u)) h a
      (λ b lb.
      let q = C.0 b (omega (arith, lb, la, lk)) in
      ap (λ (z : EntryRow). z.next) (stay (node rows h b) (λ e. omega (arith, e, q))
      (λ e. let w = C.2 b k (omega (arith, lb, la, lk)) (omega (arith, lk)) e in omega (arith, w, lb, la))))

  mid : node (set (set rows u new) (node rows h k) (relinked last u)) h (suc k) ≡ u
  mid =
      node_next (set (set rows u new) (node rows h k) (relinked last u)) h k
      ∙ (ap (λ (z : ℕ). (get_or (set (set rows u new) (node rows h k) (relinked last u)) z blank).next) (front k (omega arith))
      ∙ ap (λ (z : EntryRow). z.next) at_prev)

  behind : node (set (set rows u new) (node rows h k) (relinked last u)) h (suc (suc k)) ≡ node rows h (suc k)
  behind =
      node_next (set (set rows u new) (node rows h k) (relinked last u)) h (suc k)
      ∙ (ap (λ (z : ℕ). (get_or (set (set rows u new) (node rows h k) (relinked last u)) z blank).next) mid
      ∙ (ap (λ (z : EntryRow). z.next) at_new ∙ nx))

  rear : (b : ℕ) → suc k + b < n → node (set (set rows u new) (node rows h k) (relinked last u)) h (suc (suc k) + b) ≡ node rows h (suc k + b)
  rear b lb =
      node_add (set (set rows u new) (node rows h k) (relinked last u)) h (suc (suc k)) b
      ∙ (ap (λ (z : ℕ). node (set (set rows u new) (node rows h k) (relinked last u)) z b) behind
      ∙ (node_frame rows (set (set rows u new) (node rows h k) (relinked last u)) (node rows h (suc k)) b
      (λ d ld.
      let e' : node rows (node rows h (suc k)) d ≡ node rows h (suc k + d) = sym (node_add rows h (suc k) d) in
      let q = C.0 (suc k + d) (omega (arith, ld, lb)) in
      ap (λ (z : EntryRow). z.next) (stay (node rows (node rows h (suc k)) d) (λ e. omega (arith, e, e', q))
      (λ e. let w = C.2 (suc k + d) k (omega (arith, ld, lb)) (omega (arith, lk)) (sym e' ∙ e) in omega (arith, w))))
      ∙ sym (node_add rows h (suc k) b)))

  pub behind_inserted : Inserted u (suc k) rows h n (set (set rows u new) (node rows h k) (relinked last u)) h
  behind_inserted = record {
    place = lk;
    front = front;
    here = mid;
    rear = λ a ka la.
        let e : a ≡ suc k + (a - suc k) = omega (arith, ka) in
        let e2 : suc a ≡ suc (suc k) + (a - suc k) = omega (arith, ka) in
        ap (node (set (set rows u new) (node rows h k) (relinked last u)) h) e2 ∙ (rear (a - suc k) (omega (arith, e, la)) ∙ ap (node rows h) (sym e));
  }

  pub behind_new : get_or (set (set rows u new) (node rows h k) (relinked last u)) u blank ≡ new
  behind_new = at_new

  -- the rows of the chain keep their entries
  pub behind_entries : (a : ℕ) → a < n → entry_of (get_or (set (set rows u new) (node rows h k) (relinked last u)) (node rows h a) blank) ≡ entry_of (get_or rows (node rows h a) blank)
  behind_entries a la =
      let q = C.0 a la in
      let p = pu in
      elim (cases_eq a k) [
        | inl e ↦ subst (λ (z : ℕ). entry_of (get_or (set (set rows u new) (node rows h k) (relinked last u)) (node rows h z) blank) ≡ entry_of (get_or rows (node rows h z) blank)) (sym e)
            (ap entry_of at_prev ∙ ap entry_of (is ∙ get_or-set_other rows u (node rows h k) new blank (λ z. omega (arith, z, p))))
        | inr e ↦ ap entry_of (stay (node rows h a) (λ z. omega (arith, z, q)) (λ z. e (C.2 a k la (omega (arith, lk)) z)))
      ]

  pub behind_frame : Frame u h n rows (set (set rows u new) (node rows h k) (relinked last u))
  behind_frame j lj off = stay j (λ e. omega (arith, e, lj)) (λ e. off k (omega (arith, lk)) (sym e))

  pub behind_chained : new.version < c → Chained c (u + 1) (set (set rows u new) (node rows h k) (relinked last u)) h (n + 1)
  behind_chained v =
      inserted_chained c u (suc k) rows h n (set (set rows u new) (node rows h k) (relinked last u)) h behind_inserted C
      (λ j lj. elim (cases_eq j (node rows h k)) [
        | inl e ↦ ap (λ (z : ℕ). (get_or (set (set rows u new) (node rows h k) (relinked last u)) z blank).version) e
            ∙ (ap (λ (z : EntryRow). z.version) at_prev ∙ (last_version ∙ ap (λ (z : ℕ). (get_or rows z blank).version) (sym e)))
        | inr e ↦ ap (λ (z : EntryRow). z.version) (stay j (λ q. omega (arith, q, lj)) e)
      ])
      (subst (λ (z : EntryRow). z.version < c) (sym at_new) v)

pub first_chained : (c u : ℕ) (rows : List EntryRow) (h n : ℕ) (new : EntryRow) → u < length rows → new.next ≡ h → new.version < c → Chained c u rows h n
    → Chained c (u + 1) (set rows u new) u (n + 1)
first_chained c u rows h n new l e v C =
    inserted_chained c u 0 rows h n (set rows u new) u (first_inserted u rows h n new l e C.0) C
    (λ j lj. ap (λ (z : EntryRow). z.version) (get_or-set_other rows u j new blank (λ q. omega (arith, q, lj))))
    (subst (λ (z : EntryRow). z.version < c) (sym (get_or-set_same rows u new blank l)) v)
