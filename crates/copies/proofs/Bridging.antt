-- Rows stay placed under a change, and a copy whose naming fields were redirected is the redirected copy.
use Rattle.std.proofs.Common.{◌≡◌, ℕ, ◌+◌, ◌<◌, ◌≤◌, Option, true, vec_len, sym, ◌∙◌, subst, arith}
use Rattle.std.proofs.lemmas.Bool.{lt-leb}
use Rattle.fields.specs.declared.kinds.Value.{Value}
use Rattle.slices.specs.Splits.{naming}
use Rattle.slices.specs.Partners.{redirected_copy}
use Rattle.chains.specs.Views.{asked}
use Rattle.copy_rows.specs.Rows.{first_of}
use Rattle.copies.specs.declared.table.CopyTable.{CopyTable}
use Rattle.copies.specs.Views.{Placed, RedirectsAll, Changes, row_at, copy_of}
use Rattle.copies.proofs.Owning.{in_rows}

pub changes_placed : (pos : ℕ → ℕ) (n u : ℕ) (behind : Option ℕ) (i f : ℕ) (w : Value) (t t' : CopyTable) → Changes pos n u behind i f w t t' → Placed t → Placed t'
changes_placed pos n u behind i f w t t' C P = record {
  rows = let r = P.rows in let m = C.made in let l = C.long in omega (arith, r, m, l);
  known = λ j l.
      let l' : j < t.chains.made = subst (λ (z : ℕ). j < z) C.made l in
      subst (λ (z : ℕ). (row_at t' j).lo < z) (sym C.versions) (subst (λ (z : ℕ). z < t.chains.versions) (sym (C.marks j (in_rows t j P l')).0) (P.known j l'));
  next = λ j k l e.
      let l' : j < t.chains.made = subst (λ (z : ℕ). j < z) C.made l in
      subst (λ (z : ℕ). k < z) (sym C.made) (P.next j k l' (sym (C.marks j (in_rows t j P l')).1 ∙ e));
}

-- a copy that began before x and serves it
pub redirects_copy : (pos : ℕ → ℕ) (n c d x i : ℕ) (t t' : CopyTable) → RedirectsAll pos n c d x i naming t t'
    → Placed t → asked t.chains n i x ≡ true → t.chains.used + 5 ≤ vec_len t.chains.rows → pos (row_at t i).lo < pos x
    → copy_of t' i ≡ redirected_copy pos naming c d x true (copy_of t i)
redirects_copy pos n c d x i t t' H P a free l =
    let E = (H.here (P, a, free)).0 in
    let r = H.same.rows i in
    rw (lt-leb (pos x) (pos (row_at t i).lo) l)
    (λ z. record { serial = (r z).serial; key = (r z).key; lo = (r z).lo; first = λ g. first_of (r z) g; entries = E z })
