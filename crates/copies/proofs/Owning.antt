-- What the next copy's row tells of the versions that a copy serves.
use Rattle.std.proofs.Common.{◌≡◌, ℕ, ◌<◌, ◌≤◌, Bool, true, ltb, List, length, Some, None, vec_len, Option, refl, sym, ap, subst, arith}
use Rattle.std.specs.Option.{MatchOption}
use Rattle.std.specs.Bool.{IsTrue}
use Rattle.order.specs.Items.{position}
use Rattle.slices.specs.Threads.{owns}
use Rattle.chains.specs.Views.{asked}
use Rattle.chains.proofs.Asked.{is_asked}
use Rattle.copy_rows.specs.declared.row.CopyRow.{CopyRow}
use Rattle.copies.specs.declared.table.CopyTable.{CopyTable}
use Rattle.copies.specs.Views.{Placed, row_at, next_of, copies_of}

-- a copy that is there has a row
pub in_rows : (t : CopyTable) (i : ℕ) → Placed t → i < t.chains.made → i ≤ vec_len t.copies
in_rows t i P l = let r = P.rows in omega (arith, l, r)

-- by the next copy, if there is one
by_next : (xs : List ℕ) (t : CopyTable) (v : ℕ) (b : Bool) (Q : ℕ → Type 0) (o : Option ℕ) → MatchOption o (IsTrue b) Q
    → ((n : ℕ) → o ≡ Some n → Q n → b ≡ ltb (position xs v) (position xs (row_at t n).lo)) → b ≡ owns (position xs) (copies_of t) (position xs v) o
by_next xs t v b Q None m told = m
by_next xs t v b Q (Some n) m told = told n refl m

pub owned : (xs : List ℕ) (t : CopyTable) (i v : ℕ) (row : CopyRow) (b : Bool) (Q : ℕ → Type 0) → Placed t → asked t.chains (length xs) i v ≡ true
    → (i ≤ vec_len t.copies → row ≡ row_at t i) → MatchOption row.next (IsTrue b) Q
    → ((n : ℕ) → n ≤ vec_len t.copies → v < length xs → (row_at t n).lo < length xs → Q n → b ≡ ltb (position xs v) (position xs (row_at t n).lo))
    → b ≡ owns (position xs) (copies_of t) (position xs v) (next_of t i)
owned xs t i v row b Q P a row_is found told =
    let A = is_asked t.chains (length xs) i v (sym a) in
    let e = ap (λ (r : CopyRow). r.next) (row_is (in_rows t i P A.there)) in
    by_next xs t v b Q (next_of t i) (subst (λ (o : Option ℕ). MatchOption o (IsTrue b) Q) e found)
    (λ n is q.
    let ln = P.next i n A.there is in
    told n (in_rows t n P ln) (subst (λ (z : ℕ). v < z) A.same A.version) (subst (λ (z : ℕ). (row_at t n).lo < z) A.same (P.known n ln)) q)
