-- A put into one chain keeps the table sound.
use Rattle.std.proofs.Common.{◌≡◌, ℕ, ◌+◌, ◌-◌, ◌<◌, ◌≤◌, List, length, get_or, set, sym, ap, ◌∙◌, subst, inl, inr, arith}
use Rattle.std.proofs.lemmas.List.{get_or-set_same, get_or-set_other}
use Rattle.std.proofs.lemmas.Bool.{cases_eq}
use Rattle.chain_rows.specs.declared.row.EntryRow.{EntryRow}
use Rattle.fields.specs.declared.kinds.Value.{Value}
use Rattle.chain_rows.specs.Chains.{blank, chain, node, Chained, Grows}
use Rattle.chain_rows.proofs.Nodes.{node_frame, chain_frame}
use Rattle.chain_rows.proofs.Puts.{chain_length}
use Rattle.entries.specs.Entries.{Entry}
use Rattle.chain_rows.specs.declared.row.Chain.{Chain}
use Rattle.chain_rows.specs.Sound.{Sound, chain_at, no_chain}

-- rows of another chain stay
pub record Clear (u : ℕ) (rows rows' : List EntryRow) (h n : ℕ) : Type 0 where
  pub stay : (a : ℕ) → a < n → get_or rows' (node rows h a) blank ≡ get_or rows (node rows h a) blank
  pub nodes : (a : ℕ) → a < n → node rows' h a ≡ node rows h a

pub clear : (u : ℕ) (rows rows' : List EntryRow) (h n : ℕ) → ((a : ℕ) → a < n → get_or rows' (node rows h a) blank ≡ get_or rows (node rows h a) blank) → Clear u rows rows' h n
clear u rows rows' h n s = record { stay = s; nodes = λ a l. node_frame rows rows' h a (λ b lb. ap (λ (z : EntryRow). z.next) (s b (omega (arith, lb, l)))) }

clear_chained : (k u u' : ℕ) (rows rows' : List EntryRow) (h n : ℕ) → u ≤ u' → Clear u rows rows' h n → Chained k u rows h n → Chained k u' rows' h n
clear_chained k u u' rows rows' h n l K C = (
  (λ a la. let q = C.0 a la in let e = K.nodes a la in omega (arith, q, e, l)),
  (λ a la. subst (λ (z : ℕ). (get_or rows' z blank).version < k) (sym (K.nodes a la)) (subst (λ (z : EntryRow). z.version < k) (sym (K.stay a la)) (C.1 a la))),
  (λ a b la lb e. C.2 a b la lb (sym (K.nodes a la) ∙ (e ∙ K.nodes b lb))),
)

module _ (cs : List Chain) (rows rows' : List EntryRow) (made used k i : ℕ) (row : Chain) (S : Sound cs rows made used k) (li : i < made) (lc : made ≤ length cs)
    (G : Grows k used rows rows' (chain_at cs i) row) where
  sz : row.len ≤ used + (row.len - (chain_at cs i).len)
  sz = let q = S.2 i li in omega (arith, q)

  mine : chain_at (set cs i row) i ≡ row
  mine = get_or-set_same cs i row no_chain (omega (arith, li, lc))

  other : (j : ℕ) → (j ≡ i → ⊥) → chain_at (set cs i row) j ≡ chain_at cs j
  other j n = get_or-set_other cs i j row no_chain n

  clears : (j : ℕ) → j < made → (j ≡ i → ⊥) → Clear used rows rows' (chain_at cs j).head (chain_at cs j).len
  clears j lj n = clear used rows rows' (chain_at cs j).head (chain_at cs j).len
      (λ a la. G.frame (node rows (chain_at cs j).head a) ((S.0 j lj).0 a la) (λ b lb e. n (sym (S.1 i j b a li lj lb la e))))

  pub put_other : (j : ℕ) → j < made → (j ≡ i → ⊥)
      → chain rows' (chain_at (set cs i row) j).head (chain_at (set cs i row) j).len ≡ chain rows (chain_at cs j).head (chain_at cs j).len
  put_other j lj n =
      ap (λ (z : Chain). chain rows' z.head z.len) (other j n)
      ∙ chain_frame rows rows' (chain_at cs j).head (chain_at cs j).len (clears j lj n).stay

  meet : (j a b : ℕ) → j < made → (j ≡ i → ⊥) → a < row.len → b < (chain_at cs j).len → node rows' row.head a ≡ node rows' (chain_at cs j).head b → ⊥
  meet j a b lj n la lb e =
      let e' : node rows' row.head a ≡ node rows (chain_at cs j).head b = e ∙ (clears j lj n).nodes b lb in
      let lt = (S.0 j lj).0 b lb in
      elim (G.drawn a la) [
        | inl q ↦ omega (arith, q, e', lt)
        | inr d ↦ n (sym (S.1 i j d.0 b li lj d.1 lb (sym d.2 ∙ e')))
      ]

  pub put_sound : Sound (set cs i row) rows' made (used + (row.len - (chain_at cs i).len)) k
  put_sound = (
    (λ j lj. elim (cases_eq j i) [
      | inl e ↦ subst (λ (z : ℕ). Chained k (used + (row.len - (chain_at cs i).len)) rows' (chain_at (set cs i row) z).head (chain_at (set cs i row) z).len) (sym e)
          (subst (λ (z : Chain). Chained k (used + (row.len - (chain_at cs i).len)) rows' z.head z.len) (sym mine) G.kept)
      | inr n ↦ subst (λ (z : Chain). Chained k (used + (row.len - (chain_at cs i).len)) rows' z.head z.len) (sym (other j n))
          (clear_chained k used (used + (row.len - (chain_at cs i).len)) rows rows' _ _ (omega arith) (clears j lj n) (S.0 j lj))
    ]),
    (λ p q a b lp lq la lb e. elim (cases_eq p i) [
      | inl ep ↦ elim (cases_eq q i) [
        | inl eq ↦ ep ∙ sym eq
        | inr nq ↦ absurd (meet q a b lq nq
            (subst (λ (z : Chain). a < z.len) (ap (chain_at (set cs i row)) ep ∙ mine) la)
            (subst (λ (z : Chain). b < z.len) (other q nq) lb)
            (ap (λ (z : Chain). node rows' z.head a) (sym (ap (chain_at (set cs i row)) ep ∙ mine)) ∙ (e ∙ ap (λ (z : Chain). node rows' z.head b) (other q nq))))
      ]
      | inr np ↦ elim (cases_eq q i) [
        | inl eq ↦ absurd (meet p b a lp np
            (subst (λ (z : Chain). b < z.len) (ap (chain_at (set cs i row)) eq ∙ mine) lb)
            (subst (λ (z : Chain). a < z.len) (other p np) la)
            (ap (λ (z : Chain). node rows' z.head b) (sym (ap (chain_at (set cs i row)) eq ∙ mine)) ∙ (sym e ∙ ap (λ (z : Chain). node rows' z.head a) (other p np))))
        | inr nq ↦
            let la' : a < (chain_at cs p).len = subst (λ (z : Chain). a < z.len) (other p np) la in
            let lb' : b < (chain_at cs q).len = subst (λ (z : Chain). b < z.len) (other q nq) lb in
            S.1 p q a b lp lq la' lb'
            (sym ((clears p lp np).nodes a la') ∙ (ap (λ (z : Chain). node rows' z.head a) (sym (other p np))
            ∙ (e ∙ (ap (λ (z : Chain). node rows' z.head b) (other q nq) ∙ (clears q lq nq).nodes b lb'))))
      ]
    ]),
    (λ j lj. elim (cases_eq j i) [
      | inl e ↦ subst (λ (z : Chain). z.len ≤ used + (row.len - (chain_at cs i).len)) (sym (ap (chain_at (set cs i row)) e ∙ mine)) sz
      | inr n ↦ subst (λ (z : Chain). z.len ≤ used + (row.len - (chain_at cs i).len)) (sym (other j n)) (let q = S.2 j lj in omega (arith, q))
    ]),
  )

-- the chain i after a put, from what the walk promised of its row
pub put_here : (F : List (Entry Value) → List (Entry Value)) (cs : List Chain) (rows rows' : List EntryRow) (i used L : ℕ) (row new : Chain) → i < length cs
    → row ≡ chain_at cs i → row.len ≤ new.len
    → (used + (length (F (chain rows row.head row.len)) - row.len) ≤ L → chain rows' new.head new.len ≡ F (chain rows row.head row.len))
    → used + (length (F (chain rows (chain_at cs i).head (chain_at cs i).len)) - length (chain rows (chain_at cs i).head (chain_at cs i).len)) ≤ L
    → (chain rows' (chain_at (set cs i new) i).head (chain_at (set cs i new) i).len ≡ F (chain rows (chain_at cs i).head (chain_at cs i).len))
    × (used + (new.len - row.len) + length (chain rows (chain_at cs i).head (chain_at cs i).len) ≡ used + length (F (chain rows (chain_at cs i).head (chain_at cs i).len)))
put_here F cs rows rows' i used L row new li e lg puts =
    subst
    (λ (r : Chain).
    used + (length (F (chain rows r.head r.len)) - length (chain rows r.head r.len)) ≤ L
    → (chain rows' (chain_at (set cs i new) i).head (chain_at (set cs i new) i).len ≡ F (chain rows r.head r.len))
    × (used + (new.len - row.len) + length (chain rows r.head r.len) ≡ used + length (F (chain rows r.head r.len))))
    e
    (λ h.
    let a = chain_length rows row.head row.len in
    let p = puts (omega (arith, h, a)) in
    let s : chain_at (set cs i new) i ≡ new = get_or-set_same cs i new no_chain li in
    let b = ap (λ (es : List (Entry Value)). length es) p in
    let c = chain_length rows' new.head new.len in
    (ap (λ (z : Chain). chain rows' z.head z.len) s ∙ p, omega (arith, a, b, c, lg)))
