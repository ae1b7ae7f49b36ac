-- What a chain spells, by its nodes: where a row comes in, and where one is another.
use Rattle.std.proofs.Common.{◌≡◌, ℕ, zero, suc, ◌+◌, ◌-◌, ◌<◌, List, ◌∷◌, ◌++◌, length, get_or, set, sym, refl, ap, ◌∙◌, arith}
use Rattle.std.proofs.lemmas.List.{get_or-set_same, get_or-set_other}
use Rattle.chain_rows.specs.declared.row.EntryRow.{EntryRow}
use Rattle.fields.specs.declared.kinds.Value.{Value}
use Rattle.entries.specs.Entries.{Entry}
use Rattle.chain_rows.specs.Chains.{blank, entry_of, chain, node, Once}
use Rattle.chain_rows.proofs.Nodes.{node_add, node_next, Inserted}
use Rattle.chain_rows.proofs.Keeps.{nodes_same}

chain_same : (rows rows' : List EntryRow) (h h' n : ℕ)
    → ((a : ℕ) → a < n → entry_of (get_or rows' (node rows' h' a) blank) ≡ entry_of (get_or rows (node rows h a) blank)) → chain rows' h' n ≡ chain rows h n
chain_same rows rows' h h' zero s = refl
chain_same rows rows' h h' (suc n) s =
    ap (λ (e : Entry Value). e ∷ chain rows' (get_or rows' h' blank).next n) (s 0 (omega arith))
    ∙ ap (λ (es : List (Entry Value)). entry_of (get_or rows h blank) ∷ es)
    (chain_same rows rows' (get_or rows h blank).next (get_or rows' h' blank).next n (λ a l. s (suc a) (omega (arith, l))))

chain_split : (rows : List EntryRow) (h k m : ℕ) → chain rows h (k + m) ≡ chain rows h k ++ chain rows (node rows h k) m
chain_split rows h zero m = ap (chain rows h) (let z : zero + m ≡ m = omega arith in z)
chain_split rows h (suc k) m =
    ap (chain rows h) (let z : suc k + m ≡ suc (k + m) = omega arith in z)
    ∙ ap (λ (es : List (Entry Value)). entry_of (get_or rows h blank) ∷ es) (chain_split rows (get_or rows h blank).next k m)

-- the row u comes in behind the first k rows, which keep their entries
pub inserted_spells : (u k : ℕ) (rows : List EntryRow) (h n : ℕ) (rows' : List EntryRow) (h' : ℕ) → Inserted u k rows h n rows' h'
    → ((a : ℕ) → a < n → entry_of (get_or rows' (node rows h a) blank) ≡ entry_of (get_or rows (node rows h a) blank))
    → chain rows' h' (n + 1) ≡ chain rows h k ++ (entry_of (get_or rows' u blank) ∷ chain rows (node rows h k) (n - k))
inserted_spells u k rows h n rows' h' I same =
    let p = I.place in
    let e : n + 1 ≡ k + suc (n - k) = omega (arith, p) in
    let front : chain rows' h' k ≡ chain rows h k =
    chain_same rows rows' h h' k (λ a l. ap (λ (z : ℕ). entry_of (get_or rows' z blank)) (I.front a l) ∙ same a (omega (arith, l, p))) in
    let next : (a : ℕ) → a < n - k → node rows' (get_or rows' u blank).next a ≡ node rows h (k + a) = λ a l.
    ap (λ (z : ℕ). node rows' (get_or rows' z blank).next a) (sym I.here)
    ∙ (ap (λ (z : ℕ). node rows' z a) (sym (node_next rows' h' k))
    ∙ (sym (node_add rows' h' (suc k) a)
    ∙ (ap (node rows' h') (let z : suc k + a ≡ suc (k + a) = omega arith in z) ∙ I.rear (k + a) (omega arith) (omega (arith, l))))) in
    let rear : chain rows' (get_or rows' u blank).next (n - k) ≡ chain rows (node rows h k) (n - k) =
    chain_same rows rows' (node rows h k) (get_or rows' u blank).next (n - k)
    (λ a l. ap (λ (z : ℕ). entry_of (get_or rows' z blank)) (next a l)
    ∙ (same (k + a) (omega (arith, l)) ∙ ap (λ (z : ℕ). entry_of (get_or rows z blank)) (node_add rows h k a))) in
    ap (chain rows' h') e
    ∙ (chain_split rows' h' k (suc (n - k))
    ∙ (ap (λ (es : List (Entry Value)). es ++ chain rows' (node rows' h' k) (suc (n - k))) front
    ∙ ap (λ (es : List (Entry Value)). chain rows h k ++ es)
    (ap (λ (z : ℕ). chain rows' z (suc (n - k))) I.here ∙ ap (λ (es : List (Entry Value)). entry_of (get_or rows' u blank) ∷ es) rear)))

-- the row behind the first k gives way to the row new, which goes on as it did
pub replaced_spells : (rows : List EntryRow) (h k m at : ℕ) (new : EntryRow) → Once rows h (k + suc m) → at ≡ node rows h k → at < length rows → new.next ≡ (get_or rows at blank).next
    → chain (set rows at new) h (k + suc m) ≡ chain rows h k ++ (entry_of new ∷ chain rows (get_or rows at blank).next m)
replaced_spells rows h k m at new o is l e =
    let R = set rows at new in
    let nodes = nodes_same rows at new l e in
    let other : (j : ℕ) → (j ≡ at → ⊥) → get_or (set rows at new) j blank ≡ get_or rows j blank = λ j n. get_or-set_other rows at j new blank n in
    let front : chain (set rows at new) h k ≡ chain rows h k =
    chain_same rows R h h k (λ a la. ap (λ (z : ℕ). entry_of (get_or (set rows at new) z blank)) (nodes h a)
    ∙ ap entry_of (other (node rows h a) (λ z. let q = o a k (omega (arith, la)) (omega arith) (z ∙ is) in omega (arith, q, la)))) in
    let behind : (a : ℕ) → node rows (get_or rows at blank).next a ≡ node rows h (suc k + a) = λ a.
    ap (λ (z : ℕ). node rows (get_or rows z blank).next a) is ∙ (ap (λ (z : ℕ). node rows z a) (sym (node_next rows h k)) ∙ sym (node_add rows h (suc k) a)) in
    let rear : chain (set rows at new) (get_or rows at blank).next m ≡ chain rows (get_or rows at blank).next m =
    chain_same rows R (get_or rows at blank).next (get_or rows at blank).next m
    (λ a la. ap (λ (z : ℕ). entry_of (get_or (set rows at new) z blank)) (nodes (get_or rows at blank).next a)
    ∙ ap entry_of (other (node rows (get_or rows at blank).next a)
    (λ z. let q = o (suc k + a) k (omega (arith, la)) (omega arith) (sym (behind a) ∙ (z ∙ is)) in omega (arith, q)))) in
    let here : get_or (set rows at new) at blank ≡ new = get_or-set_same rows at new blank l in
    chain_split (set rows at new) h k (suc m)
    ∙ (ap (λ (es : List (Entry Value)). es ++ chain (set rows at new) (node (set rows at new) h k) (suc m)) front
    ∙ ap (λ (es : List (Entry Value)). chain rows h k ++ es)
    (ap (λ (z : ℕ). chain (set rows at new) z (suc m)) (nodes h k ∙ sym is)
    ∙ (ap (λ (z : EntryRow). entry_of z ∷ chain (set rows at new) z.next m) here
    ∙ ap (λ (es : List (Entry Value)). entry_of new ∷ es) (ap (λ (z : ℕ). chain (set rows at new) z m) e ∙ rear))))
