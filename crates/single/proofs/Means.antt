-- What the calls leave means what the steps come to.
use Rattle.std.proofs.Common.{◌≡◌, ℕ, suc, ◌+◌, ◌-◌, ◌<◌, ◌≤◌, Bool, true, false, cond, leb, List, length, get_or, set, Some, None, vec_items, Option, sym, refl, ap, ◌∙◌, subst, arith}
use Rattle.std.proofs.lemmas.Bool.Decides.{nat_tests}
use Rattle.memory.specs.Memory.{Node, Memory, changed, put, hits, with_link, with_number, new_node, renamed, names_of}
use Rattle.memory.specs.Steps.{Kind, of_link, of_number, written}
use Rattle.memory.specs.Effects.{Holds, Free}
use Rattle.memory.proofs.Numbers.{put_other, lt_from, le_true, eq_true, some_same, hits_none}
use Rattle.single.specs.declared.node.Node.{Node as Row}
use Rattle.single.specs.declared.store.SingleMemory.{SingleMemory}
use Rattle.single.specs.Rows.{below, all_below, new_row, row_linked, row_valued, row_marked, row_named, blank, raised, lowered, crowds}
use Rattle.single.specs.Single.{SameNode, RowsMean, SingleMeans, Changed}
use Rattle.single.specs.Making.{make_refusal}
use Rattle.single.proofs.Table.{all_at, all_none, none_at, more, ref_low, at_set, array_set, renamed_at, Fine, fine_more}

-- the table of a memory is fine
pub fine : (s : SingleMemory) → Fine s.made (vec_items s.rows)
fine s = record { linked = s.linked; two = s.two; named = s.named }

-- the table has a row for every node made
pub table_long : (s : SingleMemory) → s.made ≤ length (vec_items s.rows)
table_long s = let a = s.rows.ok.0 in let b = s.few in let d = s.roomy in omega arith

pub reg_below : (s : SingleMemory) (reg : ℕ) → below s.made (get_or s.regs reg None) ≡ true
reg_below s reg = all_at s.made s.regs s.held reg

pub root_below : (s : SingleMemory) (root : ℕ) → below s.made (get_or s.roots root None) ≡ true
root_below s root = all_at s.made s.roots s.rooted root

-- A register that holds a node.

pub held_low : (s : SingleMemory) (reg k : ℕ) → get_or s.regs reg None ≡ Some k → k < s.made
held_low s reg k e = ref_low s.made (get_or s.regs reg None) k (reg_below s reg) e

pub holds : (s : SingleMemory) (m : Memory) (reg k : ℕ) (r : Row) → SingleMeans s m → r ≡ get_or (vec_items s.rows) k r → reg < 40 → get_or s.regs reg None ≡ Some k → (n : Node) × Holds m reg k n × SameNode n r
holds s m reg k r M f l e =
    let N = M.rows.node k r (held_low s reg k e) in
    (N.0, record { low = l; names = M.regs reg l ∙ e; node = N.1 }, subst (SameNode N.0) (sym f) N.2)

-- the row k is that of the node k
pub same_row : (s : SingleMemory) (m : Memory) (k : ℕ) (r : Row) (n : Node) → SingleMeans s m → r ≡ get_or (vec_items s.rows) k r → k < s.made → m.state.nodes k ≡ Some n → SameNode n r
same_row s m k r n M f l e = let N = M.rows.node k r l in subst (λ y. SameNode y r) (some_same (sym N.1 ∙ e)) (subst (SameNode N.0) (sym f) N.2)

pub row_below : (s : SingleMemory) (k : ℕ) (r : Row) → r ≡ get_or (vec_items s.rows) k r → k < s.made → all_below s.made r.links ≡ true
row_below s k r e l = subst (λ (y : Row). all_below s.made y.links ≡ true) (sym e) (s.linked k r l)

pub row_two : (s : SingleMemory) (k : ℕ) (r : Row) → r ≡ get_or (vec_items s.rows) k r → k < s.made → length r.links ≡ 2
row_two s k r e l = subst (λ (y : Row). length y.links ≡ 2) (sym e) (s.two k r l)

pub row_few : (s : SingleMemory) (k : ℕ) (r : Row) → r ≡ get_or (vec_items s.rows) k r → k < s.made → r.names ≤ 2
row_few s k r e l = subst (λ (y : Row). y.names ≤ 2) (sym e) (s.named k r l)

pub row_names : (s : SingleMemory) (m : Memory) (k : ℕ) (r : Row) → SingleMeans s m → r ≡ get_or (vec_items s.rows) k r → k < s.made → r.names ≡ m.state.names k
row_names s m k r M e l = ap (λ (y : Row). y.names) e ∙ sym (M.rows.named k r l)

pub free : (s : SingleMemory) (m : Memory) → SingleMeans s m → s.changed < s.change_limit → Free m
free s m M l = record { writable = M.writable; left = let a = M.changed in let b = M.change_limit in omega arith }

pub spent : (s : SingleMemory) (m : Memory) → SingleMeans s m → s.change_limit ≤ s.changed → m.change_limit ≤ changed m
spent s m M l = let a = M.changed in let b = M.change_limit in omega arith

-- A node written, and a node made.

pub node_set_lem : (xs : List Row) (made k : ℕ) (r : Row) (n : Node) (nodes : ℕ → Option Node) (names : ℕ → ℕ) → k < made → k < length xs → SameNode n r → r.names ≡ names k
    → RowsMean xs made nodes names → RowsMean (set xs k r) made (put nodes k (Some n)) names
node_set_lem xs made k r n nodes names l w e q R = record {
  node = λ i d h. at_set (λ y. (n' : Node) × (put nodes k (Some n) i ≡ Some n') × SameNode n' y) xs k i r d w
      (λ f. (n, ap (λ (t : Bool). cond t (Some n) (nodes i)) (eq_true k i f), e))
      (λ f. let N = R.node i d h in (N.0, put_other nodes k i (Some n) f ∙ N.1, N.2));
  named = λ i d h. at_set (λ (y : Row). names i ≡ y.names) xs k i r d w (λ f. sym (q ∙ ap names f)) (λ f. R.named i d h);
  unborn = λ i h. put_other nodes k i (Some n) (λ f. omega arith) ∙ R.unborn i h;
  unnamed = R.unnamed;
}

pub node_born : (xs : List Row) (made : ℕ) (r : Row) (n : Node) (nodes : ℕ → Option Node) (names : ℕ → ℕ) (j : ℕ) → j ≡ made → made < length xs → SameNode n r → r.names ≡ 0
    → RowsMean xs made nodes names → RowsMean (set xs made r) (made + 1) (put nodes j (Some n)) names
node_born xs made r n nodes names j ej w e q R = subst (λ u. RowsMean (set xs made r) (made + 1) (put nodes u (Some n)) names) (sym ej) (record {
  node = λ i d h. at_set (λ y. (n' : Node) × (put nodes made (Some n) i ≡ Some n') × SameNode n' y) xs made i r d w
      (λ f. (n, ap (λ (t : Bool). cond t (Some n) (nodes i)) (eq_true made i f), e))
      (λ f. let N = R.node i d (omega arith) in (N.0, put_other nodes made i (Some n) f ∙ N.1, N.2));
  named = λ i d h. at_set (λ (y : Row). names i ≡ y.names) xs made i r d w (λ f. R.unnamed i (omega arith) ∙ sym q) (λ f. R.named i d (omega arith));
  unborn = λ i h. put_other nodes made i (Some n) (λ f. omega arith) ∙ R.unborn i (omega arith);
  unnamed = λ i h. R.unnamed i (omega arith);
})

pub same_new : (key value mark : ℕ) → SameNode (new_node key value mark) (new_row key value mark)
same_new key value mark = record { key = refl; value = refl; mark = refl; links = λ side l. sym (none_at 2 side) }

pub same_valued : (n : Node) (r : Row) (x : ℕ) → SameNode n r → SameNode (with_number 0 x n) (row_valued x r)
same_valued n r x S = record { key = S.key; value = refl; mark = S.mark; links = S.links }

pub same_marked : (n : Node) (r : Row) (x : ℕ) → SameNode n r → SameNode (with_number 1 x n) (row_marked x r)
same_marked n r x S = record { key = S.key; value = S.value; mark = refl; links = S.links }

pub same_linked : (n : Node) (r : Row) (side : ℕ) (x y : Option ℕ) → side < length r.links → x ≡ y → SameNode n r → SameNode (with_link side x n) (row_linked side y r)
same_linked n r side x y l e S = record { key = S.key; value = S.value; mark = S.mark; links = array_set r.links 2 side x y n.links l e S.links }

-- a number of the row k, which is r, written
pub number_rows : (s : SingleMemory) (m : Memory) (k : ℕ) (r q : Row) (n : Node) → SingleMeans s m → r ≡ get_or (vec_items s.rows) k r → k < s.made → q.names ≡ r.names → SameNode n q
    → RowsMean (set (vec_items s.rows) k q) s.made (put m.state.nodes k (Some n)) m.state.names
number_rows s m k r q n M e l f S = node_set_lem (vec_items s.rows) s.made k q n m.state.nodes m.state.names l (let a = table_long s in omega arith) S (f ∙ row_names s m k r M e l) M.rows

pub born_fine : (n : ℕ) (xs : List Row) (r : Row) (key value mark : ℕ) → r ≡ new_row key value mark → n < length xs → Fine n xs → Fine (n + 1) (set xs n r)
born_fine n xs r key value mark e l F = fine_more n xs r l F (ap (λ (y : Row). all_below (n + 1) y.links) e ∙ all_none (n + 1) 2) (ap (λ (y : Row). length y.links) e) (let a = ap (λ (y : Row). y.names) e in omega arith)

pub born_rows : (s : SingleMemory) (m : Memory) (r : Row) (key value mark : ℕ) → SingleMeans s m → r ≡ new_row key value mark → s.made < length (vec_items s.rows)
    → RowsMean (set (vec_items s.rows) s.made r) (s.made + 1) (put m.state.nodes m.made (Some (new_node key value mark))) m.state.names
born_rows s m r key value mark M e l = node_born (vec_items s.rows) s.made r (new_node key value mark) m.state.nodes m.state.names m.made M.made l
    (subst (SameNode (new_node key value mark)) (sym e) (same_new key value mark)) (ap (λ (y : Row). y.names) e) M.rows

-- A link or root written.

far : (n i : ℕ) (x : Option ℕ) → below n x ≡ true → n ≤ i → hits i x ≡ 0
far n i x h l = hits_none i x (λ e. let z = ref_low n x i h e in omega arith)

-- the table once a link or root that held `old` holds `new`
pub rows_renamed : (xs : List Row) (made : ℕ) (old new : Option ℕ) (nodes : ℕ → Option Node) (names : ℕ → ℕ) → made ≤ length xs → below made old ≡ true → below made new ≡ true
    → RowsMean xs made nodes names → RowsMean (lowered (raised xs new) old) made nodes (renamed names old new)
rows_renamed xs made old new nodes names w o n R =
    let o' = more made (length xs) old w o in let n' = more made (length xs) new w n in record {
      node = λ i d h. let N = R.node i d h in (N.0, N.1, subst (SameNode N.0) (sym (renamed_at xs old new i d o' n')) (same_named N.0 (get_or xs i d) _ N.2));
      named = λ i d h. let a = R.named i d h in let b : (get_or (lowered (raised xs new) old) i d).names ≡ (get_or xs i d).names + hits i new - hits i old = ap (λ (y : Row). y.names) (renamed_at xs old new i d o' n') in omega arith;
      unborn = R.unborn;
      unnamed = λ i h. let a = R.unnamed i h in let b = far made i old o h in let c = far made i new n h in omega arith;
    }
  where
    same_named : (n : Node) (r : Row) (x : ℕ) → SameNode n r → SameNode n (row_named x r)
    same_named n r x S = record { key = S.key; value = S.value; mark = S.mark; links = S.links }

-- the test of the third name
pub crowds_not : (xs : List Row) (made : ℕ) (old new : Option ℕ) (nodes : ℕ → Option Node) (names : ℕ → ℕ) → Fine made xs → below made new ≡ true → RowsMean xs made nodes names
    → crowds xs old new ≡ false → names_of (renamed names old new) new ≤ 2
crowds_not xs made old None nodes names F n R h = omega arith
crowds_not xs made None (Some k) nodes names F n R h =
    let l = lt_from k made n in let a = R.named k blank l in let b = F.named k blank l in grind (arith, nat_tests)
crowds_not xs made (Some j) (Some k) nodes names F n R h =
    let l = lt_from k made n in let a = R.named k blank l in let b = F.named k blank l in grind (arith, nat_tests)

pub crowds_too : (xs : List Row) (made : ℕ) (old new : Option ℕ) (nodes : ℕ → Option Node) (names : ℕ → ℕ) → below made new ≡ true → RowsMean xs made nodes names
    → crowds xs old new ≡ true → leb (names_of (renamed names old new) new) 2 ≡ false
crowds_too xs made old None nodes names n R h = let z : ◌≡◌ {A = ℕ} 0 1 = cc in let y : ⊥ = omega arith in absurd y
crowds_too xs made None (Some k) nodes names n R h = let l = lt_from k made n in let a = R.named k blank l in grind (arith, nat_tests)
crowds_too xs made (Some j) (Some k) nodes names n R h = let l = lt_from k made n in let a = R.named k blank l in grind (arith, nat_tests)

-- The same at the registers of a memory.

pub reg_crowds : (s : SingleMemory) (m : Memory) (reg : ℕ) (old : Option ℕ) → SingleMeans s m → reg < 40 → crowds (vec_items s.rows) old (get_or s.regs reg None) ≡ true → leb (names_of (renamed m.state.names old (m.regs reg)) (m.regs reg)) 2 ≡ false
reg_crowds s m reg old M h e = rw (M.regs reg h) (crowds_too (vec_items s.rows) s.made old (get_or s.regs reg None) m.state.nodes m.state.names (reg_below s reg) M.rows e)

pub reg_few : (s : SingleMemory) (m : Memory) (reg : ℕ) (old : Option ℕ) → SingleMeans s m → reg < 40 → crowds (vec_items s.rows) old (get_or s.regs reg None) ≡ false → names_of (renamed m.state.names old (m.regs reg)) (m.regs reg) ≤ 2
reg_few s m reg old M h e = rw (M.regs reg h) (crowds_not (vec_items s.rows) s.made old (get_or s.regs reg None) m.state.nodes m.state.names (fine s) (reg_below s reg) M.rows e)

-- a memory t that counted one change more than s
pub change_means : (s t : SingleMemory) (m : Memory) (kind : Kind) (xs : List Row) (names : ℕ → ℕ) → SingleMeans s m → Changed s t xs → RowsMean xs s.made m.state.nodes names
    → SingleMeans t (written kind m (record { roots = m.state.roots; nodes = m.state.nodes; names = names }))
change_means s t m kind xs names M D R = record {
  roots = rw D.roots M.roots;
  regs = rw D.regs M.regs;
  rows = rw D.rows (rw D.made R);
  made = M.made ∙ sym D.made;
  changed = omega (arith, one_more kind, M.changed, D.changed);
  node_limit = M.node_limit ∙ sym D.node_limit;
  change_limit = M.change_limit ∙ sym D.change_limit;
  writable = M.writable;
}
  where
    one_more : (kind : Kind) → changed (written kind m m.state) ≡ suc (changed m)
    one_more of_link = omega arith
    one_more of_number = omega arith

-- and moved a name from `old` to `new`
pub rename_means : (s t : SingleMemory) (m : Memory) (old new : Option ℕ) → SingleMeans s m → Changed s t (lowered (raised (vec_items s.rows) new) old) → below s.made old ≡ true → below s.made new ≡ true
    → SingleMeans t (written of_link m (record { roots = m.state.roots; nodes = m.state.nodes; names = renamed m.state.names old new }))
rename_means s t m old new M D o e = change_means s t m of_link (lowered (raised (vec_items s.rows) new) old) (renamed m.state.names old new) M D
    (rows_renamed (vec_items s.rows) s.made old new m.state.nodes m.state.names (table_long s) o e M.rows)

pub make_none : (n c len : ℕ) → 1 ≤ n → n ≤ 4096 → 160 ≤ c → c ≤ 16384 → n ≤ len → make_refusal n c len ≡ None
make_none n c len a b d e f = rw (le_true 1 n a) (rw (le_true n 4096 b) (rw (le_true 160 c d) (rw (le_true c 16384 e) (rw (le_true n len f) refl))))
