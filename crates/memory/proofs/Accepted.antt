-- When a call is accepted, and what it then comes to.
use Rattle.std.proofs.Common.{◌≡◌, ℕ, ◌<◌, ◌≤◌, true, Some, None, refl, ap}
use Rattle.memory.specs.Memory.{Node, Memory, changed, with_number, new_node, renamed, names_of}
use Rattle.memory.specs.Steps.{Done, done, with_reg, of_link, of_number, written, root_set, link_set, node_set, born, entered, opened, closed, is_nil, same_ref, then, load_of, follow_of, move_of, key_of, number_of, nil_of, same_of, make_of, save_of, link_of, set_number_of, enter_of, open_of, close_of}
use Rattle.memory.specs.Effects.{Holds, Free}
use Rattle.memory.proofs.Numbers.{lt_true, le_true}

pub load_done : (root reg : ℕ) (m : Memory) → root < 3 → reg < 40 → load_of root reg m ≡ done tt (with_reg m reg (m.state.roots root))
unfolding load_of
load_done root reg m h1 h2 = rw (lt_true root 3 h1) (rw (lt_true reg 40 h2) refl)

pub follow_done : (from side reg k : ℕ) (n : Node) (m : Memory) → Holds m from k n → side < 2 → reg < 40 → follow_of from side reg m ≡ done tt (with_reg m reg (n.links side))
unfolding follow_of
follow_done from side reg k n m H h2 h3 = rw (lt_true from 40 H.low) (rw (lt_true side 2 h2) (rw (lt_true reg 40 h3) (rw H.names (rw H.node refl))))

pub move_done : (from reg : ℕ) (m : Memory) → from < 40 → reg < 40 → move_of from reg m ≡ done tt (with_reg m reg (m.regs from))
unfolding move_of
move_done from reg m h1 h2 = rw (lt_true from 40 h1) (rw (lt_true reg 40 h2) refl)

pub key_done : (reg k : ℕ) (n : Node) (m : Memory) → Holds m reg k n → key_of reg m ≡ done n.key m
unfolding key_of
key_done reg k n m H = rw (lt_true reg 40 H.low) (rw H.names (rw H.node refl))

pub number_done : (field reg k : ℕ) (n : Node) (m : Memory) → Holds m reg k n → number_of field reg m ≡ done (n.numbers field) m
unfolding number_of
number_done field reg k n m H = rw (lt_true reg 40 H.low) (rw H.names (rw H.node refl))

pub nil_done : (reg : ℕ) (m : Memory) → reg < 40 → nil_of reg m ≡ done (is_nil (m.regs reg)) m
unfolding nil_of
nil_done reg m h = rw (lt_true reg 40 h) refl

pub same_done : (a b : ℕ) (m : Memory) → a < 40 → b < 40 → same_of a b m ≡ done (same_ref (m.regs a) (m.regs b)) m
unfolding same_of
same_done a b m h1 h2 = rw (lt_true a 40 h1) (rw (lt_true b 40 h2) refl)

pub make_done : (reg key value mark : ℕ) (m : Memory) → reg < 40 → m.writable ≡ true → m.made < m.node_limit → make_of reg key value mark m ≡ done tt (born m reg (new_node key value mark))
unfolding make_of
make_done reg key value mark m h1 h2 h3 = rw (lt_true reg 40 h1) (rw h2 (rw (lt_true m.made m.node_limit h3) refl))

pub save_done : (root reg : ℕ) (m : Memory) → root < 3 → reg < 40 → Free m → names_of (renamed m.state.names (m.state.roots root) (m.regs reg)) (m.regs reg) ≤ 2
    → save_of root reg m ≡ done tt (written of_link m (root_set m.state root (m.regs reg)))
unfolding save_of
save_done root reg m h1 h2 F h =
    rw (lt_true root 3 h1) (rw (lt_true reg 40 h2) (rw F.writable (rw (lt_true (changed m) m.change_limit F.left)
    (rw (le_true (names_of (renamed m.state.names (m.state.roots root) (m.regs reg)) (m.regs reg)) 2 h) refl))))

pub link_done : (from side reg k : ℕ) (n : Node) (m : Memory) → Holds m from k n → side < 2 → reg < 40 → Free m → names_of (renamed m.state.names (n.links side) (m.regs reg)) (m.regs reg) ≤ 2
    → link_of from side reg m ≡ done tt (written of_link m (link_set m.state k n side (m.regs reg)))
unfolding link_of
link_done from side reg k n m H h2 h3 F h =
    rw (lt_true from 40 H.low) (rw (lt_true side 2 h2) (rw (lt_true reg 40 h3) (rw H.names (rw H.node (rw F.writable (rw (lt_true (changed m) m.change_limit F.left)
    (rw (le_true (names_of (renamed m.state.names (n.links side) (m.regs reg)) (m.regs reg)) 2 h) refl)))))))

pub set_number_done : (field reg x k : ℕ) (n : Node) (m : Memory) → Holds m reg k n → Free m → set_number_of field reg x m ≡ done tt (written of_number m (node_set m.state k (with_number field x n)))
unfolding set_number_of
set_number_done field reg x k n m H F = rw (lt_true reg 40 H.low) (rw H.names (rw H.node (rw F.writable (rw (lt_true (changed m) m.change_limit F.left) refl))))

pub enter_done : (v : ℕ) (m : Memory) → v < m.rest.versions → enter_of v m ≡ done tt (entered m v)
unfolding enter_of
enter_done v m h = rw (lt_true v m.rest.versions h) refl

pub open_done : (limit a : ℕ) (m : Memory) → m.rest.draft ≡ None → a < m.rest.versions → m.rest.versions < limit → open_of limit a m ≡ done m.rest.versions (opened m a)
unfolding open_of
open_done limit a m e h1 h2 = rw e (rw (lt_true a m.rest.versions h1) (rw (lt_true m.rest.versions limit h2) refl))

pub close_done : (d : ℕ) (m : Memory) → m.rest.draft ≡ Some d → close_of m ≡ done tt (closed m)
unfolding close_of
close_done d m e = rw e refl

pub then_done : {A B : Type 0} {d : Done A} {a : A} {m : Memory} (k : A → Memory → Done B) → d ≡ done a m → then d k ≡ k a m
then_done k e = ap (λ x. then x k) e
