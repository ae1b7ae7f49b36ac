-- When a write is refused for want of changes, or for a third name.
use Rattle.std.proofs.Common.{◌≡◌, ℕ, ◌<◌, ◌≤◌, true, false, leb, refl}
use Rattle.refusals.specs.declared.kinds.MemoryRefusal.TheVariants.{ChangesSpent, ThirdName}
use Rattle.memory.specs.Memory.{Node, Memory, changed, renamed, names_of}
use Rattle.memory.specs.Steps.{no, save_of, link_of, set_number_of}
use Rattle.memory.specs.Effects.{Holds, Free}
use Rattle.memory.proofs.Numbers.{lt_true, lt_false}

pub set_number_spent : (field reg x k : ℕ) (n : Node) (m : Memory) → Holds m reg k n → m.writable ≡ true → m.change_limit ≤ changed m → set_number_of field reg x m ≡ no ChangesSpent
unfolding set_number_of
set_number_spent field reg x k n m H w l = rw (lt_true reg 40 H.low) (rw H.names (rw H.node (rw w (rw (lt_false (changed m) m.change_limit l) refl))))

pub link_spent : (from side reg k : ℕ) (n : Node) (m : Memory) → Holds m from k n → side < 2 → reg < 40 → m.writable ≡ true → m.change_limit ≤ changed m → link_of from side reg m ≡ no ChangesSpent
unfolding link_of
link_spent from side reg k n m H h2 h3 w l = rw (lt_true from 40 H.low) (rw (lt_true side 2 h2) (rw (lt_true reg 40 h3) (rw H.names (rw H.node (rw w (rw (lt_false (changed m) m.change_limit l) refl))))))

pub link_third : (from side reg k : ℕ) (n : Node) (m : Memory) → Holds m from k n → side < 2 → reg < 40 → Free m → leb (names_of (renamed m.state.names (n.links side) (m.regs reg)) (m.regs reg)) 2 ≡ false → link_of from side reg m ≡ no ThirdName
unfolding link_of
link_third from side reg k n m H h2 h3 F h = rw (lt_true from 40 H.low) (rw (lt_true side 2 h2) (rw (lt_true reg 40 h3) (rw H.names (rw H.node (rw F.writable (rw (lt_true (changed m) m.change_limit F.left) (rw h refl)))))))

pub save_spent : (root reg : ℕ) (m : Memory) → root < 3 → reg < 40 → m.writable ≡ true → m.change_limit ≤ changed m → save_of root reg m ≡ no ChangesSpent
unfolding save_of
save_spent root reg m h1 h2 w l = rw (lt_true root 3 h1) (rw (lt_true reg 40 h2) (rw w (rw (lt_false (changed m) m.change_limit l) refl)))

pub save_third : (root reg : ℕ) (m : Memory) → root < 3 → reg < 40 → Free m → leb (names_of (renamed m.state.names (m.state.roots root) (m.regs reg)) (m.regs reg)) 2 ≡ false → save_of root reg m ≡ no ThirdName
unfolding save_of
save_third root reg m h1 h2 F h = rw (lt_true root 3 h1) (rw (lt_true reg 40 h2) (rw F.writable (rw (lt_true (changed m) m.change_limit F.left) (rw h refl))))
