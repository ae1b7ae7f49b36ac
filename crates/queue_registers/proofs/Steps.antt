-- Single steps that leave register 35 as it was.
use Rattle.std.proofs.Common.{◌≡◌, ℕ, Bool, true, false, cond, ltb, leb, Some, None, Option, ◌∙◌}
use Rattle.refusals.specs.declared.kinds.MemoryRefusal.{MemoryRefusal}
use Rattle.refusals.specs.declared.kinds.MemoryRefusal.TheVariants.{OutOfRange, OutsideDraft, ChangesSpent, NodesSpent, ThirdName}
use Rattle.memory.specs.Memory.{Node, State, Memory, changed, names_of}
use Rattle.memory.specs.Steps.{Done, done, no, then, check, is_reg, is_root, is_side, on_node, on_ref, writing, naming, root_set, link_set, load_of, follow_of, move_of, key_of, number_of, nil_of, same_of, make_of, save_of, link_of, set_number_of}
use Rattle.memory.proofs.Numbers.{put_other}
use Rattle.queue_registers.specs.Registers.{Keeps}

pub keeps_then : {A B : Type 0} {x : Option ℕ} (d : Done A) (k : A → Memory → Done B) → Keeps x d → ((a : A) (m : Memory) → m.regs 35 ≡ x → Keeps x (k a m)) → Keeps x (then d k)
keeps_then (done a m) k h f = f a m h.is
keeps_then (no e) k h f = record { is = tt }

pub keeps_cond : {A : Type 0} {x : Option ℕ} (b : Bool) (c d : Done A) → Keeps x c → Keeps x d → Keeps x (cond b c d)
keeps_cond true c d g h = g
keeps_cond false c d g h = h

pub keeps_check : {A : Type 0} {x : Option ℕ} (b : Bool) (e : MemoryRefusal) (d : Done A) → Keeps x d → Keeps x (check b e d)
keeps_check true e d h = h
keeps_check false e d h = record { is = tt }

keeps_node : {A : Type 0} {x : Option ℕ} (k : ℕ) (n : Option Node) (f : ℕ → Node → Done A) → ((j : ℕ) (y : Node) → Keeps x (f j y)) → Keeps x (on_node k n f)
keeps_node k None f h = record { is = tt }
keeps_node k (Some n) f h = h k n

keeps_ref : {A : Type 0} {x : Option ℕ} (nodes : ℕ → Option Node) (r : Option ℕ) (f : ℕ → Node → Done A) → ((j : ℕ) (y : Node) → Keeps x (f j y)) → Keeps x (on_ref nodes r f)
keeps_ref nodes None f h = record { is = tt }
keeps_ref nodes (Some k) f h = keeps_node k (nodes k) f h

keeps_reg : {A : Type 0} {x : Option ℕ} (i : ℕ) (d : Done A) → Keeps x d → Keeps x (is_reg i d)
keeps_reg i d h = keeps_check (ltb i 40) OutOfRange d h

keeps_root : {A : Type 0} {x : Option ℕ} (i : ℕ) (d : Done A) → Keeps x d → Keeps x (is_root i d)
keeps_root i d h = keeps_check (ltb i 3) OutOfRange d h

keeps_side : {A : Type 0} {x : Option ℕ} (i : ℕ) (d : Done A) → Keeps x d → Keeps x (is_side i d)
keeps_side i d h = keeps_check (ltb i 2) OutOfRange d h

keeps_writing : {A : Type 0} {x : Option ℕ} (m : Memory) (d : Done A) → Keeps x d → Keeps x (writing m d)
keeps_writing m d h = keeps_check m.writable OutsideDraft _ (keeps_check (ltb (changed m) m.change_limit) ChangesSpent d h)

keeps_naming : {A : Type 0} {x : Option ℕ} (s : State) (new : Option ℕ) (d : Done A) → Keeps x d → Keeps x (naming s new d)
keeps_naming s new d h = keeps_check (leb (names_of s.names new) 2) ThirdName d h

module _ {x : Option ℕ} (m : Memory) (h : m.regs 35 ≡ x) where
  pub keeps_load : (root reg : ℕ) → (reg ≡ 35 → ⊥) → Keeps x (load_of root reg m)
  unfolding load_of
  keeps_load root reg e = keeps_root root _ (keeps_reg reg _ (record { is = put_other m.regs reg 35 (m.state.roots root) e ∙ h }))

  pub keeps_follow : (from side reg : ℕ) → (reg ≡ 35 → ⊥) → Keeps x (follow_of from side reg m)
  unfolding follow_of
  keeps_follow from side reg e = keeps_reg from _ (keeps_side side _ (keeps_reg reg _ (keeps_ref m.state.nodes (m.regs from) _ (λ j y. record { is = put_other m.regs reg 35 (y.links side) e ∙ h }))))

  pub keeps_move : (from reg : ℕ) → (reg ≡ 35 → ⊥) → Keeps x (move_of from reg m)
  unfolding move_of
  keeps_move from reg e = keeps_reg from _ (keeps_reg reg _ (record { is = put_other m.regs reg 35 (m.regs from) e ∙ h }))

  pub keeps_key : (reg : ℕ) → Keeps x (key_of reg m)
  unfolding key_of
  keeps_key reg = keeps_reg reg _ (keeps_ref m.state.nodes (m.regs reg) _ (λ j y. record { is = h }))

  pub keeps_number : (field reg : ℕ) → Keeps x (number_of field reg m)
  unfolding number_of
  keeps_number field reg = keeps_reg reg _ (keeps_ref m.state.nodes (m.regs reg) _ (λ j y. record { is = h }))

  pub keeps_nil : (reg : ℕ) → Keeps x (nil_of reg m)
  unfolding nil_of
  keeps_nil reg = keeps_reg reg _ (record { is = h })

  pub keeps_same : (a b : ℕ) → Keeps x (same_of a b m)
  unfolding same_of
  keeps_same a b = keeps_reg a _ (keeps_reg b _ (record { is = h }))

  pub keeps_make : (reg key value mark : ℕ) → (reg ≡ 35 → ⊥) → Keeps x (make_of reg key value mark m)
  unfolding make_of
  keeps_make reg key value mark e = keeps_reg reg _ (keeps_check m.writable OutsideDraft _ (keeps_check (ltb m.made m.node_limit) NodesSpent _ (record { is = put_other m.regs reg 35 (Some m.made) e ∙ h })))

  pub keeps_save : (root reg : ℕ) → Keeps x (save_of root reg m)
  unfolding save_of
  keeps_save root reg = keeps_root root _ (keeps_reg reg _ (keeps_writing m _ (keeps_naming (root_set m.state root (m.regs reg)) (m.regs reg) _ (record { is = h }))))

  pub keeps_link : (from side reg : ℕ) → Keeps x (link_of from side reg m)
  unfolding link_of
  keeps_link from side reg =
      keeps_reg from _ (keeps_side side _ (keeps_reg reg _ (keeps_ref m.state.nodes (m.regs from) _ (λ j y. keeps_writing m _ (keeps_naming (link_set m.state j y side (m.regs reg)) (m.regs reg) _ (record { is = h }))))))

  pub keeps_set : (field reg v : ℕ) → Keeps x (set_number_of field reg v m)
  unfolding set_number_of
  keeps_set field reg v = keeps_reg reg _ (keeps_ref m.state.nodes (m.regs reg) _ (λ j y. keeps_writing m _ (record { is = h })))
