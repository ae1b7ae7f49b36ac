-- The example's row of calls on a fresh memory, computed.
use Rattle.std.proofs.Common.{◌≡◌, ℕ, Bool, true, false, cond, leb, Some, None, Ok, Err, Result, refl, ap, ◌∙◌, subst}
use Rattle.refusals.specs.declared.kinds.MakerRefusal.TheVariants.{TableTooShort}
use Rattle.refusals.specs.declared.kinds.MemoryRefusal.{MemoryRefusal}
use Rattle.refusals.specs.declared.kinds.MakerRefusal.{MakerRefusal}
use Rattle.std.specs.Result.{result_ok}
use Rattle.memory.proofs.Numbers.{some_same, none_some}
use Rattle.memory.specs.Memory.{Memory, fresh_single}
use Rattle.memory.specs.Steps.{load_of, follow_of, number_of, make_of, save_of, link_of}
use Rattle.memory.specs.Promises.{Comes}
use Rattle.memory.specs.Effects.{Ends}
use Rattle.memory.proofs.Rows.{comes_to_end}
use Rattle.single.specs.declared.store.SingleMemory.{SingleMemory}
use Rattle.single.specs.Single.{SingleMeans}
use Rattle.single.specs.Making.{MadeIs, make_refusal}
use Rattle.memory_example.specs.Chains.{advance_of, two_of}

fresh_two : Ends (two_of (fresh_single 2 160)) (λ p _. p ≡ (9, 7))
unfolding load_of follow_of number_of make_of save_of link_of advance_of
fresh_two = refl

-- what the row answers on any memory that means the fresh one
pub two_answer : {S : Type 0} {P : S → Memory → Type 0} {t : S} {r : Result (ℕ × ℕ) MemoryRefusal} → Comes P t r (two_of (fresh_single 2 160)) → r ≡ Ok (9, 7)
two_answer {r = r} c = let k = comes_to_end {r = r} (two_of (fresh_single 2 160)) (λ p _. p ≡ (9, 7)) c fresh_two in k.2 ∙ ap Ok k.4

made_by : {T : Type 0} (table : T) (s : SingleMemory) (b : Bool) → MadeIs 2 160 table (Ok s) (cond b None (Some TableTooShort)) → (b ≡ true) × SingleMeans s (fresh_single 2 160)
made_by table s true h = (refl, h)
made_by table s false h = absurd h

-- a memory that was made in a table of so many rows
made_two : {T : Type 0} (table : T) (s : SingleMemory) (rows : ℕ) → MadeIs 2 160 table (Ok s) (make_refusal 2 160 rows) → (leb 2 rows ≡ true) × SingleMeans s (fresh_single 2 160)
made_two table s rows h = made_by table s (leb 2 rows) h

-- the same of a memory that was asked for by `ok`
pub made_ok : {T : Type 0} (table : T) (r : Result SingleMemory (MakerRefusal × T)) (s : SingleMemory) (rows : ℕ) → MadeIs 2 160 table r (make_refusal 2 160 rows) → result_ok r ≡ Some s → (leb 2 rows ≡ true) × SingleMeans s (fresh_single 2 160)
made_ok table (Ok q) s rows h e = let m = made_two table q rows h in (m.0, subst (λ (t : SingleMemory). SingleMeans t (fresh_single 2 160)) (some_same e) m.1)
made_ok table (Err p) s rows h e = absurd (none_some e)
