-- Proofs of the laws.
use Rattle.std.proofs.Common.{◌≡◌, ℕ, ◌<◌, ◌≤◌, Bool, true, false, cond, eqb, ltb, List, [], ◌∷◌, Some, Option, sym, refl, ap, ◌∙◌, subst, ⊎_elim, arith}
use Rattle.std.proofs.lemmas.Bool.{cases_eq}
use Rattle.refusals.specs.declared.kinds.OrderRefusal.TheVariants.{UnknownItem, Full}
use Rattle.refusals.specs.declared.kinds.MemoryRefusal.{MemoryRefusal}
use Rattle.refusals.specs.declared.kinds.MemoryRefusal.TheVariants.{OutOfRange, OutsideDraft, NodesSpent, DraftOpen, Order}
use Rattle.memory.specs.Memory.{Node, State, Rest, Memory, put, with_link, with_number, new_node, state_of, Sound, fresh, fresh_single}
use Rattle.memory.specs.Steps.{Done, done, check, root_set, link_set, node_set, born, entered, opened, is_nil, enter_of, open_of, make_of}
use Rattle.memory.specs.Calls.{Call, Make, left, after, run_of}
use Rattle.memory.specs.Laws.{StaysSound, RunsSound, TrueNames, KeepsRest, WorksAlone, Sealed, SealedStays, StaysSealed, SealedRuns, Copied, OpenCopies, Moved, EnterKeeps, ThereAndBack, NamedAnew, MakesNew, MadeGrows, SerialOnce, HasKey, KeepsKeys, NodesOfPath}
use Rattle.memory.proofs.Numbers.{put_same, put_other, eq_true, eq_false, some_same, none_some}
use Rattle.memory.proofs.Each.{here, each, each_lower}
use Rattle.memory.proofs.Kept.{at_state, entered_state, opened_state, opened_new, writes_draft, stays_sound, fresh_sound, single_sound, runs_sound}

pub stays : StaysSound
stays = stays_sound

pub runs : RunsSound
runs cs n c = (runs_sound cs (fresh n c) (fresh_sound n c), runs_sound cs (fresh_single n c) (single_sound n c))

pub true_names : TrueNames
true_names cs n c v i l =
    let O = (runs cs n c).0.states v l in
    record { true_count = O.counted i; few = O.few i }

pub keeps_rest : KeepsRest
keeps_rest c m S e = each_lower (λ m'. m'.rest ≡ m.rest) m S
    (record { stays = refl; register = λ r x l p. refl; makes = λ r k v w l e h. refl; saves = λ i x l p F q. refl; links = λ j side n x z e p F q. refl; numbers = λ j field x n e F. refl }) c e

-- what stands beside the working version
beside : (m : Memory) (s : State) (v : ℕ) → (m.rest.working ≡ v → ⊥) → cond (eqb m.rest.working v) s (m.rest.others v) ≡ state_of m v
beside m s v h = let e = eq_false m.rest.working v h in rw e refl

pub works_alone : WorksAlone
works_alone c m v S l h = each (λ m'. state_of m' v ≡ state_of m v) m S
    (record {
      lower = record { stays = refl; register = λ r x l p. refl; makes = λ r k v1 w l e g. beside m _ v h; saves = λ i x l p F q. beside m _ v h; links = λ j side n x z e p F q. beside m _ v h; numbers = λ j field x n e F. beside m _ v h };
      opens = λ a e g. opened_state m a v (λ f. omega arith);
      enters = λ w g. entered_state m w v;
      closes = refl;
    }) c

pub sealed_stays : SealedStays
sealed_stays c m v S sealed =
    let l = sealed.known in let h = sealed.ended in
    let apart : m.writable ≡ true → m.rest.working ≡ v → ⊥ = λ w e. h (writes_draft S w ∙ ap Some e) in
    each (λ m'. state_of m' v ≡ state_of m v) m S
    (record {
      lower = record { stays = refl; register = λ r x l p. refl; makes = λ r k v1 w l e g. beside m _ v (apart e); saves = λ i x l p F q. beside m _ v (apart F.writable); links = λ j side n x z e p F q. beside m _ v (apart F.writable); numbers = λ j field x n e F. beside m _ v (apart F.writable) };
      opens = λ a e g. opened_state m a v (λ f. omega arith);
      enters = λ w g. entered_state m w v;
      closes = refl;
    }) c

pub stays_sealed : StaysSealed
stays_sealed c m v S sealed =
    let l = sealed.known in
    let same : (m' : Memory) → m'.rest ≡ m.rest → Sealed m' v = λ m' e. record { known = subst (λ r. v < r.versions) (sym e) l; ended = λ f. sealed.ended (ap (λ (r : Rest). r.draft) (sym e) ∙ f) } in
    each (λ m'. Sealed m' v) m S
    (record {
      lower = record { stays = sealed; register = λ r x l1 p. same _ refl; makes = λ r k v1 w l1 e g. same _ refl; saves = λ i x l1 p F q. same _ refl; links = λ j side n x z e p F q. same _ refl; numbers = λ j field x n e F. same _ refl };
      opens = λ a e g. record { known = omega arith; ended = λ f. let z = some_same f in omega arith };
      enters = λ w g. record { known = l; ended = sealed.ended };
      closes = record { known = l; ended = λ f. none_some f };
    }) c

pub sealed_runs : SealedRuns
unfolding run_of
sealed_runs [] m v S sealed = refl
sealed_runs (c ∷ cs) m v S sealed = sealed_runs cs (after c m) v (stays_sound c m S) (stays_sealed c m v S sealed) ∙ sealed_stays c m v S sealed

-- an accepted call met each condition
checked : {A : Type 0} {a : A} {m : Memory} (b : Bool) (e : MemoryRefusal) (d : Done A) → check b e d ≡ done a m → (b ≡ true) × (d ≡ done a m)
checked true e d h = (refl, h)
checked false e d h = let z : ◌≡◌ {A = ℕ} 0 1 = cc in let y : ⊥ = omega arith in absurd y

same_done : {A : Type 0} {a b : A} {m m' : Memory} → ◌≡◌ {A = Done A} (done a m) (done b m') → (a ≡ b) × (m ≡ m')
same_done e = (cc, cc)

pub open_copies : OpenCopies
unfolding open_of
open_copies limit a n m m' S h =
    let t1 = checked (is_nil m.rest.draft) DraftOpen _ h in
    let t2 = checked (ltb a m.rest.versions) (Order UnknownItem) _ t1.1 in
    let t3 = checked (ltb m.rest.versions limit) (Order Full) _ t2.1 in
    let e = same_done t3.1 in
    let C : Copied a m.rest.versions m (opened m a) = record { next = refl; copy = opened_new m a S.works; others = λ v l. opened_state m a v (λ f. omega arith); draft = refl; working = refl; path = put_same m.rest.paths m.rest.versions (m.rest.versions ∷ m.rest.paths a) } in
    subst (λ q. Copied a q m m') e.0 (subst (λ q. Copied a m.rest.versions m q) e.1 C)

pub enter_keeps : EnterKeeps
unfolding enter_of
enter_keeps v m m' h =
    let t = checked (ltb v m.rest.versions) (Order UnknownItem) _ h in
    let e = same_done t.1 in
    let M : Moved v m (entered m v) = record { working = refl; states = λ w. entered_state m v w; regs = λ r l. refl } in
    subst (Moved v m) e.1 M

pub there_and_back : ThereAndBack
there_and_back v m m' m'' h g =
    let a = enter_keeps v m m' h in
    let b = enter_keeps m.rest.working m' m'' g in
    let same : (w : ℕ) → state_of m'' w ≡ state_of m w = λ w. b.states w ∙ a.states w in
    let now : (q : Memory) → state_of q q.rest.working ≡ q.state = λ q. rw (eq_true q.rest.working q.rest.working refl) refl in
    (sym (now m'') ∙ ap (state_of m'') b.working ∙ same m.rest.working ∙ now m, same)

pub makes_new : MakesNew
unfolding make_of
makes_new reg k v w m m' S h =
    let t1 = checked (ltb reg 40) OutOfRange _ h in
    let t2 = checked m.writable OutsideDraft _ t1.1 in
    let t3 = checked (ltb m.made m.node_limit) NodesSpent _ t2.1 in
    let e = same_done t3.1 in
    let N : NamedAnew reg m (born m reg (new_node k v w)) = record { new = λ q l. (S.states q l).unborn m.made (omega arith); made = refl; held = put_same m.regs reg (Some m.made) } in
    subst (NamedAnew reg m) e.1 N

pub made_grows : MadeGrows
made_grows c m S =
    let l : m.made ≤ m.made = omega arith in
    each (λ m'. m.made ≤ m'.made) m S
    (record {
      lower = record { stays = l; register = λ r x l1 p. l; makes = λ r k v1 w l1 e g. omega arith; saves = λ i x l1 p F q. l; links = λ j side n x z e p F q. l; numbers = λ j field x n e F. l };
      opens = λ a e g. l;
      enters = λ w g. l;
      closes = l;
    }) c

runs_grow : (cs : List Call) (m : Memory) → Sound m → m.made ≤ (run_of cs m).made
unfolding run_of
runs_grow [] m S = omega arith
runs_grow (c ∷ cs) m S = let a = made_grows c m S in let b = runs_grow cs (after c m) (stays_sound c m S) in omega arith

-- an accepted make is the call make
make_left : (reg key value mark : ℕ) (m m' : Memory) → make_of reg key value mark m ≡ done tt m' → after (Make reg key value mark) m ≡ m'
unfolding after
make_left reg key value mark m m' h = ap (left m) h

pub serial_once : SerialOnce
serial_once cs reg key value mark i j reg' key' value' mark' m m' m'' S h h' e e' =
    let S' : Sound m' = subst Sound (make_left reg key value mark m m' h) (stays_sound (Make reg key value mark) m S) in
    let a = makes_new reg key value mark m m' S h in
    let b = makes_new reg' key' value' mark' (run_of cs m') m'' (runs_sound cs m' S') h' in
    let c = runs_grow cs m' S' in
    let d : m.made ≡ i = some_same (sym a.held ∙ e) in
    let f : (run_of cs m').made ≡ j = some_same (sym b.held ∙ e') in
    let g = a.made in
    omega arith

-- a node put in the place of another with its key place
put_key : (nodes : ℕ → Option Node) (j k : ℕ) (n0 n1 n : Node) → nodes j ≡ Some n0 → n1.key ≡ n0.key → nodes k ≡ Some n → (n' : Node) × (put nodes j (Some n1) k ≡ Some n') × (n'.key ≡ n.key)
put_key nodes j k n0 n1 n e q f =
    ⊎_elim
    (λ (g : j ≡ k). (n1, ap (λ b. cond b (Some n1) (nodes k)) (eq_true j k g), q ∙ ap (λ (y : Node). y.key) (some_same (sym e ∙ ap nodes g ∙ f))))
    (λ (g : j ≡ k → ⊥). (n, put_other nodes j k (Some n1) g ∙ f, refl))
    (cases_eq j k)

pub keeps_keys : KeepsKeys
keeps_keys c m v k n S l f =
    let old : HasKey (state_of m v) k n = (n, f, refl) in
    let lift : (s : State) → (m.state.nodes k ≡ Some n → HasKey s k n) → HasKey (cond (eqb m.rest.working v) s (m.rest.others v)) k n = λ s g.
    at_state (λ t. HasKey t k n) m.rest.working v s (m.rest.others v) (λ e. g (rw (eq_true m.rest.working v e) at f)) (λ h. (n, rw (eq_false m.rest.working v h) at f, refl)) in
    each (λ m'. HasKey (state_of m' v) k n) m S
    (record {
      lower = record {
        stays = old;
        register = λ r x l1 p. old;
        makes = λ r k1 v1 w l1 e g. lift (node_set m.state m.made (new_node k1 v1 w)) (λ a. (n, put_other m.state.nodes m.made k (Some (new_node k1 v1 w)) (λ z. none_some (sym ((here S).unborn k (omega arith)) ∙ a)) ∙ a, refl));
        saves = λ i x l1 p F q. lift (root_set m.state i x) (λ a. (n, a, refl));
        links = λ j side n0 x z e p F q. lift (link_set m.state j n0 side x) (λ a. put_key m.state.nodes j k n0 (with_link side x n0) n e refl a);
        numbers = λ j field x n0 e F. lift (node_set m.state j (with_number field x n0)) (λ a. put_key m.state.nodes j k n0 (with_number field x n0) n e refl a);
      };
      opens = λ a e g. subst (λ s. HasKey s k n) (sym (opened_state m a v (λ f. omega arith))) old;
      enters = λ w g. subst (λ s. HasKey s k n) (sym (entered_state m w v)) old;
      closes = old;
    }) c

pub nodes_of_path : NodesOfPath
nodes_of_path cs n c v k l = (runs cs n c).0.nodes v k l
