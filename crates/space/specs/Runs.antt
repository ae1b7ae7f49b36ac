-- Runs of a splitting memory: new versions, new nodes, changes and splits, in any order that the rules allow; what they keep, and what
-- they can use up.
--
--   World                                            the order's list, the copies, the states that they stand for, and what was counted
--   Move, after                                      a step, and the world after it
--   May, allowed                                     when a step may be taken; the same as a test
--   Runs, last                                       a list of steps that may be taken one after the other; the world at its end
--   fresh_world                                      the world of a fresh memory
--   Kept                                             what every world of a run has: sound copies that stand for the states, and the space paid for
--   Spaced                                           the bounds: copies and entries ever used, by nodes made and changes accepted
--   RunKeeps                                         every world of every run has both
--   overfull, split_overfull, cascade, CascadeEnds   splits until no copy has more than 18 entries, in one order of splits
--
-- Splits are steps of their own, so that nothing depends on their order: a change is followed by splits until no copy has more than 18
-- entries, whichever is split first.
use Rattle.std.specs.Prelude.{◌≡◌, ℕ, zero, suc, ◌+◌, ◌-◌, ◌*◌, ◌/◌, ◌<◌, ◌≤◌, Bool, true, false, cond, List, [], ◌∷◌, length, ◌==◌, ◌≢◌, nat_lt}
use Rattle.fields.specs.declared.kinds.Value.{Value}
use Rattle.fields.specs.declared.kinds.Value.TheVariants.{Number, Nil, To, From}
use Rattle.fields.specs.Fields.{number, HasLink}
use Rattle.entries.specs.Entries.{both}
use Rattle.order.specs.Items.{member, Distinct, known, position, following, behind}
use Rattle.memory.specs.Memory.{put}
use Rattle.slices.specs.Copies.{Copies, Serves, serving, Sound}
use Rattle.slices.specs.Splits.{split}
use Rattle.slices.specs.Openings.{opened}
use Rattle.slices.specs.Births.{make_node}
use Rattle.states.specs.Relinks.{not, slice, relink, set_number, crowded, LinkTarget}
use Rattle.states.specs.Nodes.{NodeState, Means, with_node, wrote, by_serial, Held}
use Rattle.states.specs.Listed.{next_of}
use Rattle.space.specs.Space.{size, all_entries, elsewhere, surplus, split_version}

-- the versions in their order; the copies; the state of each version, as the rules have it; how many splits there were, how many
-- changes of links and roots and of numbers, and how many entries were ever written as new ones
pub record World : Type 0 where
  pub order : List ℕ
  pub copies : Copies
  pub states : ℕ → NodeState
  pub splits : ℕ
  pub linked : ℕ
  pub numbered : ℕ
  pub used : ℕ

pub data Move : Type 0 where
  -- a new version right behind a
  opening : ℕ → Move
  -- a new node in the version u, with its key place and its numbers
  making : ℕ → ℕ → (ℕ → ℕ) → Move
  -- in the version u, the link l of the copy i is set to v
  linking : ℕ → ℕ → ℕ → Value → Move
  -- in the version u, the number n of the copy i is set to w
  numbering : ℕ → ℕ → ℕ → ℕ → Move
  -- the copy c is split
  splitting : ℕ → Move

-- the version right behind u
abbrev pub next_in : World → ℕ → ℕ
next_in W u = next_of (following W.order u)

abbrev pub relinked_in : World → ℕ → ℕ → ℕ → Value → Copies
relinked_in W u i l v = relink (position W.order) u (next_in W u) i l v W.copies

abbrev pub numbered_in : World → ℕ → ℕ → ℕ → ℕ → Copies
numbered_in W u i n w = set_number (position W.order) u (next_in W u) i n w W.copies

abbrev pub split_in : World → ℕ → Copies
split_in W c = split (position W.order) c (split_version W.copies c) W.copies

-- the states alter as the rules say: a new version has the state that it was opened on, a node or a change comes into the state of its
-- version alone, and a split alters none. Entries used are those that come in; a split hands over what stood behind x
abbrev pub after : World → Move → World
after W (opening a) = record {
  order = behind W.order a (length W.order);
  copies = opened W.copies;
  states = put W.states (length W.order) (W.states a);
  splits = W.splits;
  linked = W.linked;
  numbered = W.numbered;
  used = W.used;
}
after W (making u key numbers) = record {
  order = W.order;
  copies = make_node u key numbers W.copies;
  states = put W.states u (with_node (suc W.copies.made) key numbers (W.states u));
  splits = W.splits;
  linked = W.linked;
  numbered = W.numbered;
  used = W.used;
}
after W (linking u i l v) = record {
  order = W.order;
  copies = relinked_in W u i l v;
  states = put W.states u (wrote (W.copies.copy i).serial l (by_serial W.copies v) (W.states u));
  splits = W.splits;
  linked = W.linked + 1;
  numbered = W.numbered;
  used = W.used + (all_entries (relinked_in W u i l v) - all_entries W.copies);
}
after W (numbering u i n w) = record {
  order = W.order;
  copies = numbered_in W u i n w;
  states = put W.states u (wrote (W.copies.copy i).serial (number n) (Number w) (W.states u));
  splits = W.splits;
  linked = W.linked;
  numbered = W.numbered + 1;
  used = W.used + (all_entries (numbered_in W u i n w) - all_entries W.copies);
}
after W (splitting c) = record {
  order = W.order;
  copies = split_in W c;
  states = W.states;
  splits = W.splits + 1;
  linked = W.linked;
  numbered = W.numbered;
  used = W.used + (elsewhere W.copies.total c (split_in W c) - elsewhere W.copies.total c W.copies);
}

-- a new version is opened on a known one, and a node made in one; a link is set, to nil or to a node that the version holds, where the
-- copy serves the version and its node is held, and no third link comes of it; a number likewise; and a copy of a node is split when
-- it has more than 18 entries
abbrev pub May : World → Move → Type 0
May W (opening a) = position W.order a < length W.order
May W (making u key numbers) = position W.order u < length W.order
May W (linking u i l v) =
    Serves (position W.order) W.copies (position W.order u) i × HasLink i l × LinkTarget (position W.order) W.copies u v
    × ((W.states u).has (W.copies.copy i).serial ≡ true) × Held W.copies (W.states u) v
    × (crowded (slice (position W.order) u W.copies) i l v ≡ false)
May W (numbering u i n w) =
    Serves (position W.order) W.copies (position W.order u) i × (i ≢ 0) × ((W.states u).has (W.copies.copy i).serial ≡ true)
May W (splitting c) = (c ≢ 0) × (c < W.copies.total) × (18 < size W.copies c)

abbrev pub Runs : World → List Move → Type 0
Runs W [] = Unit {0}
Runs W (m ∷ ms) = May W m × Runs (after W m) ms

abbrev pub last : World → List Move → World
last W [] = W
last W (m ∷ ms) = last (after W m) ms

-- the root record alone, version 0 alone
abbrev pub fresh_copies : Copies
fresh_copies = record { total = 1; copy = λ _. record { serial = 0; key = 0; lo = 0; first = λ _. Nil; entries = [] }; made = 0; versions = 1 }

-- no nodes, all roots nil
abbrev pub fresh_state : NodeState
fresh_state = record { has = λ s. (s == 0); key = λ _. 0; get = λ s f. Nil }

abbrev pub fresh_world : World
fresh_world = record { order = 0 ∷ []; copies = fresh_copies; states = λ _. fresh_state; splits = 0; linked = 0; numbered = 0; used = 0 }

pub record Kept (W : World) : Type 0 where
  -- the order's laws
  pub distinct : Distinct W.order
  pub known : (a : ℕ) → member W.order a ≡ known W.order a
  pub counted : W.copies.versions ≡ length W.order
  -- the copies are sound, and every version reads its own state
  pub sound : Sound (position W.order) W.copies
  pub means : Means (position W.order) W.copies W.states
  -- six for each split, and the surplus, were paid by changes; each copy was made with a node or by a split
  pub paid : 6 * W.splits + surplus W.copies ≤ 6 * W.linked + 2 * W.numbered
  pub copied : W.copies.total ≡ suc (W.copies.made + W.splits)
  -- entries in use are entries used, and those came in by changes and splits
  pub held : all_entries W.copies ≤ W.used
  pub rows : W.used ≤ 6 * W.linked + 2 * W.numbered + 4 * W.splits

-- copies of nodes, and entries ever used, for so many nodes made, links and roots written and numbers written
pub record Spaced (copies used nodes links numbers : ℕ) : Type 0 where
  pub few_copies : copies ≤ nodes + links + numbers / 3
  pub few_entries : used ≤ 10 * links + 2 * numbers + 4 * (numbers / 3)

-- every world of every run from the fresh memory keeps all that, within the space; in changes of either kind: copies are at most the
-- nodes made and the changes accepted, and entries ever used at most ten for each change
abbrev pub RunKeeps : Type 0
RunKeeps = (ms : List Move) → Runs fresh_world ms
    → Kept (last fresh_world ms)
    × Spaced ((last fresh_world ms).copies.total - 1) (last fresh_world ms).used (last fresh_world ms).copies.made (last fresh_world ms).linked (last fresh_world ms).numbered
    × ((last fresh_world ms).copies.total - 1 ≤ (last fresh_world ms).copies.made + ((last fresh_world ms).linked + (last fresh_world ms).numbered))
    × ((last fresh_world ms).used ≤ 10 * ((last fresh_world ms).linked + (last fresh_world ms).numbered))

-- one step from any such world
abbrev pub StepKeeps : Type 0
StepKeeps = (W : World) (m : Move) → Kept W → May W m → Kept (after W m)

-- such a world is within the space, and a step from it, a link's, a number's or a split's, uses at most 6, 2 and 4 entries
abbrev pub KeptSpaced : Type 0
KeptSpaced = (W : World) → Kept W
    → Spaced (W.copies.total - 1) W.used W.copies.made W.linked W.numbered
    × ((u i l : ℕ) (v : Value) → (after W (linking u i l v)).used ≤ W.used + 6)
    × ((u i n w : ℕ) → (after W (numbering u i n w)).used ≤ W.used + 2)
    × ((c : ℕ) → May W (splitting c) → (after W (splitting c)).used ≤ W.used + 4)

-- the test for each step
abbrev pub has_link : ℕ → ℕ → Bool
has_link i l = cond (nat_lt l 2) true (both (i == 0) (l == 2))

abbrev pub may_name : World → ℕ → Value → Bool
may_name W u (Number n) = false
may_name W u Nil = true
may_name W u (To k) =
    both (serving (position W.order) W.copies (position W.order u) k) (both (not (k == 0)) ((W.states u).has (W.copies.copy k).serial))
may_name W u (From a l) = false

abbrev pub allowed : World → Move → Bool
allowed W (opening a) = nat_lt (position W.order a) (length W.order)
allowed W (making u key numbers) = nat_lt (position W.order u) (length W.order)
allowed W (linking u i l v) =
    both (serving (position W.order) W.copies (position W.order u) i)
    (both (has_link i l) (both (may_name W u v)
    (both ((W.states u).has (W.copies.copy i).serial) (not (crowded (slice (position W.order) u W.copies) i l v)))))
allowed W (numbering u i n w) =
    both (serving (position W.order) W.copies (position W.order u) i) (both (not (i == 0)) ((W.states u).has (W.copies.copy i).serial))
allowed W (splitting c) = both (not (c == 0)) (both (nat_lt c W.copies.total) (nat_lt 18 (size W.copies c)))

abbrev pub all_allowed : World → List Move → Bool
all_allowed W [] = true
all_allowed W (m ∷ ms) = both (allowed W m) (all_allowed (after W m) ms)

-- steps that pass the test are a run
abbrev pub AllowedRuns : Type 0
AllowedRuns = (W : World) (ms : List Move) → all_allowed W ms ≡ true → Runs W ms

-- the last of the first m copies, but the root record, that has more than 18 entries; 0 if there is none
abbrev pub overfull : Copies → ℕ → ℕ
overfull M zero = 0
overfull M (suc m) = cond (both (not (m == 0)) (nat_lt 18 (size M m))) m (overfull M m)

abbrev pub split_overfull : (ℕ → ℕ) → ℕ → Copies → Copies
split_overfull pos c M = split pos c (split_version M c) M

-- splits, at most k, until no copy has more than 18 entries
abbrev pub cascade : (ℕ → ℕ) → ℕ → Copies → Copies
cascade pos zero M = M
cascade pos (suc k) M = cond (overfull M M.total == 0) M (cascade pos k (split_overfull pos (overfull M M.total) M))

-- with as many steps as a sixth of the surplus it ends with no copy above 18; it keeps soundness and every version's state, and each new
-- copy is paid with six
abbrev pub CascadeEnds : Type 0
CascadeEnds = (pos : ℕ → ℕ) (k : ℕ) (M : Copies) → Sound pos M → surplus M < 6 * suc k
    → Sound pos (cascade pos k M)
    × ((i : ℕ) → i < (cascade pos k M).total → (i ≢ 0) → size (cascade pos k M) i ≤ 18)
    × ((A : ℕ → NodeState) → Means pos M A → Means pos (cascade pos k M) A)
    × (surplus (cascade pos k M) + 6 * (cascade pos k M).total ≤ surplus M + 6 * M.total)
