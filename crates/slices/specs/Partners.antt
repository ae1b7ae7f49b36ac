-- Which copies a split has to visit, and how: only the partners of the split copy, those that name it from x on; and it is enough
-- to let them name the new copy in place of the old, since nothing names the new one yet.
--
--   names_one, redirect                         a value names a copy; a value that names one copy in place of another (in fields)
--   redirects, redirect_maps, redirected_copy   entries and a copy in which, from a version on, one copy is named in place of another
--   ValuesOf                                    something holds of the values of a field among entries
--   SplitRedirects                              a split renames every copy by redirecting it
--   RedirectTwice                               redirecting a copy twice is redirecting it once
--   SplitIdle                                   the copies that a split leaves as they are
--   PartnersFound                               a copy that names the split one is named by it, at x or by an entry behind x
use Rattle.std.specs.Prelude.{◌≡◌, ℕ, ◌<◌, ◌≤◌, Bool, false, cond, List, [], ◌∷◌, ◌==◌, ◌≢◌, nat_le}
use Rattle.fields.specs.declared.kinds.Value.{Value}
pub use Rattle.fields.specs.Fields.{names_one, redirect}
use Rattle.entries.specs.Entries.{Entry, entries_behind, mapped, renamed}
use Rattle.slices.specs.Copies.{Copy, Copies, value_at, Serves, CopyOk, Sound}
use Rattle.slices.specs.Splits.{times, naming, names, renamed_copy, split}

-- the fields of fs, one after the other: from the version x on d is named in place of c
abbrev pub redirects : (ℕ → ℕ) → ℕ → ℕ → List ℕ → ℕ → (ℕ → Value) → List (Entry Value) → List (Entry Value)
redirects pos c d [] x first es = es
redirects pos c d (f ∷ fs) x first es = renamed pos (names_one c) (redirect c d) f x (first f) (redirects pos c d fs x first es)

abbrev pub redirect_maps : (ℕ → ℕ) → ℕ → ℕ → List ℕ → ℕ → List (Entry Value) → List (Entry Value)
redirect_maps pos c d [] x es = es
redirect_maps pos c d (f ∷ fs) x es = mapped pos (redirect c d) f x (redirect_maps pos c d fs x es)

-- a copy in which, from the version x on, d is named in place of c; here says whether it serves x
abbrev pub redirected_copy : (ℕ → ℕ) → List ℕ → ℕ → ℕ → ℕ → Bool → Copy → Copy
redirected_copy pos fs c d x here k =
    cond (nat_le (pos x) (pos k.lo))
    (record {
      serial = k.serial;
      key = k.key;
      lo = k.lo;
      first = λ f. cond (times f fs == 0) (k.first f) (redirect c d (k.first f));
      entries = redirect_maps pos c d fs (pos x) k.entries;
    })
    (record {
      serial = k.serial;
      key = k.key;
      lo = k.lo;
      first = k.first;
      entries = cond here (redirects pos c d fs x k.first k.entries) k.entries;
    })

-- P holds of the value of each entry of the field f
abbrev pub ValuesOf : (Value → Type 0) → ℕ → List (Entry Value) → Type 0
ValuesOf P f [] = Unit {0}
ValuesOf P f (e ∷ es) = (e.field ≡ f → P e.value) × ValuesOf P f es

-- the copies that a split renames are as if redirected to the new copy
abbrev pub SplitRedirects : Type 0
SplitRedirects = (pos : ℕ → ℕ) (M : Copies) (c x i : ℕ) (here : Bool) → Sound pos M → i < M.total
    → ((renamed_copy pos naming c M.total x here (M.copy i)).entries ≡ (redirected_copy pos naming c M.total x here (M.copy i)).entries)
    × ((f : ℕ) → (renamed_copy pos naming c M.total x here (M.copy i)).first f ≡ (redirected_copy pos naming c M.total x here (M.copy i)).first f)

-- a copy that was redirected is not altered by being redirected again
abbrev pub RedirectTwice : Type 0
RedirectTwice = (pos : ℕ → ℕ) (c d x : ℕ) (here : Bool) (k : Copy) → (d ≢ c) → CopyOk pos k
    → ((redirected_copy pos naming c d x here (redirected_copy pos naming c d x here k)).entries ≡ (redirected_copy pos naming c d x here k).entries)
    × ((f : ℕ) → (redirected_copy pos naming c d x here (redirected_copy pos naming c d x here k)).first f ≡ (redirected_copy pos naming c d x here k).first f)

-- a split leaves every other copy as it is that names the split copy at no version from x on
abbrev pub SplitIdle : Type 0
SplitIdle = (pos : ℕ → ℕ) (M : Copies) (c x i : ℕ) → Sound pos M
    → i < M.total → (i ≢ c) → ((p f : ℕ) → pos x ≤ p → Serves pos M p i → names c M.total (value_at pos p (M.copy i) f) ≡ false)
    → (((split pos c x M).copy i).entries ≡ (M.copy i).entries) × ((f : ℕ) → ((split pos c x M).copy i).first f ≡ (M.copy i).first f)

-- a copy that c names neither at x nor by an entry behind x names c at no version from x on
abbrev pub PartnersFound : Type 0
PartnersFound = (pos : ℕ → ℕ) (M : Copies) (c x i : ℕ) → Sound pos M → Serves pos M (pos x) c
    → ((f : ℕ) → names_one i (value_at pos (pos x) (M.copy c) f) ≡ false)
    → ((f : ℕ) → ValuesOf (λ v. names_one i v ≡ false) f (entries_behind pos (pos x) (M.copy c).entries))
    → (p f : ℕ) → pos x ≤ p → Serves pos M p i → names c M.total (value_at pos p (M.copy i) f) ≡ false
