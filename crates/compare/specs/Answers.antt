-- The answers of a comparison.
--
--   Kept       a file of the old build: recorded once, where there is room
--   Answered   the answer to a line or why it is refused, and what is recorded after it
use Rattle.std.specs.Prelude.{◌≡◌, ℕ, true, false, List, ◌++◌, length, Ok, Err, Result}
use Rattle.refusals.specs.declared.kinds.BookRefusal.TheVariants.{Full}
use Rattle.keys.specs.Pieces.{pieces}
use Rattle.history.specs.declared.record.NotedPiece.{NotedPiece}
use Rattle.history.specs.Files.{file_pieces, fits}
use Rattle.history.specs.Prints.{print_at}
use Rattle.history.specs.Same.{SomePiece, NoPiece}
use Rattle.history.specs.Verdicts as verdicts
use Rattle.compare.specs.declared.line.Build.TheVariants.{Was, Now}
use Rattle.compare.specs.declared.answer.Answer.{Answer}
use Rattle.compare.specs.declared.answer.Answer.TheVariants.{Recorded, Judged}
use Rattle.compare.specs.declared.answer.LineRefusal.{LineRefusal}
use Rattle.compare.specs.declared.answer.LineRefusal.TheVariants.{WrongCount, AlreadyRecorded, NoRoom}
use Rattle.compare.specs.Lines.{Line}

-- a file of the old build: where a piece of it is recorded, nothing changes; else its pieces are recorded behind the others, from 0 on,
-- or refused where they do not fit
abbrev pub Kept : List NotedPiece → ℕ → Line → Result Answer LineRefusal → List NotedPiece → Type 0
Kept before room l (Err AlreadyRecorded) after = SomePiece (print_at before l.file) × (after ≡ before)
Kept before room l (Ok (Recorded n)) after =
    NoPiece (print_at before l.file) × (fits before room l.prints ≡ true) × (n ≡ length l.prints) × (after ≡ before ++ file_pieces l.file 0 l.prints)
Kept before room l (Err (NoRoom e)) after = NoPiece (print_at before l.file) × (fits before room l.prints ≡ false) × (e ≡ Full) × (after ≡ before)
Kept before room l (Ok (Judged verdict)) after = ⊥
Kept before room l (Err (WrongCount expected given)) after = ⊥

-- the number of fingerprints is that of the file's pieces
abbrev pub Counted : Line → Type 0
Counted l = pieces l.size ≡ length l.prints

-- a wrong number of fingerprints is refused with both numbers; a file of the old build is recorded; one of the new build is judged
-- against the record. Only a recorded file changes the record
abbrev pub Answered : List NotedPiece → ℕ → Line → Result Answer LineRefusal → List NotedPiece → Type 0
Answered before room l (Err (WrongCount expected given)) after =
    (Counted l → ⊥) × (expected ≡ pieces l.size) × (given ≡ length l.prints) × (after ≡ before)
Answered before room l (Ok (Judged verdict)) after = Counted l × (l.build ≡ Now) × verdicts.Judged (print_at before l.file) l.prints verdict × (after ≡ before)
Answered before room l (Err AlreadyRecorded) after = Counted l × (l.build ≡ Was) × Kept before room l (Err AlreadyRecorded) after
Answered before room l (Ok (Recorded n)) after = Counted l × (l.build ≡ Was) × Kept before room l (Ok (Recorded n)) after
Answered before room l (Err (NoRoom e)) after = Counted l × (l.build ≡ Was) × Kept before room l (Err (NoRoom e)) after
