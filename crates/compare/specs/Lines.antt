-- The lines of a comparison.
--
--   Line       what a line says: build, file, length, fingerprints
--   meaning    the line that a value of the program stands for
--   build_of   the build that a word names
--   head_of    the build, the file and its length that words begin with
--   line_of    the line that words write, or nothing
use Rattle.std.specs.Prelude.{ℕ, cond, List, Some, None, vec_items, codes, Option}
use Rattle.std.specs.Str.{bytes_eq}
use Rattle.text.specs.Numbers.{number_of, numbers_of}
use Rattle.text.specs.Left.{behind_first, read_first, if_there}
use Rattle.compare.specs.declared.line.Build.{Build}
use Rattle.compare.specs.declared.line.Build.TheVariants.{Was, Now}
use Rattle.compare.specs.declared.line.FileLine.{FileLine}

-- a file of a build, its length in bytes, and the fingerprints of its pieces
pub record Line : Type 0 where
  pub build : Build
  pub file : ℕ
  pub size : ℕ
  pub prints : List ℕ

abbrev pub meaning : FileLine → Line
meaning l = record { build = l.build; file = l.file; size = l.length; prints = vec_items l.prints }

-- "was" is the old build, "now" the new one
abbrev pub build_of : List ℕ → Option Build
build_of w = cond (bytes_eq w (codes "was")) (Some Was) (cond (bytes_eq w (codes "now")) (Some Now) None)

abbrev pub the_line : Build → ℕ → ℕ → List ℕ → Line
the_line b f l ps = record { build = b; file = f; size = l; prints = ps }

-- the build, the file's 32-bit number and its 64-bit length
abbrev pub head_of : List (List ℕ) → Option (Build × ℕ × ℕ)
head_of ws =
    if_there (read_first build_of ws) (λ b.
    if_there (read_first (number_of 32) (behind_first ws)) (λ f.
    if_there (read_first (number_of 64) (behind_first (behind_first ws))) (λ l. Some (b, f, l))))

-- those, and fingerprints to the end of the line
abbrev pub line_of : List (List ℕ) → Option Line
line_of ws = if_there (head_of ws) (λ h. if_there (numbers_of (behind_first (behind_first (behind_first ws)))) (λ ps. Some (the_line h.0 h.1 h.2 ps)))
