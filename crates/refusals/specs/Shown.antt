-- Refusals as text.
--
--   refused_text   what is written of a refusal with this number
use Rattle.std.specs.Prelude.{ℕ, List, ◌++◌, codes, decimal}

abbrev pub refused_text : ℕ → List ℕ
refused_text n = codes "refused " ++ decimal n
