use Rattle.keys.specs.BytesLemmas.{names_by_first_difference}
use Rattle.keys.specs.NamesLemmas.{equal_names_are_one}
use Rattle.keys.proofs.Pieces.{pieces_cover}
use Rattle.keys.proofs.laws.key_laws_hold.Goals as goal

pub returns : goal.returns
returns c = record { pieces = pieces_cover; names = equal_names_are_one; order = names_by_first_difference }
