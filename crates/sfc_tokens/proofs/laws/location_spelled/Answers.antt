use Rattle.sfc_tokens.proofs.SpelledLocations.{location_spells}
use Rattle.sfc_tokens.proofs.laws.location_spelled.Goals as goal

pub returns : goal.returns
returns c = location_spells
