use Rattle.sfc_tokens.proofs.Spaced.{ends_there}
use Rattle.sfc_tokens.proofs.laws.space_ends.Goals as goal

pub returns : goal.returns
returns c = ends_there
