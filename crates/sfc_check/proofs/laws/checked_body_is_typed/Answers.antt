use Rattle.sfc_check.proofs.CheckedTypes.{body_typed}
use Rattle.sfc_check.proofs.laws.checked_body_is_typed.Goals as goal

pub returns : goal.returns
returns c names declared block declares = body_typed names declared declares block
