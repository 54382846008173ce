use Rattle.sfc_check.proofs.CheckedTypes.{checked_typed}
use Rattle.sfc_check.proofs.laws.checked_has_type.Goals as goal

pub returns : goal.returns
returns c names declared e t declares = checked_typed names declared declares e t
