use Rattle.sfc_read_back.proofs.SpelledConfigurations.{configuration_spelled}
use Rattle.sfc_read_back.proofs.laws.spelled_configuration_text.Goals as goal

pub returns : goal.returns
returns c = λ plant rest is. configuration_spelled plant is rest
