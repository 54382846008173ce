use Rattle.sfc_read_back.proofs.SpelledSteps.{step_spelled}
use Rattle.sfc_read_back.proofs.laws.spelled_step_text.Goals as goal

pub returns : goal.returns
returns c = λ space s rest is. step_spelled space s is rest
