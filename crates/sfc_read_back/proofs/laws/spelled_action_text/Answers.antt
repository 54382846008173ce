use Rattle.sfc_read_back.proofs.SpelledTransitions.{action_spelled}
use Rattle.sfc_read_back.proofs.laws.spelled_action_text.Goals as goal

pub returns : goal.returns
returns c = λ space a rest is. action_spelled space a is rest
