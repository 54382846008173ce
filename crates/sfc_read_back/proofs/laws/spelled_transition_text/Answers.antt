use Rattle.sfc_read_back.proofs.SpelledTransitions.{transition_spelled}
use Rattle.sfc_read_back.proofs.laws.spelled_transition_text.Goals as goal

pub returns : goal.returns
returns c = λ space t rest is. transition_spelled space t is rest
