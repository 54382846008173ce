use Rattle.sfc_text.proofs.SpelledCharts.{transition_derives}
use Rattle.sfc_text.proofs.laws.spelled_transition.Goals as goal

pub returns : goal.returns
returns c = λ limits t rest h. transition_derives limits t rest h
