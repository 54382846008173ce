use Rattle.sfc_text.proofs.SpelledCharts.{action_derives}
use Rattle.sfc_text.proofs.laws.spelled_action.Goals as goal

pub returns : goal.returns
returns c = λ limits a rest h. action_derives limits a rest h
