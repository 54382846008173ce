use Rattle.sfc_text.proofs.SpelledCharts.{step_derives}
use Rattle.sfc_text.specs.Limits.{Within}
use Rattle.sfc_text.proofs.laws.spelled_step.Goals as goal

pub returns : goal.returns
returns c = λ limits s rest. step_derives limits.operators (Within limits.operators limits.depth) s rest
