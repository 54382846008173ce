use Rattle.sfc_text.proofs.SpelledSources.{configuration_derives}
use Rattle.sfc_text.proofs.laws.spelled_configuration.Goals as goal

pub returns : goal.returns
returns c = λ limits c rest h. configuration_derives limits c rest h
