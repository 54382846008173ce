use Rattle.sfc_text.proofs.SpelledSources.{program_derives}
use Rattle.sfc_text.proofs.laws.spelled_program.Goals as goal

pub returns : goal.returns
returns c = λ limits p rest h. program_derives limits p rest h
