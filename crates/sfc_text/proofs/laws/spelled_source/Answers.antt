use Rattle.sfc_text.proofs.SpelledSources.{source_derives}
use Rattle.sfc_text.proofs.laws.spelled_source.Goals as goal

pub returns : goal.returns
returns c = λ limits s h. source_derives limits s h
