use Rattle.sfc_tokens.proofs.DurationWords.{answer}
use Rattle.sfc_tokens.proofs.duration.duration.Goals as goal

pub returns-clause-is : goal.returns-clause-is
returns-clause-is c = answer c.args.word.now c.value_of.result c.value_of.ensures
