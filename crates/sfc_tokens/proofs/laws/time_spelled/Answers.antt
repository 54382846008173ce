use Rattle.sfc_tokens.proofs.DurationWords.{duration_before}
use Rattle.sfc_tokens.proofs.TimeLaw.{time_is}
use Rattle.sfc_base.specs.TimeText.{time_text}
use Rattle.sfc_tokens.proofs.laws.time_spelled.Goals as goal

pub returns : goal.returns
returns c = λ z rest le ends. duration_before (time_text z) z rest (time_is z le) ends
