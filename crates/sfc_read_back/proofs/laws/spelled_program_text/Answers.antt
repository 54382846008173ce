use Rattle.sfc_read_back.proofs.SpelledPrograms.{program_spelled}
use Rattle.sfc_read_back.proofs.laws.spelled_program_text.Goals as goal

pub returns : goal.returns
returns c = λ globals p rest is. program_spelled globals p is rest
