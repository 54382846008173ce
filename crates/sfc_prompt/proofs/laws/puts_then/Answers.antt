use Rattle.sfc_prompt.proofs.Telling.{puts_then}
use Rattle.sfc_prompt.proofs.laws.puts_then.Goals as goal

pub returns : goal.returns
returns c first middle last before between behind one other = puts_then first middle last before between behind one other
