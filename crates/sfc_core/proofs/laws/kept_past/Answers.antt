use Rattle.sfc_core.proofs.Pasts.{keeps_past, past_agrees}
use Rattle.sfc_core.proofs.laws.kept_past.Goals as goal

pub returns : goal.returns
returns c resource h = (keeps_past resource h, past_agrees resource h)
