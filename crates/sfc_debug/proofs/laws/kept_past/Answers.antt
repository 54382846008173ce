use Rattle.sfc_debug.proofs.Keeping.{keeps_past, past_agrees}
use Rattle.sfc_debug.proofs.laws.kept_past.Goals as goal

pub returns : goal.returns
returns c debugger h = (keeps_past debugger h, past_agrees debugger h)
