use Rattle.std.proofs.Common.{arith}
use Rattle.sfc_output.proofs.kept_head.KeptHead.none.Goals as goal

pub returns : goal.returns
returns c name scans has = absurd (omega (arith, has.long, c.none.ensures.none))
