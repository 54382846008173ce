use Rattle.sfc_script.proofs.TimedLines.{timed_says}
use Rattle.sfc_script.proofs.laws.timed_line_read.Goals as goal

pub returns : goal.returns
returns c plant t text le = timed_says plant t text le
