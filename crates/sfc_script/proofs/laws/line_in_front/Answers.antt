use Rattle.sfc_script.proofs.TimedLines.{line_first}
use Rattle.sfc_script.proofs.laws.line_in_front.Goals as goal

pub returns : goal.returns
returns c line rest one = line_first line rest one
