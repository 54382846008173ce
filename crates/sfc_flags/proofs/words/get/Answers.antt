use Rattle.sfc_flags.proofs.Tables.{got}
use Rattle.sfc_flags.proofs.words.get.Goals as goal

pub returns : goal.returns
returns c = got c.args.words.now c.args.i
