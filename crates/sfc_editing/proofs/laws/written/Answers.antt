use Rattle.sfc_editing.proofs.Edited.{more_written}
use Rattle.sfc_editing.proofs.laws.written.Goals as goal

pub returns : goal.returns
returns c chart old new text before more has puts = more_written chart old new text before more has puts
