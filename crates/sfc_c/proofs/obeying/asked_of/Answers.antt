use Rattle.std.proofs.Common.{subst}
use Rattle.sfc_replay.specs.sfc_debug.declared.debugger.Debugger.{Debugger}
use Rattle.sfc_replay.specs.sfc_debug.Steered.{steered_by}
use Rattle.sfc_c.specs.Lines.{Asks}
use Rattle.sfc_c.proofs.obeying.asked_of.Goals as goal

pub returns : goal.returns
returns c =
    subst (λ (d : Debugger). Asks (steered_by d) c.args.line.now c.asked_by.result) c.debugger.ensures c.asked_by.ensures
