use Rattle.std.proofs.Common.{◌∙◌, ap}
use Rattle.sfc_c.specs.Resources.{debugger_in}
use Rattle.sfc_c.proofs.handle.Handle.read.Goals as goal

pub returns-clause-read : goal.returns-clause-read
returns-clause-read g c =
    let plc = c.in_ok-plc.plc in (
      plc.value,
      c.in_ok-plc.ensures.value,
      (c.debugger.result, c.f-r.ensures, c.debugger.ensures ∙ ap debugger_in c.deref.ensures),
    )
