use Rattle.std.proofs.Common.{◌∙◌}
use Rattle.sfc_cover.proofs.Playing.{opened_beside}
use Rattle.sfc_cover.proofs.follow.Beside.open.Goals as goal

pub returns-clause-beside : goal.returns-clause-beside
returns-clause-beside c agrees =
    opened_beside c.args.debugger.now c.plant.result.now c.in_ok-instances.instances (c.plant.ensures ∙ c.resource.ensures.plant) agrees
    c.in_ok-instances.ensures.agrees
