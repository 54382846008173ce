use Rattle.std.proofs.Common.{ℕ}
use Rattle.sfc_replay.specs.sfc_core.Agreement.{plant_of}
use Rattle.sfc_replay.specs.sfc_core.PlantState.{state_of}
use Rattle.sfc_svg.specs.Standing.{shown_of}
use Rattle.sfc_svg.proofs.Ranges.{kept_more}
use Rattle.sfc_svg.proofs.svg.shown_instances.Goals as goal

pub loop-number-preserved : goal.loop-number-preserved
loop-number-preserved c h agrees =
    let plant = plant_of c.args.resource.now in
    kept_more (λ (n : ℕ). shown_of plant (state_of plant h) c.args.wanted (record { 0 = n })) c.loop-number.number _ _ _
    (c.loop-number.invariant h agrees) (c.in_ok-marked.ensures h agrees) c.in_ok-push_some.ensures
