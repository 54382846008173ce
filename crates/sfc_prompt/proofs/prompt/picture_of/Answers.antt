use Rattle.std.proofs.Common.{sym, subst}
use Rattle.std.specs.Prelude.{IfOk}
use Rattle.sfc_plant.specs.Plants.{PlantData}
use Rattle.sfc_events.specs.History.{History}
use Rattle.sfc_asking.specs.sfc_core.PlantState.{state_of}
use Rattle.sfc_asking.specs.sfc_debug.declared.debugger.Debugger.{Debugger}
use Rattle.sfc_asking.specs.sfc_debug.Agreement.{Agrees, plant_of, table_of}
use Rattle.sfc_asking.specs.sfc_debug.States.{erasure}
use Rattle.sfc_panel.specs.Pictures.{IsPicture}
use Rattle.sfc_prompt.proofs.prompt.picture_of.Goals as goal

pub returns : goal.returns
returns c h lines said =
    let d : Debugger = c.debugger.result.now in
    let resource = c.resource.result.now in
    let agrees : Agrees d h = subst (λ (d : Debugger). Agrees d h) (sym c.debugger.ensures) said.agrees in
    let events : History = erasure (plant_of d) (table_of d) h in
    subst (λ (d : Debugger). IfOk c.of.result (λ picture. IsPicture (plant_of d)
    (state_of (plant_of d) (erasure (plant_of d) (table_of d) h)) picture)) c.debugger.ensures
    (subst (λ (plant : PlantData). IfOk c.of.result (λ picture. IsPicture plant (state_of plant events) picture))
    c.resource.ensures.plant (c.of.ensures events (c.resource.ensures.agrees h agrees)))
