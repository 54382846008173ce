use Rattle.std.proofs.Common.{◌∙◌, sym, ap, subst, length}
use Rattle.sfc_plant.specs.Plants.{PlantData}
use Rattle.sfc_asking.specs.sfc_core.Agreement as core
use Rattle.sfc_asking.specs.sfc_core.PlantState.{state_of}
use Rattle.sfc_asking.specs.sfc_debug.declared.debugger.Debugger.{Debugger}
use Rattle.sfc_asking.specs.sfc_debug.Agreement.{Agrees, plant_of, table_of}
use Rattle.sfc_asking.specs.sfc_debug.States.{erasure}
use Rattle.sfc_panel.specs.Pictures.{IsPicture}
use Rattle.sfc_panel.specs.Changes.{shows_none}
use Rattle.sfc_prompt.specs.Courses.{is_quiet}
use Rattle.sfc_session.specs.Sessions.{steered_in}
use Rattle.sfc_prompt.proofs.prompt.is_quiet.Goals as goal

pub returns-in-Ok : goal.returns-in-Ok
returns-in-Ok c h g lines said picture =
    let d : Debugger = c.debugger.result.now in
    let agrees : Agrees d g = subst (λ (d : Debugger). Agrees d g) (sym c.debugger.ensures) said.agrees in
    let answer = c.in-Ok.answer in
    let here : IsPicture (plant_of d) (state_of (plant_of d) (erasure (plant_of d) (table_of d) h)) c.args.picture.now =
    subst (λ (d : Debugger). IsPicture (plant_of d) (state_of (plant_of d) (erasure (plant_of d) (table_of d) h)) c.args.picture.now)
    (sym c.debugger.ensures) picture in
    let there : IsPicture (core.plant_of c.resource.result.now)
    (state_of (core.plant_of c.resource.result.now) (erasure (plant_of d) (table_of d) h)) c.args.picture.now =
    subst (λ (plant : PlantData). IsPicture plant (state_of plant (erasure (plant_of d) (table_of d) h)) c.args.picture.now)
    (sym c.resource.ensures.plant) here in
    let shows = c.shows_none.ensures (erasure (plant_of d) (table_of d) h) (erasure (plant_of d) (table_of d) g) there
    (c.resource.ensures.agrees g agrees) in
    shows
    ∙ ap (λ (plant : PlantData). shows_none plant (state_of plant (erasure (plant_of d) (table_of d) h))
    (state_of plant (erasure (plant_of d) (table_of d) g)) answer (length plant.instances)) c.resource.ensures.plant
    ∙ ap (λ (d : Debugger). shows_none (plant_of d) (state_of (plant_of d) (erasure (plant_of d) (table_of d) h))
    (state_of (plant_of d) (erasure (plant_of d) (table_of d) g)) answer (length (plant_of d).instances)) c.debugger.ensures
    ∙ ap (λ v. is_quiet (steered_in c.args.session.now) h g v) (sym c.in-Ok.is)
