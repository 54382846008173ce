use Rattle.std.proofs.Common.{◌≡◌, ◌∙◌, false, sym, ap, subst, ℕ, ◌<◌, length, List, Some}
use Rattle.sfc_plant.specs.Plants.{PlantData}
use Rattle.sfc_plant.specs.declared.instance.Instance.{Instance}
use Rattle.sfc_events.specs.History.{History}
use Rattle.sfc_asking.specs.sfc_instance.Life.{latest_instant}
use Rattle.sfc_asking.specs.sfc_instance.ProgramScan.{environment}
use Rattle.sfc_asking.specs.sfc_instance.Views.{environment_in}
use Rattle.sfc_asking.specs.sfc_core.Agreement as core
use Rattle.sfc_asking.specs.sfc_core.PlantState.{state_of}
use Rattle.sfc_asking.specs.sfc_debug.declared.debugger.Debugger.{Debugger}
use Rattle.sfc_asking.specs.sfc_debug.Agreement.{Agrees, plant_of, table_of}
use Rattle.sfc_asking.specs.sfc_debug.Hits.{environment_after, is_met}
use Rattle.sfc_asking.specs.sfc_debug.States.{erasure}
use Rattle.sfc_session.specs.Sessions.{steered_in}
use Rattle.sfc_prompt.proofs.Courses.{holds_here}
use Rattle.sfc_prompt.proofs.course.holds.Goals as goal

pub returns : goal.returns
returns c h lines said =
    let d : Debugger = c.debugger.result.now in
    let condition = c.args.condition.now in
    let p = condition.program in
    let plant : PlantData = core.plant_of c.resource-resource.result.now in
    let agrees : Agrees d h = subst (λ (d : Debugger). Agrees d h) (sym c.debugger.ensures) said.agrees in
    let events : History = erasure (plant_of d) (table_of d) h in
    let state = state_of plant events in
    let stands = state.instance_state p.0 in
    let view = c.program-view.ensures in
    let shown = view.shows events (c.resource-resource.ensures.agrees h agrees) in
    let env : environment_in c.program-view.result ≡ environment_after plant state p =
    c.window.ensures c.program-view.result state.changes stands shown
    ∙ (λ i. environment (view.plant i) (view.instance i) stands.life state.changes (latest_instant stands.life) false) in
    let less : p.0 < length (steered_in c.args.session.now).plant.instances =
    subst (λ (n : ℕ). n < length (steered_in c.args.session.now).plant.instances) c.from.ensures
    (subst (λ (all : List Instance). c.from.result < length all)
    (c.instances.ensures.value ∙ ap (λ (q : PlantData). q.instances) c.plant.ensures) c.if-from-instances.false) in
    holds_here (steered_in c.args.session.now) h condition c.reads_true.result less
    (c.reads_true.ensures ∙ ap (λ e. is_met e (Some condition)) env
    ∙ ap (λ (q : PlantData). is_met (environment_after q (state_of q events) p) (Some condition)) c.resource-resource.ensures.plant
    ∙ ap (λ (d : Debugger). is_met (environment_after (plant_of d) (state_of (plant_of d) (erasure (plant_of d) (table_of d) h)) p)
    (Some condition)) c.debugger.ensures)
