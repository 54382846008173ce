use Rattle.std.proofs.Common.{◌≡◌, ◌++◌, ◌∙◌, List, ℕ, ap}
use Rattle.std.proofs.lemmas.Result.{on_ok_weaker}
use Rattle.sfc_plant.specs.Plants.{PlantData}
use Rattle.sfc_control.specs.sfc_debug.sfc_core.PlantState as plant_state
use Rattle.sfc_control.specs.sfc_debug.Agreement.{plant_of, table_of}
use Rattle.sfc_control.specs.sfc_debug.States.{state_of}
use Rattle.sfc_control.specs.sfc_debug.Steered.{steered_by}
use Rattle.sfc_page.proofs.Appended.{two_appended}
use Rattle.sfc_run.specs.Alarms.{ended_text, whole_text}
use Rattle.sfc_run.proofs.alarms.append_level.Goals as goal

pub returns : goal.returns
returns c h agrees =
    let plant = plant_of c.args.debugger.now in
    let state = state_of plant (table_of c.args.debugger.now) h in
    let whole = c.append_whole.new.out.items in
    let text = λ (p : PlantData). ended_text p (plant_state.state_of p state.events).instance_state c.args.row.answer in
    on_ok_weaker c.append_all_ended.result
    (λ e. two_appended c.args.out.now.items whole _ (whole_text (steered_by c.args.debugger.now) state c.args.row) (text plant)
    (c.in_ok-append_whole.ensures h agrees)
    (e ∙ ap (λ (p : PlantData). whole ++ text p) c.resource.ensures.plant))
    (c.append_all_ended.ensures state.events (c.resource.ensures.agrees h agrees))
