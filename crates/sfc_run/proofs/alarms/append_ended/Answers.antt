use Rattle.std.proofs.Common.{◌≡◌, ◌++◌, ◌∙◌, Bool, true, List, ℕ, ap, sym}
use Rattle.std.proofs.lemmas.Result.{on_ok_weaker}
use Rattle.sfc_control.specs.sfc_debug.sfc_core.Agreement.{plant_of}
use Rattle.sfc_control.specs.sfc_debug.sfc_core.PlantState.{state_of}
use Rattle.sfc_events.specs.InstanceSets.{has}
use Rattle.sfc_replay.specs.sfc_output.FaultPlaces.{faulted_line}
use Rattle.sfc_run.specs.Alarms.{ended_line}
use Rattle.sfc_run.proofs.alarms.append_ended.Goals as goal

pub returns : goal.returns
returns c h agrees =
    let plant = plant_of c.args.resource.now in
    let p = c.args.program in
    let state = state_of plant h in
    let old = c.args.out.now.items in
    let is_faulted : has c.args.faulted p.0 ≡ true = sym c.contains.ensures ∙ c.if-not-contains.false in
    on_ok_weaker c.append_faulted.result
    (λ e. e ∙ (λ i. old ++ faulted_line (c.program.ensures.plant i) (c.program.ensures.instance i) (state.instance_state p.0))
    ∙ ap (λ (b : Bool). old ++ ended_line b plant state.instance_state p.0) (sym is_faulted))
    (c.append_faulted.ensures state.changes (state.instance_state p.0) (c.program.ensures.shows h agrees))
