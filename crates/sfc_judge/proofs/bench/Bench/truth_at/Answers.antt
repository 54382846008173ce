use Rattle.std.proofs.Common.{◌≡◌, ◌∙◌, sym, ap, false, None, if◌then◌else◌}
use Rattle.sfc_expr.specs.Meaning.{value_of}
use Rattle.sfc_replay.specs.sfc_debug.Hits.{environment_after}
use Rattle.sfc_replay.specs.sfc_debug.Steered.{Steered}
use Rattle.sfc_replay.specs.sfc_instance.Life.{InstanceState, latest_instant}
use Rattle.sfc_replay.specs.sfc_instance.ProgramScan.{environment}
use Rattle.sfc_replay.specs.sfc_instance.Views.{Shows, environment_in}
use Rattle.sfc_replay.specs.sfc_instances.PlantState.{PlantState}
use Rattle.sfc_judge.specs.Holding.{instance_at}
use Rattle.sfc_judge.specs.Moments.{plant_at, truth_of, value_at}
use Rattle.sfc_judge.specs.Running.Benches.{IsWindow, steered_in}
use Rattle.sfc_judge.proofs.bench.Bench.truth_at.Goals as goal

pub returns : goal.returns
returns c = λ m stands.
    let st : Steered = steered_in c.args.self.now in
    let p = c.args.condition.now.program in
    let view = c.in_ok-view.view in
    let window : IsWindow st p view = c.in_ok-view.ensures.some in
    let state : PlantState = plant_at st m in
    let inst : InstanceState = instance_at st m p in
    let shown : Shows view state.changes inst = c.in_ok-view.ensures.shows m stands in
    let env : environment_in view ≡ environment_after st.plant state p =
    c.window.ensures view state.changes inst shown
    ∙ (λ i. environment (window.plant i) (window.instance i) inst.life state.changes (latest_instant inst.life) false) in
    c.truth_of.ensures
    ∙ ap truth_of (c.eval.ensures.value ∙ (λ i. value_of (env i) (c.expr.ensures i)))
    ∙ sym (ap (λ t. if t then truth_of (value_at st m c.args.condition.now) else None) window.there)
