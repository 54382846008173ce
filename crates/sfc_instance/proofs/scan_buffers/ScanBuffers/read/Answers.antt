use Rattle.std.proofs.Common.{to_z-of_z, false, is_ok, arith, map, ℕ, ℤ, Bool, List, length, sym, ap, subst, ◌∙◌}
use Rattle.std.proofs.lemmas.List.{with_items_is}
use Rattle.std.specs.Result.{result_err}
use Rattle.std.specs.Vec.{with_items}
use Rattle.sfc_expr.specs.Environment.{Environment}
use Rattle.sfc_image.specs.Changes.{settled}
use Rattle.sfc_image.specs.Agreement.{environment_in}
use Rattle.sfc_image.specs.StepTimes.{times_of}
use Rattle.sfc_tables.specs.declared.step_action.StepAction.{StepAction}
use Rattle.sfc_plant.specs.declared.chart.Chart.{Chart}
use Rattle.sfc_tables.specs.Tables.{Tabled, tables_of}
use Rattle.sfc_plant.specs.Finding.{chart_of}
use Rattle.sfc_instance.specs.ProgramScan.{step_times, association_times, time_of, condition_fault, condition_flags, environment}
use Rattle.sfc_instance.specs.Agreement.{StateAgrees}
use Rattle.sfc_instance.specs.Private.Holding.{AreHeld}
use Rattle.sfc_instance.specs.Private.Timing.{AreTimes}
use Rattle.sfc_instance.proofs.Left.{on_ok}
use Rattle.sfc_instance.proofs.Readings.{environment_is, tables_is}
use Rattle.sfc_instance.proofs.scan_buffers.ScanBuffers.read.Goals as goal

pub returns-in-Err-clause-fault : goal.returns-in-Err-clause-fault
unfolding StateAgrees
returns-in-Err-clause-fault c plant life changes context state h =
    let tables = c.args.context.tables.now in
    let chart = c.args.context.chart.now in
    let env = c.view-view.ensures plant (settled changes) h
    ∙ environment_is plant c.args.context life changes c.args.t false c.readings.result.active.now (times_of c.readings.result) context
    (c.readings.ensures.active tables life state)
    (c.readings.ensures.times tables life state ∙ ap (step_times tables life) (to_z-of_z c.ranges.t)) in
    ap result_err (sym c.in-Err.is) ∙ c.evaluate_all.ensures.fault life state.steps ∙ ap (λ (e : Environment). condition_fault tables chart e life tables.ranked) env

pub returns-in-Ok-clause-fault : goal.returns-in-Ok-clause-fault
unfolding StateAgrees
returns-in-Ok-clause-fault c plant life changes context state h =
    let tables = c.args.context.tables.now in
    let chart = c.args.context.chart.now in
    let env = c.view-view.ensures plant (settled changes) h
    ∙ environment_is plant c.args.context life changes c.args.t false c.readings.result.active.now (times_of c.readings.result) context
    (c.readings.ensures.active tables life state)
    (c.readings.ensures.times tables life state ∙ ap (step_times tables life) (to_z-of_z c.ranges.t)) in
    ap result_err (sym c.in-Ok.is) ∙ c.evaluate_all.ensures.fault life state.steps ∙ ap (λ (e : Environment). condition_fault tables chart e life tables.ranked) env

pub returns-in-Ok-clause-row : goal.returns-in-Ok-clause-row
unfolding StateAgrees
returns-in-Ok-clause-row c plant life changes context state h =
    let tables = c.args.context.tables.now in
    let chart = c.args.context.chart.now in
    let p = c.args.context.instance in
    let env = c.view-view.ensures plant (settled changes) h
    ∙ environment_is plant c.args.context life changes c.args.t false c.readings.result.active.now (times_of c.readings.result) context
    (c.readings.ensures.active tables life state)
    (c.readings.ensures.times tables life state ∙ ap (step_times tables life) (to_z-of_z c.ranges.t)) in
    let flags = with_items_is (with_items c.args.self.now.conditions c.blank.new.conditions) c.evaluate_all.new.conditions (omega arith)
    ∙ on_ok c.evaluate_all.result _ (ap is_ok c.in-Ok.is) c.evaluate_all.ensures.flags life state.steps
    ∙ ap (λ (e : Environment). condition_flags tables chart e life) env
    ∙ ap (λ (x : Tabled). condition_flags x chart (environment plant p life changes c.args.t false) life) (tables_is plant c.args.context context)
    ∙ ap (λ (x : Chart). condition_flags (tables_of (chart_of plant p)) x (environment plant p life changes c.args.t false) life) context.chart in
    let association = with_items_is c.args.self.now.times c.read_association_times.new.times (omega arith)
    ∙ c.read_association_times.ensures.times
    ∙ ap (λ (xs : List StepAction). map (λ x. time_of (environment_in c.view-view.result) x.qualifier) xs) c.step_actions.ensures
    ∙ ap (λ (e : Environment). association_times tables e) env
    ∙ ap (λ (x : Tabled). association_times x (environment plant p life changes c.args.t false)) (tables_is plant c.args.context context) in
    (λ i. record { conditions = flags i; times = association i; at = c.args.t })

pub returns-in-Ok-clause-sizes : goal.returns-in-Ok-clause-sizes
returns-in-Ok-clause-sizes c =
    let flags = with_items_is (with_items c.args.self.now.conditions c.blank.new.conditions) c.evaluate_all.new.conditions (omega arith) in
    let times = with_items_is c.args.self.now.times c.read_association_times.new.times (omega arith) in
    let n = length c.args.context.tables.now.sides in
    record {
      conditions = omega (arith, ap length flags, c.evaluate_all.ensures.len, c.requires.sizes.conditions);
      held = subst (λ (xs : List Bool). AreHeld n c.in-Ok.holding xs) (sym flags)
          (subst (λ (m : ℕ). AreHeld m c.in-Ok.holding c.evaluate_all.new.conditions) (omega (arith, c.requires.sizes.conditions)) c.in-Ok.ensures.held);
      times = subst (λ (xs : List ℤ). AreTimes c.args.context.tables.now.associations xs c.args.self.now.varied.items) (sym times)
          (subst (λ (xs : List StepAction). AreTimes xs c.read_association_times.new.times c.args.self.now.varied.items) c.step_actions.ensures
          (rw c.deref.ensures.value at c.read_association_times.ensures.varied));
      step_inputs = c.requires.sizes.step_inputs;
    }
