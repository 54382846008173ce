use Rattle.std.proofs.Common.{to_z-of_z, ◌≡◌, ◌+◌, ◌-◌, ◌++◌, [], arith, List, length, drop, Result, ap, subst, ◌∙◌, append_assoc}
use Rattle.sfc_plant.specs.declared.action.Action.{Action}
use Rattle.sfc_plant.specs.declared.chart.Chart.{Chart}
use Rattle.sfc_plant.specs.Finding.{chart_of}
use Rattle.sfc_image.specs.Changes.{Change, trying}
use Rattle.sfc_image.specs.Outputs.{outputs}
use Rattle.sfc_tables.specs.Tables.{tables_of}
use Rattle.sfc_instance.specs.Life.{PlacedFault, control_scans}
use Rattle.sfc_instance.specs.Agreement.{StateAgrees}
use Rattle.sfc_instance.specs.ProgramScan.{after_actions, step_times}
use Rattle.sfc_instance.specs.Private.Acting.{Acts, place_in}
use Rattle.sfc_instance.proofs.Left.{placed}
use Rattle.sfc_instance.proofs.Outputs.{all_declared, counted, outputs_first, work_first, work_left}
use Rattle.sfc_instance.proofs.Readings.{tables_is}
use Rattle.sfc_instance.proofs.placing.find_place.Goals as goal

pub overflow_sub-first : goal.overflow_sub-first
overflow_sub-first c =
    omega (
      arith,
      c.actions-count.ensures,
      ap (λ (xs : List Action). length xs) c.as_slice.ensures,
      all_declared c.args.context.tables.now c.args.context.chart.now c.requires.tables,
    )

pub returns-clause-unchanged : goal.returns-clause-unchanged
unfolding StateAgrees
returns-clause-unchanged c plant life changes context state h =
    let tables = c.args.context.tables.now in
    let chart = c.args.context.chart.now in
    let p = c.args.context.instance in
    let first = c.actions-count.result - length c.as_slice.result.now in
    let outs : List Change = outputs plant p c.q_flags-q.result.now 0 tables.actions in
    let made : tables ≡ tables_of (chart_of plant p) = tables_is plant c.args.context context in
    let same : length chart.actions ≡ length (chart_of plant p).actions = ap (λ (x : Chart). length x.actions) context.chart in
    let count = counted tables chart c.actions-count.result c.as_slice.result.now c.requires.tables c.actions-count.ensures c.as_slice.ensures in
    let rest : after_actions plant p life c.args.t first (drop first tables.actions) ((outs ++ []) ++ changes)
    ≡ after_actions plant p life c.args.t 0 tables.actions changes =
    ap (after_actions plant p life c.args.t first (drop first tables.actions)) (append_assoc outs [] changes)
    ∙ outputs_first plant p life c.args.t c.q_flags-q.result.now (length tables.actions) tables made first
    (omega (arith, count, same)) (omega arith)
    (λ k lt. c.q_flags-q.ensures.each tables (control_scans tables life) k (omega (arith, lt, c.requires.state.controls.same_actions)) state.controls)
    changes in
    let acts = c.find_from-place.ensures.agrees plant life c.args.t changes (outs ++ []) (record {
      context = context;
      state = state;
      active = c.readings.ensures.active tables life state;
      times = c.readings.ensures.times tables life state ∙ ap (step_times tables life) (to_z-of_z c.ranges.t);
    })
    (c.assign_outputs.ensures.agrees plant (trying changes []) made (c.begin.ensures.agrees plant changes h)) in
    c.undo.ensures.agrees plant changes acts.tried acts.agrees

pub returns-clause-place : goal.returns-clause-place
unfolding StateAgrees
returns-clause-place c plant life changes context state h =
    let tables = c.args.context.tables.now in
    let chart = c.args.context.chart.now in
    let p = c.args.context.instance in
    let first = c.actions-count.result - length c.as_slice.result.now in
    let outs : List Change = outputs plant p c.q_flags-q.result.now 0 tables.actions in
    let made : tables ≡ tables_of (chart_of plant p) = tables_is plant c.args.context context in
    let same : length chart.actions ≡ length (chart_of plant p).actions = ap (λ (x : Chart). length x.actions) context.chart in
    let count = counted tables chart c.actions-count.result c.as_slice.result.now c.requires.tables c.actions-count.ensures c.as_slice.ensures in
    let rest : after_actions plant p life c.args.t first (drop first tables.actions) ((outs ++ []) ++ changes)
    ≡ after_actions plant p life c.args.t 0 tables.actions changes =
    ap (after_actions plant p life c.args.t first (drop first tables.actions)) (append_assoc outs [] changes)
    ∙ outputs_first plant p life c.args.t c.q_flags-q.result.now (length tables.actions) tables made first
    (omega (arith, count, same)) (omega arith)
    (λ k lt. c.q_flags-q.ensures.each tables (control_scans tables life) k (omega (arith, lt, c.requires.state.controls.same_actions)) state.controls)
    changes in
    let acts = c.find_from-place.ensures.agrees plant life c.args.t changes (outs ++ []) (record {
      context = context;
      state = state;
      active = c.readings.ensures.active tables life state;
      times = c.readings.ensures.times tables life state ∙ ap (step_times tables life) (to_z-of_z c.ranges.t);
    })
    (c.assign_outputs.ensures.agrees plant (trying changes []) made (c.begin.ensures.agrees plant changes h)) in
    placed plant changes c.find_from-place.new.image (after_actions plant p life c.args.t 0 tables.actions changes) c.find_from-place.result
    (subst (λ (r : Result (List Change) PlacedFault). Acts plant changes c.find_from-place.new.image (place_in c.find_from-place.result) r) rest acts)

pub returns-clause-ticks : goal.returns-clause-ticks
returns-clause-ticks c =
    let tables = c.args.context.tables.now in
    let chart = c.args.context.chart.now in
    let first = c.actions-count.result - length c.as_slice.result.now in
    let count = counted tables chart c.actions-count.result c.as_slice.result.now c.requires.tables c.actions-count.ensures c.as_slice.ensures in
    let works = work_first tables chart first c.requires.tables count in
    let left = work_left chart tables.actions first in (
      omega (arith, c.assign_outputs.ensures.ticks.0, c.find_from-place.ensures.ticks.0, c.undo.ensures.ticks.0),
      omega (
        arith,
        works,
        left,
        count,
        c.assign_outputs.ensures.ticks.1,
        c.find_from-place.ensures.ticks.1,
        c.undo.ensures.ticks.1,
        c.assign_outputs.ensures.large.variables,
        c.begin.ensures.large.variables,
        c.find_from-place.ensures.large.variables,
      ),
    )
