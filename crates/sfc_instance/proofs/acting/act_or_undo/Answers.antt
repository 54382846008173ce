use Rattle.std.proofs.Common.{to_z-of_z, ◌≡◌, ◌+◌, ◌-◌, ◌≤◌, ◌<◌, ◌++◌, [], Ok, arith, ℕ, false, List, length, drop, Result, sym, ap, subst, ◌∙◌, append_assoc}
use Rattle.std.proofs.lemmas.Bool.Decides.{nat_tests}
use Rattle.sfc_action.specs.ActionControl.{executed}
use Rattle.sfc_base.specs.declared.ids.ProgId.{ProgId}
use Rattle.sfc_plant.specs.Plants.{PlantData}
use Rattle.sfc_plant.specs.declared.action.Action.{Action}
use Rattle.sfc_plant.specs.declared.chart.Chart.{Chart}
use Rattle.sfc_plant.specs.Finding.{chart_of}
use Rattle.sfc_image.specs.Changes.{Change, settled, trying}
use Rattle.sfc_image.specs.Outputs.{outputs}
use Rattle.sfc_tables.specs.Tables.{Tabled, tables_of}
use Rattle.sfc_instance.specs.Contexts.{IsContextOf}
use Rattle.sfc_instance.specs.Life.{Life, PlacedFault, control_scans}
use Rattle.sfc_instance.specs.Agreement.{StateAgrees}
use Rattle.sfc_instance.specs.ProgramScan.{after_actions, step_times}
use Rattle.sfc_instance.specs.Work.{actions_work}
use Rattle.sfc_instance.specs.Private.Acting.{Acts, HasActed, kind_in}
use Rattle.sfc_instance.proofs.Left.{closed}
use Rattle.sfc_instance.proofs.Outputs.{all_declared, counted, action_id, declared_at, outputs_first, work_first, work_left}
use Rattle.sfc_instance.proofs.Readings.{tables_is}
use Rattle.sfc_instance.proofs.Skipped.{AreDeclared, is_executed, skipped, none_left, work_skipped}
use Rattle.sfc_instance.proofs.acting.act_or_undo.Goals.{After-assign_outputs}
use Rattle.sfc_instance.proofs.acting.act_or_undo.Goals as goal

pub overflow_sub-first : goal.overflow_sub-first
overflow_sub-first c =
    omega (
      arith,
      c.actions-count.ensures,
      ap (λ (xs : List Action). length xs) c.as_slice.ensures,
      all_declared c.args.context.tables.now c.args.context.chart.now c.requires.tables,
    )

-- ---- the declared actions that are passed

abbrev first_of : (c : After-assign_outputs) → ℕ
first_of c = c.actions-count.result - length c.as_slice.result.now

abbrev passed_of : (c : After-assign_outputs) → ℕ
passed_of c = c.first_executed-from.result - first_of c

to : (c : After-assign_outputs) → first_of c + passed_of c ≡ c.first_executed-from.result
to c = omega (arith, c.first_executed-from.ensures.low)

high : (c : After-assign_outputs) → c.first_executed-from.result ≤ length c.args.context.tables.now.actions
high c = omega (arith, c.first_executed-from.ensures.high, c.requires.state.controls.same_actions)

count_is : (c : After-assign_outputs) → first_of c + length c.args.context.chart.now.actions ≡ length c.args.context.tables.now.actions
count_is c =
    counted c.args.context.tables.now c.args.context.chart.now c.actions-count.result c.as_slice.result.now c.requires.tables
    c.actions-count.ensures c.as_slice.ensures

declared_all : (c : After-assign_outputs) → AreDeclared c.args.context.tables.now.actions (first_of c) (passed_of c)
declared_all c k le lt =
    let at = declared_at c.args.context.tables.now c.args.context.chart.now c.actions-count.result c.as_slice.result.now c.requires.tables
    c.actions-count.ensures c.as_slice.ensures k le (omega (arith, lt, to c, high c, c.actions-count.ensures)) in
    (at.0, (action_id (k - first_of c), at.1))

module _ (c : After-assign_outputs) (plant : PlantData) (life : Life) (context : IsContextOf plant c.args.context)
    (state : StateAgrees c.args.context.tables.now c.args.state.now life) where
  abbrev p : ProgId
  p = c.args.context.instance

  abbrev tables : Tabled
  tables = c.args.context.tables.now

  abbrev outs : List Change
  outs = outputs plant p c.q_flags-q.result.now 0 tables.actions

  made : tables ≡ tables_of (chart_of plant p)
  made = tables_is plant c.args.context context

  none : (k : ℕ) → first_of c ≤ k → k < first_of c + passed_of c → is_executed plant p life c.args.t tables.actions k ≡ false
  unfolding StateAgrees
  none k le lt =
      subst (λ (x : Tabled). executed x k (control_scans x life) ≡ false) made
      (c.first_executed-from.ensures.passed tables (control_scans tables life) k le (omega (arith, lt, to c)) state.controls)

  -- from the first declared action on, where the Boolean ones are assigned
  from_first : (changes : List Change) → after_actions plant p life c.args.t (first_of c) (drop (first_of c) tables.actions) (outs ++ changes)
      ≡ after_actions plant p life c.args.t 0 tables.actions changes
  unfolding StateAgrees
  from_first changes =
      let same : length c.args.context.chart.now.actions ≡ length (chart_of plant p).actions = ap (λ (x : Chart). length x.actions) context.chart in
      outputs_first plant p life c.args.t c.q_flags-q.result.now (length tables.actions) tables made (first_of c)
      (omega (arith, count_is c, same)) (omega arith)
      (λ k lt. c.q_flags-q.ensures.each tables (control_scans tables life) k (omega (arith, lt, c.requires.state.controls.same_actions)) state.controls)
      changes

  -- from the first executed one on
  from_executed : (changes : List Change)
      → after_actions plant p life c.args.t c.first_executed-from.result (drop c.first_executed-from.result tables.actions) (outs ++ changes)
      ≡ after_actions plant p life c.args.t 0 tables.actions changes
  from_executed changes =
      ap (λ (k : ℕ). after_actions plant p life c.args.t k (drop k tables.actions) (outs ++ changes)) (sym (to c))
      ∙ sym (skipped plant p life c.args.t tables.actions (first_of c) (passed_of c) (declared_all c) none (outs ++ changes))
      ∙ from_first changes

  -- where none is executed
  all_passed : length tables.actions ≤ first_of c + passed_of c → (changes : List Change)
      → after_actions plant p life c.args.t 0 tables.actions changes ≡ Ok (outs ++ changes)
  all_passed le changes =
      sym (from_first changes)
      ∙ none_left plant p life c.args.t tables.actions (first_of c) (passed_of c) le (declared_all c) none (outs ++ changes)

work_of : (c : After-assign_outputs)
    → passed_of c + c.first_executed-from.result + actions_work c.args.context.chart.now (drop c.first_executed-from.result c.args.context.tables.now.actions)
    ≤ actions_work c.args.context.chart.now c.args.context.tables.now.actions
work_of c =
    let tables = c.args.context.tables.now in
    let chart = c.args.context.chart.now in
    omega (
      arith,
      to c,
      work_first tables chart (first_of c) c.requires.tables (count_is c),
      work_skipped chart tables.actions (first_of c) (passed_of c) (declared_all c),
      ap (λ (k : ℕ). actions_work chart (drop k tables.actions)) (to c),
    )

-- ---- no body

pub returns-then-not-is_body-clause-agrees : goal.returns-then-not-is_body-clause-agrees
unfolding HasActed
returns-then-not-is_body-clause-agrees c plant life changes context state h =
    let n = length c.args.context.tables.now.actions in
    let le : n ≤ first_of c.before + passed_of c.before = omega (arith, to c.before, c.if-not-is_body.true, c.actions-count.ensures) in (
      outs c.before plant life context state ++ changes,
      all_passed c.before plant life context state le changes,
      c.assign_outputs.ensures.agrees plant (settled changes) (made c.before plant life context state)
          (c.begin_if.ensures.unchanged (grind (arith, nat_tests, c.if-not-is_body.true)) plant changes h),
    )

pub returns-then-not-is_body-clause-ticks : goal.returns-then-not-is_body-clause-ticks
returns-then-not-is_body-clause-ticks c =
    let n = length c.args.context.tables.now.actions in
    let le : n ≤ c.first_executed-from.result = omega (arith, c.if-not-is_body.true, c.actions-count.ensures) in (
      omega (arith, c.first_executed-from.ensures.ticks.0, c.assign_outputs.ensures.ticks.0),
      omega (arith, c.first_executed-from.ensures.ticks.1, c.assign_outputs.ensures.ticks.1, work_of c.before, le),
    )

-- ---- with bodies

pub returns-clause-agrees : goal.returns-clause-agrees
returns-clause-agrees c plant life changes context state h =
    let tables = c.args.context.tables.now in
    let p = c.args.context.instance in
    let done = outs c.before.before.before.before.before.before.before.before.before.before plant life context state in
    let acts = c.act-answer.ensures.agrees plant life c.args.t changes (done ++ []) (record {
      context = context;
      state = state;
      active = c.readings.ensures.active tables life state;
      times = c.readings.ensures.times tables life state ∙ ap (step_times tables life) (to_z-of_z c.ranges.t);
    })
    (c.assign_outputs.ensures.agrees plant (trying changes []) (made c.before.before.before.before.before.before.before.before.before.before plant life context state) (c.begin_if.ensures.begun (grind (arith, nat_tests, c.if-not-is_body.false)) plant changes h)) in
    closed plant changes c.act-answer.new.image c.close.new.image _ c.act-answer.result
    (subst (λ (r : Result (List Change) PlacedFault). Acts plant changes c.act-answer.new.image (kind_in c.act-answer.result) r)
    (ap (after_actions plant p life c.args.t c.first_executed-from.result (drop c.first_executed-from.result tables.actions)) (append_assoc done [] changes)
    ∙ from_executed c.before.before.before.before.before.before.before.before.before.before plant life context state changes) acts)
    (λ on tried agrees. c.close.ensures.agrees (c.is_ok.ensures.value ∙ on) plant changes tried agrees)
    (λ off tried agrees. c.close.ensures.given_up (c.is_ok.ensures.value ∙ off) plant changes tried agrees)

pub returns-clause-ticks : goal.returns-clause-ticks
returns-clause-ticks c = (
  omega (
    arith,
    c.first_executed-from.ensures.ticks.0,
    c.assign_outputs.ensures.ticks.0,
    c.act-answer.ensures.ticks.0,
    c.close.ensures.ticks.0,
  ),
  omega (
    arith,
    c.first_executed-from.ensures.ticks.1,
    c.assign_outputs.ensures.ticks.1,
    c.act-answer.ensures.ticks.1,
    c.close.ensures.ticks.1,
    work_of c.before.before.before.before.before.before.before.before.before.before,
    high c.before.before.before.before.before.before.before.before.before.before,
    work_left c.args.context.chart.now c.args.context.tables.now.actions c.first_executed-from.result,
  ),
)
