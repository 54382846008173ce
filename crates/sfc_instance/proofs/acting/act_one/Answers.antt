use Rattle.std.proofs.Common.{◌≡◌, ◌++◌, true, false, slice_get, Result, sym, ap, subst, ◌∙◌}
use Rattle.sfc_expr.specs.declared.fault.Fault.{Fault}
use Rattle.sfc_expr.specs.Trees.{Body, body_of}
use Rattle.sfc_plant.specs.declared.chart.Chart.{Chart}
use Rattle.sfc_tables.specs.Tables.{Tabled, tables_of}
use Rattle.sfc_action.specs.ActionControl as control
use Rattle.sfc_image.specs.Changes.{trying}
use Rattle.sfc_image.specs.Environments.{environment_of, moment_of}
use Rattle.sfc_image.specs.BodyFaults.{statements_done}
use Rattle.sfc_instance.specs.Private.Acting.{kind_in}
use Rattle.sfc_instance.specs.Life.{control_scans, evolution_rows}
use Rattle.sfc_evolve.specs.Evolution.{active_steps}
use Rattle.sfc_plant.specs.Finding.{chart_of}
use Rattle.sfc_instance.specs.ProgramScan.{body_in, moment, step_times}
use Rattle.sfc_instance.specs.Agreement.{StateAgrees}
use Rattle.sfc_instance.proofs.Acted.{IsTellingOf, body_acted, kind_telling, passed}
use Rattle.sfc_instance.proofs.Readings.{tables_is}
use Rattle.sfc_instance.proofs.acting.act_one.Goals as goal

pub returns-then-not-executed-clause-agrees : goal.returns-then-not-executed-clause-agrees
unfolding StateAgrees
returns-then-not-executed-clause-agrees c plant life t committed tried after h =
    let tables = c.args.acting.context.tables.now in
    let p = c.args.acting.context.instance in
    let a = c.args.action.0 in
    let made : tables ≡ tables_of (chart_of plant p) = tables_is plant c.args.acting.context after.context in
    let off : control.executed (tables_of (chart_of plant p)) a (control_scans (tables_of (chart_of plant p)) life) ≡ false =
    sym (c.executed.ensures tables (control_scans tables life) after.state.controls
    ∙ ap (λ (x : Tabled). control.executed x a (control_scans x life)) made) ∙ c.if-not-executed.true in
    passed plant p life t a committed tried c.args.image.now c.args.id off h

pub returns-clause-agrees : goal.returns-clause-agrees
unfolding StateAgrees
returns-clause-agrees c plant life t committed tried after h =
    let tables = c.args.acting.context.tables.now in
    let p = c.args.acting.context.instance in
    let a = c.args.action.0 in
    let id = c.args.id in
    let made : tables ≡ tables_of (chart_of plant p) = tables_is plant c.args.acting.context after.context in
    let on : control.executed (tables_of (chart_of plant p)) a (control_scans (tables_of (chart_of plant p)) life) ≡ true =
    sym (c.executed.ensures tables (control_scans tables life) after.state.controls
    ∙ ap (λ (x : Tabled). control.executed x a (control_scans x life)) made) ∙ c.if-not-executed.false in
    let q : c.q-q.result ≡ control.q (tables_of (chart_of plant p)) a (control_scans (tables_of (chart_of plant p)) life) =
    c.q-q.ensures tables (control_scans tables life) after.state.controls
    ∙ ap (λ (x : Tabled). control.q x a (control_scans x life)) made in
    let body : body_of c.body_of-body.result.now ≡ body_in (slice_get (chart_of plant p).actions id.0) =
    c.body_of-body.ensures ∙ ap (λ (x : Chart). body_in (slice_get x.actions id.0)) after.context.chart in
    let active = after.active
    ∙ ap (λ (x : Tabled). active_steps x (evolution_rows x life)) made in
    let times = after.times ∙ ap (λ (x : Tabled). step_times x life t) made in
    let moment_is : moment_of c.args.acting.steps c.q-q.result
    ≡ moment (tables_of (chart_of plant p)) life t (control.q (tables_of (chart_of plant p)) a (control_scans (tables_of (chart_of plant p)) life)) =
    (λ i. record { active = active i; times = times i; q = q i }) in
    let env = environment_of plant (tried ++ committed) p (moment_of c.args.acting.steps c.q-q.result) in
    let statements : Body = body_of c.body_of-body.result.now in
    body_acted plant p life t a committed tried c.execute.new.self id (kind_in c.execute.result) statements
    (moment_of c.args.acting.steps c.q-q.result) on body moment_is
    (subst (λ (r : Result (Unit {0}) Fault). IsTellingOf plant p life t a committed tried c.execute.new.self id (statements_done statements env)
    (kind_in c.execute.result) r) (c.execute.ensures.result plant (trying committed tried) h)
    (kind_telling plant p life t a committed tried c.execute.new.self id (statements_done statements env) c.execute.result))
    (c.execute.ensures.agrees plant (trying committed tried) h)
