use Rattle.std.proofs.Common.{◌≡◌, ◌∙◌, true, false, sym, ap}
use Rattle.sfc_core.specs.sfc_instance.Life.{latest_instant}
use Rattle.sfc_core.specs.sfc_instance.ProgramScan.{environment}
use Rattle.sfc_core.specs.sfc_instance.Views.{environment_in}
use Rattle.sfc_plant.specs.Finding.{chart_of}
use Rattle.sfc_core.specs.sfc_tables.Tables.{tables_of}
use Rattle.sfc_core.specs.Agreement as core
use Rattle.sfc_core.specs.PlantState.{state_of}
use Rattle.sfc_events.specs.InstanceSets.{has}
use Rattle.sfc_debug.specs.Hits.{is_hit, has_happened, holds, environment_after}
use Rattle.sfc_debug.specs.Points.{has_point}
use Rattle.sfc_debug.proofs.Hitting.{all_but_last}
use Rattle.sfc_debug.proofs.hits.is_hit.Goals as goal

pub returns-then-has_happened-clause-value : goal.returns-then-has_happened-clause-value
unfolding is_hit
returns-then-has_happened-clause-value c h a =
    let breakpoint = c.args.breakpoint in
    let p = breakpoint.program in
    let plant = core.plant_of c.args.resource.now in
    let state = state_of plant h in
    let stands = state.instance_state p.0 in
    let view = c.program-view.ensures in
    let shown = view.shows h a in
    let env : environment_in c.program-view.result ≡ environment_after plant state p =
    c.window.ensures c.program-view.result state.changes stands shown
    ∙ (λ i. environment (view.plant i) (view.instance i) stands.life state.changes (latest_instant stands.life) false) in
    let happened : has_happened (tables_of (chart_of plant p)) stands breakpoint.point ≡ true =
    sym (λ i. has_happened (tables_of (chart_of (view.plant i) (view.instance i))) stands breakpoint.point)
    ∙ sym (c.has_happened.ensures state.changes stands shown) ∙ c.if-has_happened.true in
    c.holds.ensures.value ∙ ap (λ e. holds c.args.table.now e breakpoint.condition) env
    ∙ sym
    (all_but_last (has_point plant p breakpoint.point) (has c.args.ran p.0) _ _ (sym c.has_point.ensures.value ∙ c.if-not-has_point.false)
    (sym c.contains.ensures ∙ c.if-not-contains.false) happened)
