use Rattle.std.proofs.Common.{◌≡◌, ◌<◌, ◌∙◌, arith, rules, ap, subst, length, w64, SFits, to_z-of_z}
use Rattle.sfc_instance.specs.sfc_tables.Tables.{tables_of}
use Rattle.sfc_base.specs.declared.ids.ProgId.{ProgId}
use Rattle.sfc_instance.specs.sfc_image.Agreement.{ImageAgrees}
use Rattle.sfc_instance.specs.sfc_image.Changes.{settled}
use Rattle.sfc_instance.specs.Agreement.{ProgramAgrees}
use Rattle.sfc_instance.specs.ProgramScan.{after_scan}
use Rattle.sfc_plant.specs.Finding.{chart_of}
use Rattle.sfc_instance.proofs.Readings.{tables_is}
use Rattle.sfc_instances.specs.Agreement.{InstancesAgree, variable_total}
use Rattle.sfc_instances.specs.PlantState.{program_scan}
use Rattle.sfc_instances.proofs.Scanned.{agreed, agrees_on, same_work}
use Rattle.sfc_instances.proofs.instances.Instances.scan_program.Goals as goal

pub returns-clause-scan_end : goal.returns-clause-scan_end
unfolding InstancesAgree program_scan
returns-clause-scan_end c state h =
    let plant = c.args.plant.now in
    let instances = c.args.self.now in
    let p = c.args.instance in
    let context = c.context_of-context.result in
    let is = c.context_of-context.ensures.context in
    let same : context.instance ≡ p = c.context_of-context.ensures.instance in
    let tables : context.tables.now ≡ tables_of (chart_of plant p) =
    tables_is plant context is ∙ ap (λ (q : ProgId). tables_of (chart_of plant q)) same in
    let lt : p.0 < length instances.programs.items = omega (arith, c.requires.instance, c.requires.sizes.instances) in
    let fits : SFits w64 c.args.t = search rules in
    let before = agreed plant instances state p context.tables.now lt tables h c.index_mut.result.now c.index_mut.ensures.value in
    let scan_end = c.scan.ensures.scan_end plant (state.instance_state p.0) state.changes is before h.image in
    simp (to_z-of_z, fits) at scan_end
    ∙ ap (λ (q : ProgId). (after_scan plant q (state.instance_state p.0) state.changes c.args.t).scan_end) same

pub returns-clause-agrees : goal.returns-clause-agrees
unfolding InstancesAgree program_scan
returns-clause-agrees c state h =
    let plant = c.args.plant.now in
    let instances = c.args.self.now in
    let p = c.args.instance in
    let context = c.context_of-context.result in
    let is = c.context_of-context.ensures.context in
    let same : context.instance ≡ p = c.context_of-context.ensures.instance in
    let tables : context.tables.now ≡ tables_of (chart_of plant p) =
    tables_is plant context is ∙ ap (λ (q : ProgId). tables_of (chart_of plant q)) same in
    let lt : p.0 < length instances.programs.items = omega (arith, c.requires.instance, c.requires.sizes.instances) in
    let fits : SFits w64 c.args.t = search rules in
    let before = agreed plant instances state p context.tables.now lt tables h c.index_mut.result.now c.index_mut.ensures.value in
    let program = c.scan.ensures.program plant (state.instance_state p.0) state.changes is before h.image in
    let image = c.scan.ensures.image plant (state.instance_state p.0) state.changes is before h.image in
    agrees_on plant instances state p context.tables.now lt tables h c.scan.new.image c.scan.new.self
    (after_scan plant p (state.instance_state p.0) state.changes c.args.t)
    (subst (λ (q : ProgId). ProgramAgrees context.tables.now c.scan.new.self (after_scan plant q (state.instance_state p.0) state.changes c.args.t).instance_state) same
    (simp (to_z-of_z, fits) at program))
    (subst (λ (q : ProgId). ImageAgrees plant c.scan.new.image (settled (after_scan plant q (state.instance_state p.0) state.changes c.args.t).changes)) same
    (simp (to_z-of_z, fits) at image))

pub returns-clause-ticks : goal.returns-clause-ticks
returns-clause-ticks c =
    let plant = c.args.plant.now in
    let instances = c.args.self.now in
    let p = c.args.instance in
    let context = c.context_of-context.result in
    let is = c.context_of-context.ensures.context in
    let same : context.instance ≡ p = c.context_of-context.ensures.instance in
    let tables : context.tables.now ≡ tables_of (chart_of plant p) =
    tables_is plant context is ∙ ap (λ (q : ProgId). tables_of (chart_of plant q)) same in
    same_work plant p context.tables.now _ (variable_total instances) c.args.ticks.now c.scan.new.ticks tables (is.chart ∙ ap (chart_of plant) same)
    c.requires.sizes.variables c.scan.ensures.ticks
