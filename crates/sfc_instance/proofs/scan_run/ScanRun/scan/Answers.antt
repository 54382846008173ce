use Rattle.std.proofs.Common.{◌≡◌, ℤ, is_ok, true, arith, sym, ap, subst, ◌∙◌, to_z-of_z}
use Rattle.std.specs.Prelude.{false}
use Rattle.std.specs.Result.{result_err}
use Rattle.sfc_instance.specs.ProgramScan.{condition_fault, environment, next_row, with_row}
use Rattle.sfc_instance.specs.Private.Scanning.{HasScanned, row_in}
use Rattle.sfc_instance.proofs.Left.{more_ok, on_ok}
use Rattle.sfc_instance.proofs.Scanned.{condition_ends, goes_on}
use Rattle.sfc_instance.proofs.scan_run.ScanRun.scan.Goals as goal

pub returns-in-Err-clause-agrees : goal.returns-in-Err-clause-agrees
returns-in-Err-clause-agrees c plant life changes context state h =
    let tables = c.args.context.tables.now in
    let fault_is : result_err c.read.result
    ≡ condition_fault tables c.args.context.chart.now (environment plant c.args.context.instance life changes c.args.t false) life tables.ranked =
    c.read.ensures.fault plant life changes context state h
    ∙ ap (λ (x : ℤ). condition_fault tables c.args.context.chart.now (environment plant c.args.context.instance life changes x false) life tables.ranked)
    (to_z-of_z c.ranges.t) in
    condition_ends plant c.args.context context life changes c.args.t (next_row plant c.args.context.instance life changes c.args.t) c.in-Err.fault
    c.args.self.now.now c.args.image.now (ap result_err (sym c.in-Err.is) ∙ fault_is) state h

pub returns-in-Ok-clause-agrees : goal.returns-in-Ok-clause-agrees
returns-in-Ok-clause-agrees c plant life changes context state h =
    let tables = c.args.context.tables.now in
    let fault_is : result_err c.read.result
    ≡ condition_fault tables c.args.context.chart.now (environment plant c.args.context.instance life changes c.args.t false) life tables.ranked =
    c.read.ensures.fault plant life changes context state h
    ∙ ap (λ (x : ℤ). condition_fault tables c.args.context.chart.now (environment plant c.args.context.instance life changes x false) life tables.ranked)
    (to_z-of_z c.ranges.t) in
    let on : is_ok c.read.result ≡ true = ap is_ok c.in-Ok.is in
    let row : row_in c.read.new.self c.args.t ≡ next_row plant c.args.context.instance life changes c.args.t =
    ap (row_in c.read.new.self) (sym (to_z-of_z c.ranges.t)) ∙ on_ok c.read.result _ on c.read.ensures.row plant life changes context state h
    ∙ ap (next_row plant c.args.context.instance life changes) (to_z-of_z c.ranges.t) in
    let done = subst (λ (x : ℤ). HasScanned plant tables life changes (row_in c.read.new.self x) c.go_on.new.self.now c.go_on.new.image c.go_on.result
    c.go_on.new.self.place (with_row plant c.args.context.instance life changes x (row_in c.read.new.self x))) (to_z-of_z c.ranges.t)
    (c.go_on.ensures.agrees plant life changes context state h) in
    goes_on plant c.args.context context life changes c.args.t (row_in c.read.new.self c.args.t) c.go_on.result c.go_on.new.self.place c.go_on.new.self.now c.go_on.new.image
    (ap result_err (sym c.in-Ok.is) ∙ fault_is) row done

pub returns-in-Ok-clause-good : goal.returns-in-Ok-clause-good
returns-in-Ok-clause-good c = more_ok c.go_on.result _ _ (λ h. omega (arith, h, c.read.ensures.ticks)) c.go_on.ensures.good
