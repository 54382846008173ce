use Rattle.std.proofs.Common.{◌≡◌, ◌∷◌, is_ok, true, arith, sym, ap, subst, ◌∙◌, to_z-of_z}
use Rattle.std.specs.Result.{result_err}
use Rattle.sfc_action.specs.ActionControl as control
use Rattle.sfc_instance.specs.declared.state.State.{State}
use Rattle.sfc_instance.specs.Life.{control_scans}
use Rattle.sfc_instance.specs.Private.Scanning.{row_in}
use Rattle.sfc_instance.specs.Agreement.{StateAgrees}
use Rattle.sfc_instance.proofs.Left.{on_ok}
use Rattle.sfc_instance.proofs.Scanned.{control_ends, body_ends, ends_well}
use Rattle.sfc_instance.proofs.scan_run.ScanRun.go_on.Goals as goal

pub returns-in-Err-clause-agrees : goal.returns-in-Err-clause-agrees
returns-in-Err-clause-agrees c plant life changes context state h =
    let tables = c.args.context.tables.now in
    let row = row_in c.args.self.now.buffers c.args.t in
    let agreed = c.follow.ensures.agrees life state in
    let fault_is : result_err c.advance.result ≡ control.first_fault tables (control_scans tables (row ∷ life)) =
    simp (to_z-of_z, c.ranges.t) at (c.advance.ensures.fault life state) in
    control_ends plant c.args.context context life changes c.args.t row c.in-Err.fault c.swap.new.x c.args.image.now
    (ap result_err (sym c.in-Err.is) ∙ fault_is) (subst (λ (x : State). StateAgrees tables x life) (sym c.swap.ensures.x_after) agreed) h

pub returns-in-Err-finish-clause-agrees : goal.returns-in-Err-finish-clause-agrees
returns-in-Err-finish-clause-agrees c plant life changes context state h =
    let tables = c.args.context.tables.now in
    let row = row_in c.args.self.now.buffers c.args.t in
    let agreed = c.follow.ensures.agrees life state in
    let fault_is : result_err c.advance.result ≡ control.first_fault tables (control_scans tables (row ∷ life)) =
    simp (to_z-of_z, c.ranges.t) at (c.advance.ensures.fault life state) in
    let on : is_ok c.advance.result ≡ true = ap is_ok c.in-Ok.is in
    let advanced : StateAgrees tables c.advance.new.self (row ∷ life) =
    simp (to_z-of_z, c.ranges.t) at (on_ok c.advance.result _ on c.advance.ensures.agrees life state) in
    body_ends plant c.args.context context life changes c.args.t row c.in-Err-finish.fault c.finish.result c.follow.new.self c.finish.new.self.now
    c.finish.new.image c.finish.new.self.place (ap result_err (sym c.in-Ok.is) ∙ fault_is) c.in-Err-finish.is (c.finish.ensures.now (row ∷ life) advanced)
    (simp (to_z-of_z, c.ranges.t) at (c.finish.ensures.agrees plant (row ∷ life) changes context advanced h)) agreed

pub returns-in-Ok-finish-clause-agrees : goal.returns-in-Ok-finish-clause-agrees
returns-in-Ok-finish-clause-agrees c plant life changes context state h =
    let tables = c.args.context.tables.now in
    let row = row_in c.args.self.now.buffers c.args.t in
    let agreed = c.follow.ensures.agrees life state in
    let fault_is : result_err c.advance.result ≡ control.first_fault tables (control_scans tables (row ∷ life)) =
    simp (to_z-of_z, c.ranges.t) at (c.advance.ensures.fault life state) in
    let on : is_ok c.advance.result ≡ true = ap is_ok c.in-Ok.is in
    let advanced : StateAgrees tables c.advance.new.self (row ∷ life) =
    simp (to_z-of_z, c.ranges.t) at (on_ok c.advance.result _ on c.advance.ensures.agrees life state) in
    ends_well plant c.args.context context life changes c.args.t row c.in-Ok-finish.field-0 c.finish.result c.follow.new.self c.finish.new.self.now
    c.finish.new.image c.finish.new.self.place (ap result_err (sym c.in-Ok.is) ∙ fault_is) c.in-Ok-finish.is (c.finish.ensures.now (row ∷ life) advanced)
    (simp (to_z-of_z, c.ranges.t) at (c.finish.ensures.agrees plant (row ∷ life) changes context advanced h))

pub returns-in-Ok-finish-clause-good : goal.returns-in-Ok-finish-clause-good
returns-in-Ok-finish-clause-good c = omega (
  arith,
  on_ok c.finish.result _ (ap is_ok c.in-Ok-finish.is) c.finish.ensures.good,
  c.follow.ensures.ticks,
  c.advance.ensures.ticks,
)
