use Rattle.std.proofs.Common.{arith}
use Rattle.sfc_plant.specs.Finding.{chart_of}
use Rattle.sfc_replay.specs.sfc_instance.Views.{instance_in, plant_in}
use Rattle.sfc_c.proofs.Numbers.{declared_number}
use Rattle.sfc_c.proofs.placed.number_of_declared.Goals as goal
use Rattle.sfc_c.proofs.placed.number_of_declared.Goals.{then-action-declared, else-action-declared}

pub overflow_sub-result : goal.overflow_sub-result
overflow_sub-result c =
    let n = declared_number (chart_of (plant_in c.args.view.now) (instance_in c.args.view.now)) c.args.action in
    omega (arith, n.count, c.actions.ensures, c.declared_in-declared.ensures)

pub returns : goal.returns
returns c =
    let n = declared_number (chart_of (plant_in c.args.view.now) (instance_in c.args.view.now)) c.args.action in
    elim c.if-action-declared.branch [
      | then-action-declared w ↦ let h = n.inside (omega (arith, w.if-action-declared, c.declared_in-declared.ensures)) in
          omega (arith, h, n.count, w.among-is, c.actions.ensures, c.declared_in-declared.ensures)
      | else-action-declared w ↦ let h = n.outside (omega (arith, w.if-action-declared, c.declared_in-declared.ensures)) in
          omega (arith, h, n.count, w.among-is, c.actions.ensures, c.declared_in-declared.ensures)
    ]
