use Rattle.std.proofs.Common.{◌≡◌, ◌∷◌, None, sym, to_z-of_z}
use Rattle.sfc_evolve.specs.Evolution.{active_steps}
use Rattle.sfc_evolve.specs.Agreement.{StepsAgree}
use Rattle.sfc_action.specs.ActionControl as control
use Rattle.sfc_action.specs.Agreement.{ControlsAgree}
use Rattle.sfc_instance.specs.Life.{Life, Row, evolution_scans, evolution_rows}
use Rattle.sfc_instance.specs.Private.Scanning.{row_in}
use Rattle.sfc_instance.specs.Agreement.{StateAgrees}
use Rattle.sfc_instance.proofs.Repeated.{once_more}
use Rattle.sfc_instance.proofs.state.State.advance.Goals as goal

abbrev row_of : goal.Then-repeat → Row
row_of c = row_in c.args.buffers.now c.args.t

same_after : (c : goal.Then-repeat) (life : Life) → StateAgrees c.args.tables.now c.args.self.now life
    → active_steps c.args.tables.now (evolution_rows c.args.tables.now (row_of c ∷ life)) ≡ active_steps c.args.tables.now (evolution_rows c.args.tables.now life)
unfolding StateAgrees
same_after c life agrees =
    simp (to_z-of_z, c.ranges.t) at
    (c.go_on-moved.ensures.same_steps (c.repeat.ensures.still c.if-repeat.true) (evolution_scans life) agrees.steps)

pub returns-then-repeat-clause-fault : goal.returns-then-repeat-clause-fault
unfolding StateAgrees
returns-then-repeat-clause-fault c life agrees =
    let tables = c.args.tables.now in
    let still = c.repeat.ensures.still c.if-repeat.true in
    sym (once_more (λ h. ControlsAgree tables c.args.self.now.controls h) (λ h. control.first_fault tables h ≡ None) tables (row_of c) life
    (c.go_on-moved.ensures.begun still (evolution_scans life) agrees.steps) (same_after c life agrees)
    (λ scan last h same before. c.repeat.ensures.faultless c.if-repeat.true tables scan last h same before) agrees.controls)

pub returns-then-repeat-clause-agrees : goal.returns-then-repeat-clause-agrees
unfolding StateAgrees
returns-then-repeat-clause-agrees c life agrees =
    let tables = c.args.tables.now in
    let still = c.repeat.ensures.still c.if-repeat.true in
    let steps : StepsAgree tables c.go_on-moved.new.steps (evolution_scans (row_of c ∷ life)) =
    simp (to_z-of_z, c.ranges.t) at (c.go_on-moved.ensures.agrees (evolution_scans life) agrees.steps) in
    record {
      steps = steps;
      controls = once_more (λ h. ControlsAgree tables c.args.self.now.controls h) (λ h. ControlsAgree tables c.repeat.new.controls h) tables
          (row_of c) life
          (c.go_on-moved.ensures.begun still (evolution_scans life) agrees.steps) (same_after c life agrees)
          (λ scan last h same before. c.repeat.ensures.agrees c.if-repeat.true tables scan last h same before) agrees.controls;
    }
