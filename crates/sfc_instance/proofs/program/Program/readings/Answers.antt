use Rattle.std.proofs.Common.{ap, ◌∙◌, arith, w64}
use Rattle.std.proofs.lemmas.Int.{to_z-of_z}
use Rattle.sfc_instance.specs.Agreement.{ProgramAgrees}
use Rattle.sfc_instance.specs.ProgramScan.{step_times}
use Rattle.sfc_instance.proofs.program.Program.readings.Goals as goal

pub returns-clause-active : goal.returns-clause-active
unfolding ProgramAgrees
returns-clause-active c tables instance_state agrees = c.readings.ensures.active tables instance_state.life agrees.now

pub returns-clause-times : goal.returns-clause-times
unfolding ProgramAgrees
returns-clause-times c tables instance_state agrees =
    let program = c.args.self.now in
    c.readings.ensures.times tables instance_state.life agrees.now
    ∙ ap (step_times tables instance_state.life)
    (to_z-of_z w64 program.at (record { sfits = omega (arith, program.at_low, program.at_high) }) ∙ agrees.at)
