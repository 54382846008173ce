use Rattle.sfc_evolve.specs.Agreement.{StepsAgree}
use Rattle.sfc_evolve.specs.Clearing.{step_count}
use Rattle.sfc_evolve.specs.Evolution.{rows_of, is_active}
use Rattle.sfc_evolve.proofs.Listed.{listed}
use Rattle.sfc_evolve.proofs.steps.Steps.active_flags.Goals as goal

pub returns-clause-flags : goal.returns-clause-flags
unfolding StepsAgree
returns-clause-flags c tables scans agrees =
    listed (is_active tables (rows_of tables scans)) (step_count tables) c.args.self.now.active agrees.size.same_steps
    agrees.fields.activity
