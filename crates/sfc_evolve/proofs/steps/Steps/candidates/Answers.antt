use Rattle.std.proofs.Common.{◌∙◌}
use Rattle.sfc_flags.specs.Flags.{flag}
use Rattle.sfc_evolve.specs.Agreement.{StepsAgree}
use Rattle.sfc_evolve.specs.Clearing.{of_rank, step_count, preceding_of}
use Rattle.sfc_evolve.specs.Evolution.{is_active, rows_of}
use Rattle.sfc_evolve.proofs.Next.{all_same}
use Rattle.sfc_evolve.proofs.TableFacts.{all_preceding_below}
use Rattle.sfc_evolve.proofs.steps.Steps.candidates.Goals as goal

pub returns-clause-enabled : goal.returns-clause-enabled
unfolding StepsAgree
returns-clause-enabled c tables scans k sound j lt on =
    k.proposed j lt
    (all_same (flag c.args.self.now.active) (is_active tables (rows_of tables scans)) (step_count tables) k.fields.activity
    (preceding_of tables.sides (of_rank tables j)) (all_preceding_below tables sound record { 0 = of_rank tables j })
    ∙ on)
