use Rattle.std.proofs.Common.{◌∙◌, ap, sym, List}
use Rattle.sfc_base.specs.declared.references.StepId.{StepId}
use Rattle.sfc_flags.specs.Flags.{flag}
use Rattle.sfc_evolve.specs.Clearing.{step_count, is_enabled, preceding_of}
use Rattle.sfc_evolve.specs.Evolution.{is_active, rows_of}
use Rattle.sfc_evolve.specs.Agreement.{StepsAgree, Enables}
use Rattle.sfc_evolve.proofs.Next.{all_same}
use Rattle.sfc_evolve.proofs.TableFacts.{all_preceding_below}
use Rattle.sfc_evolve.proofs.steps.Steps.enabled.Goals as goal

pub returns-clause-value : goal.returns-clause-value
unfolding StepsAgree
returns-clause-value c scans k =
    let tables = c.args.tables.now in
    let active = c.args.self.now.active in
    c.all_set.ensures.value
    ∙ ap (λ (steps : List StepId). is_enabled (flag active) steps) c.preceding.ensures
    ∙ all_same (flag active) (is_active tables (rows_of tables scans)) (step_count tables) k.fields.activity
    (preceding_of tables.sides c.args.transition.0)
    (all_preceding_below tables c.steps-steps.ensures.tables c.args.transition)

pub returns-clause-enables : goal.returns-clause-enables
unfolding Enables
returns-clause-enables c on =
    sym (c.all_set.ensures.value
    ∙ ap (λ (steps : List StepId). is_enabled (flag c.args.self.now.active) steps) c.preceding.ensures)
    ∙ on
