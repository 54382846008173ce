use Rattle.std.proofs.Common.{◌≡◌, ◌∙◌, ap, w64, SFits, to_z-of_z}
use Rattle.sfc_events.specs.declared.command.Command.TheVariants.{Epoch}
use Rattle.sfc_debug.specs.Agreement.{plant_of, table_of}
use Rattle.sfc_debug.specs.Verdict.{verdict}
use Rattle.sfc_control.proofs.Legal.{accepted_is}
use Rattle.sfc_control.proofs.telling.tell.Goals as goal

pub returns-in_default-epoch_answer-clause-kept : goal.returns-in_default-epoch_answer-clause-kept
returns-in_default-epoch_answer-clause-kept c =
    let fits : SFits w64 c.args.raw = c.ranges.raw in
    let d = c.args.debugger.now in
    accepted_is d (λ h. verdict (plant_of d) (table_of d) h Epoch c.args.raw) c.in_default-epoch_answer.field-0 c.command.result
    (c.save.new.opening ≡ c.args.opening.now) c.requires.some
    (λ h a. simp (to_z-of_z, fits) at (c.in_default-epoch_answer.ensures h a))
    (λ h a. (simp (to_z-of_z, fits) at (c.command.ensures.answer h a)) ∙ ap (λ command. verdict (plant_of d) (table_of d) h command c.args.raw) c.in-Epoch.is)

pub returns-in_default-clause-plant : goal.returns-in_default-clause-plant
returns-in_default-clause-plant c = c.command-in_default.ensures.plant
