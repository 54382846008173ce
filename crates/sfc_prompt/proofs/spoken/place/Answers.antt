use Rattle.std.proofs.Common.{◌≡◌, ◌∙◌, ap, subst, ℤ, [], ◌∷◌, Some, w64, SFits, to_z, of_z, to_z-of_z, rules}
use Rattle.std.specs.Prelude.{unwrap_or}
use Rattle.sfc_plant.specs.Plants.{PlantData}
use Rattle.sfc_events.specs.declared.command.Command.TheVariants.{BreakIf}
use Rattle.sfc_asking.specs.sfc_script.Scripts.{ConditionReads}
use Rattle.sfc_prompt.specs.declared.expression.Found.{Found}
use Rattle.sfc_session.specs.declared.session.Session.{Session}
use Rattle.sfc_prompt.specs.Conditions.{added_by}
use Rattle.sfc_session.specs.Sessions.{IsWaiting, last_instant}
use Rattle.sfc_session.proofs.Given.{given_at}
use Rattle.sfc_prompt.proofs.spoken.place.Goals as goal

pub returns-in_ok-break_when-in-Condition : goal.returns-in_ok-break_when-in-Condition
returns-in_ok-break_when-in-Condition c h lines said =
    let old : Session = c.args.session.now in
    let new : Session = c.break_when.new.self in
    let fits : SFits w64 c.instant_or_last-raw.result = search rules in
    let raw : ℤ = to_z w64 (of_z w64 c.instant_or_last-raw.result) in
    let at : ℤ = unwrap_or c.args.spoken.instant (last_instant h) in
    let same : raw ≡ at = to_z-of_z fits ∙ c.instant_or_last-raw.ensures h lines said in
    let condition = c.in-Condition.condition in
    let done = c.in_ok-break_when-in-Condition in (
      Some (condition ∷ []),
      subst (λ (plant : PlantData). ConditionReads plant 0 c.args.conditional.place.program c.args.conditional.text.now (Some (condition ∷ [])))
          c.plant.ensures
          (subst (λ (f : Found). ConditionReads c.plant.result.now 0 c.args.conditional.place.program c.args.conditional.text.now (added_by f))
          c.in-Condition.is c.in_ok-condition.ensures),
      (
        done.field-0,
        subst (λ (r : ℤ). IsWaiting old new c.args.out.now.items c.break_when.new.out.items done.field-0 h lines
            (c.args.conditional.place.point, r) condition c.args.spoken.text.now) same
            (record {
              steered = done.ensures.steered;
              answer = done.ensures.answer h lines said;
              written = done.ensures.written h lines said;
              said = done.ensures.said h lines said;
              script = done.ensures.script;
            }),
      ),
    )

pub returns-in_ok-command-in-NoProgram : goal.returns-in_ok-command-in-NoProgram
returns-in_ok-command-in-NoProgram c h lines said =
    let old : Session = c.args.session.now in
    let new : Session = c.command.new.self in
    let place = c.args.conditional.place in
    let fits : SFits w64 c.instant_or_last-raw.result = search rules in
    let raw : ℤ = to_z w64 (of_z w64 c.instant_or_last-raw.result) in
    let at : ℤ = unwrap_or c.args.spoken.instant (last_instant h) in
    let same : raw ≡ at = to_z-of_z fits ∙ c.instant_or_last-raw.ensures h lines said in
    let done = c.in_ok-command-in-NoProgram in (
      Some [],
      subst (λ (plant : PlantData). ConditionReads plant 0 place.program c.args.conditional.text.now (Some [])) c.plant.ensures
          (subst (λ (f : Found). ConditionReads c.plant.result.now 0 place.program c.args.conditional.text.now (added_by f))
          c.in-NoProgram.is c.in_ok-condition.ensures),
      (
        done.field-0,
        given_at old new c.args.out.now.items c.command.new.out.items h lines (BreakIf place.program place.point (record { 0 = 0 }), raw)
            c.args.spoken.text.now done.field-0 (BreakIf place.program place.point (record { 0 = 0 }), at)
            (ap (λ (r : ℤ). (BreakIf place.program place.point (record { 0 = 0 }), r)) same) c.command.ensures.steered
            (done.ensures.answer h lines said) (done.ensures.written h lines said) (done.ensures.said h lines said) done.ensures.script,
      ),
    )
