use Rattle.std.proofs.Common.{refl, subst}
use Rattle.sfc_asking.specs.sfc_script.Scripts.{ConditionReads}
use Rattle.sfc_prompt.specs.declared.course.Wanted.TheVariants.{Several, Until}
use Rattle.sfc_prompt.specs.declared.expression.Found.{Found}
use Rattle.sfc_prompt.specs.declared.expression.Found.TheVariants.{Condition, NoProgram}
use Rattle.sfc_prompt.specs.Conditions.{added_by}
use Rattle.sfc_prompt.proofs.Courses.{begins}
use Rattle.sfc_prompt.proofs.course.read_wanted.Goals as goal

pub returns-in-Condition : goal.returns-in-Condition
returns-in-Condition c old all =
    let a = c.in-Some.asked in
    begins c.args.plant.now c.args.text.now a.program a.text.now (added_by (Condition c.in-Condition.condition))
    (Until c.in-Condition.condition) old all c.in-Some.ensures
    (subst (λ (f : Found). ConditionReads c.args.plant.now 0 a.program a.text.now (added_by f)) c.in-Condition.is c.in_ok-condition.ensures) refl

pub returns-in-NoProgram : goal.returns-in-NoProgram
returns-in-NoProgram c old all =
    let a = c.in-Some.asked in
    begins c.args.plant.now c.args.text.now a.program a.text.now (added_by NoProgram) Several old all c.in-Some.ensures
    (subst (λ (f : Found). ConditionReads c.args.plant.now 0 a.program a.text.now (added_by f)) c.in-NoProgram.is c.in_ok-condition.ensures) refl
