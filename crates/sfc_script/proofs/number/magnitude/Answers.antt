use Rattle.std.proofs.Common.{◌∙◌}
use Rattle.sfc_script.proofs.Digits.{refused}
use Rattle.sfc_script.proofs.number.magnitude.Goals as goal

pub returns-in_err-number-clause-value : goal.returns-in_err-number-clause-value
returns-in_err-number-clause-value c =
    c.from_residual.ensures
    ∙ refused c.args.limit c.digits.number c.in-Some.byte.now c.in-Some.after.now c.digits.rest.now c.args.word.now
    c.digits.invariant.value c.in-Some.ensures.cases.0 c.in_err-number.ensures
