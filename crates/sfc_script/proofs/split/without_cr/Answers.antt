use Rattle.std.proofs.Common.{ap, ◌==◌}
use Rattle.sfc_script.proofs.Splits.{cr_last, no_cr_last, other_number}
use Rattle.sfc_script.proofs.split.without_cr.Goals as goal

pub returns-then-last-eq13 : goal.returns-then-last-eq13
returns-then-last-eq13 c = cr_last c.args.line.now c.in-Some.front.now c.in-Some.last.now c.in-Some.ensures.cases.0 (ap (λ n. n == 13) c.if-last-eq13.true)

pub returns-else-last-eq13 : goal.returns-else-last-eq13
returns-else-last-eq13 c = no_cr_last c.args.line.now c.in-Some.front.now c.in-Some.last.now c.in-Some.ensures.cases.0 (other_number c.in-Some.last.now 13 c.if-last-eq13.false)
