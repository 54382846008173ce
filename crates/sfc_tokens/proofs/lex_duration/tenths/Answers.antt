use Rattle.std.proofs.Common.{sym, ◌∙◌}
use Rattle.sfc_tokens.proofs.Tenths.{last_taken, last_refused}
use Rattle.sfc_tokens.proofs.lex_duration.tenths.Goals as goal

pub all-preserved : goal.all-preserved
all-preserved c = (last_taken c.args.unit c.all.micros c.in-Some.byte.now c.in_ok-micros.micros c.all.rest.now c.in-Some.before.now c.in-Some.ensures.cases.0 (sym c.in_ok-micros.ensures.value) ∙ c.all.invariant.0, c.in_ok-micros.ensures.small)

pub returns-in_err-micros : goal.returns-in_err-micros
returns-in_err-micros c = rw c.from_residual.ensures (sym (last_refused c.args.unit c.all.micros c.in-Some.byte.now c.all.rest.now c.in-Some.before.now c.in-Some.ensures.cases.0 (sym c.in_err-micros.ensures.value)) ∙ c.all.invariant.0)
