use Rattle.sfc_prompt.proofs.Waits.{first_ended, first_none}
use Rattle.sfc_prompt.proofs.arrived.Arrived.first.Goals as goal

pub returns-in_err-line-clause-line : goal.returns-in_err-line-clause-line
returns-in_err-line-clause-line c bytes waits =
    rw c.from_residual.ensures (first_none c.args.self.now bytes waits c.in_err-line.ensures.line)

pub returns-clause-line : goal.returns-clause-line
returns-clause-line c bytes waits =
    first_ended c.args.self.now bytes waits c.in_ok-line.line.now c.in_ok-line.left c.is_long.result c.in_ok-line.ensures.line c.is_long.ensures
