use Rattle.sfc_script.proofs.Splits.{line_ended}
use Rattle.sfc_script.proofs.arriving.ended_line.Goals as goal

pub returns-in-Some-clause-shorter : goal.returns-in-Some-clause-shorter
returns-in-Some-clause-shorter c = (line_ended c.args.bytes.now c.split_line.result.0.now c.split_line.result.1.now c.in-Some.rest.now c.without_cr.result.now c.in-Some.field-0-0.now
    c.split_line.ensures c.in-Some.ensures.cases.0 c.without_cr.ensures).1
