use Rattle.std.proofs.Common.{◌≡◌, ◌==◌, true, false, length, ap, ◌∙◌}
use Rattle.sfc_script.proofs.Splits.{line_alone, line_ended, line_again, none_left}
use Rattle.sfc_script.proofs.split.next_line.Goals as goal

pub returns-in-None-clause-first : goal.returns-in-None-clause-first
returns-in-None-clause-first c = line_alone c.args.bytes.now c.split_line.result.0.now c.split_line.result.1.now
    (λ e. let bad : false ≡ true = c.if-is_empty.ensures ∙ ap (λ bytes. length bytes == 0) e in cc)
    c.split_line.ensures (none_left c.split_line.result.1.now c.in-None.ensures.cases)

pub returns-in-Some-clause-first : goal.returns-in-Some-clause-first
returns-in-Some-clause-first c = line_ended c.args.bytes.now c.split_line.result.0.now c.split_line.result.1.now c.in-Some.rest.now c.without_cr.result.now c.in-Some.field-0-0.now
    c.split_line.ensures c.in-Some.ensures.cases.0 c.without_cr.ensures

pub returns-in-Some-clause-ended : goal.returns-in-Some-clause-ended
returns-in-Some-clause-ended c = λ more. line_again c.args.bytes.now c.split_line.result.0.now c.split_line.result.1.now c.in-Some.rest.now c.without_cr.result.now c.in-Some.field-0-0.now
    c.split_line.ensures c.in-Some.ensures.cases.0 c.without_cr.ensures
