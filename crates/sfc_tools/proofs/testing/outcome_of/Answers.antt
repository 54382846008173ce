use Rattle.std.proofs.Common.{Some}
use Rattle.sfc_test.specs.Answers.{chart_in, tally_in}
use Rattle.sfc_tools.proofs.Outcome.{outcome}
use Rattle.sfc_tools.proofs.testing.outcome_of.Goals as goal

pub returns-clause-told : goal.returns-clause-told
returns-clause-told c =
    outcome (chart_in c.args.suite.now) c.args.tests.now (Some c.test.new.reader.now) (tally_in c.args.suite.now) (tally_in c.test.new.self)
    c.new-text.result.items c.test.new.w.items c.put_counts.new.w.items c.in_ok-test.field-0 c.in_ok-put_counts.field-0
    c.new-text.ensures.items c.requires.untold c.in_ok-test.ensures.tests c.in_ok-put_counts.ensures
