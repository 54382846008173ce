use Rattle.std.proofs.Common.{ℕ, List, subst}
use Rattle.sfc_replay.specs.Reading.{Device}
use Rattle.sfc_test.specs.Answers.{Tests, chart_in, tally_in, wish}
use Rattle.sfc_test.proofs.suite.Suite.test_sources.Goals as goal

pub returns-clause-tests : goal.returns-clause-tests
returns-clause-tests g c =
    let w : Device = (g.W.Write.contents c.args.w.now, g.W.Write.contents c.test_file.new.w) in (
      c.name.result.now,
      subst (λ (t : List ℕ). Tests (chart_in c.args.self.now) t (wish c.name.result.now c.args.choice) (tally_in c.args.self.now)
          (tally_in c.test_file.new.self) w c.test_file.result) c.text.ensures c.test_file.ensures.tests,
    )
