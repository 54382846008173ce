use Rattle.std.proofs.Common.{◌≡◌, length}
use Rattle.sfc_judge.specs.Running.Benches.{IsReady, steered_in}
use Rattle.sfc_test.specs.Answers.{chart_in, tally_in}
use Rattle.sfc_test.specs.Cases.{titled}
use Rattle.sfc_test.specs.Running.{cases_left}
use Rattle.sfc_test.specs.Taking.{IsUnderWay, wish_of}
use Rattle.sfc_test.proofs.suite.Suite.take_cases.Given as goal

abbrev pub invariant-cases : goal.invariant-cases
invariant-cases g l = record {
  ready : IsReady l.bench;
  steered : steered_in l.bench ≡ steered_in l.initial.bench;
  chart : chart_in l.self ≡ chart_in l.initial.self;
  told : IsUnderWay (wish_of l.job) (steered_in l.initial.bench) (titled l.job.source.file.name.now l.job.source.lines.now) (cases_left l.rest)
      (tally_in l.initial.self) (tally_in l.self) (g.W.Write.contents l.initial.w) (g.W.Write.contents l.w);
}

abbrev pub decreases-cases : goal.decreases-cases
decreases-cases g l = length (cases_left l.rest)
