use Rattle.std.proofs.Common.{ℕ, List, subst}
use Rattle.sfc_cases.specs.declared.line.Line.{Line}
use Rattle.sfc_judge.specs.Running.Benches.{steered_in}
use Rattle.sfc_replay.specs.Reading.{Device}
use Rattle.sfc_test.specs.Answers.{SaysTests, chart_in, tally_in, wish}
use Rattle.sfc_test.specs.Cases.{titled}
use Rattle.sfc_test.specs.Taking.{Takes}
use Rattle.sfc_test.proofs.TestsOpened.{all_taken}
use Rattle.sfc_test.proofs.suite.Suite.test_file.Goals as goal

pub returns-clause-tests : goal.returns-clause-tests
unfolding chart_in steered_in tally_in
returns-clause-tests g c =
    let chart = chart_in c.args.self.now in
    let tests = c.args.file.text.now in
    let wished = wish c.args.file.name.now c.args.choice in
    let old = tally_in c.args.self.now in
    let new = tally_in c.take_cases.new.self in
    let w : Device = (g.W.Write.contents c.args.w.now, g.W.Write.contents c.take_cases.new.w) in
    let steered = steered_in c.in_ok-bench.field-0.bench in
    let lines = c.in_ok-bench.field-0.lines.items in
    let taken = subst (λ (ls : List Line). Takes wished steered (titled wished.file ls) old new w c.take_cases.result)
    c.deref-2.ensures.value c.take_cases.ensures.takes in
    all_taken chart tests wished old new w steered lines c.take_cases.result
    (subst (λ (text : List ℕ). SaysTests text tests steered lines) c.deref.ensures.value c.in_ok-bench.ensures.opens)
    taken
