use Rattle.std.proofs.Common.{ℕ, List, Err, refl, subst}
use Rattle.std.proofs.lemmas.Result.{err_from_is_err_and}
use Rattle.sfc_replay.specs.Acceptance.{Accepts}
use Rattle.sfc_replay.specs.Reading.{Device}
use Rattle.sfc_replay.specs.sfc_load.Accepted.{IsAccepted}
use Rattle.sfc_test.specs.Answers.{chart_in, tally_in}
use Rattle.sfc_test.proofs.TestsOpened.{chart_refused, chart_unread}
use Rattle.sfc_test.proofs.suite.Suite.of_chart.Goals as goal

pub returns-in_err-chart : goal.returns-in_err-chart
returns-in_err-chart g c =
    let p = err_from_is_err_and c.from_residual.result c.from_residual.ensures.1 in
    let chart : Device = (g.C.Read.remaining c.args.reader.now, g.C.Read.remaining c.read_to_end.new.reader) in
    rw (p.1, p.2) (chart_unread chart c.in_err-chart.field-0.0 c.in_err-chart.ensures.faults c.in_err-chart.ensures.lost)

pub returns-in_err-_plant : goal.returns-in_err-_plant
returns-in_err-_plant g c =
    let p = err_from_is_err_and c.from_residual-in_err-_plant.result c.from_residual-in_err-_plant.ensures.1 in
    let chart : Device = (g.C.Read.remaining c.args.reader.now, g.C.Read.remaining c.read_to_end.new.reader) in
    rw (p.1, p.2) (chart_refused chart c.in_ok-chart.chart.items c.in_err-_plant.field-0.0 c.in_ok-chart.ensures.taken
    (subst (λ (text : List ℕ). Accepts text (Err c.in_err-_plant.field-0.0)) c.deref.ensures.value c.in_err-_plant.ensures))

pub returns : goal.returns
unfolding chart_in tally_in
returns g c = (
  (
    c.in_ok-chart.chart.items,
    c.in_ok-chart.ensures.taken,
    ((c.in_ok-_plant._plant, subst (λ (text : List ℕ). IsAccepted text c.in_ok-_plant._plant) c.deref.ensures.value c.in_ok-_plant.ensures), refl),
  ),
  c.new.ensures,
)
