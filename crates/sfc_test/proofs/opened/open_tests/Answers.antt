use Rattle.std.proofs.lemmas.Result.{err_from_is_err_and}
use Rattle.sfc_replay.specs.sfc_core.Agreement.{plant_of}
use Rattle.sfc_test.proofs.TestsOpened.{plant_refused, tests_refused, tests_said}
use Rattle.sfc_test.proofs.opened.open_tests.Goals as goal

pub returns-in_err-resource-clause-opens : goal.returns-in_err-resource-clause-opens
returns-in_err-resource-clause-opens c =
    let p = err_from_is_err_and c.from_residual.result c.from_residual.ensures.1 in
    rw (p.1, p.2) (plant_refused c.args.chart.now c.args.text.now c.in_err-resource.field-0.0 c.in_err-resource.ensures.refused)

pub returns-in_err-file-clause-opens : goal.returns-in_err-file-clause-opens
returns-in_err-file-clause-opens c =
    let p = err_from_is_err_and c.from_residual-in_err-file.result c.from_residual-in_err-file.ensures.1 in
    rw (p.1, p.2) (tests_refused c.args.chart.now c.args.text.now (plant_of c.in_ok-resource.resource) c.in_ok-resource.ensures.loaded
    c.in_err-file.field-0.0 c.in_err-file.ensures)

pub returns-clause-opens : goal.returns-clause-opens
returns-clause-opens c =
    tests_said c.args.chart.now c.args.text.now (plant_of c.in_ok-resource.resource) c.in_ok-resource.ensures.loaded c.in_ok-file.file
    c.in_ok-opened.opened c.in_ok-file.ensures c.in_ok-opened.ensures.steered c.in_ok-opened.ensures.lines
