use Rattle.std.proofs.Common.{ℕ, List, subst}
use Rattle.std.proofs.lemmas.Result.{err_from_is_err_and}
use Rattle.sfc_tools.specs.Codes.{of_replay}
use Rattle.sfc_tools.specs.Outcomes.{IsOutcome, IsUntoldOfTests, tests_of}
use Rattle.sfc_tools.proofs.testing.test.Goals as goal

pub returns-in_err-suite : goal.returns-in_err-suite
returns-in_err-suite c =
    let p = err_from_is_err_and c.from_residual.result c.from_residual.ensures.1 in
    rw (p.1, p.2) (c.in_err-suite.ensures.refused (tests_of c.args.tests.now))

pub returns-in_err-text : goal.returns-in_err-text
returns-in_err-text c =
    let p = err_from_is_err_and c.from_residual-in_err-text.result c.from_residual-in_err-text.ensures.1 in
    rw (p.1, p.2) (subst (λ (chart : List ℕ). IsUntoldOfTests chart (tests_of c.args.tests.now) (of_replay c.in_err-text.field-0.0))
    c.in_ok-suite.ensures.chart c.in_err-text.ensures.refused)

pub returns : goal.returns
returns c =
    subst (λ (chart : List ℕ). IsOutcome chart (tests_of c.args.tests.now) c.in_ok-text.text.items) c.in_ok-suite.ensures.chart
    c.in_ok-text.ensures.told
