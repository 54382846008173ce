use Rattle.std.proofs.Common.{List, ℕ, subst}
use Rattle.std.specs.Prelude.{IfOk}
use Rattle.sfc_why_tests.specs.Telling.{ExplainsTests}
use Rattle.sfc_tools.proofs.telling.told_of_tests.Goals as goal

pub returns : goal.returns
returns c =
    subst (λ (text : List ℕ). IfOk c.explain_tests.result (ExplainsTests c.args.plant text)) c.in_ok-sources.ensures c.explain_tests.ensures
