use Rattle.std.proofs.Common.{[]}
use Rattle.std.proofs.lemmas.Result.{IfOk-weaker}
use Rattle.sfc_names.proofs.diagnosing.shown_of.Goals as goal

pub returns-in-Some : goal.returns-in-Some
returns-in-Some c = λ accepted. IfOk-weaker c.lint_of.result _ _ (λ found warnings. ([], (c.in-Some.plant, rw c.in-Some.is at accepted), warnings)) c.lint_of.ensures
