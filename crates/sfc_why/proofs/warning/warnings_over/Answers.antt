use Rattle.std.proofs.Common.{◌∷◌, [], All, subst, sym}
use Rattle.std.proofs.lemmas.List.Elements.{All-append}
use Rattle.sfc_why.specs.Telling.{IsWarningOf}
use Rattle.sfc_why.proofs.Rising.{one_holds}
use Rattle.sfc_why.proofs.warning.warnings_over.Goals as goal

pub lines-preserved-in_ok-push : goal.lines-preserved-in_ok-push
lines-preserved-in_ok-push c =
    subst (All (IsWarningOf c.args.script.now)) (sym c.in_ok-push.ensures.items)
    (All-append (IsWarningOf c.args.script.now) c.lines.reports.items (c.in_ok-warning_of.field-0 ∷ []) c.lines.invariant
    (one_holds (IsWarningOf c.args.script.now) c.in_ok-warning_of.field-0 c.in_ok-warning_of.ensures))
