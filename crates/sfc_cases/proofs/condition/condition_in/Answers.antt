use Rattle.std.proofs.Common.{◌≡◌, sym, subst, Ok}
use Rattle.std.specs.Prelude.{IfOk}
use Rattle.sfc_text.specs.Trees.{tree_of}
use Rattle.sfc_script.specs.Conditions.{condition_of}
use Rattle.sfc_cases.specs.Conditions.{condition_by}
use Rattle.sfc_cases.proofs.ConditionTexts.{one_tree, told_as}
use Rattle.sfc_cases.proofs.condition.condition_in.Goals as goal

pub returns-in-Ok : goal.returns-in-Ok
returns-in-Ok c = λ read is.
    let text = c.args.asked.text.now in
    let tree = tree_of c.in-Ok.expression in
    let same : read text ≡ Ok tree = one_tree tree (read text) (c.one_expression_reading.ensures text (Ok tree) (read text) c.in-Ok.ensures (is text)) in
    subst (λ r. IfOk c.of_checked.result (λ found. found ≡ condition_by c.args.plant.now c.args.asked.program r)) (sym same)
    (c.of_checked.ensures (condition_of c.args.plant.now 0 c.args.asked.program tree) c.condition_of.ensures)

pub returns-in-Err : goal.returns-in-Err
returns-in-Err c = λ read is.
    let text = c.args.asked.text.now in
    c.unread.ensures.condition c.args.plant.now c.args.asked.program (read text)
    (told_as text (read text) c.in-Err.error.kind (λ o reads. c.one_expression_reading.ensures text o (read text) reads (is text)) c.in-Err.ensures)
