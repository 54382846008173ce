use Rattle.std.proofs.Common.{◌≡◌, ◌∙◌, sym, ap, subst, ℕ, List, None, Ok, if◌then◌else◌}
use Rattle.std.specs.Prelude.{IfOk}
use Rattle.sfc_plant.specs.Plants.{PlantData}
use Rattle.sfc_text.specs.Trees.{Tree, tree_of}
use Rattle.sfc_cases.specs.Conditions.{shared, unasked}
use Rattle.sfc_cases.proofs.ConditionTexts.{one_tree, told_as}
use Rattle.sfc_cases.proofs.condition.unasked.Goals as goal

pub returns-in-Ok : goal.returns-in-Ok
returns-in-Ok c = λ read is.
    let plant : PlantData = c.args.plant.now in
    let text : List ℕ = c.args.text.now in
    let tree : Tree = tree_of c.in-Ok.expression in
    let same : read text ≡ Ok tree = one_tree tree (read text) (c.one_expression_reading.ensures text (Ok tree) (read text) c.in-Ok.ensures (is text)) in
    let path : unasked plant read text ≡ shared plant (Ok tree) =
    ap (λ t. if t then None else shared plant (read text)) (sym c.names_instance.ensures ∙ c.if-names_instance.false) ∙ ap (shared plant) same in
    subst (λ o. IfOk c.shared.result (λ found. found ≡ o)) (sym path) c.shared.ensures

pub returns-in-Err : goal.returns-in-Err
returns-in-Err c = λ read is.
    let plant : PlantData = c.args.plant.now in
    let text : List ℕ = c.args.text.now in
    let path : unasked plant read text ≡ shared plant (read text) =
    ap (λ t. if t then None else shared plant (read text)) (sym c.names_instance.ensures ∙ c.if-names_instance.false) in
    subst (λ o. IfOk c.unread.result (λ found. found ≡ o)) (sym path)
    (c.unread.ensures.shared plant (read text)
    (told_as text (read text) c.in-Err.error.kind (λ o reads. c.one_expression_reading.ensures text o (read text) reads (is text)) c.in-Err.ensures))
