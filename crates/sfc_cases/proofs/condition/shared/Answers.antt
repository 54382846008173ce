use Rattle.std.proofs.Common.{◌≡◌, ◌∙◌, ◌<◌, sym, ap, subst, ℕ, List, length, None, Ok}
use Rattle.sfc_plant.specs.Plants.{PlantData}
use Rattle.sfc_plant.specs.declared.instance.Instance.{Instance}
use Rattle.sfc_script.specs.Conditions.{condition_of}
use Rattle.sfc_text.specs.Trees.{Tree, tree_of}
use Rattle.sfc_cases.specs.Conditions.{condition_by, if_shared}
use Rattle.sfc_cases.proofs.ConditionTexts.{next_shared}
use Rattle.sfc_cases.proofs.condition.shared.Goals as goal

pub instances-preserved : goal.instances-preserved
instances-preserved c =
    let plant : PlantData = c.args.plant.now in
    let tree : Tree = tree_of c.args.expression.now in
    let k : ℕ = c.instances.number in
    let n : ℕ = length plant.instances in
    let less : k < n = subst (λ (is : List Instance). k < length is) c.instances-number-end.ensures.value c.instances-test.true in
    let checked : c.in_ok-checked.checked ≡ condition_by plant (record { 0 = k }) (Ok tree) =
    c.in_ok-checked.ensures (condition_of plant 0 (record { 0 = k }) tree) c.condition_of.ensures in
    let none : if_shared (condition_by plant (record { 0 = k }) (Ok tree)) ≡ None = sym (c.in_default.ensures ∙ ap if_shared checked) in
    c.instances.invariant ∙ next_shared plant (Ok tree) k n less none
