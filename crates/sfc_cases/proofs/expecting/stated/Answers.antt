use Rattle.std.proofs.Common.{◌≡◌, sym, ap, subst, ℕ, List}
use Rattle.std.specs.Prelude.{IfOk, option_map}
use Rattle.sfc_plant.specs.Plants.{PlantData}
use Rattle.sfc_cases.specs.declared.deed.Deed.TheVariants.{Expects}
use Rattle.sfc_cases.specs.Conditions.{condition}
use Rattle.sfc_cases.specs.Deeds.{stated, stated_by}
use Rattle.sfc_cases.proofs.expecting.stated.Goals as goal

pub returns-in-None : goal.returns-in-None
returns-in-None c = λ read is.
    let plant : PlantData = c.args.plant.now in
    let text : List ℕ = c.args.text.now in
    let path : stated plant read text ≡ option_map Expects (condition plant read text) = ap (stated_by plant read text) c.in-None.ensures in
    subst (λ o. IfOk c.expects.result (λ deed. deed ≡ o)) (sym path) (c.expects.ensures read is)
