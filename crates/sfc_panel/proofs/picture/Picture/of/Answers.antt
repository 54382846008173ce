use Rattle.std.proofs.Common.{◌≡◌, ◌∙◌, ap, sym, subst, List, length, arith, ◌+◌, ◌<◌}
use Rattle.sfc_output.specs.sfc_core.Agreement.{plant_of}
use Rattle.sfc_output.specs.sfc_core.PlantState.{state_of}
use Rattle.sfc_output.specs.sfc_instance.Views.{tables_in}
use Rattle.sfc_output.specs.sfc_tables.Tables.{Tabled, tables_of}
use Rattle.sfc_plant.specs.Finding.{chart_of}
use Rattle.sfc_plant.specs.Plants.{PlantData}
use Rattle.sfc_plant.specs.declared.instance.Instance.{Instance}
use Rattle.sfc_panel.specs.Pictures.{IsPicture, IsShot}
use Rattle.sfc_panel.specs.declared.picture.Shot.{Shot}
use Rattle.sfc_panel.proofs.Shots.{AreShots, one_more}
use Rattle.sfc_panel.proofs.picture.Picture.of.Goals as goal

pub loop-k-preserved : goal.loop-k-preserved
loop-k-preserved c h agrees =
    let plant = plant_of c.args.resource.now in
    let k = c.loop-k.k in
    let shot = c.in_ok-shot.shot in
    let own : tables_in c.program.result ≡ tables_of (chart_of plant (record { 0 = k })) =
    λ i. tables_of (chart_of (c.program.ensures.plant i) (c.program.ensures.instance i)) in
    subst (λ (xs : List Shot). AreShots plant (state_of plant h) xs (k + 1)) (sym c.in_ok-push.ensures.items)
    (one_more plant (state_of plant h) c.loop-k.shots.items shot k (c.loop-k.invariant h agrees)
    (subst (λ (t : Tabled). IsShot t ((state_of plant h).instance_state k) shot) own
    (c.in_ok-shot.ensures (state_of plant h).changes ((state_of plant h).instance_state k) (c.program.ensures.shows h agrees))))

pub returns : goal.returns
unfolding IsPicture
returns c h agrees k less =
    let plant : PlantData = plant_of c.args.resource.now in
    let same : c.instances-count.result.now ≡ plant.instances =
    c.instances-count.ensures.value ∙ ap (λ (p : PlantData). p.instances) c.plant.ensures in
    let there : k < length c.instances-count.result.now = subst (λ (xs : List Instance). k < length xs) (sym same) less in
    (c.loop-k.invariant h agrees).each k (omega (arith, there, c.loop-k-test.false))
