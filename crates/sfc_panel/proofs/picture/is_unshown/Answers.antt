use Rattle.std.proofs.Common.{◌≡◌, ◌∙◌, sym, subst, Bool, true, false}
use Rattle.std.specs.Prelude.{is_none}
use Rattle.sfc_output.specs.sfc_core.Agreement.{plant_of}
use Rattle.sfc_output.specs.sfc_core.PlantState.{state_of}
use Rattle.sfc_output.specs.sfc_instance.Views.{tables_in}
use Rattle.sfc_output.specs.sfc_tables.Tables.{Tabled, tables_of}
use Rattle.sfc_plant.specs.Finding.{chart_of}
use Rattle.sfc_panel.specs.Changes.{end_where, stands_alike}
use Rattle.sfc_panel.specs.Pictures.{IsShot}
use Rattle.sfc_panel.proofs.picture.is_unshown.Goals as goal

pub returns-then-contains : goal.returns-then-contains
returns-then-contains c h g shot agrees =
    let plant = plant_of c.args.resource.now in
    let k = c.args.program in
    let own : tables_in c.program.result ≡ tables_of (chart_of plant k) =
    λ i. tables_of (chart_of (c.program.ensures.plant i) (c.program.ensures.instance i)) in
    let old = (state_of plant h).instance_state k.0 in
    let new = (state_of plant g).instance_state k.0 in
    let alike : c.stands_as.result ≡ stands_alike (tables_of (chart_of plant k)) old new =
    subst (λ (t : Tabled). c.stands_as.result ≡ stands_alike t old new) own
    (c.stands_as.ensures (state_of plant g).changes old new (subst (λ (t : Tabled). IsShot t old c.args.shot.now) (sym own) shot)
    (c.program.ensures.shows g agrees)) in
    rw c.in-Scanned.is (rw (sym c.contains.ensures ∙ c.if-contains.true) (by_alike _ _ alike))
  where
    by_alike : (x y : Bool) → x ≡ y → x ≡ is_none (end_where y)
    by_alike x true e = e
    by_alike x false e = e
