use Rattle.std.proofs.Common.{◌≡◌, ◌++◌, List, ℕ, codes, ◌∙◌, ap}
use Rattle.std.proofs.lemmas.Result.{on_ok_weaker}
use Rattle.sfc_debug.specs.sfc_instance.FaultNames.{fault_name}
use Rattle.sfc_debug.specs.sfc_instance.Views.{plant_in, instance_in}
use Rattle.sfc_plant.specs.PlantNames.{instance_name}
use Rattle.sfc_output.specs.FaultPlaces.{known_place}
use Rattle.sfc_output.proofs.FaultLines.{pieces_appended}
use Rattle.sfc_output.proofs.fault_place.append_ended.Goals as goal

pub returns : goal.returns
returns c =
    let plant = plant_in c.args.view.now in
    let p = instance_in c.args.view.now in
    let name = instance_name plant p in
    let first = c.append.new.out.items in
    let kind = c.append-3.new.out.items in
    let last = c.append-5.new.out.items in
    let named : c.instance_name-name.result.now ≡ name =
    c.instance_name-name.ensures ∙ (λ i. instance_name (c.plant.ensures i) (c.instance.ensures.value i)) in
    on_ok_weaker c.append-7.result
    (λ e. pieces_appended c.args.out.now.items first c.append-2.new.out.items kind c.append-4.new.out.items c.append_place.new.out.items last
    c.append-6.new.out.items _ (codes "; ") name (codes " ended with ") (fault_name c.args.fault) (known_place plant p c.args.place)
    (codes ", and isn't scanned until RESET ") name (codes "\n")
    c.in_ok-append.ensures (c.in_ok-append-2.ensures ∙ ap (λ (x : List ℕ). first ++ x) named) c.in_ok-append-3.ensures
    (c.in_ok-append-4.ensures ∙ ap (λ (x : List ℕ). kind ++ x) c.name.ensures) c.in_ok-append_place.ensures c.in_ok-append-5.ensures
    (c.in_ok-append-6.ensures ∙ ap (λ (x : List ℕ). last ++ x) named) e)
    c.append-7.ensures
