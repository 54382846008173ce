use Rattle.std.proofs.Common.{◌≡◌, ◌∙◌, ℕ, List, drop, ap, arith}
use Rattle.sfc_plant.specs.Plants.{PlantData}
use Rattle.sfc_debug.specs.sfc_core.Agreement.{plant_of}
use Rattle.sfc_plant.specs.PlantNames.{instance_name}
use Rattle.sfc_output.specs.Programs.{scans_text}
use Rattle.sfc_page.proofs.Lines.{put_behind}
use Rattle.sfc_output.proofs.answer.put_new_head.Goals as goal

pub behind-requires : goal.behind-requires
behind-requires c =
    let put = put_behind c.args.out.now.items c.args.line.now c.put_scans.new.out.items c.put_scans.new.line _ c.in_ok-put_scans.ensures
    (omega (arith, c.len.ensures, c.len-passed_on.ensures, c.if-len-passed_on.false)) in
    omega (arith, put.0, c.len-held.ensures)

pub returns-clause-fits : goal.returns-clause-fits
returns-clause-fits c fits =
    let plant = plant_of c.args.resource.now in
    let p = c.args.instance in
    let scans = c.scans-scans.result in
    let put = put_behind c.args.out.now.items c.args.line.now c.put_scans.new.out.items c.put_scans.new.line _ c.in_ok-put_scans.ensures
    (omega (arith, c.len.ensures, c.len-passed_on.ensures, c.if-len-passed_on.false)) in
    let name : c.instance_name.result.now ≡ instance_name plant p =
    c.instance_name.ensures ∙ ap (λ (x : PlantData). instance_name x p) (c.plant.ensures ∙ c.program-view.ensures.plant) in
    let text : c.behind.result.now ≡ scans_text (instance_name plant p) scans =
    c.behind.ensures ∙ ap (λ (n : ℕ). drop n c.put_scans.new.line) c.len-held.ensures ∙ put.1
    ∙ ap (λ (xs : List ℕ). scans_text xs scans) name in
    c.keep_head.ensures plant (c.of.ensures (instance_name plant p) text) fits
