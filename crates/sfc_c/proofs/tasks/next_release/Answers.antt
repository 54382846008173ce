use Rattle.std.proofs.Common.{◌≡◌, ◌∙◌, ℤ, List, ap, get_or, sym, w64}
use Rattle.std.proofs.lemmas.Int.{to_z-of_z}
use Rattle.sfc_plant.specs.declared.task.Task.{Task}
use Rattle.sfc_plant.specs.Plants.{PlantData}
use Rattle.sfc_replay.specs.sfc_core.Agreement.{plant_of}
use Rattle.sfc_replay.specs.sfc_tasks.Multiples.{next_release}
use Rattle.sfc_c.specs.Codes.{instant_or_none}
use Rattle.sfc_c.proofs.Releases.{next_by}
use Rattle.sfc_c.proofs.tasks.next_release.Goals as goal

pub returns : goal.returns
returns c h agrees =
    let plant = plant_of c.args.resource.now in
    let task = c.index-tasks-task.result in
    let e : c.tasks.result.now ≡ plant.tasks = c.tasks.ensures.value ∙ ap (λ (p : PlantData). p.tasks) c.plant.ensures in
    let is : task ≡ get_or plant.tasks c.args.task.0 task =
    c.index-tasks-task.is ∙ ap (λ (xs : List Task). get_or xs c.args.task.0 task) e in
    to_z-of_z w64 c.next_by.result (record { sfits = c.next_by.type_inv }) ∙ c.next_by.ensures
    ∙ ap (λ (t : ℤ). instant_or_none (next_release task.interval c.read_single.result t)) (to_z-of_z w64 c.args.t c.ranges.t)
    ∙ sym (next_by plant h c.args.task c.args.t task c.read_single.result c.requires is (c.read_single.ensures h agrees))
