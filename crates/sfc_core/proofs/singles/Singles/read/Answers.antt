use Rattle.std.proofs.Common.{◌∙◌, ◌≤◌, List, ap, length, take}
use Rattle.sfc_plant.specs.declared.task.Task.{Task}
use Rattle.sfc_core.proofs.Singled.{none_read, all_false, all_off}
use Rattle.sfc_core.proofs.singles.Singles.read.Goals as goal

pub returns-clause-value : goal.returns-clause-value
returns-clause-value c state agrees =
    let plant = c.args.plant.now in
    let few : length plant.tasks ≤ 16 = c.tasks.ensures.sound.task_limit in
    ap (λ (tasks : List Task). take (length tasks) (all_false 16)) c.tasks.ensures.value
    ∙ none_read plant state.changes plant.tasks (all_false 16) (λ j. all_off 16 j) few (c.requires.maybe c.if-maybe.false)
