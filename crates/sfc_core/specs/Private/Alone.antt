-- Tasks without a SINGLE.
use Rattle.std.specs.Prelude.{◌≡◌, false, List, All, is_some}
use Rattle.sfc_plant.specs.declared.task.Task.{Task}

-- none of them has one
abbrev pub HaveNoSingle : List Task → Type 0
HaveNoSingle tasks = All (λ (task : Task). is_some task.single ≡ false) tasks
