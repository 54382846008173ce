use Rattle.std.proofs.Common.{◌≡◌, ◌++◌, [], length, map}
use Rattle.sfc_program.specs.sfc_variables.Checks.{in_turn}
use Rattle.sfc_load.specs.Loading.{task_name, task_check, task_names}
use Rattle.sfc_load.specs.Built.{task_of}
use Rattle.sfc_load.proofs.tasks.load_each.Given as goal

abbrev pub invariant-tasks : goal.invariant-tasks
invariant-tasks l = record {
  checked : in_turn task_name (task_check l.globals) [] l.tasks ≡ in_turn task_name (task_check l.globals) l.names l.rest;
  built : map (task_of l.globals) l.tasks ≡ l.loaded.items ++ map (task_of l.globals) l.rest;
  named : task_names l.tasks ≡ l.names ++ task_names l.rest;
}

abbrev pub decreases-tasks : goal.decreases-tasks
decreases-tasks l = length l.rest
