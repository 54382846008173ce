use Rattle.std.proofs.Common.{◌≡◌}
use Rattle.sfc_judge.specs.Running.Benches.{IsReady, steered_in}
use Rattle.sfc_test.proofs.changes.append_last_changes.Given as goal

abbrev pub invariant-commands : goal.invariant-commands
invariant-commands l = record {
  ready : IsReady l.initial.bench → IsReady l.bench;
  steered : steered_in l.bench ≡ steered_in l.initial.bench;
}
