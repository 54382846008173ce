use Rattle.std.proofs.Common.{◌≡◌, ◌-◌, ◌||◌, not, length}
use Rattle.std.specs.List.{list_all, range_with_len}
use Rattle.sfc_events.specs.InstanceSets.{has}
use Rattle.sfc_replay.specs.sfc_core.Agreement.{plant_of}
use Rattle.sfc_judge.specs.Holding.{are_expected, expects_fault}
use Rattle.sfc_judge.specs.Running.Cases.{lines_in}
use Rattle.sfc_judge.proofs.complaint.first_unexpected.Given as goal

abbrev pub invariant-instances : goal.invariant-instances
invariant-instances l = are_expected (plant_of l.resource) (lines_in l.behind) l.faulted
    ≡ list_all (λ p. not (has l.faulted p) || expects_fault (lines_in l.behind) (record { 0 = p }))
    (range_with_len l.number (length (plant_of l.resource).instances - l.number))
