use Rattle.sfc_instances.specs.PlantState.{program_scan}
use Rattle.sfc_instances.proofs.ScanEnd.{end_tells}
use Rattle.sfc_instances.proofs.laws.faults.Goals as goal

pub returns-clause-changes : goal.returns-clause-changes
unfolding program_scan
returns-clause-changes c plant t k state =
    (end_tells plant (record { 0 = k }) (state.instance_state k) state.changes t (state.instance_state k).fault).undone

pub returns-clause-life : goal.returns-clause-life
unfolding program_scan
returns-clause-life c plant t k state =
    (end_tells plant (record { 0 = k }) (state.instance_state k) state.changes t (state.instance_state k).fault).lives

pub returns-clause-fault : goal.returns-clause-fault
unfolding program_scan
returns-clause-fault c plant t k state =
    (end_tells plant (record { 0 = k }) (state.instance_state k) state.changes t (state.instance_state k).fault).faults

pub returns-clause-place : goal.returns-clause-place
unfolding program_scan
returns-clause-place c plant t k state =
    (end_tells plant (record { 0 = k }) (state.instance_state k) state.changes t (state.instance_state k).fault).places
