use Rattle.sfc_instances.specs.PlantState.{program_scan}
use Rattle.sfc_instances.proofs.ScanEnd.{end_tells}
use Rattle.sfc_instances.proofs.laws.skips.Goals as goal

pub returns-clause-exactly : goal.returns-clause-exactly
unfolding program_scan
returns-clause-exactly c plant t k state =
    (end_tells plant (record { 0 = k }) (state.instance_state k) state.changes t (state.instance_state k).fault).skips

pub returns-clause-changes : goal.returns-clause-changes
unfolding program_scan
returns-clause-changes c plant t k state =
    (end_tells plant (record { 0 = k }) (state.instance_state k) state.changes t (state.instance_state k).fault).stays

pub returns-clause-instance_state : goal.returns-clause-instance_state
unfolding program_scan
returns-clause-instance_state c plant t k state =
    (end_tells plant (record { 0 = k }) (state.instance_state k) state.changes t (state.instance_state k).fault).stands
