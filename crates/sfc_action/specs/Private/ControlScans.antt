-- One scan of action control.
use Rattle.std.specs.Prelude.{ℕ, ◌≡◌, length}
use Rattle.sfc_action.specs.declared.control_scan.ControlScan.{ControlScan}
use Rattle.sfc_action.specs.Private.TimedSets.{AreAll}
use Rattle.sfc_action.specs.Private.Marking.{AreSized}
use Rattle.sfc_action.specs.Private.Storing.{AreStores}

-- for n actions
pub record IsControlScan (n : ℕ) (control_scan : ControlScan) : Type 0 where
  pub inputs : AreSized n control_scan.inputs
  pub presets : length control_scan.presets.items ≡ n
  pub stores : AreStores n control_scan.stores
  pub called : length control_scan.called ≡ n
  pub elapsed : AreAll n control_scan.elapsed
