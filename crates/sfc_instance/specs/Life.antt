-- The life of a program instance: its scans without a fault since the opening or its latest reset (2.6.2).
use Rattle.std.specs.Prelude.{Bool, List, [], ◌∷◌, map, ℤ, pos, Option, None}
use Rattle.sfc_tables.specs.Tables.{Tabled}
use Rattle.sfc_evolve.specs.Evolution as evolution
use Rattle.sfc_action.specs.ActionControl as control
use Rattle.sfc_action.specs.Agreement.{scan_input}
use Rattle.sfc_instance.specs.declared.fault_place.FaultPlace.{FaultPlace}
use Rattle.sfc_instance.specs.declared.scan_fault.ScanFault.{ScanFault}

-- One scan: what the condition of each transition gave, in text order, and FALSE where the transition wasn't enabled; the
-- time of each association, in text order; and the instant.
pub record Row : Type 0 where
  pub conditions : List Bool
  pub times : List ℤ
  pub at : ℤ

-- the scans of a life, the newest first
abbrev pub Life : Type 0
Life = List Row

-- what its steps were told of a scan
abbrev pub evolution_scan : Row → evolution.Scan
evolution_scan row = record { conditions = row.conditions; at = row.at }

abbrev pub evolution_scans : Life → List evolution.Scan
evolution_scans life = map evolution_scan life

-- the rows of its steps
abbrev pub evolution_rows : Tabled → Life → List evolution.Row
evolution_rows tables life = evolution.rows_of tables (evolution_scans life)

-- the inputs of its action control
abbrev pub control_scans : Tabled → Life → List control.Scan
control_scans tables [] = []
control_scans tables (row ∷ life) =
    scan_input tables (evolution_scans (row ∷ life)) row.times row.at ∷ control_scans tables life

-- the instant of the latest scan; 0 before the first
abbrev pub latest_instant : Life → ℤ
latest_instant [] = pos 0
latest_instant (row ∷ life) = row.at

-- a fault of a scan, and where it is
pub record PlacedFault : Type 0 where
  pub fault : ScanFault
  pub place : FaultPlace

-- The state of a program instance: its life, the fault that ended its latest scan, if one did, and where that fault is. After a
-- fault it is not scanned until its reset (our choice).
pub record InstanceState : Type 0 where
  pub life : Life
  pub fault : Option ScanFault
  pub place : Option FaultPlace

-- at the opening, and after a reset
abbrev pub fresh : InstanceState
fresh = record { life = []; fault = None; place = None }
