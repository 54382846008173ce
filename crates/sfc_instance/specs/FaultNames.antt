-- The names and the numbers of the faults of scans (our choice).
use Rattle.std.specs.Prelude.{ℕ, List, codes}
use Rattle.sfc_expr.specs.declared.fault.Fault.TheVariants.{DivZero, Range}
use Rattle.sfc_action.specs.declared.fault.ControlFault.TheVariants.{TwoTimed, SdWhileSl, SlWhileSd}
use Rattle.sfc_instance.specs.declared.scan_fault.ScanFault.{ScanFault}
use Rattle.sfc_instance.specs.declared.scan_fault.ScanFault.TheVariants.{Expression, Control}

abbrev pub fault_name : ScanFault → List ℕ
fault_name (Expression DivZero) = codes "DivZero"
fault_name (Expression Range) = codes "Range"
fault_name (Control TwoTimed) = codes "TwoTimed"
fault_name (Control SdWhileSl) = codes "SdWhileSl"
fault_name (Control SlWhileSd) = codes "SlWhileSd"

-- in the order in which the kinds of faults are told, from 1
abbrev pub fault_number : ScanFault → ℕ
fault_number (Expression DivZero) = 1
fault_number (Expression Range) = 2
fault_number (Control TwoTimed) = 3
fault_number (Control SdWhileSl) = 4
fault_number (Control SlWhileSd) = 5
