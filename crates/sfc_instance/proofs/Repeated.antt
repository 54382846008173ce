-- A scan of action control with the active steps of the one before.
use Rattle.std.proofs.Common.{◌≡◌, ◌∷◌, [], List, false, true}
use Rattle.sfc_tables.specs.Tables.{Tabled}
use Rattle.sfc_evolve.specs.Lookback.{is_empty}
use Rattle.sfc_evolve.specs.Evolution.{active_steps}
use Rattle.sfc_action.specs.ActionControl as control
use Rattle.sfc_action.specs.Agreement.{scan_input}
use Rattle.sfc_instance.specs.Life.{Life, Row, evolution_scans, evolution_rows, control_scans}

-- what holds of two scans with the same active steps, the one behind the other, holds of one more behind a life that has begun
pub once_more : (P : List control.Scan → Type 0) (Q : List control.Scan → Type 0) (tables : Tabled) (row : Row) (life : Life)
    → is_empty (evolution_scans life) ≡ false
    → active_steps tables (evolution_rows tables (row ∷ life)) ≡ active_steps tables (evolution_rows tables life)
    → ((scan last : control.Scan) (h : List control.Scan) → scan.active ≡ last.active → P (last ∷ h) → Q (scan ∷ last ∷ h))
    → P (control_scans tables life) → Q (control_scans tables (row ∷ life))
once_more P Q tables row [] begun same goes p = absurd (let bad : true ≡ false = begun in cc)
once_more P Q tables row (latest ∷ life) begun same goes p =
    goes (scan_input tables (evolution_scans (row ∷ latest ∷ life)) row.times row.at)
    (scan_input tables (evolution_scans (latest ∷ life)) latest.times latest.at) (control_scans tables life) same p
