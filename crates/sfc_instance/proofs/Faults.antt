-- What stays of a scan that faults.
use Rattle.std.proofs.Common.{◌≡◌, List, ℤ, Option, Some, None, Result, Ok, Err, refl}
use Rattle.sfc_base.specs.declared.ids.ProgId.{ProgId}
use Rattle.sfc_plant.specs.Plants.{PlantData}
use Rattle.sfc_image.specs.Changes.{Change}
use Rattle.sfc_instance.specs.declared.scan_fault.ScanFault.{ScanFault}
use Rattle.sfc_instance.specs.Life.{Life, Row, PlacedFault, InstanceState}
use Rattle.sfc_instance.specs.ProgramScan.{after_attempt, attempt, next_row, unless_faulted}

module _ (life : Life) (changes : List Change) (row : Row) (f : ScanFault) where
  attempt_life : (r : Result (List Change) PlacedFault) → (after_attempt life changes row r).instance_state.fault ≡ Some f
      → (after_attempt life changes row r).instance_state.life ≡ life
  attempt_life (Ok done) e = absurd cc
  attempt_life (Err g) e = refl

  attempt_changes : (r : Result (List Change) PlacedFault) → (after_attempt life changes row r).instance_state.fault ≡ Some f
      → (after_attempt life changes row r).changes ≡ changes
  attempt_changes (Ok done) e = absurd cc
  attempt_changes (Err g) e = refl

module _ (plant : PlantData) (p : ProgId) (instance_state : InstanceState) (changes : List Change) (t : ℤ) (f : ScanFault) where
  pub life_stays : (o : Option ScanFault) → (unless_faulted plant p instance_state changes t o).instance_state.fault ≡ Some f
      → (unless_faulted plant p instance_state changes t o).instance_state.life ≡ instance_state.life
  life_stays None e =
      attempt_life instance_state.life changes (next_row plant p instance_state.life changes t) f (attempt plant p instance_state.life changes t) e
  life_stays (Some g) e = refl

  pub changes_stay : (o : Option ScanFault) → (unless_faulted plant p instance_state changes t o).instance_state.fault ≡ Some f
      → (unless_faulted plant p instance_state changes t o).changes ≡ changes
  changes_stay None e =
      attempt_changes instance_state.life changes (next_row plant p instance_state.life changes t) f (attempt plant p instance_state.life changes t) e
  changes_stay (Some g) e = refl

  pub instance_state_stays : (o : Option ScanFault) → o ≡ Some f → (unless_faulted plant p instance_state changes t o).instance_state ≡ instance_state
  instance_state_stays None e = absurd cc
  instance_state_stays (Some g) e = refl
