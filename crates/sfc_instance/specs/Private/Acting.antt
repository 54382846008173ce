-- What the actions of a scan do with the variables.
use Rattle.std.specs.Prelude.{ℕ, drop, ◌≡◌, ◌++◌, List, ℤ, Option, Some, None, Result, Ok, Err}
use Rattle.sfc_expr.specs.declared.fault.Fault.{Fault}
use Rattle.sfc_plant.specs.declared.association.Target.{Target}
use Rattle.sfc_base.specs.declared.ids.ProgId.{ProgId}
use Rattle.sfc_plant.specs.Plants.{PlantData}
use Rattle.sfc_image.specs.declared.image.Image.{Image}
use Rattle.sfc_image.specs.Changes.{Change, settled, trying}
use Rattle.sfc_image.specs.Agreement.{ImageAgrees}
use Rattle.sfc_instance.specs.declared.acting.Acting.{Acting}
use Rattle.sfc_evolve.specs.Evolution.{active_steps}
use Rattle.sfc_image.specs.StepTimes.{times_of}
use Rattle.sfc_instance.specs.declared.fault_place.FaultPlace.{FaultPlace}
use Rattle.sfc_instance.specs.declared.scan_fault.ScanFault.{ScanFault}
use Rattle.sfc_instance.specs.declared.scan_fault.ScanFault.TheVariants as fault
use Rattle.sfc_instance.specs.Life.{Life, PlacedFault, evolution_rows}
use Rattle.sfc_instance.specs.Contexts.{IsContextOf}
use Rattle.sfc_instance.specs.ProgramScan.{step_times, after_actions}
use Rattle.sfc_instance.specs.Agreement.{StateAgrees}

-- it stands after these scans, at t
pub record IsAfter (plant : PlantData) (acting : Acting) (life : Life) (t : ℤ) : Type 0 where
  pub context : IsContextOf plant acting.context
  pub state : StateAgrees acting.context.tables.now acting.state.now life
  pub active : acting.steps.active.now ≡ active_steps acting.context.tables.now (evolution_rows acting.context.tables.now life)
  pub times : times_of acting.steps ≡ step_times acting.context.tables.now life t

-- what a call tells of a fault: which it is, or where
pub data Told : Type 0 where
  Kind : Fault → Told
  Place : FaultPlace → Told

abbrev pub IsTold : Told → PlacedFault → Type 0
IsTold (Kind f) stop = stop.fault ≡ fault.Expression f
IsTold (Place place) stop = stop.place ≡ place

abbrev pub kind_in : Result (Unit {0}) Fault → Option Told
kind_in (Ok u) = None
kind_in (Err f) = Some (Kind f)

abbrev pub place_in : Option FaultPlace → Option Told
place_in None = None
place_in (Some place) = Some (Place place)

-- these changes are wanted where nothing is told, and else a fault of which that holds
abbrev pub Ends : Option Told → Result (List Change) PlacedFault → List Change → Type 0
Ends None wanted changes = wanted ≡ Ok changes
Ends (Some told) wanted changes = (stop : PlacedFault) × (wanted ≡ Err stop) × IsTold told stop

-- in an open transaction over what is committed the image now has what is wanted; after a fault it has something
pub record Acts (plant : PlantData) (committed : List Change) (image : Image) (answer : Option Told)
    (wanted : Result (List Change) PlacedFault) : Type 0 where
  pub tried : List Change
  pub agrees : ImageAgrees plant image (trying committed tried)
  pub ends : Ends answer wanted (tried ++ committed)

-- where the fault is that is wanted, if one is
abbrev pub place_of : Result (List Change) PlacedFault → Option FaultPlace
place_of (Ok changes) = None
place_of (Err stop) = Some stop.place

-- it left in the image what is wanted, or what was there before
abbrev pub Leaves : PlantData → List Change → Image → Result (Unit {0}) Fault → Result (List Change) PlacedFault → Type 0
Leaves plant before image (Ok u) wanted = (done : List Change) × (wanted ≡ Ok done) × ImageAgrees plant image (settled done)
Leaves plant before image (Err f) wanted =
    (stop : PlacedFault) × (wanted ≡ Err stop) × (stop.fault ≡ fault.Expression f) × ImageAgrees plant image (settled before)

unfoldable pub HasActed : PlantData → List Change → Image → Result (Unit {0}) Fault → Result (List Change) PlacedFault → Type 0
HasActed plant before image answer wanted = Leaves plant before image answer wanted

-- this fault is wanted, at this place
pub record IsStop (f : ScanFault) (place : Option FaultPlace) (wanted : Result (List Change) PlacedFault) : Type 0 where
  pub there : FaultPlace
  pub kept : place ≡ Some there
  pub fault : wanted ≡ Err (record { fault = f; place = there })

-- the same, where the place of a fault is kept
abbrev pub LeavesSo : PlantData → List Change → Image → Result (Unit {0}) Fault → Option FaultPlace → Result (List Change) PlacedFault
    → Type 0
LeavesSo plant before image (Ok u) place wanted = (done : List Change) × (wanted ≡ Ok done) × ImageAgrees plant image (settled done)
LeavesSo plant before image (Err f) place wanted = IsStop (fault.Expression f) place wanted × ImageAgrees plant image (settled before)

unfoldable pub HasActedSo : PlantData → List Change → Image → Result (Unit {0}) Fault → Option FaultPlace → Result (List Change) PlacedFault
    → Type 0
HasActedSo plant before image answer place wanted = LeavesSo plant before image answer place wanted

-- after the actions of these from one on and before action i the image has tried changes from which the others go on
pub record Follows (plant : PlantData) (p : ProgId) (life : Life) (t : ℤ) (committed : List Change) (targets : List Target) (from : ℕ)
    (before : List Change) (i : ℕ) (image : Image) : Type 0 where
  pub tried : List Change
  pub agrees : ImageAgrees plant image (trying committed tried)
  pub rest : after_actions plant p life t i (drop i targets) (tried ++ committed)
      ≡ after_actions plant p life t from (drop from targets) (before ++ committed)
