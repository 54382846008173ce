-- One step with an action by each qualifier, and what the definitions alone give for them scan by scan.
use Rattle.std.proofs.Common.{◌≡◌, ℕ, zero, suc, Bool, true, false, List, [], ◌∷◌, ℤ, pos, refl, Some, None}
use Rattle.std.specs.Prelude.{filter}
use Rattle.sfc_base.specs.declared.qualifier.TimedQualifier.TheVariants.{Limited, Delayed, StoredDelayed, DelayedStored, StoredLimited}
use Rattle.sfc_plant.specs.declared.association.Qualifier.{Qualifier}
use Rattle.sfc_plant.specs.declared.association.Qualifier.TheVariants.{NonStored, Reset, Set, Pulse, RisingPulse, FallingPulse, Timed}
use Rattle.sfc_plant.specs.declared.association.Time.TheVariants.{Literal}
use Rattle.sfc_tables.specs.declared.step_action.StepAction.{StepAction}
use Rattle.sfc_tables.specs.Tables.{Tabled}
use Rattle.sfc_action.specs.declared.fault.ActionFault.{ActionFault}
use Rattle.sfc_action.specs.declared.fault.ControlFault.{ControlFault}
use Rattle.sfc_action.specs.declared.fault.ControlFault.TheVariants.{TwoTimed, SdWhileSl, SlWhileSd}
use Rattle.sfc_action.specs.ActionControl.{Scan, q, executed, first_fault}

-- association n, of this step with this action
abbrev line : ℕ → ℕ → ℕ → Qualifier → StepAction
line n s a qualifier = record { number = record { 0 = n }; step = record { 0 = s }; action = record { 0 = a }; qualifier = qualifier }

abbrev tables_of : List StepAction → Tabled
tables_of associations = record {
  initial = true ∷ false ∷ [];
  sides = [];
  least_times = [];
  ranked = [];
  actions = [];
  associations = associations;
}

-- each action has one qualifier, all at step 0, with times of 20 ms; by their numbers
abbrev bN : ℕ
bN = 0

abbrev bR : ℕ
bR = 1

abbrev bS : ℕ
bS = 2

abbrev bL : ℕ
bL = 3

abbrev bD : ℕ
bD = 4

abbrev bP : ℕ
bP = 5

abbrev bSD : ℕ
bSD = 6

abbrev bDS : ℕ
bDS = 7

abbrev bSL : ℕ
bSL = 8

abbrev bP1 : ℕ
bP1 = 9

abbrev bP0 : ℕ
bP0 = 10

abbrev all_qualifiers : Tabled
all_qualifiers =
    let t = Literal (pos 20_000) in
    tables_of (line 0 0 bN NonStored ∷ line 1 0 bR Reset ∷ line 2 0 bS Set ∷ line 3 0 bL (Timed Limited t)
    ∷ line 4 0 bD (Timed Delayed t) ∷ line 5 0 bP Pulse ∷ line 6 0 bSD (Timed StoredDelayed t)
    ∷ line 7 0 bDS (Timed DelayedStored t) ∷ line 8 0 bSL (Timed StoredLimited t) ∷ line 9 0 bP1 RisingPulse
    ∷ line 10 0 bP0 FallingPulse ∷ [])

abbrev actions : List ℕ
actions = bN ∷ bR ∷ bS ∷ bL ∷ bD ∷ bP ∷ bSD ∷ bDS ∷ bSL ∷ bP1 ∷ bP0 ∷ []

abbrev twenty : ℕ → List ℤ
twenty zero = []
twenty (suc n) = pos 20_000 ∷ twenty n

-- a scan after which step 0 is active or not
abbrev scan_at : ℕ → Bool → Scan
scan_at t active = record { active = active ∷ false ∷ []; times = twenty 11; at = pos t }

abbrev scan_1 : List Scan
scan_1 = scan_at 0 true ∷ []

abbrev scan_2 : List Scan
scan_2 = scan_at 10_000 true ∷ scan_1

abbrev scan_3 : List Scan
scan_3 = scan_at 20_000 true ∷ scan_2

abbrev scan_4 : List Scan
scan_4 = scan_at 30_000 true ∷ scan_3

abbrev scan_5 : List Scan
scan_5 = scan_at 40_000 false ∷ scan_4

abbrev scan_6 : List Scan
scan_6 = scan_at 50_000 false ∷ scan_5

abbrev with_q : List Scan → List ℕ
with_q h = filter (λ a. q all_qualifiers a h) actions

abbrev with_a : List Scan → List ℕ
with_a h = filter (λ a. executed all_qualifiers a h) actions

q_1 : with_q scan_1 ≡ bN ∷ bS ∷ bL ∷ bP ∷ bSL ∷ []
q_1 = refl

q_2 : with_q scan_2 ≡ bN ∷ bS ∷ bL ∷ bSL ∷ []
q_2 = refl

q_3 : with_q scan_3 ≡ bN ∷ bS ∷ bD ∷ bSD ∷ bDS ∷ []
q_3 = refl

q_4 : with_q scan_4 ≡ bN ∷ bS ∷ bD ∷ bSD ∷ bDS ∷ []
q_4 = refl

q_5 : with_q scan_5 ≡ bS ∷ bSD ∷ bDS ∷ []
q_5 = refl

a_1 : with_a scan_1 ≡ bN ∷ bS ∷ bL ∷ bP ∷ bSL ∷ bP1 ∷ []
a_1 = refl

a_2 : with_a scan_2 ≡ bN ∷ bS ∷ bL ∷ bP ∷ bSL ∷ []
a_2 = refl

a_3 : with_a scan_3 ≡ bN ∷ bS ∷ bL ∷ bD ∷ bSD ∷ bDS ∷ bSL ∷ []
a_3 = refl

a_4 : with_a scan_4 ≡ bN ∷ bS ∷ bD ∷ bSD ∷ bDS ∷ []
a_4 = refl

a_5 : with_a scan_5 ≡ bN ∷ bS ∷ bD ∷ bSD ∷ bDS ∷ bP0 ∷ []
a_5 = refl

a_6 : with_a scan_6 ≡ bS ∷ bSD ∷ bDS ∷ []
a_6 = refl

-- ---- faults: the action of association 0 comes first, whatever its number

-- step 0 has the actions 1 and 0 by two times each, and step 1 has SD and SL of action 2
abbrev clashing : Tabled
clashing =
    let t = Literal (pos 20_000) in
    tables_of (line 0 0 2 (Timed StoredLimited t) ∷ line 1 1 2 (Timed StoredDelayed t) ∷ line 2 1 0 (Timed Limited t)
    ∷ line 3 1 0 (Timed Delayed t) ∷ [])

abbrev at_step : Bool → Bool → Scan
at_step first second = record { active = first ∷ second ∷ []; times = twenty 4; at = pos 0 }

abbrev of : ℕ → ControlFault → ActionFault
of a fault = record { action = record { 0 = a }; fault = fault }

-- SL of action 2 is stored by the scan before, and comes first in the text
stored_limit : first_fault clashing (at_step false true ∷ at_step true false ∷ []) ≡ Some (of 2 SdWhileSl)
stored_limit = refl

both : first_fault clashing (at_step true true ∷ []) ≡ Some (of 2 TwoTimed)
both = refl

second_step : first_fault clashing (at_step false true ∷ []) ≡ Some (of 0 TwoTimed)
second_step = refl

no_fault : first_fault clashing (at_step true false ∷ []) ≡ None
no_fault = refl

other_way : first_fault clashing (at_step true false ∷ record { active = false ∷ true ∷ []; times = twenty 4; at = pos 0 } ∷ [])
    ≡ Some (of 2 SlWhileSd)
other_way = refl
