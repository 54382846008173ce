-- What the control block of each action gets and gives, scan by scan: Q, A and control faults (2.6.4.4, 2.6.4.5).
use Rattle.std.specs.Prelude.{ℕ, ◌==◌, nat_lt, Bool, true, false, not, ◌&&◌, ◌||◌}
use Rattle.std.specs.Prelude.{List, [], ◌∷◌, length, map, filter, slice_index_or, Option, Some, None, ℤ, pos}
use Rattle.std.specs.List.{list_any}
use Rattle.sfc_base.specs.declared.qualifier.TimedQualifier.TheVariants.{Limited, Delayed, StoredDelayed}
use Rattle.sfc_base.specs.declared.qualifier.TimedQualifier.TheVariants.{DelayedStored, StoredLimited}
use Rattle.sfc_flags.specs.Flags.{flag}
use Rattle.sfc_timers.specs.Timers.{Reading, Bistable, has_elapsed, is_on}
use Rattle.sfc_plant.specs.declared.association.Qualifier.{Qualifier}
use Rattle.sfc_plant.specs.declared.association.Qualifier.TheVariants.{NonStored, Reset, Set, Pulse}
use Rattle.sfc_plant.specs.declared.association.Qualifier.TheVariants.{RisingPulse, FallingPulse, Timed}
use Rattle.sfc_tables.specs.declared.step_action.StepAction.{StepAction}
use Rattle.sfc_tables.specs.Tables.{Tabled}
use Rattle.sfc_evolve.specs.Lookback.{or_else}
use Rattle.sfc_base.specs.declared.ids.ActionNumber.{ActionNumber}
use Rattle.sfc_action.specs.declared.fault.ActionFault.{ActionFault}
use Rattle.sfc_action.specs.declared.fault.ControlFault.{ControlFault}
use Rattle.sfc_action.specs.declared.fault.ControlFault.TheVariants.{TwoTimed, SdWhileSl, SlWhileSd}

-- The input of one scan: which steps are active after it, the time of each association in text order, and the instant.
-- The scans of a life are listed newest first.
pub record Scan : Type 0 where
  pub active : List Bool
  pub times : List ℤ
  pub at : ℤ

-- the qualifiers by their letters (2.6.4.4)
pub data Letter : Type 0 where
  N : Letter
  R : Letter
  S : Letter
  L : Letter
  D : Letter
  P : Letter
  SD : Letter
  DS : Letter
  SL : Letter
  P1 : Letter
  P0 : Letter

abbrev pub is : Letter → Qualifier → Bool
is N NonStored = true
is R Reset = true
is S Set = true
is L (Timed Limited time) = true
is D (Timed Delayed time) = true
is P Pulse = true
is SD (Timed StoredDelayed time) = true
is DS (Timed DelayedStored time) = true
is SL (Timed StoredLimited time) = true
is P1 RisingPulse = true
is P0 FallingPulse = true
is _ _ = false

abbrev pub is_timed : Qualifier → Bool
is_timed (Timed qualifier time) = true
is_timed _ = false

-- ---- the inputs of a block

-- the association is one of action a, and its step is active after the scan
abbrev pub acts : ℕ → Scan → StepAction → Bool
acts a scan association = (association.action.0 == a) && flag scan.active association.step.0

-- An input of action a after these scans: some association with this qualifier acts. Before the first scan of a life it
-- is 0 (our choice).
abbrev pub input : Tabled → ℕ → Letter → List Scan → Bool
input tables a letter [] = false
input tables a letter (scan ∷ h) = list_any (λ x. acts a scan x && is letter x.qualifier) tables.associations

-- the times of those that act and have one, in text order
abbrev pub acting_times : Tabled → ℕ → Scan → List ℤ
acting_times tables a scan =
    let timed = filter (λ x. acts a scan x && is_timed x.qualifier) tables.associations in
    map (λ x. slice_index_or scan.times x.number.0 (pos 0)) timed

-- T of the block: that time, the first where there are more; 0 where none acts that has one (our choice)
abbrev pub preset : Tabled → ℕ → Scan → ℤ
preset tables a scan = slice_index_or (acting_times tables a scan) 0 (pos 0)

-- ---- what a block is made of

-- the value at each scan, from the scans up to it
abbrev pub column : {A B : Type 0} → (List A → B) → List A → List B
column value [] = []
column value (scan ∷ h) = value (scan ∷ h) ∷ column value h

-- what an on-delay with this input reads at the newest scan
abbrev pub reading : Tabled → ℕ → (List Scan → Bool) → List Scan → Reading
reading tables a value [] = (false, pos 0, pos 0)
reading tables a value (scan ∷ h) = (value (scan ∷ h), preset tables a scan, scan.at)

-- the on-delay of this input by T
abbrev pub on_delay : Tabled → ℕ → (List Scan → Bool) → List Scan → Bool
on_delay tables a value h = has_elapsed (column (reading tables a value) h)

-- what a flip-flop set by this input gets at the newest scan: S, and R
abbrev pub set_reset : Tabled → ℕ → (List Scan → Bool) → List Scan → Bistable
set_reset tables a value h = (value h, input tables a R h)

-- the flip-flop that this input sets and R resets
abbrev pub flip_flop : Tabled → ℕ → (List Scan → Bool) → List Scan → Bool
flip_flop tables a value h = is_on (column (set_reset tables a value) h)

-- 0 at the scan before the newest, and 1 at the newest; before the first scan all is 0 (our choice)
abbrev pub rises : (List Scan → Bool) → List Scan → Bool
rises value [] = false
rises value (scan ∷ h) = value (scan ∷ h) && not (value h)

-- 1 at the scan before the newest, and 0 at the newest
abbrev pub falls : (List Scan → Bool) → List Scan → Bool
falls value [] = false
falls value (scan ∷ h) = value h && not (value (scan ∷ h))

-- ---- Figure 15

-- S_FF, SD_FF and SL_FF
abbrev pub stored : Tabled → ℕ → Letter → List Scan → Bool
stored tables a letter h = flip_flop tables a (input tables a letter) h

-- L_TMR, D_TMR and DS_TMR
abbrev pub delayed : Tabled → ℕ → Letter → List Scan → Bool
delayed tables a letter h = on_delay tables a (input tables a letter) h

-- SD_TMR and SL_TMR
abbrev pub stored_then_delayed : Tabled → ℕ → Letter → List Scan → Bool
stored_then_delayed tables a letter h = on_delay tables a (stored tables a letter) h

-- DS_FF
abbrev pub delayed_then_stored : Tabled → ℕ → Letter → List Scan → Bool
delayed_then_stored tables a letter h = flip_flop tables a (delayed tables a letter) h

-- what gives Q, if R does not block it
abbrev pub contributes : Tabled → ℕ → List Scan → Bool
contributes tables a h =
    input tables a N h
    || stored tables a S h
    || (input tables a L h && not (delayed tables a L h))
    || delayed tables a D h
    || rises (input tables a P) h
    || stored_then_delayed tables a SD h
    || delayed_then_stored tables a DS h
    || (stored tables a SL h && not (stored_then_delayed tables a SL h))

-- Q of action a after these scans
abbrev pub q : Tabled → ℕ → List Scan → Bool
q tables a h = not (input tables a R h) && contributes tables a h

-- A: the action is executed in the newest scan. The falling edge of Q is the final scan. P1 and P0 give no Q, and R
-- does not block them.
abbrev pub executed : Tabled → ℕ → List Scan → Bool
executed tables a h = q tables a h || falls (q tables a) h || rises (input tables a P1) h || falls (input tables a P0) h

-- ---- control faults: what is an error by 2.6.4.5; which comes first is our choice

-- more than one association with a time acts
abbrev pub is_two_timed : Tabled → ℕ → List Scan → Bool
is_two_timed tables a [] = false
is_two_timed tables a (scan ∷ h) = nat_lt 1 (length (acting_times tables a scan))

-- the input SD is 1 while SL_FF is
abbrev pub sd_while_sl : Tabled → ℕ → List Scan → Bool
sd_while_sl tables a h = input tables a SD h && stored tables a SL h

-- the input SL is 1 while SD_FF is
abbrev pub sl_while_sd : Tabled → ℕ → List Scan → Bool
sl_while_sd tables a h = input tables a SL h && stored tables a SD h

-- the fault of a block at the newest scan, the first of these
abbrev pub fault_by : Bool → Bool → Bool → Option ControlFault
fault_by true _ _ = Some TwoTimed
fault_by false true _ = Some SdWhileSl
fault_by false false true = Some SlWhileSd
fault_by false false false = None

abbrev pub fault_of : Tabled → ℕ → List Scan → Option ControlFault
fault_of tables a h = fault_by (is_two_timed tables a h) (sd_while_sl tables a h) (sl_while_sd tables a h)

-- a fault, with the action that has it
abbrev pub fault_with : ActionNumber → Option ControlFault → Option ActionFault
fault_with action None = None
fault_with action (Some fault) = Some (record { action = action; fault = fault })

-- the fault of the first of these whose action has one
abbrev pub first_in : (ℕ → Option ControlFault) → List StepAction → Option ActionFault
first_in fault [] = None
first_in fault (x ∷ xs) = or_else (fault_with x.action (fault x.action.0)) (first_in fault xs)

-- the fault of a scan: of the actions by their first associations, the first that has one
abbrev pub first_fault : Tabled → List Scan → Option ActionFault
first_fault tables h = first_in (λ a. fault_of tables a h) tables.associations
