-- What a history leaves for later events: small plants at single moments. Scans are 10 ms apart, the first at 0.
use Rattle.std.proofs.Common.{◌≡◌, refl, ℕ, ℤ, Bool, true, false, List, [], ◌∷◌, Some, None, pos, negsuc, Option}
use Rattle.std.specs.Prelude.{codes}
use Rattle.sfc_base.specs.declared.var_type.VarType.TheVariants as types
use Rattle.sfc_expr.specs.declared.fault.Fault.TheVariants.{DivZero}
use Rattle.sfc_base.specs.declared.value.Value.TheVariants as value
use Rattle.sfc_expr.specs.declared.operator.Operator.TheVariants as op
use Rattle.sfc_expr.specs.Trees.{Binary}
use Rattle.sfc_base.specs.declared.qualifier.TimedQualifier.{TimedQualifier}
use Rattle.sfc_base.specs.declared.qualifier.TimedQualifier.TheVariants.{Limited, Delayed, StoredDelayed, DelayedStored, StoredLimited}
use Rattle.sfc_plant.specs.declared.association.Association.{Association}
use Rattle.sfc_plant.specs.declared.association.Qualifier.TheVariants.{NonStored}
use Rattle.sfc_instances.specs.sfc_tables.Ranks.{rank_order}
use Rattle.sfc_instances.specs.sfc_action.Past.{DelayPast, ActionPast}
use Rattle.sfc_plant.specs.Plants.{PlantData}
use Rattle.sfc_instances.specs.sfc_image.Past.{VariablePast}
use Rattle.sfc_tasks.specs.Past.{TaskPast}
use Rattle.sfc_instances.specs.sfc_instance.declared.scan_fault.ScanFault.TheVariants as fault
use Rattle.sfc_instances.specs.sfc_instance.declared.fault_place.FaultPlace.TheVariants as place
use Rattle.sfc_instances.specs.sfc_instance.Past.{InstancePast}
use Rattle.sfc_instances.specs.PlantState.{program_scan}
use Rattle.sfc_events.specs.History.{History}
use Rattle.sfc_core.specs.Due.{singles_of, calls_of}
use Rattle.sfc_core.specs.Past.{history_past}
use Rattle.sfc_core.specs.PlantState.{state_of}
use Rattle.sfc_core.proofs.MomentPlants.{ms, flag, dial, switch, time_variable, always, reads, number, sets, for, for_as_long_as}
use Rattle.sfc_core.proofs.MomentPlants.{initial_step, step, goes, chart, program, instance, single_task, plant, small}
use Rattle.sfc_core.proofs.MomentPlants.{scan, input, force, reset, scans}

-- ---- how the parts of an opening are read

-- of the first program instance
abbrev first_of : List InstancePast → Option InstancePast
first_of [] = None
first_of (p ∷ ps) = Some p

abbrev program_left : PlantData → History → Option InstancePast
program_left plant h = first_of (history_past plant h).instances.programs

-- of its steps: whether there was a scan, which are active, their times at the instant 0, which transitions the latest scan
-- cleared, and which steps it activated
abbrev StepsLeft : Type 0
StepsLeft = Bool × List Bool × List ℤ × List Bool × List Bool

abbrev steps_in : Option InstancePast → Option StepsLeft
steps_in None = None
steps_in (Some p) = Some (p.steps.begun, p.steps.active, p.steps.times, p.steps.cleared, p.steps.activated)

abbrev steps_left : PlantData → History → Option StepsLeft
steps_left plant h = steps_in (program_left plant h)

abbrev delay_among : TimedQualifier → List ActionPast → Option DelayPast
delay_among q [] = None
delay_among q (a ∷ actions) = Some (a.delay q)

abbrev delay_in : TimedQualifier → Option InstancePast → Option DelayPast
delay_in q None = None
delay_in q (Some p) = delay_among q p.controls

-- the on-delay of the first action by this qualifier
abbrev delay_left : PlantData → TimedQualifier → History → Option DelayPast
delay_left plant q h = delay_in q (program_left plant h)

-- an on-delay that runs: its PT, its start, and whether it has elapsed
abbrev running : ℕ → ℕ → DelayPast
running preset start = record { begun = Some (ms preset, ms start); elapsed = false }

abbrev elapsed : ℕ → ℕ → DelayPast
elapsed preset start = record { begun = Some (ms preset, ms start); elapsed = true }

abbrev at_rest : DelayPast
at_rest = record { begun = None; elapsed = false }

abbrev variables_left : PlantData → History → List VariablePast
variables_left plant h = (history_past plant h).instances.variables

abbrev tasks_left : PlantData → History → List TaskPast
tasks_left plant h = (history_past plant h).tasks.each

-- ---- on-delays: step 0 has the lamp by one qualifier

-- and stays
abbrev staying : Association → PlantData
staying association = small (flag (codes "V") ∷ time_variable (codes "T") 20 ∷ []) (chart (initial_step (association ∷ []) ∷ []) [] [])

-- and is left for step 1 at 10 ms
abbrev leaving : Association → PlantData
leaving association =
    small (flag (codes "V") ∷ []) (chart (initial_step (association ∷ []) ∷ step [] ∷ []) (goes 0 1 always ∷ []) [])

l_runs : delay_left (staying (sets (for Limited 100) 0)) Limited (scans 3) ≡ Some (running 100 0)
unfolding state_of program_scan rank_order
l_runs = refl

d_runs : delay_left (staying (sets (for Delayed 100) 0)) Delayed (scans 3) ≡ Some (running 100 0)
unfolding state_of program_scan rank_order
d_runs = refl

d_has_elapsed : delay_left (staying (sets (for Delayed 20) 0)) Delayed (scans 3) ≡ Some (elapsed 20 0)
unfolding state_of program_scan rank_order
d_has_elapsed = refl

-- the time that the variable had where the input rose, 20 ms, and not that to which it is forced at 5 ms
preset_stays : delay_left (staying (sets (for_as_long_as Delayed 1) 0)) Delayed (scan 10 ∷ force 1 (value.Time (ms 50)) 5 ∷ scans 1)
    ≡ Some (running 20 0)
unfolding state_of program_scan rank_order
preset_stays = refl

-- nothing is left of a run that has ended
d_ended : delay_left (leaving (sets (for Delayed 100) 0)) Delayed (scans 3) ≡ Some at_rest
unfolding state_of program_scan rank_order
d_ended = refl

-- stored, so that it runs on after the step was left
sd_runs_on : delay_left (leaving (sets (for StoredDelayed 100) 0)) StoredDelayed (scans 3) ≡ Some (running 100 0)
unfolding state_of program_scan rank_order
sd_runs_on = refl

-- delayed before it is stored, so that it ends with the step
ds_runs : delay_left (staying (sets (for DelayedStored 100) 0)) DelayedStored (scans 3) ≡ Some (running 100 0)
unfolding state_of program_scan rank_order
ds_runs = refl

ds_ended : delay_left (leaving (sets (for DelayedStored 100) 0)) DelayedStored (scans 3) ≡ Some at_rest
unfolding state_of program_scan rank_order
ds_ended = refl

sl_runs_on : delay_left (leaving (sets (for StoredLimited 100) 0)) StoredLimited (scans 3) ≡ Some (running 100 0)
unfolding state_of program_scan rank_order
sl_runs_on = refl

-- ---- steps

-- At 20 ms: step 0 was left at 10 ms and keeps its 10 ms; step 1 is active since 10 ms, which is its time at the instant 0.
step_left : steps_left (leaving (sets NonStored 0)) (scans 3)
    ≡ Some (true, false ∷ true ∷ [], ms 10 ∷ negsuc 9_999 ∷ [], false ∷ [], false ∷ false ∷ [])
unfolding state_of program_scan rank_order
step_left = refl

-- at 10 ms the transition is cleared
step_entered : steps_left (leaving (sets NonStored 0)) (scans 2)
    ≡ Some (true, false ∷ true ∷ [], ms 10 ∷ negsuc 9_999 ∷ [], true ∷ [], false ∷ true ∷ [])
unfolding state_of program_scan rank_order
step_entered = refl

abbrev no_scan : StepsLeft
no_scan = (false, false ∷ false ∷ [], pos 0 ∷ pos 0 ∷ [], false ∷ [], false ∷ false ∷ [])

before_first_scan : steps_left (leaving (sets NonStored 0)) [] ≡ Some no_scan
unfolding state_of program_scan rank_order
before_first_scan = refl

-- a reset leaves what there is before the first scan
after_reset : steps_left (leaving (sets NonStored 0)) (reset 0 25 ∷ scans 3) ≡ Some no_scan
unfolding state_of program_scan rank_order
after_reset = refl

-- no event was there, not even at 0
before_all : (history_past (leaving (sets NonStored 0)) []).last ≡ negsuc 0
before_all = refl

latest_event : (history_past (leaving (sets NonStored 0)) (force 0 (value.Bool true) 25 ∷ scans 3)).last ≡ ms 25
latest_event = refl

-- ---- a fault: 10 / k = 0, where k is at %IW0, begins with 5 and is 0 from 15 ms on

abbrev dividing : PlantData
dividing =
    let condition = Binary op.Equal types.Int (Binary op.Divide types.Int (number 10) (reads 0)) (number 0) in
    small (dial (codes "k") 5 ∷ []) (chart (initial_step [] ∷ step [] ∷ []) (goes 0 1 condition ∷ []) [])

-- the scan at 20 ms faults: the latest scan of the life is the second, at 10 ms
fault_stays : program_left dividing (scan 20 ∷ input 0 (value.Int (pos 0)) 15 ∷ scans 2)
    ≡ Some (record {
      steps = record {
        begun = true;
        active = true ∷ false ∷ [];
        times = pos 0 ∷ pos 0 ∷ [];
        cleared = false ∷ [];
        activated = false ∷ false ∷ [];
      };
      controls = [];
      scans = 2;
      at = ms 10;
      fault = Some (fault.Expression DivZero);
      place = Some (place.Transition (record { 0 = 0 }));
    })
unfolding state_of program_scan rank_order
fault_stays = refl

-- ---- variables: one at %IX0.0

abbrev switched : PlantData
switched = small (switch (codes "Go") false ∷ []) (chart (initial_step [] ∷ []) [] [])

-- what the input writes is stored under the force
force_over_input : variables_left switched (input 0 (value.Bool true) 6 ∷ force 0 (value.Bool false) 5 ∷ [])
    ≡ record { stored = value.Bool true; forced = Some (value.Bool false) } ∷ []
unfolding state_of program_scan rank_order
force_over_input = refl

-- ---- tasks

-- a task by the rise of the input alone
abbrev rising : PlantData
rising = plant (switch (codes "Go") false ∷ []) (single_task 0 0 1 ∷ []) (program [] (chart (initial_step [] ∷ []) [] []) ∷ [])
    (instance 0 0 ∷ [])

-- the rise at 5 ms waits
rise_waits : tasks_left rising (input 0 (value.Bool true) 5 ∷ []) ≡ record { since = Some (ms 5); more = 0; overruns = 0 } ∷ []
unfolding state_of program_scan rank_order singles_of calls_of
rise_waits = refl

-- until a scan serves it
rise_served : tasks_left rising (scan 7 ∷ input 0 (value.Bool true) 5 ∷ []) ≡ record { since = None; more = 0; overruns = 0 } ∷ []
unfolding state_of program_scan rank_order singles_of calls_of
rise_served = refl

-- the releases at 10, 20 and 30 ms are served by the scan at 35 ms: two beyond the first
late_releases : tasks_left switched (scan 35 ∷ scan 0 ∷ []) ≡ record { since = None; more = 0; overruns = 2 } ∷ []
unfolding state_of program_scan rank_order singles_of calls_of
late_releases = refl

-- at 35 ms those at 10, 20 and 30 ms wait
releases_wait : tasks_left switched (input 0 (value.Bool true) 35 ∷ scan 0 ∷ [])
    ≡ record { since = Some (ms 10); more = 2; overruns = 0 } ∷ []
unfolding state_of program_scan rank_order singles_of calls_of
releases_wait = refl
