-- Faults of scans, and resets: small plants at single moments.
use Rattle.std.proofs.Common.{◌≡◌, refl, ℕ, true, false, List, [], ◌∷◌, Some, None, Ok, Err, pos}
use Rattle.std.specs.Prelude.{codes}
use Rattle.sfc_base.specs.declared.var_type.VarType.TheVariants as types
use Rattle.sfc_expr.specs.declared.fault.Fault.TheVariants.{DivZero, Range}
use Rattle.sfc_base.specs.declared.value.Value.TheVariants as value
use Rattle.sfc_expr.specs.declared.operator.Operator.TheVariants as op
use Rattle.sfc_base.specs.declared.references.Variable.{Variable}
use Rattle.sfc_base.specs.declared.references.Variable.TheVariants.{Local}
use Rattle.sfc_expr.specs.Trees.{Expression, Read, Binary, Body, Nothing, Assign}
use Rattle.sfc_base.specs.declared.qualifier.TimedQualifier.TheVariants.{Limited, Delayed, StoredDelayed, StoredLimited}
use Rattle.sfc_plant.specs.declared.association.Association.{Association}
use Rattle.sfc_plant.specs.declared.association.Qualifier.TheVariants.{NonStored, Reset, Set}
use Rattle.sfc_plant.specs.declared.chart.Transition.{Transition}
use Rattle.sfc_instances.specs.sfc_tables.Ranks.{rank_order}
use Rattle.sfc_instances.specs.sfc_action.declared.fault.ControlFault.TheVariants.{TwoTimed, SdWhileSl, SlWhileSd}
use Rattle.sfc_plant.specs.Plants.{PlantData}
use Rattle.sfc_instances.specs.sfc_instance.declared.scan_fault.ScanFault.TheVariants as fault
use Rattle.sfc_instances.specs.sfc_instance.declared.fault_place.FaultPlace.TheVariants as place
use Rattle.sfc_tasks.specs.Pick.{picked}
use Rattle.sfc_instances.specs.PlantState.{program_scan}
use Rattle.sfc_events.specs.declared.event.Outcome.TheVariants.{Scanned, Done}
use Rattle.sfc_events.specs.InstanceSets.{set_of}
use Rattle.sfc_events.specs.declared.refusal.Refusal.TheVariants.{NotDue}
use Rattle.sfc_events.specs.History.{History}
use Rattle.sfc_core.specs.PlantState.{state_of}
use Rattle.sfc_core.specs.Due.{singles_of, calls_of}
use Rattle.sfc_core.specs.Verdict.{first_refusal, turn_refusal, scan_answer}
use Rattle.sfc_core.proofs.MomentPlants.{ms, flag, int, dial, always, reads, number, the, sets, runs, for, initial_step}
use Rattle.sfc_core.proofs.MomentPlants.{step, transition, goes, action, chart, program, instance, task, plant, small}
use Rattle.sfc_core.proofs.MomentPlants.{scan, input, force, release, reset, scans, answer_to, active, executed, life_in}
use Rattle.sfc_core.proofs.MomentPlants.{fault_in, place_in, read}

-- ---- a fault in a condition: 10 / k = 0, where k is at %IW0 and begins with 5; step 0 has the lamp

abbrev dividing : PlantData
dividing =
    let tenth : Expression = Binary op.Divide types.Int (number 10) (reads 1) in
    small (flag (codes "Lamp") ∷ dial (codes "k") 5 ∷ [])
    (chart (initial_step (sets NonStored 0 ∷ []) ∷ step [] ∷ []) (goes 0 1 (Binary op.Equal types.Int tenth (number 0)) ∷ []) [])

-- k is 0 from 15 ms on
abbrev zeroed : History
zeroed = input 1 (value.Int (pos 0)) 15 ∷ scans 2

abbrev faulted : History
faulted = scan 20 ∷ zeroed

-- the scan at 20 ms faults
divided_by_zero : answer_to dividing zeroed (scan 20) ≡ Ok (Scanned (set_of 0) (set_of 1) (set_of 0) 0)
unfolding state_of program_scan rank_order singles_of calls_of picked first_refusal turn_refusal scan_answer
divided_by_zero = refl

-- the fault is that of the division (2.5.1.5.2)
its_fault : fault_in dividing 0 faulted ≡ Some (fault.Expression DivZero)
unfolding state_of program_scan rank_order
its_fault = refl

-- it is in the condition of the transition
its_place : place_in dividing 0 faulted ≡ Some (place.Transition (record { 0 = 0 }))
unfolding state_of program_scan rank_order
its_place = refl

-- it has no row: two scans without a fault there were, and step 0 is active
no_row : life_in dividing 0 faulted ≡ 2
unfolding state_of program_scan rank_order
no_row = refl

-- the steps are as the scan at 10 ms left them
steps_stay : active dividing faulted ≡ 0 ∷ []
unfolding state_of program_scan rank_order
steps_stay = refl

-- the lamp is as that scan left it
lamp_stays : read dividing 0 faulted ≡ value.Bool true
unfolding state_of program_scan rank_order
lamp_stays = refl

-- k is 11 from 25 ms on; but the instance is skipped until its reset (our choice)
abbrev mended : History
mended = input 1 (value.Int (pos 11)) 25 ∷ faulted

-- at 30 ms the instance is skipped, though k is 11
skipped : answer_to dividing mended (scan 30) ≡ Ok (Scanned (set_of 0) (set_of 0) (set_of 1) 0)
unfolding state_of program_scan rank_order singles_of calls_of picked first_refusal turn_refusal scan_answer
skipped = refl

-- the fault is told as before
fault_stays : fault_in dividing 0 (scan 30 ∷ mended) ≡ Some (fault.Expression DivZero)
unfolding state_of program_scan rank_order
fault_stays = refl

-- and so is where it is
place_stays : place_in dividing 0 (scan 30 ∷ mended) ≡ Some (place.Transition (record { 0 = 0 }))
unfolding state_of program_scan rank_order
place_stays = refl

-- the reset at 35 ms ends the fault, and begins a life
abbrev begun_again : History
begun_again = reset 0 35 ∷ scan 30 ∷ mended

-- the reset is accepted
reset_done : answer_to dividing (scan 30 ∷ mended) (reset 0 35) ≡ Ok Done
unfolding state_of program_scan rank_order singles_of calls_of picked first_refusal turn_refusal scan_answer
reset_done = refl

-- behind it there is no fault
no_fault : fault_in dividing 0 begun_again ≡ None
unfolding state_of program_scan rank_order
no_fault = refl

-- and so no place
no_place : place_in dividing 0 begun_again ≡ None
unfolding state_of program_scan rank_order
no_place = refl

-- the new life has had no scan
new_life : life_in dividing 0 begun_again ≡ 0
unfolding state_of program_scan rank_order
new_life = refl

-- so no step is active
no_step : active dividing begun_again ≡ []
unfolding state_of program_scan rank_order
no_step = refl

-- at 40 ms the instance runs
runs_again : answer_to dividing begun_again (scan 40) ≡ Ok (Scanned (set_of 1) (set_of 0) (set_of 0) 0)
unfolding state_of program_scan rank_order singles_of calls_of picked first_refusal turn_refusal scan_answer
runs_again = refl

-- at 40 ms the initial step is active (2.6.2)
initial_again : active dividing (scan 40 ∷ begun_again) ≡ 0 ∷ []
unfolding state_of program_scan rank_order
initial_again = refl

-- 10 / 11 is 0, towards zero
leaves_again : active dividing (scan 50 ∷ scan 40 ∷ begun_again) ≡ 1 ∷ []
unfolding state_of program_scan rank_order
leaves_again = refl

-- a condition whose transition isn't enabled is not evaluated
abbrev not_enabled : PlantData
not_enabled =
    let tenth : Expression = Binary op.Divide types.Int (number 10) (reads 0) in
    small (int (codes "z") 0 ∷ [])
    (chart (initial_step [] ∷ step [] ∷ []) (goes 1 0 (Binary op.Equal types.Int tenth (number 0)) ∷ []) [])

-- at 10 ms step 1 is not active, so the division by 0 does no harm
not_evaluated : fault_in not_enabled 0 (scans 2) ≡ None
unfolding state_of program_scan rank_order
not_evaluated = refl

-- ---- a fault in a body: m := m + 1; n := n + 1, where n begins with 32766

abbrev increment : ℕ → Body → Body
increment n rest = Assign (the n) (Binary op.Add types.Int (reads n) (number 1)) rest

abbrev overflowing : PlantData
overflowing = small (flag (codes "Lamp") ∷ int (codes "m") 0 ∷ int (codes "n") 32766 ∷ [])
    (chart (initial_step (sets (for Delayed 10) 0 ∷ runs NonStored 0 ∷ []) ∷ []) []
    (action (increment 1 (increment 2 Nothing)) ∷ []))

-- at 10 ms n would be 32768, which is no INT (2.3.1)
out_of_range : fault_in overflowing 0 (scans 2) ≡ Some (fault.Expression Range)
unfolding state_of program_scan rank_order
out_of_range = refl

-- it is in the second statement of the body
second_statement : place_in overflowing 0 (scans 2) ≡ Some (place.Statement (record { 0 = 0 }) 1)
unfolding state_of program_scan rank_order
second_statement = refl

-- what the body assigned before the fault is gone, and so is the lamp, whose time was over
body_undone : read overflowing 1 (scans 2) ≡ value.Int (pos 1)
unfolding state_of program_scan rank_order
body_undone = refl

-- the lamp is FALSE as before
output_undone : read overflowing 0 (scans 2) ≡ value.Bool false
unfolding state_of program_scan rank_order
output_undone = refl

-- ---- action control (2.6.4.5): step 0 with these, and then step 1 with those

abbrev controlled : List Association → List Association → PlantData
controlled first second = small (flag (codes "V") ∷ flag (codes "U") ∷ [])
    (chart (initial_step first ∷ step second ∷ []) (goes 0 1 always ∷ []) [])

-- two qualifiers with a time are a fault, also beside R
abbrev twice : PlantData
twice = controlled [] (sets (for Limited 1000) 0 ∷ sets (for StoredLimited 1000) 0 ∷ sets Reset 0 ∷ [])

-- at 10 ms step 1 would be entered: a fault
two_timed : fault_in twice 0 (scans 2) ≡ Some (fault.Control TwoTimed)
unfolding state_of program_scan rank_order
two_timed = refl

-- in the control block of V, which is action 0
block_of_v : place_in twice 0 (scans 2) ≡ Some (place.Action (record { 0 = 0 }))
unfolding state_of program_scan rank_order
block_of_v = refl

-- so step 1 was not entered
two_timed_undone : active twice (scans 2) ≡ 0 ∷ []
unfolding state_of program_scan rank_order
two_timed_undone = refl

-- SD while SL is stored, though the time of SL is over
sd_while_sl : fault_in (controlled (sets (for StoredLimited 5) 0 ∷ []) (sets (for StoredDelayed 1000) 0 ∷ [])) 0 (scans 2)
    ≡ Some (fault.Control SdWhileSl)
unfolding state_of program_scan rank_order
sd_while_sl = refl

-- and the other way round
sl_while_sd : fault_in (controlled (sets (for StoredDelayed 1000) 0 ∷ []) (sets (for StoredLimited 1000) 0 ∷ [])) 0 (scans 2)
    ≡ Some (fault.Control SlWhileSd)
unfolding state_of program_scan rank_order
sl_while_sd = refl

-- none where R resets SD in the same scan
sl_with_r : fault_in (controlled (sets (for StoredDelayed 1000) 0 ∷ []) (sets (for StoredLimited 1000) 0 ∷ sets Reset 0 ∷ []))
    0 (scans 2) ≡ None
unfolding state_of program_scan rank_order
sl_with_r = refl

-- of two actions that have faults the one whose first association comes first, in an inactive step too (our choice)
abbrev two_actions : PlantData
two_actions = controlled (sets (for StoredDelayed 1000) 0 ∷ [])
    (sets (for Limited 1000) 1 ∷ sets (for Delayed 1000) 1 ∷ sets (for StoredLimited 1000) 0 ∷ [])

-- at 10 ms V has SL while SD is stored, and U has two times: V comes first, by step 0
first_action : fault_in two_actions 0 (scans 2) ≡ Some (fault.Control SlWhileSd)
unfolding state_of program_scan rank_order
first_action = refl

-- and so is the place
first_block : place_in two_actions 0 (scans 2) ≡ Some (place.Action (record { 0 = 0 }))
unfolding state_of program_scan rank_order
first_block = refl

-- ---- which fault is the first

-- one condition divides by z, which is 0; the other adds 1 to the greatest INT
abbrev with_conditions : Transition → Transition → PlantData
with_conditions first second = small (int (codes "z") 0 ∷ int (codes "big") 32767 ∷ flag (codes "V") ∷ [])
    (chart (initial_step [] ∷ step (sets (for Limited 1) 2 ∷ sets (for Delayed 1) 2 ∷ []) ∷ []) (first ∷ second ∷ []) [])

abbrev divides : Expression
divides = Binary op.Equal types.Int (Binary op.Divide types.Int (number 1) (reads 0)) (number 0)

abbrev overflows : Expression
overflows = Binary op.Equal types.Int (Binary op.Add types.Int (reads 1) (number 1)) (number 0)

-- of two conditions that of the transition that ranks first (our choice)
by_rank : fault_in (with_conditions (goes 0 0 divides) (transition (Some 1) (0 ∷ []) (0 ∷ []) overflows)) 0 (scans 2)
    ≡ Some (fault.Expression Range)
unfolding state_of program_scan rank_order
by_rank = refl

-- in the condition of the transition that comes second in the text
place_by_rank : place_in (with_conditions (goes 0 0 divides) (transition (Some 1) (0 ∷ []) (0 ∷ []) overflows)) 0 (scans 2)
    ≡ Some (place.Transition (record { 0 = 1 }))
unfolding state_of program_scan rank_order
place_by_rank = refl

-- Step 1 has two timed qualifiers for V. The condition's fault comes before that, though its transition is not cleared.
condition_first : fault_in (with_conditions (goes 0 1 always) (goes 0 0 divides)) 0 (scans 2) ≡ Some (fault.Expression DivZero)
unfolding state_of program_scan rank_order
condition_first = refl

-- ---- two instances: g := g + 10 and then g := g / own, where own is a local that begins with 1

abbrev own : Variable
own = Local (record { 0 = 0 })

abbrev two_instances : PlantData
two_instances =
    let body : Body =
    Assign (the 0) (Binary op.Add types.Int (reads 0) (number 10))
    (Assign (the 0) (Binary op.Divide types.Int (reads 0) (Read own)) Nothing) in
    plant (int (codes "g") 0 ∷ []) (task 10 1 ∷ [])
    (program (int (codes "own") 1 ∷ []) (chart (initial_step (runs NonStored 0 ∷ []) ∷ []) [] (action body ∷ [])) ∷ [])
    (instance 0 0 ∷ instance 0 0 ∷ [])

-- the local of the first instance, which is variable 1, is forced to 0
abbrev first_at_fault : History
first_at_fault = scan 0 ∷ force 1 (value.Int (pos 0)) 0 ∷ []

-- the first faults, the second runs
one_faults : answer_to two_instances (force 1 (value.Int (pos 0)) 0 ∷ []) (scan 0) ≡ Ok (Scanned (set_of 2) (set_of 1) (set_of 0) 0)
unfolding state_of program_scan rank_order singles_of calls_of picked first_refusal turn_refusal scan_answer
one_faults = refl

-- the first in its second statement
second_of_first : place_in two_instances 0 first_at_fault ≡ Some (place.Statement (record { 0 = 0 }) 1)
unfolding state_of program_scan rank_order
second_of_first = refl

-- and the second nowhere
none_of_second : place_in two_instances 1 first_at_fault ≡ None
unfolding state_of program_scan rank_order
none_of_second = refl

-- over the variables as the first found them
other_runs : read two_instances 0 first_at_fault ≡ value.Int (pos 10)
unfolding state_of program_scan rank_order
other_runs = refl

-- at 10 ms the first is skipped, and the second runs
one_skipped : answer_to two_instances first_at_fault (scan 10) ≡ Ok (Scanned (set_of 2) (set_of 0) (set_of 1) 0)
unfolding state_of program_scan rank_order singles_of calls_of picked first_refusal turn_refusal scan_answer
one_skipped = refl

-- the reset of the second changes nothing at the first, and the task is served as before
other_reset : fault_in two_instances 0 (reset 1 5 ∷ first_at_fault) ≡ Some (fault.Expression DivZero)
unfolding state_of program_scan rank_order
other_reset = refl

-- the scan at 0 served the task, though an instance faulted
served_before : answer_to two_instances first_at_fault (scan 5) ≡ Err (NotDue (Some (ms 10)))
unfolding state_of program_scan rank_order singles_of calls_of picked first_refusal turn_refusal scan_answer
served_before = refl

-- ---- resets (2.6.2): own := own + 1; g := g + 1, where own begins with 3

abbrev counted : PlantData
counted =
    let body : Body = Assign own (Binary op.Add types.Int (Read own) (number 1)) (increment 0 Nothing) in
    plant (int (codes "g") 0 ∷ []) (task 10 1 ∷ [])
    (program (int (codes "own") 3 ∷ []) (chart (initial_step (runs NonStored 0 ∷ []) ∷ []) [] (action body ∷ [])) ∷ [])
    (instance 0 0 ∷ instance 0 0 ∷ [])

-- the locals of the first instance are as they were at first, those of the second and the globals stay
own_again : read counted 1 (reset 0 15 ∷ scans 2) ≡ value.Int (pos 3)
unfolding state_of program_scan rank_order
own_again = refl

-- two scans added 2 to the local of the second
others_stay : read counted 2 (reset 0 15 ∷ scans 2) ≡ value.Int (pos 5)
unfolding state_of program_scan rank_order
others_stay = refl

-- and two scans of two instances 4 to g
globals_stay : read counted 0 (reset 0 15 ∷ scans 2) ≡ value.Int (pos 4)
unfolding state_of program_scan rank_order
globals_stay = refl

-- the second goes on with its life
other_life : life_in counted 1 (scan 20 ∷ reset 0 15 ∷ scans 2) ≡ 3
unfolding state_of program_scan rank_order
other_life = refl

-- a reset does not release a force; the initial value is stored below it
reset_forced : read counted 1 (reset 0 15 ∷ force 1 (value.Int (pos 7)) 12 ∷ scans 2) ≡ value.Int (pos 7)
unfolding state_of program_scan rank_order
reset_forced = refl

-- the release at 16 ms shows it
released_then : read counted 1 (release 1 16 ∷ reset 0 15 ∷ force 1 (value.Int (pos 7)) 12 ∷ scans 2) ≡ value.Int (pos 3)
unfolding state_of program_scan rank_order
released_then = refl

-- step 1 stores V; after the reset nothing is stored, and V is assigned FALSE by the next scan, not by the reset
abbrev storing : PlantData
storing = small (flag (codes "V") ∷ []) (chart (initial_step [] ∷ step (sets Set 0 ∷ []) ∷ []) (goes 0 1 always ∷ []) [])

-- at 15 ms V keeps what the scan at 10 ms assigned
still_true : read storing 0 (reset 0 15 ∷ scans 2) ≡ value.Bool true
unfolding state_of program_scan rank_order
still_true = refl

-- at 20 ms V is assigned FALSE
false_then : read storing 0 (scan 20 ∷ reset 0 15 ∷ scans 2) ≡ value.Bool false
unfolding state_of program_scan rank_order
false_then = refl

-- no falling edge is seen from one life to the next
no_final_scan : executed storing (scan 20 ∷ reset 0 15 ∷ scans 2) ≡ []
unfolding state_of program_scan rank_order
no_final_scan = refl
