-- Forces and inputs (2.4; forces are our choice), and what events are refused for: small plants at single moments.
use Rattle.std.proofs.Common.{◌≡◌, refl, ◌+◌, ◌^◌, true, false, [], ◌∷◌, Some, None, Ok, Err, pos, negsuc}
use Rattle.std.specs.Prelude.{codes}
use Rattle.sfc_base.specs.declared.var_type.VarType.TheVariants as types
use Rattle.sfc_base.specs.declared.value.Value.TheVariants as value
use Rattle.sfc_expr.specs.declared.operator.Operator.TheVariants as op
use Rattle.sfc_expr.specs.Trees.{Binary, Body, Nothing, Assign}
use Rattle.sfc_plant.specs.declared.association.Qualifier.TheVariants.{NonStored}
use Rattle.sfc_instances.specs.sfc_tables.Ranks.{rank_order}
use Rattle.sfc_plant.specs.Plants.{PlantData}
use Rattle.sfc_tasks.specs.Pick.{picked}
use Rattle.sfc_instances.specs.PlantState.{program_scan}
use Rattle.sfc_events.specs.declared.event.Event.TheVariants.{Scan, Force}
use Rattle.sfc_events.specs.declared.event.Outcome.TheVariants.{Scanned, Done}
use Rattle.sfc_events.specs.InstanceSets.{set_of}
use Rattle.sfc_events.specs.declared.refusal.Refusal.TheVariants.{InstantRange, ClockBack, UnknownTask, UnknownProgram}
use Rattle.sfc_events.specs.declared.refusal.Refusal.TheVariants.{UnknownVar, ValueType, NotInput, NotForced, NotDue}
use Rattle.sfc_events.specs.History.{History}
use Rattle.sfc_core.specs.PlantState.{state_of}
use Rattle.sfc_core.specs.Due.{singles_of, calls_of}
use Rattle.sfc_core.specs.Verdict.{first_refusal, turn_refusal, scan_answer, after}
use Rattle.sfc_core.proofs.MomentPlants.{ms, flag, int, switch, reads, number, the, sets, runs, initial_step, step}
use Rattle.sfc_core.proofs.MomentPlants.{goes, action, chart, small, scan, scan_of, forced_scan, input, force, release}
use Rattle.sfc_core.proofs.MomentPlants.{reset, scans, answer_to, active, q_in, read, forced}

-- The switch Go, variable 0, leads from step 0 to step 1. Step 0 has the lamp, variable 1, and the body n := n + 1; m := n
-- over the variables 2 and 3.
abbrev forcible : PlantData
forcible =
    let body : Body = Assign (the 2) (Binary op.Add types.Int (reads 2) (number 1)) (Assign (the 3) (reads 2) Nothing) in
    small (switch (codes "Go") false ∷ flag (codes "Lamp") ∷ int (codes "n") 0 ∷ int (codes "m") 0 ∷ [])
    (chart (initial_step (sets NonStored 1 ∷ runs NonStored 0 ∷ []) ∷ step [] ∷ []) (goes 0 1 (reads 0) ∷ []) (action body ∷ []))

-- ---- Go is forced to FALSE at 0, its input comes at 5 ms, and it is released at 15 ms

abbrev held : History
held = scan 10 ∷ input 0 (value.Bool true) 5 ∷ scan 0 ∷ force 0 (value.Bool false) 0 ∷ []

abbrev let_go : History
let_go = release 0 15 ∷ held

-- at 10 ms Go reads FALSE, though its input is TRUE
force_holds : read forcible 0 held ≡ value.Bool false
unfolding state_of program_scan rank_order
force_holds = refl

-- it is shown as forced to FALSE
force_shown : forced forcible 0 held ≡ Some (value.Bool false)
unfolding state_of program_scan rank_order
force_shown = refl

-- the condition reads the forced value
no_step_on : active forcible held ≡ 0 ∷ []
unfolding state_of program_scan rank_order
no_step_on = refl

-- behind the release the input is read that came meanwhile
input_below : read forcible 0 let_go ≡ value.Bool true
unfolding state_of program_scan rank_order
input_below = refl

-- it is forced no more
force_over : forced forcible 0 let_go ≡ None
unfolding state_of program_scan rank_order
force_over = refl

-- at 20 ms the transition is cleared
step_on : active forcible (scan 20 ∷ let_go) ≡ 1 ∷ []
unfolding state_of program_scan rank_order
step_on = refl

-- ---- n is forced to 10 at 0, and released at 15 ms

abbrev at_ten : History
at_ten = scan 10 ∷ scan 0 ∷ force 2 (value.Int (pos 10)) 0 ∷ []

-- at 10 ms n reads 10, though its body assigned to it
reads_ten : read forcible 2 at_ten ≡ value.Int (pos 10)
unfolding state_of program_scan rank_order
reads_ten = refl

-- behind its assignment too the body reads 10
body_reads_ten : read forcible 3 at_ten ≡ value.Int (pos 10)
unfolding state_of program_scan rank_order
body_reads_ten = refl

-- 10 + 1 was stored below the force, twice
stored_below : read forcible 2 (release 2 15 ∷ at_ten) ≡ value.Int (pos 11)
unfolding state_of program_scan rank_order
stored_below = refl

-- at 20 ms the body adds 1 to that, and m is 12
goes_on_from_there : read forcible 3 (scan 20 ∷ release 2 15 ∷ at_ten) ≡ value.Int (pos 12)
unfolding state_of program_scan rank_order
goes_on_from_there = refl

-- of two forces the latest one counts
latest_force : read forcible 2 (force 2 (value.Int (pos 2)) 0 ∷ force 2 (value.Int (pos 1)) 0 ∷ []) ≡ value.Int (pos 2)
unfolding state_of program_scan rank_order
latest_force = refl

-- ---- the lamp is forced to FALSE

abbrev dark : History
dark = scan 0 ∷ force 1 (value.Bool false) 0 ∷ []

-- at 0 the scan assigns TRUE to it; it reads FALSE
lamp_reads_false : read forcible 1 dark ≡ value.Bool false
unfolding state_of program_scan rank_order
lamp_reads_false = refl

-- a force of an action's variable changes no Q
lamp_q : q_in forcible 0 0 dark ≡ true
unfolding state_of program_scan rank_order
lamp_q = refl

-- behind the release the lamp reads what the scan assigned
lamp_below : read forcible 1 (release 1 5 ∷ dark) ≡ value.Bool true
unfolding state_of program_scan rank_order
lamp_below = refl

-- ---- refusals by what an event names; there are four variables, one task and one instance

-- there is no variable 4 to be forced
unknown_variable : answer_to forcible [] (force 4 (value.Bool true) 0) ≡ Err UnknownVar
unfolding state_of program_scan rank_order singles_of calls_of picked first_refusal turn_refusal scan_answer
unknown_variable = refl

-- nor to be released
unknown_released : answer_to forcible [] (release 4 0) ≡ Err UnknownVar
unfolding state_of program_scan rank_order singles_of calls_of picked first_refusal turn_refusal scan_answer
unknown_released = refl

-- an INT is no value of the lamp
other_type : answer_to forcible [] (force 1 (value.Int (pos 1)) 0) ≡ Err ValueType
unfolding state_of program_scan rank_order singles_of calls_of picked first_refusal turn_refusal scan_answer
other_type = refl

-- the lamp is no input; a force of it is taken
no_input : answer_to forcible [] (input 1 (value.Bool true) 0) ≡ Err NotInput
unfolding state_of program_scan rank_order singles_of calls_of picked first_refusal turn_refusal scan_answer
no_input = refl

-- any variable may be forced
forced_instead : answer_to forcible [] (force 1 (value.Bool true) 0) ≡ Ok Done
unfolding state_of program_scan rank_order singles_of calls_of picked first_refusal turn_refusal scan_answer
forced_instead = refl

-- Go is at %IX0.0, and is an input (2.4.1.1)
taken_input : answer_to forcible [] (input 0 (value.Bool true) 0) ≡ Ok Done
unfolding state_of program_scan rank_order singles_of calls_of picked first_refusal turn_refusal scan_answer
taken_input = refl

-- a second release finds no force
not_forced : answer_to forcible (let_go) (release 0 15) ≡ Err NotForced
unfolding state_of program_scan rank_order singles_of calls_of picked first_refusal turn_refusal scan_answer
not_forced = refl

-- there is no task 1
unknown_task : answer_to forcible [] (scan_of 1 0) ≡ Err UnknownTask
unfolding state_of program_scan rank_order singles_of calls_of picked first_refusal turn_refusal scan_answer
unknown_task = refl

-- there is no instance 1 to be reset
unknown_program : answer_to forcible [] (reset 1 0) ≡ Err UnknownProgram
unfolding state_of program_scan rank_order singles_of calls_of picked first_refusal turn_refusal scan_answer
unknown_program = refl

-- ---- refusals by the instant

-- a microsecond before the latest event
clock_back : answer_to forcible (scans 2) (Scan (record { 0 = 0 }), pos 9_999) ≡ Err ClockBack
unfolding state_of program_scan rank_order singles_of calls_of picked first_refusal turn_refusal scan_answer
clock_back = refl

-- the same instant is none before it
same_instant : answer_to forcible (scans 2) (input 0 (value.Bool true) 10) ≡ Ok Done
unfolding state_of program_scan rank_order singles_of calls_of picked first_refusal turn_refusal scan_answer
same_instant = refl

-- the first instant is 0
before_zero : answer_to forcible [] (Scan (record { 0 = 0 }), negsuc 0) ≡ Err InstantRange
unfolding state_of program_scan rank_order singles_of calls_of picked first_refusal turn_refusal scan_answer
before_zero = refl

-- 2^62 microseconds is the last instant (our choice)
last_instant : answer_to forcible (scans 2) (Force (record { 0 = 1 }) (value.Bool true), pos (2 ^ 62)) ≡ Ok Done
unfolding state_of program_scan rank_order singles_of calls_of picked first_refusal turn_refusal scan_answer
last_instant = refl

-- a microsecond later is no instant
beyond_last : answer_to forcible (scans 2) (Force (record { 0 = 1 }) (value.Bool true), pos (2 ^ 62 + 1)) ≡ Err InstantRange
unfolding state_of program_scan rank_order singles_of calls_of picked first_refusal turn_refusal scan_answer
beyond_last = refl

-- ---- the order of refusals (our choice)

-- the range of instants before the clock, and both before what is named
range_first : answer_to forcible (scans 2) (Scan (record { 0 = 7 }), negsuc 0) ≡ Err InstantRange
unfolding state_of program_scan rank_order singles_of calls_of picked first_refusal turn_refusal scan_answer
range_first = refl

-- at 5 ms, behind 10 ms, there is no variable 99 either
clock_then : answer_to forcible (scans 2) (force 99 (value.Bool true) 5) ≡ Err ClockBack
unfolding state_of program_scan rank_order singles_of calls_of picked first_refusal turn_refusal scan_answer
clock_then = refl

-- the type before the place of an input
type_then : answer_to forcible [] (input 1 (value.Int (pos 1)) 0) ≡ Err ValueType
unfolding state_of program_scan rank_order singles_of calls_of picked first_refusal turn_refusal scan_answer
type_then = refl

-- what is named before the turn
named_then : answer_to forcible (scans 1) (scan_of 1 5) ≡ Err UnknownTask
unfolding state_of program_scan rank_order singles_of calls_of picked first_refusal turn_refusal scan_answer
named_then = refl

-- a refused event leaves nothing, also not its instant
refused_leaves_nothing : after forcible (scans 2) (force 99 (value.Bool true) 500) ≡ scans 2
unfolding state_of program_scan rank_order singles_of calls_of picked first_refusal turn_refusal scan_answer
refused_leaves_nothing = refl

-- ---- forced scans wait for no turn, and for nothing else less (our choice)

-- at 5 ms no release of the task waits
turn_of_none : answer_to forcible (scans 1) (scan 5) ≡ Err (NotDue (Some (ms 10)))
unfolding state_of program_scan rank_order singles_of calls_of picked first_refusal turn_refusal scan_answer
turn_of_none = refl

-- a forced scan runs the task at 5 ms all the same
forced_turn : answer_to forcible (scans 1) (forced_scan 5) ≡ Ok (Scanned (set_of 1) (set_of 0) (set_of 0) 0)
unfolding state_of program_scan rank_order singles_of calls_of picked first_refusal turn_refusal scan_answer
forced_turn = refl

-- it does not go back in time
forced_back : answer_to forcible (scans 2) (forced_scan 5) ≡ Err ClockBack
unfolding state_of program_scan rank_order singles_of calls_of picked first_refusal turn_refusal scan_answer
forced_back = refl

-- it serves the release at 10 ms
forced_serves : answer_to forcible (forced_scan 12 ∷ scans 1) (scan 13) ≡ Err (NotDue (Some (ms 20)))
unfolding state_of program_scan rank_order singles_of calls_of picked first_refusal turn_refusal scan_answer
forced_serves = refl
