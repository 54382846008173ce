-- Steps and transitions of small plants, and what the definitions alone give for them at single moments.
use Rattle.std.proofs.Common.{◌≡◌, refl, true, false, List, [], ◌∷◌, Some, Ok, Err}
use Rattle.std.specs.Prelude.{codes}
use Rattle.sfc_base.specs.declared.value.Value.TheVariants as value
use Rattle.sfc_plant.specs.declared.association.Qualifier.TheVariants.{NonStored}
use Rattle.sfc_instances.specs.sfc_tables.Ranks.{rank_order}
use Rattle.sfc_plant.specs.Plants.{PlantData}
use Rattle.sfc_tasks.specs.Pick.{picked}
use Rattle.sfc_instances.specs.PlantState.{program_scan}
use Rattle.sfc_events.specs.declared.event.Outcome.TheVariants.{Scanned}
use Rattle.sfc_events.specs.InstanceSets.{set_of}
use Rattle.sfc_events.specs.declared.refusal.Refusal.TheVariants.{NotDue}
use Rattle.sfc_events.specs.History.{TimedEvent, History}
use Rattle.sfc_core.specs.PlantState.{state_of}
use Rattle.sfc_core.specs.Due.{singles_of, calls_of}
use Rattle.sfc_core.specs.Verdict.{first_refusal, turn_refusal, scan_answer, accepted, after_all}
use Rattle.sfc_core.proofs.MomentPlants.{ms, flag, switch, reads, sets, initial_step, step, goes, chart, small, scan}
use Rattle.sfc_core.proofs.MomentPlants.{input, scans, answer_to, active, cleared, executed, q_in, time_in, life_in, read}

-- ---- the switch Go leads from a step with the action Lamp to one without

abbrev go_along : PlantData
go_along = small (switch (codes "Go") false ∷ flag (codes "Lamp") ∷ [])
    (chart (initial_step (sets NonStored 1 ∷ []) ∷ step [] ∷ []) (goes 0 1 (reads 0) ∷ []) [])

-- two scans, Go at 15 ms, and a scan at 20 ms
abbrev gone : History
gone = scan 20 ∷ input 0 (value.Bool true) 15 ∷ scans 2

abbrev gone_on : History
gone_on = scan 30 ∷ gone

-- before the first scan no step is active (2.6.2; the first scan activates the initial step)
none_before : active go_along [] ≡ []
unfolding state_of program_scan rank_order
none_before = refl

-- the first scan, at 0, activates the initial step (2.6.2)
first_scan : active go_along (scans 1) ≡ 0 ∷ []
unfolding state_of program_scan rank_order
first_scan = refl

-- it clears nothing, also where the condition is TRUE already (our choice)
first_clears_nothing : cleared go_along (scan 0 ∷ input 0 (value.Bool true) 0 ∷ []) ≡ []
unfolding state_of program_scan rank_order
first_clears_nothing = refl

-- it executes the action of that step (2.6.4.5)
first_executes : executed go_along (scans 1) ≡ 0 ∷ []
unfolding state_of program_scan rank_order
first_executes = refl

-- its answer: instance 0 ran, and the task has no overrun
first_answer : answer_to go_along [] (scan 0) ≡ Ok (Scanned (set_of 1) (set_of 0) (set_of 0) 0)
unfolding state_of program_scan rank_order singles_of calls_of picked first_refusal turn_refusal scan_answer
first_answer = refl

-- a step's time goes on from scan to scan (2.6.2)
goes_on : time_in go_along 0 0 (scans 2) ≡ ms 10
unfolding state_of program_scan rank_order
goes_on = refl

-- an input alone changes no step
input_waits : active go_along (input 0 (value.Bool true) 15 ∷ scans 2) ≡ 0 ∷ []
unfolding state_of program_scan rank_order
input_waits = refl

-- the next scan clears the transition (2.6.3)
cleared_then : cleared go_along gone ≡ 0 ∷ []
unfolding state_of program_scan rank_order
cleared_then = refl

-- at 20 ms the second step alone is active
entered : active go_along gone ≡ 1 ∷ []
unfolding state_of program_scan rank_order
entered = refl

-- the step that was left keeps its time (2.6.2), and the entered one begins with 0
held_time : time_in go_along 0 0 gone_on ≡ ms 20
unfolding state_of program_scan rank_order
held_time = refl

-- at 20 ms the second step was entered: its time is 0 (2.6.2)
begins : time_in go_along 0 1 gone ≡ ms 0
unfolding state_of program_scan rank_order
begins = refl

-- the action is executed once more, with Q at 0 (2.6.4.5), and then no more
final_scan : executed go_along gone ≡ 0 ∷ []
unfolding state_of program_scan rank_order
final_scan = refl

-- in that final scan Q is 0 (2.6.4.5)
final_q : q_in go_along 0 0 gone ≡ false
unfolding state_of program_scan rank_order
final_q = refl

-- so the lamp is assigned FALSE
lamp_off : read go_along 1 gone ≡ value.Bool false
unfolding state_of program_scan rank_order
lamp_off = refl

-- at 30 ms nothing is executed any more
no_more : executed go_along gone_on ≡ []
unfolding state_of program_scan rank_order
no_more = refl

-- a scan at 35 ms is none of the task's: the next multiple of its interval is 40 ms (2.7.2)
not_due : answer_to go_along gone_on (scan 35) ≡ Err (NotDue (Some (ms 40)))
unfolding state_of program_scan rank_order singles_of calls_of picked first_refusal turn_refusal scan_answer
not_due = refl

abbrev script : List TimedEvent
script = scan 0 ∷ scan 10 ∷ input 0 (value.Bool true) 15 ∷ scan 20 ∷ scan 30 ∷ scan 35 ∷ []

-- of six events the last is refused, and leaves nothing
five_accepted : accepted go_along [] script ≡ 5
unfolding state_of program_scan rank_order singles_of calls_of picked first_refusal turn_refusal scan_answer
five_accepted = refl

-- the history is the five others, the newest first
history_of_five : after_all go_along [] script ≡ gone_on
unfolding state_of program_scan rank_order singles_of calls_of picked first_refusal turn_refusal scan_answer
history_of_five = refl

-- four of them are scans
four_scans : life_in go_along 0 gone_on ≡ 4
unfolding state_of program_scan rank_order
four_scans = refl
