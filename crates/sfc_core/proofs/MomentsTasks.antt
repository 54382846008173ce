-- When tasks are due, which of them goes first, and overruns (2.7.2): small plants at single moments.
use Rattle.std.proofs.Common.{◌≡◌, refl, ℕ, ◌^◌, Bool, true, false, [], ◌∷◌, Some, None, Ok, Err, pos}
use Rattle.std.specs.Prelude.{codes}
use Rattle.sfc_base.specs.declared.var_type.VarType.TheVariants as types
use Rattle.sfc_base.specs.declared.value.Value.TheVariants as value
use Rattle.sfc_expr.specs.declared.operator.Operator.TheVariants as op
use Rattle.sfc_base.specs.declared.references.Variable.TheVariants.{Local}
use Rattle.sfc_expr.specs.Trees.{Read, Binary, Body, Nothing, Assign}
use Rattle.sfc_plant.specs.declared.association.Qualifier.TheVariants.{NonStored, Pulse}
use Rattle.sfc_plant.specs.declared.chart.Chart.{Chart}
use Rattle.sfc_instances.specs.sfc_tables.Ranks.{rank_order}
use Rattle.sfc_plant.specs.declared.task.Task.{Task}
use Rattle.sfc_plant.specs.Plants.{PlantData}
use Rattle.sfc_tasks.specs.Pick.{picked}
use Rattle.sfc_instances.specs.PlantState.{program_scan}
use Rattle.sfc_events.specs.declared.event.Event.TheVariants.{Scan}
use Rattle.sfc_events.specs.declared.event.Outcome.TheVariants.{Scanned}
use Rattle.sfc_events.specs.InstanceSets.{set_of}
use Rattle.sfc_events.specs.declared.refusal.Refusal.{Refusal}
use Rattle.sfc_events.specs.declared.refusal.Refusal.TheVariants.{NotDue, Yield}
use Rattle.sfc_events.specs.History.{TimedEvent, History}
use Rattle.sfc_core.specs.PlantState.{state_of}
use Rattle.sfc_core.specs.Due.{singles_of, calls_of}
use Rattle.sfc_core.specs.Answers.{overruns_of}
use Rattle.sfc_core.specs.Verdict.{first_refusal, turn_refusal, scan_answer}
use Rattle.sfc_core.proofs.MomentPlants.{ms, flag, int, switch, always, reads, number, the, sets, runs, action}
use Rattle.sfc_core.proofs.MomentPlants.{initial_step, step, goes, chart, task, single_task, program, instance, plant}
use Rattle.sfc_core.proofs.MomentPlants.{small, scan, scan_of, forced_scan, input, force, release, reset, answer_to, read}

-- one step without an action
abbrev resting : Chart
resting = chart (initial_step [] ∷ []) [] []

-- task k goes first
abbrev yields_to : ℕ → Refusal
yields_to k = Yield (record { 0 = k })

-- ---- one task of 10 ms

abbrev ticking : PlantData
ticking = small [] resting

-- 0 is the first multiple (our choice)
due_at_0 : answer_to ticking [] (scan 0) ≡ Ok (Scanned (set_of 1) (set_of 0) (set_of 0) 0)
unfolding state_of program_scan rank_order singles_of calls_of picked first_refusal turn_refusal scan_answer
due_at_0 = refl

-- at 9 ms no release waits, and the next is at 10 ms
not_due : answer_to ticking (scan 0 ∷ []) (scan 9) ≡ Err (NotDue (Some (ms 10)))
unfolding state_of program_scan rank_order singles_of calls_of picked first_refusal turn_refusal scan_answer
not_due = refl

-- at 19 ms the release at 10 ms waits; alone it is no overrun
due_late : answer_to ticking (scan 0 ∷ []) (scan 19) ≡ Ok (Scanned (set_of 1) (set_of 0) (set_of 0) 0)
unfolding state_of program_scan rank_order singles_of calls_of picked first_refusal turn_refusal scan_answer
due_late = refl

-- a late scan moves no multiple
next_multiple : answer_to ticking (scan 19 ∷ scan 0 ∷ []) (scan 19) ≡ Err (NotDue (Some (ms 20)))
unfolding state_of program_scan rank_order singles_of calls_of picked first_refusal turn_refusal scan_answer
next_multiple = refl

-- of the releases at 10, 20 and 30 ms two came before the one before them was served
two_overruns : answer_to ticking (scan 0 ∷ []) (scan 35) ≡ Ok (Scanned (set_of 1) (set_of 0) (set_of 0) 2)
unfolding state_of program_scan rank_order singles_of calls_of picked first_refusal turn_refusal scan_answer
two_overruns = refl

-- one scan serves all of them (our choice)
all_served : answer_to ticking (scan 35 ∷ scan 0 ∷ []) (scan 39) ≡ Err (NotDue (Some (ms 40)))
unfolding state_of program_scan rank_order singles_of calls_of picked first_refusal turn_refusal scan_answer
all_served = refl

-- from 0 to 40 ms there are five releases
late_first : answer_to ticking [] (scan 45) ≡ Ok (Scanned (set_of 1) (set_of 0) (set_of 0) 4)
unfolding state_of program_scan rank_order singles_of calls_of picked first_refusal turn_refusal scan_answer
late_first = refl

-- overruns are counted since the opening, over a reset too (our choice)
counted_on : answer_to ticking (reset 0 46 ∷ scan 45 ∷ []) (scan 75) ≡ Ok (Scanned (set_of 1) (set_of 0) (set_of 0) 6)
unfolding state_of program_scan rank_order singles_of calls_of picked first_refusal turn_refusal scan_answer
counted_on = refl

-- releases that wait are no overruns before their scan
waiting_only : overruns_of ticking (reset 0 75 ∷ scan 45 ∷ []) (record { 0 = 0 }) ≡ 4
unfolding state_of program_scan rank_order singles_of calls_of
waiting_only = refl

-- a forced scan serves and counts too
forced_counts : answer_to ticking (scan 0 ∷ []) (forced_scan 25) ≡ Ok (Scanned (set_of 1) (set_of 0) (set_of 0) 1)
unfolding state_of program_scan rank_order singles_of calls_of picked first_refusal turn_refusal scan_answer
forced_counts = refl

-- ---- other intervals

abbrev by_task : Task → PlantData
by_task t = plant (switch (codes "Go") false ∷ []) (t ∷ []) (program [] resting ∷ []) (instance 0 0 ∷ [])

-- a task without an interval and without SINGLE is never due
never_due : answer_to (by_task (task 0 1)) [] (scan 0) ≡ Err (NotDue None)
unfolding state_of program_scan rank_order singles_of calls_of picked first_refusal turn_refusal scan_answer
never_due = refl

-- nor a second later
never_due_later : answer_to (by_task (task 0 1)) [] (scan 1_000) ≡ Err (NotDue None)
unfolding state_of program_scan rank_order singles_of calls_of picked first_refusal turn_refusal scan_answer
never_due_later = refl

-- An interval of half of the time that there is: 0, 2^61 and 2^62 microseconds are multiples, and the next is no instant.
abbrev half_of_time : PlantData
half_of_time = by_task (record { name = codes "T"; single = None; interval = pos (2 ^ 61); priority = 1 })

abbrev at_the_end : TimedEvent
at_the_end = (Scan (record { 0 = 0 }), pos (2 ^ 62))

-- at the last instant two releases wait
last_multiple : answer_to half_of_time (scan 0 ∷ []) at_the_end ≡ Ok (Scanned (set_of 1) (set_of 0) (set_of 0) 1)
unfolding state_of program_scan rank_order singles_of calls_of picked first_refusal turn_refusal scan_answer
last_multiple = refl

-- behind their scan no release comes any more
no_next : answer_to half_of_time (at_the_end ∷ scan 0 ∷ []) at_the_end ≡ Err (NotDue None)
unfolding state_of program_scan rank_order singles_of calls_of picked first_refusal turn_refusal scan_answer
no_next = refl

-- ---- SINGLE alone: a task by the switch Go, which reads so at first

abbrev by_rise : Bool → PlantData
by_rise go = plant (switch (codes "Go") go ∷ []) (single_task 0 0 1 ∷ []) (program [] resting ∷ []) (instance 0 0 ∷ [])

abbrev on : ℕ → TimedEvent
on t = input 0 (value.Bool true) t

abbrev off : ℕ → TimedEvent
off t = input 0 (value.Bool false) t

-- TRUE at the opening is no rise (our choice)
no_rise : answer_to (by_rise true) [] (scan 5) ≡ Err (NotDue None)
unfolding state_of program_scan rank_order singles_of calls_of picked first_refusal turn_refusal scan_answer
no_rise = refl

-- Go rises at 5 ms: the task is due at 7 ms
rise : answer_to (by_rise false) (on 5 ∷ []) (scan 7) ≡ Ok (Scanned (set_of 1) (set_of 0) (set_of 0) 0)
unfolding state_of program_scan rank_order singles_of calls_of picked first_refusal turn_refusal scan_answer
rise = refl

-- it waits although SINGLE has fallen since
fallen_since : answer_to (by_rise false) (off 6 ∷ on 5 ∷ []) (scan 7) ≡ Ok (Scanned (set_of 1) (set_of 0) (set_of 0) 0)
unfolding state_of program_scan rank_order singles_of calls_of picked first_refusal turn_refusal scan_answer
fallen_since = refl

-- one scan for each rise
served_once : answer_to (by_rise false) (scan 7 ∷ on 5 ∷ []) (scan 8) ≡ Err (NotDue None)
unfolding state_of program_scan rank_order singles_of calls_of picked first_refusal turn_refusal scan_answer
served_once = refl

-- TRUE after TRUE is no rise
still_true : answer_to (by_rise false) (on 8 ∷ scan 7 ∷ on 5 ∷ []) (scan 9) ≡ Err (NotDue None)
unfolding state_of program_scan rank_order singles_of calls_of picked first_refusal turn_refusal scan_answer
still_true = refl

-- two rises before a scan are one scan, and an overrun
two_rises : answer_to (by_rise true) (on 4 ∷ off 3 ∷ on 2 ∷ off 1 ∷ []) (scan 5) ≡ Ok (Scanned (set_of 1) (set_of 0) (set_of 0) 1)
unfolding state_of program_scan rank_order singles_of calls_of picked first_refusal turn_refusal scan_answer
two_rises = refl

-- SINGLE is what the variable reads: below a force of FALSE it doesn't rise, and at the release it does
held_down : answer_to (by_rise false) (on 1 ∷ force 0 (value.Bool false) 0 ∷ []) (scan 2) ≡ Err (NotDue None)
unfolding state_of program_scan rank_order singles_of calls_of picked first_refusal turn_refusal scan_answer
held_down = refl

-- at 3 ms Go is released, and reads TRUE
rise_by_release : answer_to (by_rise false) (release 0 3 ∷ on 1 ∷ force 0 (value.Bool false) 0 ∷ []) (scan 4) ≡ Ok (Scanned (set_of 1) (set_of 0) (set_of 0) 0)
unfolding state_of program_scan rank_order singles_of calls_of picked first_refusal turn_refusal scan_answer
rise_by_release = refl

-- a force of TRUE is a rise too
rise_by_force : answer_to (by_rise false) (force 0 (value.Bool true) 3 ∷ []) (scan 4) ≡ Ok (Scanned (set_of 1) (set_of 0) (set_of 0) 0)
unfolding state_of program_scan rank_order singles_of calls_of picked first_refusal turn_refusal scan_answer
rise_by_force = refl

-- ---- SINGLE with an interval of 10 ms

abbrev by_both : PlantData
by_both = by_task (single_task 0 10 1)

-- at 10 ms the multiple counts, as SINGLE read FALSE until then, and the rise counts too
multiple_and_rise : answer_to by_both (on 10 ∷ scan 0 ∷ []) (scan 10) ≡ Ok (Scanned (set_of 1) (set_of 0) (set_of 0) 1)
unfolding state_of program_scan rank_order singles_of calls_of picked first_refusal turn_refusal scan_answer
multiple_and_rise = refl

-- while SINGLE reads TRUE no multiple counts
none_while_true : answer_to by_both (scan 10 ∷ on 10 ∷ scan 0 ∷ []) (scan 20) ≡ Err (NotDue None)
unfolding state_of program_scan rank_order singles_of calls_of picked first_refusal turn_refusal scan_answer
none_while_true = refl

-- it falls at 30 ms: the next multiple is at 40 ms
next_after_fall : answer_to by_both (off 30 ∷ scan 10 ∷ on 10 ∷ scan 0 ∷ []) (scan 30) ≡ Err (NotDue (Some (ms 40)))
unfolding state_of program_scan rank_order singles_of calls_of picked first_refusal turn_refusal scan_answer
next_after_fall = refl

-- step 0 sets the variable by which its own task is due
abbrev self_raising : PlantData
self_raising = plant (flag (codes "Go") ∷ []) (single_task 0 10 1 ∷ [])
    (program [] (chart (initial_step (sets NonStored 0 ∷ []) ∷ []) [] []) ∷ []) (instance 0 0 ∷ [])

-- a rise that a scan makes itself waits for the next one
raised_by_itself : answer_to self_raising (scan 0 ∷ []) (scan 0) ≡ Ok (Scanned (set_of 1) (set_of 0) (set_of 0) 0)
unfolding state_of program_scan rank_order singles_of calls_of picked first_refusal turn_refusal scan_answer
raised_by_itself = refl

-- at 1 ms SINGLE still reads TRUE: no rise, and no multiple
raised_once : answer_to self_raising (scan 0 ∷ scan 0 ∷ []) (scan 1) ≡ Err (NotDue None)
unfolding state_of program_scan rank_order singles_of calls_of picked first_refusal turn_refusal scan_answer
raised_once = refl

-- ---- the task that goes first; the instances 0 and 1 have the tasks 0 and 1

abbrev two_tasks : Task → Task → PlantData
two_tasks one other = plant (switch (codes "Go") false ∷ []) (one ∷ other ∷ []) (program [] resting ∷ [])
    (instance 0 0 ∷ instance 1 0 ∷ [])

-- one priority, of 20 and of 30 ms
abbrev alike : PlantData
alike = two_tasks (task 20 1) (task 30 1)

-- both wait since 0: the first in the text goes first
first_in_text : answer_to alike [] (scan_of 1 0) ≡ Err (yields_to 0)
unfolding state_of program_scan rank_order singles_of calls_of picked first_refusal turn_refusal scan_answer
first_in_text = refl

-- the instance of the scanned task alone runs: bit 0, and then bit 1
first_runs : answer_to alike [] (scan_of 0 0) ≡ Ok (Scanned (set_of 1) (set_of 0) (set_of 0) 0)
unfolding state_of program_scan rank_order singles_of calls_of picked first_refusal turn_refusal scan_answer
first_runs = refl

-- task 0 was scanned: task 1 is next
second_runs : answer_to alike (scan_of 0 0 ∷ []) (scan_of 1 0) ≡ Ok (Scanned (set_of 2) (set_of 0) (set_of 0) 0)
unfolding state_of program_scan rank_order singles_of calls_of picked first_refusal turn_refusal scan_answer
second_runs = refl

-- both were scanned at 0
abbrev begun : History
begun = scan_of 1 0 ∷ scan_of 0 0 ∷ []

-- at 65 ms task 0 waits since 20 ms, and task 1 since 30 ms
longest_wait : answer_to alike begun (scan_of 1 65) ≡ Err (yields_to 0)
unfolding state_of program_scan rank_order singles_of calls_of picked first_refusal turn_refusal scan_answer
longest_wait = refl

-- its releases at 20, 40 and 60 ms are two overruns
longest_goes : answer_to alike begun (scan_of 0 65) ≡ Ok (Scanned (set_of 1) (set_of 0) (set_of 0) 2)
unfolding state_of program_scan rank_order singles_of calls_of picked first_refusal turn_refusal scan_answer
longest_goes = refl

-- at 85 ms task 0 waits since 80 ms, and task 1 since 30 ms still
other_way_round : answer_to alike (scan_of 0 65 ∷ begun) (scan_of 0 85) ≡ Err (yields_to 1)
unfolding state_of program_scan rank_order singles_of calls_of picked first_refusal turn_refusal scan_answer
other_way_round = refl

-- overruns are counted of each task: task 1 has one, by 30 and 60 ms
own_overruns : answer_to alike (scan_of 0 65 ∷ begun) (scan_of 1 85) ≡ Ok (Scanned (set_of 2) (set_of 0) (set_of 0) 1)
unfolding state_of program_scan rank_order singles_of calls_of picked first_refusal turn_refusal scan_answer
own_overruns = refl

-- no release of task 0 waits: that is told, and not that task 1 goes first (our choice)
not_due_first : answer_to alike (scan_of 0 65 ∷ begun) (scan_of 0 70) ≡ Err (NotDue (Some (ms 80)))
unfolding state_of program_scan rank_order singles_of calls_of picked first_refusal turn_refusal scan_answer
not_due_first = refl

-- a task of 10 ms with priority 4, and one by SINGLE with priority 3
abbrev by_priority : PlantData
by_priority = two_tasks (task 10 4) (single_task 0 0 3)

-- the lowest number goes first, though task 0 waits since 0, and task 1 since 15 ms
lowest_number : answer_to by_priority (on 15 ∷ []) (scan_of 0 20) ≡ Err (yields_to 1)
unfolding state_of program_scan rank_order singles_of calls_of picked first_refusal turn_refusal scan_answer
lowest_number = refl

-- task 1 may be scanned
lowest_goes : answer_to by_priority (on 15 ∷ []) (scan_of 1 20) ≡ Ok (Scanned (set_of 2) (set_of 0) (set_of 0) 0)
unfolding state_of program_scan rank_order singles_of calls_of picked first_refusal turn_refusal scan_answer
lowest_goes = refl

-- and then task 0, with the releases at 0, 10 and 20 ms
then_the_other : answer_to by_priority (scan_of 1 20 ∷ on 15 ∷ []) (scan_of 0 20) ≡ Ok (Scanned (set_of 1) (set_of 0) (set_of 0) 2)
unfolding state_of program_scan rank_order singles_of calls_of picked first_refusal turn_refusal scan_answer
then_the_other = refl

-- where the other does not wait, a higher number is no hindrance
alone : answer_to by_priority [] (scan_of 0 20) ≡ Ok (Scanned (set_of 1) (set_of 0) (set_of 0) 2)
unfolding state_of program_scan rank_order singles_of calls_of picked first_refusal turn_refusal scan_answer
alone = refl

-- a forced scan goes before the task whose turn it is (our choice)
forced_before : answer_to by_priority (on 15 ∷ []) (forced_scan 20) ≡ Ok (Scanned (set_of 1) (set_of 0) (set_of 0) 2)
unfolding state_of program_scan rank_order singles_of calls_of picked first_refusal turn_refusal scan_answer
forced_before = refl

-- one priority, a task of 10 ms and one by SINGLE
abbrev rise_or_multiple : PlantData
rise_or_multiple = two_tasks (task 10 1) (single_task 0 0 1)

-- a rise at 5 ms before the multiple at 10 ms; at one instant the first in the text
earlier_rise : answer_to rise_or_multiple (on 5 ∷ scan_of 0 0 ∷ []) (scan_of 0 10) ≡ Err (yields_to 1)
unfolding state_of program_scan rank_order singles_of calls_of picked first_refusal turn_refusal scan_answer
earlier_rise = refl

-- the rise and the multiple are both at 10 ms
same_instant : answer_to rise_or_multiple (on 10 ∷ scan_of 0 0 ∷ []) (scan_of 1 10) ≡ Err (yields_to 0)
unfolding state_of program_scan rank_order singles_of calls_of picked first_refusal turn_refusal scan_answer
same_instant = refl

-- ---- a scan of one task makes another due: after 10 ms step 1 has a pulse on the variable by which task 1 is due

abbrev raising : PlantData
raising = plant (flag (codes "Go") ∷ []) (task 10 2 ∷ single_task 0 0 1 ∷ [])
    (program [] (chart (initial_step [] ∷ step (sets Pulse 0 ∷ []) ∷ []) (goes 0 1 always ∷ []) []) ∷ program [] resting ∷ [])
    (instance 0 0 ∷ instance 1 1 ∷ [])

-- the scans of task 0 at 0 and 10 ms
abbrev raised : History
raised = scan_of 0 10 ∷ scan_of 0 0 ∷ []

-- after the first of them task 1 is not due
not_raised : answer_to raising (scan_of 0 0 ∷ []) (scan_of 1 0) ≡ Err (NotDue None)
unfolding state_of program_scan rank_order singles_of calls_of picked first_refusal turn_refusal scan_answer
not_raised = refl

-- at 20 ms it is due since 10 ms, and goes first
raised_first : answer_to raising raised (scan_of 0 20) ≡ Err (yields_to 1)
unfolding state_of program_scan rank_order singles_of calls_of picked first_refusal turn_refusal scan_answer
raised_first = refl

-- it is due at the instant of the scan that made it so
raised_at_once : answer_to raising raised (scan_of 1 10) ≡ Ok (Scanned (set_of 2) (set_of 0) (set_of 0) 0)
unfolding state_of program_scan rank_order singles_of calls_of picked first_refusal turn_refusal scan_answer
raised_at_once = refl

-- ---- Three instances, of which 0 and 2 have task 0, and 1 has task 1: g := g + 1; own := own * 10 + g.

abbrev three_instances : PlantData
three_instances =
    let own = Local (record { 0 = 0 }) in
    let tenfold = Binary op.Multiply types.Int (Read own) (number 10) in
    let body : Body =
    Assign (the 0) (Binary op.Add types.Int (reads 0) (number 1))
    (Assign own (Binary op.Add types.Int tenfold (reads 0)) Nothing) in
    plant (int (codes "g") 0 ∷ []) (task 10 1 ∷ task 10 2 ∷ [])
    (program (int (codes "own") 0 ∷ []) (chart (initial_step (runs NonStored 0 ∷ []) ∷ []) [] (action body ∷ [])) ∷ [])
    (instance 0 0 ∷ instance 1 0 ∷ instance 0 0 ∷ [])

-- both tasks at 0, and then at 10 ms
abbrev all_scanned : History
all_scanned = scan_of 1 10 ∷ scan_of 0 10 ∷ scan_of 1 0 ∷ scan_of 0 0 ∷ []

-- the bits 0 and 2
both_run : answer_to three_instances [] (scan_of 0 0) ≡ Ok (Scanned (set_of 5) (set_of 0) (set_of 0) 0)
unfolding state_of program_scan rank_order singles_of calls_of picked first_refusal turn_refusal scan_answer
both_run = refl

-- in text order, each over what the one before left: at 0 the instances 0, 2 and 1 see 1, 2 and 3, and at 10 ms 4, 5 and 6
own_of_0 : read three_instances 1 all_scanned ≡ value.Int (pos 14)
unfolding state_of program_scan rank_order
own_of_0 = refl

-- the second instance, of task 1
own_of_1 : read three_instances 2 all_scanned ≡ value.Int (pos 36)
unfolding state_of program_scan rank_order
own_of_1 = refl

-- the third
own_of_2 : read three_instances 3 all_scanned ≡ value.Int (pos 25)
unfolding state_of program_scan rank_order
own_of_2 = refl
