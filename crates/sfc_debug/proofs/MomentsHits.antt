-- When a scan hits a breakpoint, and how everything goes on then: small plants at single moments.
use Rattle.std.proofs.Common.{◌≡◌, refl, true, false, List, [], ◌∷◌, Ok, Err, pos}
use Rattle.std.specs.Prelude.{codes}
use Rattle.sfc_base.specs.declared.value.Value.TheVariants as value
use Rattle.sfc_base.specs.declared.var_type.VarType.TheVariants as types
use Rattle.sfc_expr.specs.declared.operator.Operator.TheVariants as op
use Rattle.sfc_expr.specs.Trees.{Expression, Literal, Not, StepActive, Binary}
use Rattle.sfc_plant.specs.declared.association.Qualifier.TheVariants.{NonStored}
use Rattle.sfc_plant.specs.declared.chart.Chart.{Chart}
use Rattle.sfc_plant.specs.Plants.{PlantData}
use Rattle.sfc_core.specs.sfc_tables.Ranks.{rank_order}
use Rattle.sfc_core.specs.sfc_instances.PlantState.{program_scan}
use Rattle.sfc_events.specs.declared.command.Answer.TheVariants.{Scanned}
use Rattle.sfc_events.specs.InstanceSets.{set_of}
use Rattle.sfc_events.specs.declared.refusal.Refusal.TheVariants.{Stopped}
use Rattle.sfc_core.specs.PlantState as core
use Rattle.sfc_core.specs.Due.{singles_of, calls_of}
use Rattle.sfc_core.specs.Verdict.{first_refusal, turn_refusal, scan_answer}
use Rattle.sfc_core.proofs.MomentPlants.{ms, flag, dial, switch, always, reads, number, lasts, sets, initial_step, step, goes}
use Rattle.sfc_core.proofs.MomentPlants.{chart, task, program, instance, plant, small}
use Rattle.sfc_debug.specs.declared.break_condition.BreakCondition.{BreakCondition}
use Rattle.sfc_debug.specs.declared.mode.Mode.TheVariants as mode
use Rattle.sfc_debug.specs.Histories.{TimedCommand, CommandHistory}
use Rattle.sfc_debug.specs.Hits.{is_hit}
use Rattle.sfc_debug.specs.States.{state_of, erasure}
use Rattle.sfc_debug.specs.Verdict.{verdict}
use Rattle.sfc_debug.proofs.MomentsCommands.{scan, scan_of, single, input, reset, stop, go, end, at_step, at_transition, at_action}
use Rattle.sfc_debug.proofs.MomentsCommands.{force, break, break_in, break_if, unbreak, condition_of, answer_to, mode_in}
use Rattle.sfc_debug.proofs.MomentsTurns.{sole}

-- ---- the switch Go leads from step 0 with the lamp to step 1

abbrev go_along : PlantData
go_along = small (switch (codes "Go") false ∷ flag (codes "Lamp") ∷ [])
    (chart (initial_step (sets NonStored 1 ∷ []) ∷ step [] ∷ []) (goes 0 1 (reads 0) ∷ []) [])

abbrev lamp : Expression
lamp = reads 1

-- 1 / 0 = 1
abbrev faulty : Expression
faulty = Binary op.Equal types.Int (Binary op.Divide types.Int (number 1) (number 0)) (number 1)

-- step 1 is active
abbrev is_there : Expression
is_there = StepActive (record { 0 = 1 })

-- the conditions 0 to 7
abbrev table : List BreakCondition
table =
    condition_of 0 always ∷ condition_of 0 (Literal (value.Bool false)) ∷ condition_of 0 faulty ∷ condition_of 0 lamp
    ∷ condition_of 0 (Not lamp) ∷ condition_of 0 (lasts 0 20) ∷ condition_of 0 (lasts 0 21) ∷ condition_of 0 is_there ∷ []

-- scans at 0 and 10 ms; at 15 ms Go is TRUE, and then a breakpoint is set. The scan at 20 ms goes from step 0 to step 1.
abbrev leaving : TimedCommand → CommandHistory
leaving set = set ∷ input 0 (value.Bool true) 15 ∷ scan 10 ∷ scan 0 ∷ []

-- it activates step 1 (2.6.2)
by_step : answer_to go_along table (leaving (break (at_step 1) 15)) (scan 20) ≡ Ok (Scanned (set_of 1) (set_of 0) (set_of 0) 0 true)
unfolding verdict state_of is_hit core.state_of program_scan rank_order singles_of calls_of scan_answer
by_step = sole go_along (erasure go_along table (leaving (break (at_step 1) 15))) (ms 20) true refl refl refl

-- it clears transition 0 (2.6.5)
by_transition : answer_to go_along table (leaving (break (at_transition 0) 15)) (scan 20) ≡ Ok (Scanned (set_of 1) (set_of 0) (set_of 0) 0 true)
unfolding verdict state_of is_hit core.state_of program_scan rank_order singles_of calls_of scan_answer
by_transition = sole go_along (erasure go_along table (leaving (break (at_transition 0) 15))) (ms 20) true refl refl refl

-- it executes the lamp's action a last time, with Q at 0 (2.6.4.5)
by_action : answer_to go_along table (leaving (break (at_action 0) 15)) (scan 20) ≡ Ok (Scanned (set_of 1) (set_of 0) (set_of 0) 0 true)
unfolding verdict state_of is_hit core.state_of program_scan rank_order singles_of calls_of scan_answer
by_action = sole go_along (erasure go_along table (leaving (break (at_action 0) 15))) (ms 20) true refl refl refl

-- it leaves step 0, which is no hit
not_by_leaving : answer_to go_along table (leaving (break (at_step 0) 15)) (scan 20) ≡ Ok (Scanned (set_of 1) (set_of 0) (set_of 0) 0 false)
unfolding verdict state_of is_hit core.state_of program_scan rank_order singles_of calls_of scan_answer
not_by_leaving = sole go_along (erasure go_along table (leaving (break (at_step 0) 15))) (ms 20) false refl refl refl

-- a breakpoint that was taken away is not hit
not_by_unset : answer_to go_along table (unbreak (at_step 1) 15 ∷ leaving (break (at_step 1) 15)) (scan 20)
    ≡ Ok (Scanned (set_of 1) (set_of 0) (set_of 0) 0 false)
unfolding verdict state_of is_hit core.state_of program_scan rank_order singles_of calls_of scan_answer
not_by_unset =
    sole go_along (erasure go_along table (unbreak (at_step 1) 15 ∷ leaving (break (at_step 1) 15))) (ms 20) false refl refl refl

-- one of two is enough: the condition of the other is FALSE
by_one_of_two : answer_to go_along table (break (at_transition 0) 15 ∷ leaving (break_if (at_step 1) 1 15)) (scan 20)
    ≡ Ok (Scanned (set_of 1) (set_of 0) (set_of 0) 0 true)
unfolding verdict state_of is_hit core.state_of program_scan rank_order singles_of calls_of scan_answer
by_one_of_two =
    sole go_along (erasure go_along table (break (at_transition 0) 15 ∷ leaving (break_if (at_step 1) 1 15))) (ms 20) true refl refl refl

-- ---- scans that go on

-- the first scan of a life activates the initial step (2.6.2)
by_initial : answer_to go_along table (break (at_step 0) 0 ∷ []) (scan 0) ≡ Ok (Scanned (set_of 1) (set_of 0) (set_of 0) 0 true)
unfolding verdict state_of is_hit core.state_of program_scan rank_order singles_of calls_of scan_answer
by_initial = sole go_along (erasure go_along table (break (at_step 0) 0 ∷ [])) (ms 0) true refl refl refl

-- it clears no transition, though Go is TRUE
not_by_first : answer_to go_along table (break (at_transition 0) 0 ∷ input 0 (value.Bool true) 0 ∷ []) (scan 0)
    ≡ Ok (Scanned (set_of 1) (set_of 0) (set_of 0) 0 false)
unfolding verdict state_of is_hit core.state_of program_scan rank_order singles_of calls_of scan_answer
not_by_first =
    sole go_along (erasure go_along table (break (at_transition 0) 0 ∷ input 0 (value.Bool true) 0 ∷ [])) (ms 0) false refl refl refl

-- at 10 ms step 0 is active as it was, and was activated before
not_by_staying : answer_to go_along table (break (at_step 0) 5 ∷ scan 0 ∷ []) (scan 10) ≡ Ok (Scanned (set_of 1) (set_of 0) (set_of 0) 0 false)
unfolding verdict state_of is_hit core.state_of program_scan rank_order singles_of calls_of scan_answer
not_by_staying = sole go_along (erasure go_along table (break (at_step 0) 5 ∷ scan 0 ∷ [])) (ms 10) false refl refl refl

-- the first scan after a reset activates it anew
by_new_life : answer_to go_along table (break (at_step 0) 15 ∷ reset 0 15 ∷ scan 10 ∷ scan 0 ∷ []) (scan 20)
    ≡ Ok (Scanned (set_of 1) (set_of 0) (set_of 0) 0 true)
unfolding verdict state_of is_hit core.state_of program_scan rank_order singles_of calls_of scan_answer
by_new_life =
    sole go_along (erasure go_along table (break (at_step 0) 15 ∷ reset 0 15 ∷ scan 10 ∷ scan 0 ∷ [])) (ms 20) true refl refl refl

-- an action is executed in each scan of its step
by_each_scan : answer_to go_along table (break (at_action 0) 5 ∷ scan 0 ∷ []) (scan 10) ≡ Ok (Scanned (set_of 1) (set_of 0) (set_of 0) 0 true)
unfolding verdict state_of is_hit core.state_of program_scan rank_order singles_of calls_of scan_answer
by_each_scan = sole go_along (erasure go_along table (break (at_action 0) 5 ∷ scan 0 ∷ [])) (ms 10) true refl refl refl

-- and after its last one no more; the breakpoint of step 0 was not hit at 20 ms
not_behind_last : answer_to go_along table (break (at_action 0) 25 ∷ scan 20 ∷ leaving (break (at_step 0) 15)) (scan 30)
    ≡ Ok (Scanned (set_of 1) (set_of 0) (set_of 0) 0 false)
unfolding verdict state_of is_hit core.state_of program_scan rank_order singles_of calls_of scan_answer
not_behind_last =
    sole go_along (erasure go_along table (break (at_action 0) 25 ∷ scan 20 ∷ leaving (break (at_step 0) 15))) (ms 30) false
    refl refl refl

-- ---- conditions

-- TRUE
if_true : answer_to go_along table (leaving (break_if (at_step 1) 0 15)) (scan 20) ≡ Ok (Scanned (set_of 1) (set_of 0) (set_of 0) 0 true)
unfolding verdict state_of is_hit core.state_of program_scan rank_order singles_of calls_of scan_answer
if_true = sole go_along (erasure go_along table (leaving (break_if (at_step 1) 0 15))) (ms 20) true refl refl refl

-- FALSE
if_false : answer_to go_along table (leaving (break_if (at_step 1) 1 15)) (scan 20) ≡ Ok (Scanned (set_of 1) (set_of 0) (set_of 0) 0 false)
unfolding verdict state_of is_hit core.state_of program_scan rank_order singles_of calls_of scan_answer
if_false = sole go_along (erasure go_along table (leaving (break_if (at_step 1) 1 15))) (ms 20) false refl refl refl

-- a fault is no hit, and the answer doesn't tell of it: the instance ran
if_faulty : answer_to go_along table (leaving (break_if (at_step 1) 2 15)) (scan 20) ≡ Ok (Scanned (set_of 1) (set_of 0) (set_of 0) 0 false)
unfolding verdict state_of is_hit core.state_of program_scan rank_order singles_of calls_of scan_answer
if_faulty = sole go_along (erasure go_along table (leaving (break_if (at_step 1) 2 15))) (ms 20) false refl refl refl

-- a breakpoint at the same point takes the place of one whose condition is FALSE
if_no_more : answer_to go_along table (break (at_step 1) 15 ∷ leaving (break_if (at_step 1) 1 15)) (scan 20)
    ≡ Ok (Scanned (set_of 1) (set_of 0) (set_of 0) 0 true)
unfolding verdict state_of is_hit core.state_of program_scan rank_order singles_of calls_of scan_answer
if_no_more =
    sole go_along (erasure go_along table (break (at_step 1) 15 ∷ leaving (break_if (at_step 1) 1 15))) (ms 20) true refl refl refl

-- what is read is the lamp after the scan: the first one lights it
if_lit : answer_to go_along table (break_if (at_step 0) 3 0 ∷ []) (scan 0) ≡ Ok (Scanned (set_of 1) (set_of 0) (set_of 0) 0 true)
unfolding verdict state_of is_hit core.state_of program_scan rank_order singles_of calls_of scan_answer
if_lit = sole go_along (erasure go_along table (break_if (at_step 0) 3 0 ∷ [])) (ms 0) true refl refl refl

-- so it was dark before, and isn't any more
if_dark : answer_to go_along table (break_if (at_step 0) 4 0 ∷ []) (scan 0) ≡ Ok (Scanned (set_of 1) (set_of 0) (set_of 0) 0 false)
unfolding verdict state_of is_hit core.state_of program_scan rank_order singles_of calls_of scan_answer
if_dark = sole go_along (erasure go_along table (break_if (at_step 0) 4 0 ∷ [])) (ms 0) false refl refl refl

-- a force hides that: the lamp reads FALSE
if_forced_dark : answer_to go_along table (break_if (at_step 0) 3 0 ∷ force 1 (value.Bool false) 0 ∷ []) (scan 0)
    ≡ Ok (Scanned (set_of 1) (set_of 0) (set_of 0) 0 false)
unfolding verdict state_of is_hit core.state_of program_scan rank_order singles_of calls_of scan_answer
if_forced_dark =
    sole go_along (erasure go_along table (break_if (at_step 0) 3 0 ∷ force 1 (value.Bool false) 0 ∷ [])) (ms 0) false refl refl refl

-- at 20 ms it goes out
if_lit_still : answer_to go_along table (leaving (break_if (at_step 1) 3 15)) (scan 20) ≡ Ok (Scanned (set_of 1) (set_of 0) (set_of 0) 0 false)
unfolding verdict state_of is_hit core.state_of program_scan rank_order singles_of calls_of scan_answer
if_lit_still = sole go_along (erasure go_along table (leaving (break_if (at_step 1) 3 15))) (ms 20) false refl refl refl

-- and is dark
if_dark_then : answer_to go_along table (leaving (break_if (at_step 1) 4 15)) (scan 20) ≡ Ok (Scanned (set_of 1) (set_of 0) (set_of 0) 0 true)
unfolding verdict state_of is_hit core.state_of program_scan rank_order singles_of calls_of scan_answer
if_dark_then = sole go_along (erasure go_along table (leaving (break_if (at_step 1) 4 15))) (ms 20) true refl refl refl

-- the steps are those after the scan: step 1 is active
if_active : answer_to go_along table (leaving (break_if (at_step 1) 7 15)) (scan 20) ≡ Ok (Scanned (set_of 1) (set_of 0) (set_of 0) 0 true)
unfolding verdict state_of is_hit core.state_of program_scan rank_order singles_of calls_of scan_answer
if_active = sole go_along (erasure go_along table (leaving (break_if (at_step 1) 7 15))) (ms 20) true refl refl refl

-- and their times those at its instant: that of step 0 is 20 ms
if_so_long : answer_to go_along table (leaving (break_if (at_step 1) 5 15)) (scan 20) ≡ Ok (Scanned (set_of 1) (set_of 0) (set_of 0) 0 true)
unfolding verdict state_of is_hit core.state_of program_scan rank_order singles_of calls_of scan_answer
if_so_long = sole go_along (erasure go_along table (leaving (break_if (at_step 1) 5 15))) (ms 20) true refl refl refl

-- and not 21 ms
if_longer : answer_to go_along table (leaving (break_if (at_step 1) 6 15)) (scan 20) ≡ Ok (Scanned (set_of 1) (set_of 0) (set_of 0) 0 false)
unfolding verdict state_of is_hit core.state_of program_scan rank_order singles_of calls_of scan_answer
if_longer = sole go_along (erasure go_along table (leaving (break_if (at_step 1) 6 15))) (ms 20) false refl refl refl

-- ---- the mode

-- at first
running_first : mode_in go_along table [] ≡ mode.Running
unfolding state_of
running_first = refl

-- a hit halts
halted_by_hit : mode_in go_along table (scan 20 ∷ leaving (break (at_step 1) 15)) ≡ mode.Stopped
unfolding state_of is_hit core.state_of program_scan rank_order
halted_by_hit = refl

-- a scan that hits nothing doesn't
running_still : mode_in go_along table (scan 20 ∷ leaving (break (at_step 0) 15)) ≡ mode.Running
unfolding state_of is_hit core.state_of program_scan rank_order
running_still = refl

-- so the next scan is refused
stopped_by_hit : answer_to go_along table (scan 20 ∷ leaving (break (at_step 1) 15)) (scan 30) ≡ Err Stopped
unfolding verdict state_of is_hit core.state_of program_scan rank_order
stopped_by_hit = refl

-- after Go it runs
running_by_go : mode_in go_along table (go 21 ∷ scan 20 ∷ leaving (break (at_step 1) 15)) ≡ mode.Running
unfolding state_of
running_by_go = refl

-- Stop halts, and what comes then leaves it so
halted_by_stop : mode_in go_along table (single 10 1 ∷ input 0 (value.Bool true) 1 ∷ stop 0 ∷ []) ≡ mode.Stopped
unfolding state_of
halted_by_stop = refl

-- and End ends
ended_by_end : mode_in go_along table (end 1 ∷ stop 0 ∷ []) ≡ mode.Ended
unfolding state_of
ended_by_end = refl

-- ---- single scans

-- one that activates step 0 is no hit
no_hit_by_single : answer_to go_along table (stop 0 ∷ break (at_step 0) 0 ∷ []) (single 0 0) ≡ Ok (Scanned (set_of 1) (set_of 0) (set_of 0) 0 false)
unfolding verdict state_of is_hit core.state_of program_scan rank_order singles_of calls_of first_refusal turn_refusal scan_answer
no_hit_by_single = refl

-- nor is one that clears transition 0
no_hit_by_clearing : answer_to go_along table (stop 15 ∷ leaving (break (at_transition 0) 15)) (single 5 15)
    ≡ Ok (Scanned (set_of 1) (set_of 0) (set_of 0) 0 false)
unfolding verdict state_of is_hit core.state_of program_scan rank_order singles_of calls_of first_refusal turn_refusal scan_answer
no_hit_by_clearing = refl

-- ---- instances that didn't run: 10 / k = 0 leads away from a step with the lamp, where k is at %IW0 and begins with 5

abbrev dividing : PlantData
dividing =
    let tenth : Expression = Binary op.Divide types.Int (number 10) (reads 1) in
    small (flag (codes "Lamp") ∷ dial (codes "k") 5 ∷ [])
    (chart (initial_step (sets NonStored 0 ∷ []) ∷ step [] ∷ []) (goes 0 1 (Binary op.Equal types.Int tenth (number 0)) ∷ []) [])

-- a breakpoint at the lamp, behind the scan at 0
abbrev watched : CommandHistory
watched = break (at_action 0) 5 ∷ scan 0 ∷ []

-- k is 0 from 6 ms on
abbrev zeroed : CommandHistory
zeroed = input 1 (value.Int (pos 0)) 6 ∷ watched

-- with 5 the scan at 10 ms runs, and executes the action
hit_without_fault : answer_to dividing [] watched (scan 10) ≡ Ok (Scanned (set_of 1) (set_of 0) (set_of 0) 0 true)
unfolding verdict state_of is_hit core.state_of program_scan rank_order singles_of calls_of scan_answer
hit_without_fault = sole dividing (erasure dividing [] watched) (ms 10) true refl refl refl

-- with 0 it faults: the latest scan that ran executed the action, but that was not this one
no_hit_by_fault : answer_to dividing [] zeroed (scan 10) ≡ Ok (Scanned (set_of 0) (set_of 1) (set_of 0) 0 false)
unfolding verdict state_of is_hit core.state_of program_scan rank_order singles_of calls_of scan_answer
no_hit_by_fault = sole dividing (erasure dividing [] zeroed) (ms 10) false refl refl refl

-- at 20 ms the instance is skipped
no_hit_by_skipped : answer_to dividing [] (scan 10 ∷ zeroed) (scan 20) ≡ Ok (Scanned (set_of 0) (set_of 0) (set_of 1) 0 false)
unfolding verdict state_of is_hit core.state_of program_scan rank_order singles_of calls_of scan_answer
no_hit_by_skipped = sole dividing (erasure dividing [] (scan 10 ∷ zeroed)) (ms 20) false refl refl refl

-- The lamps A and B are those of two instances of one task; 10 / k = 0 leads away from the first step of the first, and k is 0.
abbrev half_faulting : PlantData
half_faulting =
    let tenth : Expression = Binary op.Divide types.Int (number 10) (reads 2) in
    let leaves : Expression = Binary op.Equal types.Int tenth (number 0) in
    plant (flag (codes "A") ∷ flag (codes "B") ∷ dial (codes "k") 0 ∷ []) (task 10 1 ∷ [])
    (program [] (chart (initial_step (sets NonStored 0 ∷ []) ∷ step [] ∷ []) (goes 0 1 leaves ∷ []) [])
    ∷ program [] (chart (initial_step (sets NonStored 1 ∷ []) ∷ []) [] []) ∷ [])
    (instance 0 0 ∷ instance 0 1 ∷ [])

-- at 10 ms the first faults, and the second runs: a breakpoint at B is hit
hit_beside_fault : answer_to half_faulting [] (break_in 1 (at_action 0) 5 ∷ scan 0 ∷ []) (scan 10) ≡ Ok (Scanned (set_of 2) (set_of 1) (set_of 0) 0 true)
unfolding verdict state_of is_hit core.state_of program_scan rank_order singles_of calls_of scan_answer
hit_beside_fault =
    sole half_faulting (erasure half_faulting [] (break_in 1 (at_action 0) 5 ∷ scan 0 ∷ [])) (ms 10) true refl refl refl

-- and one at A isn't
no_hit_beside_fault : answer_to half_faulting [] (break_in 0 (at_action 0) 5 ∷ scan 0 ∷ []) (scan 10) ≡ Ok (Scanned (set_of 2) (set_of 1) (set_of 0) 0 false)
unfolding verdict state_of is_hit core.state_of program_scan rank_order singles_of calls_of scan_answer
no_hit_beside_fault =
    sole half_faulting (erasure half_faulting [] (break_in 0 (at_action 0) 5 ∷ scan 0 ∷ [])) (ms 10) false refl refl refl

-- ---- two instances: the second sets G, and the first does nothing; each has a task of its own, or both have one

abbrev resting : Chart
resting = chart (initial_step [] ∷ []) [] []

abbrev setting : Chart
setting = chart (initial_step (sets NonStored 0 ∷ []) ∷ []) [] []

abbrev one_task : PlantData
one_task = plant (flag (codes "G") ∷ []) (task 10 1 ∷ []) (program [] resting ∷ program [] setting ∷ [])
    (instance 0 0 ∷ instance 0 1 ∷ [])

abbrev two_tasks : PlantData
two_tasks = plant (flag (codes "G") ∷ []) (task 10 1 ∷ task 10 2 ∷ []) (program [] resting ∷ program [] setting ∷ [])
    (instance 0 0 ∷ instance 1 1 ∷ [])

-- G, read by the first
abbrev g : List BreakCondition
g = condition_of 0 (reads 0) ∷ []

-- the first runs before the second; but what is read are the variables after the whole scan
after_the_others : answer_to one_task g (break_if (at_step 0) 0 0 ∷ []) (scan 0) ≡ Ok (Scanned (set_of 3) (set_of 0) (set_of 0) 0 true)
unfolding verdict state_of is_hit core.state_of program_scan rank_order singles_of calls_of scan_answer
after_the_others = sole one_task (erasure one_task g (break_if (at_step 0) 0 0 ∷ [])) (ms 0) true refl refl refl

-- the latest scan of the second activated its step; but a scan of task 0 hits nothing of it
not_by_another_task : mode_in two_tasks g (scan_of 0 10 ∷ break_in 1 (at_step 0) 5 ∷ scan_of 1 0 ∷ scan_of 0 0 ∷ []) ≡ mode.Running
unfolding state_of is_hit core.state_of program_scan rank_order
not_by_another_task = refl

-- a scan of its own task does: the first of its life
by_its_own_task : mode_in two_tasks g (scan_of 1 0 ∷ scan_of 0 0 ∷ break_in 1 (at_step 0) 0 ∷ []) ≡ mode.Stopped
unfolding state_of is_hit core.state_of program_scan rank_order
by_its_own_task = refl
