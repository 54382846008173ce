-- What commands are refused for, and in which order: small plants at single moments.
use Rattle.std.proofs.Common.{◌≡◌, refl, ℕ, ◌+◌, ◌-◌, ◌^◌, true, false, List, [], ◌∷◌, Some, None, Ok, Err, pos, negsuc}
use Rattle.std.specs.Prelude.{codes, replicate}
use Rattle.sfc_base.specs.declared.value.Value.TheVariants as value
use Rattle.sfc_plant.specs.declared.association.Qualifier.TheVariants.{NonStored}
use Rattle.sfc_core.specs.sfc_tables.Ranks.{rank_order}
use Rattle.sfc_plant.specs.Plants.{PlantData}
use Rattle.sfc_events.specs.declared.command.Answer.TheVariants.{Done}
use Rattle.sfc_events.specs.declared.command.Command.TheVariants as commands
use Rattle.sfc_events.specs.declared.refusal.Refusal.TheVariants.{InstantRange, ClockBack, UnknownTask, UnknownProgram, UnknownVar}
use Rattle.sfc_events.specs.declared.refusal.Refusal.TheVariants.{ValueType, NotInput, NotForced}
use Rattle.sfc_events.specs.declared.refusal.Refusal.TheVariants.{Stopped, NotRunning, NotStopped, NoSuchPoint, TooManyPoints}
use Rattle.sfc_events.specs.declared.refusal.Refusal.TheVariants.{HistoryFull, Ended, NoSuchCondition}
use Rattle.sfc_core.specs.PlantState as core
use Rattle.sfc_core.specs.Verdict.{first_refusal, turn_refusal}
use Rattle.sfc_core.proofs.MomentPlants.{ms, flag, switch, always, reads, sets, initial_step, step, goes, chart, task, program}
use Rattle.sfc_core.proofs.MomentPlants.{instance, plant}
use Rattle.sfc_debug.specs.declared.break_condition.BreakCondition.{BreakCondition}
use Rattle.sfc_debug.specs.declared.breakpoint.Breakpoint.{Breakpoint}
use Rattle.sfc_debug.specs.declared.mode.Mode.TheVariants as mode
use Rattle.sfc_debug.specs.Histories.{TimedCommand, CommandHistory}
use Rattle.sfc_debug.specs.States.{DebugState, opened, state_of}
use Rattle.sfc_debug.specs.Verdict.{verdict, verdict_in, own_refusal}
use Rattle.sfc_debug.proofs.MomentsCommands.{scan, scan_of, single_of, read, stop, go, end, epoch, at_step, at_transition}
use Rattle.sfc_debug.proofs.MomentsCommands.{at_action, break_in, break_in_if, unbreak_in, break, break_if, unbreak, breakpoint}
use Rattle.sfc_debug.proofs.MomentsCommands.{breakpoint_if, input, force, release, reset, condition_of, answer_to, points_in}

-- Two instances of a chart with the steps 0 and 1, transition 0 from the one to the other by the switch Go, and action 0, the
-- lamp. Their task has no interval.
abbrev lit : PlantData
lit = plant (switch (codes "Go") false ∷ flag (codes "Lamp") ∷ []) (task 0 1 ∷ [])
    (program [] (chart (initial_step (sets NonStored 1 ∷ []) ∷ step [] ∷ []) (goes 0 1 (reads 0) ∷ []) []) ∷ [])
    (instance 0 0 ∷ instance 0 0 ∷ [])

-- condition 0 is one of instance 0, and condition 1 of instance 1
abbrev table : List BreakCondition
table = condition_of 0 always ∷ condition_of 1 always ∷ []

-- a microsecond before the beginning, and one after the last instant
abbrev too_early : TimedCommand
too_early = (commands.Epoch, negsuc 0)

abbrev too_late : TimedCommand
too_late = (commands.Epoch, pos (2 ^ 62 + 1))

-- ---- the end, and the greatest count

-- nothing is accepted after End, a second End neither
ended : answer_to lit table (end 5 ∷ []) (end 5) ≡ Err Ended
unfolding verdict state_of
ended = refl

-- that is told before an instant that is none
ended_before_range : answer_to lit table (end 5 ∷ []) too_early ≡ Err Ended
unfolding verdict state_of
ended_before_range = refl

-- and before a clock that goes back
ended_before_back : answer_to lit table (end 5 ∷ []) (stop 4) ≡ Err Ended
unfolding verdict state_of
ended_before_back = refl

-- what was halted may be ended, and then doesn't go on
ended_while_halted : answer_to lit table (end 5 ∷ stop 5 ∷ []) (go 5) ≡ Err Ended
unfolding verdict state_of
ended_while_halted = refl

-- after 2^64 - 1 commands none is accepted; that is told before an instant that is none
full_before_range : verdict_in lit table opened (2 ^ 64 - 1) commands.Epoch (negsuc 0) ≡ Err HistoryFull
full_before_range = refl

-- an epoch gives no room
full_of_epochs : verdict_in lit table opened (2 ^ 64 - 1) commands.Epoch (pos 0) ≡ Err HistoryFull
full_of_epochs = refl

-- the end is told before that
ended_before_full : verdict_in lit table (state_of lit table (end 5 ∷ [])) (2 ^ 64 - 1) commands.Epoch (ms 5) ≡ Err Ended
unfolding state_of
ended_before_full = refl

-- after one command less there is room for one
last_room : verdict_in lit table opened (2 ^ 64 - 2) commands.Epoch (pos 0) ≡ Ok Done
last_room = refl

-- ---- the raw instant

-- the latest command was at 5 ms: -1 is before it too, but is no instant at all
range_before_back : answer_to lit table (epoch 5 ∷ []) too_early ≡ Err InstantRange
unfolding verdict state_of
range_before_back = refl

-- 2^62 + 1 is none either
beyond_last : answer_to lit table [] too_late ≡ Err InstantRange
unfolding verdict state_of
beyond_last = refl

-- 2^62 is the last one
at_last : answer_to lit table [] (commands.Epoch, pos (2 ^ 62)) ≡ Ok Done
unfolding verdict state_of
at_last = refl

-- the raw instant is told before the mode
range_before_mode : answer_to lit table (stop 5 ∷ []) (commands.Scan (record { 0 = 0 }), pos (2 ^ 62 + 1)) ≡ Err InstantRange
unfolding verdict state_of
range_before_mode = refl

-- 4 ms is before 5 ms, also for a scan while halted
back_before_stopped : answer_to lit table (stop 5 ∷ []) (scan 4) ≡ Err ClockBack
unfolding verdict state_of
back_before_stopped = refl

-- and for one more Stop
back_before_not_running : answer_to lit table (stop 5 ∷ []) (stop 4) ≡ Err ClockBack
unfolding verdict state_of
back_before_not_running = refl

-- and for a Go while running
back_before_not_stopped : answer_to lit table (epoch 5 ∷ []) (go 4) ≡ Err ClockBack
unfolding verdict state_of
back_before_not_stopped = refl

-- it is the raw instant that may not go back: the run instant is 0, and 4 ms is refused
back_of_raw : answer_to lit table (epoch 5 ∷ stop 0 ∷ []) (epoch 4) ≡ Err ClockBack
unfolding verdict state_of
back_of_raw = refl

-- two commands may have one instant
at_once : answer_to lit table (stop 5 ∷ []) (go 5) ≡ Ok Done
unfolding verdict state_of
at_once = refl

-- ---- the mode

-- no scan while halted; that is told before a task that isn't there
stopped_before_task : answer_to lit table (stop 5 ∷ []) (scan_of 9 6) ≡ Err Stopped
unfolding verdict state_of
stopped_before_task = refl

-- while running there is no such task
no_task : answer_to lit table [] (scan_of 9 6) ≡ Err UnknownTask
unfolding verdict state_of core.state_of first_refusal
no_task = refl

-- a clock that no history leaves: halted at 2^62 + 1
abbrev past_the_last : DebugState
past_the_last = record {
  clock = record { mode = mode.Stopped; instant = pos (2 ^ 62 + 1); raw = pos 0 };
  points = [];
  events = [];
}

-- the mode is told before the run instant
stopped_before_range : verdict_in lit table past_the_last 1 (commands.Scan (record { 0 = 0 })) (pos 0) ≡ Err Stopped
stopped_before_range = refl

-- which is told to all other commands
range_of_all : verdict_in lit table past_the_last 1 commands.Epoch (pos 0) ≡ Err InstantRange
range_of_all = refl

-- what is halted is not halted once more
not_running : answer_to lit table (stop 5 ∷ []) (stop 6) ≡ Err NotRunning
unfolding verdict state_of
not_running = refl

-- what runs does not go on
go_while_running : answer_to lit table [] (go 0) ≡ Err NotStopped
unfolding verdict state_of
go_while_running = refl

-- nor has it single scans; that is told before a negative delta, and before a task that isn't there
single_while_running : answer_to lit table [] (single_of 9 (negsuc 0) 0) ≡ Err NotStopped
unfolding verdict state_of
single_while_running = refl

-- after Stop and Go it runs again
gone_on : answer_to lit table (go 6 ∷ stop 5 ∷ []) (go 7) ≡ Err NotStopped
unfolding verdict state_of
gone_on = refl

-- ---- the run instant

-- a single scan lets no negative time pass, though 5 ms less 1 us is an instant; that is told before a task that isn't there
negative_delta : answer_to lit table (stop 5 ∷ []) (single_of 9 (negsuc 0) 5) ≡ Err InstantRange
unfolding verdict state_of
negative_delta = refl

-- 1 ms and 2^62 us are beyond the last instant
passes_last : answer_to lit table (stop 1 ∷ []) (single_of 0 (pos (2 ^ 62)) 1) ≡ Err InstantRange
unfolding verdict state_of
passes_last = refl

-- so is the greatest delta that 64 bits hold
greatest_delta : answer_to lit table (stop 0 ∷ []) (single_of 0 (pos (2 ^ 63 - 1)) 0) ≡ Err InstantRange
unfolding verdict state_of
greatest_delta = refl

-- in the range of the delta, there is no such task
single_of_none : answer_to lit table (stop 5 ∷ []) (single_of 9 (pos 0) 5) ≡ Err UnknownTask
unfolding verdict state_of core.state_of first_refusal
single_of_none = refl

-- the run instant is 2^62, and time goes on
abbrev at_the_end : CommandHistory
at_the_end = go 0 ∷ single_of 0 (pos (2 ^ 62)) 0 ∷ stop 0 ∷ []

-- a microsecond later every command is refused by its run instant, one that names nothing too
run_out : answer_to lit table at_the_end (commands.Stop, pos 1) ≡ Err InstantRange
unfolding verdict state_of
run_out = refl

-- at once it is not
not_yet_out : answer_to lit table at_the_end (stop 0) ≡ Ok Done
unfolding verdict state_of
not_yet_out = refl

-- ---- points

-- there is no program instance 2; that is told before its points and its conditions
no_program : answer_to lit table [] (break_in 2 (at_step 9) 0) ≡ Err UnknownProgram
unfolding verdict state_of rank_order
no_program = refl

-- of a condition too
no_program_if : answer_to lit table [] (break_in_if 2 (at_step 9) 9 0) ≡ Err UnknownProgram
unfolding verdict state_of rank_order
no_program_if = refl

-- and where one is to be taken away
no_program_unset : answer_to lit table [] (unbreak_in 2 (at_step 9) 0) ≡ Err UnknownProgram
unfolding verdict state_of rank_order
no_program_unset = refl

-- the chart has two steps
no_step : answer_to lit table [] (break (at_step 2) 0) ≡ Err NoSuchPoint
unfolding verdict state_of rank_order
no_step = refl

-- one transition
no_transition : answer_to lit table [] (break (at_transition 1) 0) ≡ Err NoSuchPoint
unfolding verdict state_of rank_order
no_transition = refl

-- and one action
no_action : answer_to lit table [] (break (at_action 1) 0) ≡ Err NoSuchPoint
unfolding verdict state_of rank_order
no_action = refl

-- the last of each is there
last_step : answer_to lit table [] (break (at_step 1) 0) ≡ Ok Done
unfolding verdict state_of rank_order
last_step = refl

-- the transition
last_transition : answer_to lit table [] (break (at_transition 0) 0) ≡ Ok Done
unfolding verdict state_of rank_order
last_transition = refl

-- the action, of the other instance
last_action : answer_to lit table [] (break_in 1 (at_action 0) 0) ≡ Ok Done
unfolding verdict state_of rank_order
last_action = refl

-- what isn't set isn't taken away: step 0 is set, transition 0 is another point
not_set : answer_to lit table (break (at_step 0) 0 ∷ []) (unbreak (at_transition 0) 0) ≡ Err NoSuchPoint
unfolding verdict state_of rank_order
not_set = refl

-- nor is the same point of the other instance
not_set_there : answer_to lit table (break (at_step 0) 0 ∷ []) (unbreak_in 1 (at_step 0) 0) ≡ Err NoSuchPoint
unfolding verdict state_of rank_order
not_set_there = refl

-- what is set is, while halted too
taken_away : answer_to lit table (stop 0 ∷ break (at_step 0) 0 ∷ []) (unbreak (at_step 0) 0) ≡ Ok Done
unfolding verdict state_of rank_order
taken_away = refl

-- once
taken_once : answer_to lit table (unbreak (at_step 0) 0 ∷ break (at_step 0) 0 ∷ []) (unbreak (at_step 0) 0) ≡ Err NoSuchPoint
unfolding verdict state_of rank_order
taken_once = refl

-- ---- conditions

-- there is no step 2; that is told before the condition
point_before_condition : answer_to lit table [] (break_if (at_step 2) 9 0) ≡ Err NoSuchPoint
unfolding verdict state_of rank_order
point_before_condition = refl

-- the table has no condition 2
no_condition : answer_to lit table [] (break_if (at_step 1) 2 0) ≡ Err NoSuchCondition
unfolding verdict state_of rank_order
no_condition = refl

-- condition 1 is one of the other instance
of_another : answer_to lit table [] (break_if (at_step 1) 1 0) ≡ Err NoSuchCondition
unfolding verdict state_of rank_order
of_another = refl

-- its own is there
own_condition : answer_to lit table [] (break_if (at_step 1) 0 0) ≡ Ok Done
unfolding verdict state_of rank_order
own_condition = refl

-- a condition that isn't there is told though the point is set
no_condition_for_set : answer_to lit table (break (at_step 1) 0 ∷ []) (break_if (at_step 1) 2 0) ≡ Err NoSuchCondition
unfolding verdict state_of rank_order
no_condition_for_set = refl

-- ---- how many are set

abbrev so_many : ℕ → List Breakpoint
so_many n = replicate n (breakpoint 1 (at_step 0))

-- 64 are as many as may be
too_many : own_refusal lit table (so_many 64) (commands.Break (record { 0 = 0 }) (at_step 1)) ≡ Some TooManyPoints
unfolding rank_order
too_many = refl

-- with a condition too
too_many_if : own_refusal lit table (so_many 64) (commands.BreakIf (record { 0 = 0 }) (at_step 1) (record { 0 = 0 })) ≡ Some TooManyPoints
unfolding rank_order
too_many_if = refl

-- beside 63 there is room
room_for_one : own_refusal lit table (so_many 63) (commands.Break (record { 0 = 0 }) (at_step 1)) ≡ None
unfolding rank_order
room_for_one = refl

-- a point that is set needs none
room_for_set : own_refusal lit table (so_many 64) (commands.Break (record { 0 = 1 }) (at_step 0)) ≡ None
unfolding rank_order
room_for_set = refl

-- a point that isn't there is told before that
point_before_room : own_refusal lit table (so_many 64) (commands.Break (record { 0 = 0 }) (at_step 2)) ≡ Some NoSuchPoint
unfolding rank_order
point_before_room = refl

-- and a condition
condition_before_room : own_refusal lit table (so_many 64) (commands.BreakIf (record { 0 = 0 }) (at_step 1) (record { 0 = 2 }))
    ≡ Some NoSuchCondition
unfolding rank_order
condition_before_room = refl

-- a breakpoint at a point that is set is accepted
set_again : answer_to lit table (break (at_step 1) 0 ∷ []) (break (at_step 1) 0) ≡ Ok Done
unfolding verdict state_of rank_order
set_again = refl

-- and takes the place of the one that was there, with its condition
takes_its_place : points_in lit table (break_if (at_step 1) 0 0 ∷ break (at_step 0) 0 ∷ break (at_step 1) 0 ∷ [])
    ≡ breakpoint_if 0 (at_step 1) 0 ∷ breakpoint 0 (at_step 0) ∷ []
unfolding state_of
takes_its_place = refl

-- or without one
loses_condition : points_in lit table (break (at_step 1) 0 ∷ break_if (at_step 1) 0 0 ∷ []) ≡ breakpoint 0 (at_step 1) ∷ []
unfolding state_of
loses_condition = refl

-- a condition goes with its breakpoint
unset_with_condition : points_in lit table (unbreak (at_step 1) 0 ∷ break (at_step 0) 0 ∷ break_if (at_step 1) 0 0 ∷ [])
    ≡ breakpoint 0 (at_step 0) ∷ []
unfolding state_of
unset_with_condition = refl

-- ---- what the resource refuses, here while halted

-- the lamp is no input
no_input : answer_to lit table (stop 5 ∷ []) (input 1 (value.Bool true) 5) ≡ Err NotInput
unfolding verdict state_of core.state_of first_refusal turn_refusal
no_input = refl

-- Go is no INT
no_flag : answer_to lit table (stop 5 ∷ []) (force 0 (value.Int (pos 1)) 5) ≡ Err ValueType
unfolding verdict state_of core.state_of first_refusal turn_refusal
no_flag = refl

-- it is not forced
not_forced : answer_to lit table (stop 5 ∷ []) (release 0 5) ≡ Err NotForced
unfolding verdict state_of core.state_of first_refusal turn_refusal
not_forced = refl

-- there is no program instance 2
none_to_reset : answer_to lit table (stop 5 ∷ []) (reset 2 5) ≡ Err UnknownProgram
unfolding verdict state_of core.state_of first_refusal turn_refusal
none_to_reset = refl

-- ---- what is read

-- the plant has two variables
no_variable : answer_to lit table [] (read 2 0) ≡ Err UnknownVar
unfolding verdict state_of
no_variable = refl
