-- The run clock, single scans, what is read, and epochs: small plants at single moments.
use Rattle.std.proofs.Common.{◌≡◌, refl, ◌^◌, true, false, [], ◌∷◌, Some, None, Ok, Err, pos}
use Rattle.std.specs.Prelude.{codes}
use Rattle.sfc_base.specs.declared.qualifier.TimedQualifier.TheVariants.{Delayed}
use Rattle.sfc_base.specs.declared.value.Value.TheVariants as value
use Rattle.sfc_plant.specs.declared.association.Qualifier.TheVariants.{NonStored}
use Rattle.sfc_plant.specs.declared.task.Task.{Task}
use Rattle.sfc_plant.specs.Plants.{PlantData}
use Rattle.sfc_core.specs.sfc_tables.Ranks.{rank_order}
use Rattle.sfc_core.specs.sfc_instances.PlantState.{program_scan}
use Rattle.sfc_events.specs.declared.command.Answer.TheVariants.{Done, Value, Scanned}
use Rattle.sfc_events.specs.InstanceSets.{set_of}
use Rattle.sfc_events.specs.declared.refusal.Refusal.TheVariants.{NotDue, Stopped, Ended}
use Rattle.sfc_core.specs.PlantState as core
use Rattle.sfc_core.specs.Due.{singles_of, calls_of}
use Rattle.sfc_core.specs.Verdict.{first_refusal, turn_refusal, scan_answer}
use Rattle.sfc_core.proofs.MomentPlants as told
use Rattle.sfc_core.proofs.MomentPlants.{ms, flag, switch, sets, for, initial_step, chart, program, instance, plant, small}
use Rattle.sfc_core.proofs.MomentPlants.{single_task}
use Rattle.sfc_core.proofs.MomentPlants.{time_in, life_in}
use Rattle.sfc_debug.specs.declared.mode.Mode.TheVariants as mode
use Rattle.sfc_debug.specs.Histories.{CommandHistory}
use Rattle.sfc_debug.specs.Hits.{is_hit}
use Rattle.sfc_debug.specs.States.{state_of, erasure}
use Rattle.sfc_debug.specs.Verdict.{verdict, after}
use Rattle.sfc_debug.proofs.MomentsCommands.{scan, single, single_of, input, force, read, stop, go, end, epoch, answer_to, run_at}
use Rattle.sfc_debug.proofs.MomentsCommands.{release, reset, break, at_step, mode_in}
use Rattle.sfc_debug.proofs.MomentsTurns.{sole}

-- ---- Stop and Go beside an on-delay: a step has V after 30 ms, and its task has an interval of 10 ms

abbrev delayed : PlantData
delayed = small (flag (codes "V") ∷ []) (chart (initial_step (sets (for Delayed 30) 0 ∷ []) ∷ []) [] [])

-- scans at 0 and 10 ms, and Stop at 12 ms
abbrev halted : CommandHistory
halted = stop 12 ∷ scan 10 ∷ scan 0 ∷ []

-- five seconds later Go
abbrev gone_on : CommandHistory
gone_on = go 5_012 ∷ halted

-- while running, raw time counts from the beginning
counts : run_at delayed [] (epoch 3 ∷ []) ≡ ms 3
unfolding state_of
counts = refl

-- at Stop it is 12 ms
stopped_at : run_at delayed [] halted ≡ ms 12
unfolding state_of
stopped_at = refl

-- and stands still
stands_still : run_at delayed [] (epoch 4_000 ∷ halted) ≡ ms 12
unfolding state_of
stands_still = refl

-- a scan is refused, and leaves nothing
refused_leaves_nothing : after delayed [] halted (scan 4_000) ≡ halted
unfolding verdict state_of
refused_leaves_nothing = refl

-- Go happens at 12 ms
goes_on_there : run_at delayed [] gone_on ≡ ms 12
unfolding state_of
goes_on_there = refl

-- and a millisecond later it is 13 ms
counts_on : run_at delayed [] (epoch 5_013 ∷ gone_on) ≡ ms 13
unfolding state_of
counts_on = refl

-- of two stretches between Stop and Go neither counts: 5 ms, 2 ms and 1 ms were spent in Running
counts_all : run_at delayed [] (epoch 21 ∷ go 20 ∷ stop 12 ∷ go 10 ∷ stop 5 ∷ []) ≡ ms 8
unfolding state_of
counts_all = refl

-- at 17 ms of run time no release waits: the next one that is told is in run time
not_due_yet : answer_to delayed [] gone_on (scan 5_017) ≡ Err (NotDue (Some (ms 20)))
unfolding verdict state_of core.state_of singles_of calls_of first_refusal turn_refusal
not_due_yet = refl

-- at 20 ms one does; while halted none came, so there is no overrun
due_then : answer_to delayed [] gone_on (scan 5_020) ≡ Ok (Scanned (set_of 1) (set_of 0) (set_of 0) 0 false)
unfolding verdict state_of is_hit core.state_of program_scan rank_order singles_of calls_of scan_answer
due_then = sole delayed (erasure delayed [] gone_on) (ms 20) false refl refl refl

-- the step's time is that of the run clock
step_goes_on : time_in delayed 0 0 (erasure delayed [] (scan 5_020 ∷ gone_on)) ≡ ms 20
unfolding state_of core.state_of program_scan rank_order
step_goes_on = refl

-- so the delay isn't over: V is FALSE
delay_goes_on : answer_to delayed [] (scan 5_020 ∷ gone_on) (read 0 5_020) ≡ Ok (Value (value.Bool false))
unfolding verdict state_of core.state_of program_scan rank_order
delay_goes_on = refl

-- at 30 ms it is
delay_over : answer_to delayed [] (scan 5_030 ∷ scan 5_020 ∷ gone_on) (read 0 5_030) ≡ Ok (Value (value.Bool true))
unfolding verdict state_of core.state_of program_scan rank_order
delay_over = refl

-- the resource was told four scans, at 0, 10, 20 and 30 ms, and nothing else
told_scans : erasure delayed [] (scan 5_030 ∷ scan 5_020 ∷ gone_on) ≡ told.scans 4
unfolding state_of
told_scans = refl

-- ---- single scans of this task

-- at once: the release at 0 is served
single_at_once : answer_to delayed [] (stop 0 ∷ []) (single 0 5) ≡ Ok (Scanned (set_of 1) (set_of 0) (set_of 0) 0 false)
unfolding verdict state_of core.state_of program_scan rank_order singles_of calls_of first_refusal turn_refusal scan_answer
single_at_once = refl

-- it lets no time pass
no_time_passes : run_at delayed [] (single 0 5 ∷ stop 0 ∷ []) ≡ ms 0
unfolding state_of
no_time_passes = refl

-- and at once again, though no release waits
single_undue : answer_to delayed [] (single 0 5 ∷ stop 0 ∷ []) (single 0 5) ≡ Ok (Scanned (set_of 1) (set_of 0) (set_of 0) 0 false)
unfolding verdict state_of core.state_of program_scan rank_order singles_of calls_of first_refusal turn_refusal scan_answer
single_undue = refl

-- both are scans of one life
two_scans : life_in delayed 0 (erasure delayed [] (single 0 5 ∷ single 0 5 ∷ stop 0 ∷ [])) ≡ 2
unfolding state_of core.state_of program_scan rank_order
two_scans = refl

-- 30 ms later the delay is over: single scans let time pass for it
delay_by_singles : answer_to delayed [] (single 30 5 ∷ single 0 5 ∷ stop 0 ∷ []) (read 0 5) ≡ Ok (Value (value.Bool true))
unfolding verdict state_of core.state_of program_scan rank_order
delay_by_singles = refl

-- they serve what waits: 0, 10, 20 and 30 ms, of which three are overruns
serves_all : answer_to delayed [] (stop 0 ∷ []) (single 30 5) ≡ Ok (Scanned (set_of 1) (set_of 0) (set_of 0) 3 false)
unfolding verdict state_of core.state_of program_scan rank_order singles_of calls_of first_refusal turn_refusal scan_answer
serves_all = refl

-- so after 7 ms a scan waits for the release at 10 ms
served_by_single : answer_to delayed [] (go 2 ∷ single 7 1 ∷ stop 0 ∷ []) (scan 2) ≡ Err (NotDue (Some (ms 10)))
unfolding verdict state_of core.state_of singles_of calls_of first_refusal turn_refusal
served_by_single = refl

-- after a single scan no task is scanned but by one more
halted_still : answer_to delayed [] (single 7 1 ∷ stop 0 ∷ []) (scan 10) ≡ Err Stopped
unfolding verdict state_of
halted_still = refl

-- ---- the last instant: a task by half of the time that there is

abbrev half_of_time : PlantData
half_of_time =
    let half : Task = record { name = codes "T"; single = None; interval = pos (2 ^ 61); priority = 1 } in
    plant [] (half ∷ []) (program [] (chart (initial_step [] ∷ []) [] []) ∷ []) (instance 0 0 ∷ [])

-- a single scan may let all of it pass, and serves 0, 2^61 and 2^62
all_of_time : answer_to half_of_time [] (stop 0 ∷ []) (single_of 0 (pos (2 ^ 62)) 5) ≡ Ok (Scanned (set_of 1) (set_of 0) (set_of 0) 2 false)
unfolding verdict state_of core.state_of program_scan rank_order singles_of calls_of first_refusal turn_refusal scan_answer
all_of_time = refl

-- it is the last instant then
at_the_last : run_at half_of_time [] (single_of 0 (pos (2 ^ 62)) 5 ∷ stop 0 ∷ []) ≡ pos (2 ^ 62)
unfolding state_of
at_the_last = refl

-- ---- what else is accepted while halted: a switch, and a step with a lamp

abbrev lit : PlantData
lit = small (switch (codes "Go") false ∷ flag (codes "Lamp") ∷ []) (chart (initial_step (sets NonStored 1 ∷ []) ∷ []) [] [])

-- an input
input_while_halted : answer_to lit [] (stop 12 ∷ []) (input 0 (value.Bool true) 4_000) ≡ Ok Done
unfolding verdict state_of core.state_of first_refusal turn_refusal
input_while_halted = refl

-- which happens at the run instant
input_at : erasure lit [] (input 0 (value.Bool true) 4_000 ∷ stop 12 ∷ []) ≡ told.input 0 (value.Bool true) 12 ∷ []
unfolding state_of
input_at = refl

-- while running the lamp reads what the scan assigned
read_while_running : answer_to lit [] (scan 0 ∷ []) (read 1 5) ≡ Ok (Value (value.Bool true))
unfolding verdict state_of core.state_of program_scan rank_order
read_while_running = refl

-- and while halted
read_while_halted : answer_to lit [] (stop 2 ∷ scan 0 ∷ []) (read 1 5) ≡ Ok (Value (value.Bool true))
unfolding verdict state_of core.state_of program_scan rank_order
read_while_halted = refl

-- what is forced reads the force, set while halted too
read_forced : answer_to lit [] (force 1 (value.Bool false) 4 ∷ stop 2 ∷ scan 0 ∷ []) (read 1 5) ≡ Ok (Value (value.Bool false))
unfolding verdict state_of core.state_of program_scan rank_order
read_forced = refl

-- after the end nothing is read
read_after_end : answer_to lit [] (end 2 ∷ scan 0 ∷ []) (read 1 5) ≡ Err Ended
unfolding verdict state_of
read_after_end = refl

-- a read changes nothing: at 10 ms the scan is what it would have been
read_leaves_nothing : erasure lit [] (scan 10 ∷ read 1 5 ∷ scan 0 ∷ []) ≡ told.scans 2
unfolding state_of
read_leaves_nothing = refl

-- a force, its release, a reset and a breakpoint are accepted while halted
force_while_halted : answer_to lit [] (stop 2 ∷ []) (force 1 (value.Bool true) 4) ≡ Ok Done
unfolding verdict state_of core.state_of first_refusal turn_refusal
force_while_halted = refl

-- the release
release_while_halted : answer_to lit [] (force 1 (value.Bool true) 4 ∷ stop 2 ∷ []) (release 1 4) ≡ Ok Done
unfolding verdict state_of core.state_of first_refusal turn_refusal
release_while_halted = refl

-- the reset
reset_while_halted : answer_to lit [] (stop 2 ∷ []) (reset 0 4) ≡ Ok Done
unfolding verdict state_of core.state_of first_refusal turn_refusal
reset_while_halted = refl

-- the breakpoint
break_while_halted : answer_to lit [] (stop 2 ∷ []) (break (at_step 0) 4) ≡ Ok Done
unfolding verdict state_of rank_order
break_while_halted = refl

-- and the end
end_while_halted : answer_to lit [] (stop 2 ∷ []) (end 4) ≡ Ok Done
unfolding verdict state_of
end_while_halted = refl

-- ---- a task by a rise of the switch, without an interval

abbrev by_rise : PlantData
by_rise = plant (switch (codes "Go") false ∷ []) (single_task 0 0 1 ∷ []) (program [] (chart (initial_step [] ∷ []) [] []) ∷ [])
    (instance 0 0 ∷ [])

-- it rises while halted, and waits: a scan after Go is due
rise_while_halted : answer_to by_rise [] (go 200 ∷ input 0 (value.Bool true) 100 ∷ stop 5 ∷ []) (scan 201)
    ≡ Ok (Scanned (set_of 1) (set_of 0) (set_of 0) 0 false)
unfolding verdict state_of is_hit core.state_of program_scan rank_order singles_of calls_of scan_answer
rise_while_halted =
    sole by_rise (erasure by_rise [] (go 200 ∷ input 0 (value.Bool true) 100 ∷ stop 5 ∷ [])) (ms 6) false refl refl refl

-- ---- epochs

-- while running
epoch_while_running : answer_to lit [] (scan 0 ∷ []) (epoch 15) ≡ Ok Done
unfolding verdict state_of
epoch_while_running = refl

-- and while halted
epoch_while_halted : answer_to lit [] (stop 2 ∷ scan 0 ∷ []) (epoch 15) ≡ Ok Done
unfolding verdict state_of
epoch_while_halted = refl

-- which it leaves so
epoch_leaves_halted : mode_in lit [] (epoch 15 ∷ stop 2 ∷ scan 0 ∷ []) ≡ mode.Stopped
unfolding state_of
epoch_leaves_halted = refl

-- the releases that wait are kept: 10 and 20 ms, of which one is an overrun
epoch_keeps_releases : answer_to lit [] (epoch 15 ∷ scan 0 ∷ []) (scan 20) ≡ Ok (Scanned (set_of 1) (set_of 0) (set_of 0) 1 false)
unfolding verdict state_of is_hit core.state_of program_scan rank_order singles_of calls_of scan_answer
epoch_keeps_releases = sole lit (erasure lit [] (epoch 15 ∷ scan 0 ∷ [])) (ms 20) false refl refl refl
