-- Worked sequences: two tasks, single scans of one task, and a breakpoint that halts beside an on-delay.
use Rattle.std.proofs.Common.{◌≡◌, refl, arith, ap, zero, suc, true, false, List, [], ◌∷◌, ℤ, Some, None, Ok, Err}
use Rattle.std.specs.Prelude.{codes}
use Rattle.sfc_base.specs.declared.qualifier.TimedQualifier.TheVariants.{Delayed}
use Rattle.sfc_base.specs.declared.value.Value.TheVariants as value
use Rattle.sfc_base.specs.declared.var_type.VarType.TheVariants as types
use Rattle.sfc_expr.specs.declared.operator.Operator.TheVariants as op
use Rattle.sfc_expr.specs.Trees.{Expression, Binary}
use Rattle.sfc_plant.specs.declared.association.Qualifier.TheVariants.{NonStored}
use Rattle.sfc_plant.specs.Plants.{PlantData}
use Rattle.sfc_core.specs.sfc_tables.Ranks.{rank_order}
use Rattle.sfc_core.specs.sfc_instances.PlantState.{program_scan}
use Rattle.sfc_events.specs.declared.command.Answer.TheVariants.{Done, Value, Scanned}
use Rattle.sfc_events.specs.InstanceSets.{set_of}
use Rattle.sfc_events.specs.declared.event.Event.TheVariants.{Scan}
use Rattle.sfc_events.specs.declared.refusal.Refusal.{Refusal}
use Rattle.sfc_events.specs.declared.refusal.Refusal.TheVariants.{NotDue, Yield, Stopped, NotRunning, NotStopped, NoSuchCondition}
use Rattle.sfc_events.specs.History.{History, last_instant}
use Rattle.sfc_core.specs.PlantState as core_state
use Rattle.sfc_core.specs.Due.{singles_of, calls_of, calls_at}
use Rattle.sfc_core.specs.Verdict as core
use Rattle.sfc_core.specs.Verdict.{instant_refusal, due_refusal, answer, first_refusal, turn_refusal, scan_answer}
use Rattle.sfc_core.proofs.Turns.{picked_first, picked_runs, behind_refused}
use Rattle.sfc_core.proofs.MomentPlants as told
use Rattle.sfc_core.proofs.MomentPlants.{ms, flag, lasts, sets, for, initial_step, step, goes, chart, task, program, instance, plant}
use Rattle.sfc_core.proofs.MomentPlants.{small, reads, number, active, time_in}
use Rattle.sfc_debug.specs.declared.break_condition.BreakCondition.{BreakCondition}
use Rattle.sfc_debug.specs.declared.mode.Mode.TheVariants as mode
use Rattle.sfc_debug.specs.Histories.{TimedCommand, CommandHistory}
use Rattle.sfc_debug.specs.Hits.{is_hit}
use Rattle.sfc_debug.specs.States.{state_of, erasure}
use Rattle.sfc_debug.specs.Verdict.{verdict, answer_by, after_all}
use Rattle.sfc_debug.proofs.MomentsCommands.{scan, scan_of, single, read, stop, go, break, break_if, at_step, at_action, answer_to, run_at}
use Rattle.sfc_debug.proofs.MomentsCommands.{condition_of, mode_in}
use Rattle.sfc_debug.proofs.MomentsTurns.{task_0, task_1, since_of, waits_of, idle_of, sole}

-- ---- Hi, of 20 ms and priority 0, and Lo, of 10 ms and priority 5: the tasks 0 and 1, each with one instance of one step

abbrev both : PlantData
both = plant (flag (codes "Lamp") ∷ []) (task 20 0 ∷ task 10 5 ∷ [])
    (program [] (chart (initial_step (sets NonStored 0 ∷ []) ∷ []) [] []) ∷ [])
    (instance 0 0 ∷ instance 1 0 ∷ [])

-- Hi is due: it goes first, since its priority is the lowest number.
hi_accepted : (h : History) (t : ℤ) → instant_refusal (last_instant h) t ≡ None
    → due_refusal both.tasks (singles_of both h) (calls_at both h t) task_0 t ≡ None
    → core.verdict both h (Scan task_0) t ≡ Ok (answer both h (Scan task_0) t)
hi_accepted h t instant due =
    picked_runs both h task_0 t instant (record {
      number = omega arith;
      since = since_of _ _ due;
      waits = waits_of _ _ due;
      first = elim [
        | zero ↦ λ other lt differs waits. absurd (differs refl)
        | suc zero ↦ λ other lt differs waits. record {
          priority = omega arith;
          since = λ same. absurd (omega (arith, same));
          number = λ same equal. absurd (omega (arith, same));
        }
        | suc (suc n) ↦ λ other lt differs waits. absurd (omega (arith, lt))
      ];
    })

-- Both are due: Lo waits for Hi.
lo_yields : (h : History) (t : ℤ) → instant_refusal (last_instant h) t ≡ None
    → due_refusal both.tasks (singles_of both h) (calls_at both h t) task_0 t ≡ None
    → due_refusal both.tasks (singles_of both h) (calls_at both h t) task_1 t ≡ None
    → core.verdict both h (Scan task_1) t ≡ Err (Yield task_0)
lo_yields h t instant hi_due lo_due =
    behind_refused both h task_1 t task_0 (since_of _ _ lo_due) instant (omega arith) (waits_of _ _ lo_due)
    (picked_first both h task_0 t (answer both h (Scan task_0) t) (hi_accepted h t instant hi_due)) (λ e. absurd (omega (arith, e)))

-- Lo is due, and Hi is not: Lo goes first.
lo_accepted : (h : History) (t : ℤ) (why : Refusal) → instant_refusal (last_instant h) t ≡ None
    → due_refusal both.tasks (singles_of both h) (calls_at both h t) task_0 t ≡ Some why
    → due_refusal both.tasks (singles_of both h) (calls_at both h t) task_1 t ≡ None
    → core.verdict both h (Scan task_1) t ≡ Ok (answer both h (Scan task_1) t)
lo_accepted h t why instant hi_idle lo_due =
    picked_runs both h task_1 t instant (record {
      number = omega arith;
      since = since_of _ _ lo_due;
      waits = waits_of _ _ lo_due;
      first = elim [
        | zero ↦ λ other lt differs waits. let idle = idle_of _ _ _ hi_idle in absurd cc
        | suc zero ↦ λ other lt differs waits. absurd (differs refl)
        | suc (suc n) ↦ λ other lt differs waits. absurd (omega (arith, lt))
      ];
    })

-- both were scanned at 0
abbrev begun : CommandHistory
begun = scan_of 1 0 ∷ scan_of 0 0 ∷ []

-- and at 35 ms
abbrev late : CommandHistory
late = scan_of 1 35 ∷ scan_of 0 35 ∷ begun

-- at 0 both are due: Lo waits
lo_waits : answer_to both [] [] (scan_of 1 0) ≡ Err (Yield task_0)
unfolding verdict state_of is_hit core_state.state_of program_scan rank_order singles_of calls_of
lo_waits = ap (answer_by false) (lo_yields [] (ms 0) refl refl refl)

-- Hi goes first
hi_goes : answer_to both [] [] (scan_of 0 0) ≡ Ok (Scanned (set_of 1) (set_of 0) (set_of 0) 0 false)
unfolding verdict state_of is_hit core_state.state_of program_scan rank_order singles_of calls_of scan_answer
hi_goes = ap (answer_by false) (hi_accepted [] (ms 0) refl refl)

-- then Lo, of which instance 1 is
lo_goes : answer_to both [] (scan_of 0 0 ∷ []) (scan_of 1 0) ≡ Ok (Scanned (set_of 2) (set_of 0) (set_of 0) 0 false)
unfolding verdict state_of is_hit core_state.state_of program_scan rank_order singles_of calls_of scan_answer
lo_goes = ap (answer_by false) (lo_accepted (erasure both [] (scan_of 0 0 ∷ [])) (ms 0) (NotDue (Some (ms 20))) refl refl refl)

-- at 5 ms it is not due: its next multiple is 10 ms
lo_not_due : answer_to both [] begun (scan_of 1 5) ≡ Err (NotDue (Some (ms 10)))
unfolding verdict state_of core_state.state_of singles_of calls_of first_refusal turn_refusal
lo_not_due = refl

-- at 35 ms Hi waits since 20 ms, and nothing else of it came: no overrun
hi_in_time : answer_to both [] begun (scan_of 0 35) ≡ Ok (Scanned (set_of 1) (set_of 0) (set_of 0) 0 false)
unfolding verdict state_of is_hit core_state.state_of program_scan rank_order singles_of calls_of scan_answer
hi_in_time = ap (answer_by false) (hi_accepted (erasure both [] begun) (ms 35) refl refl)

-- of Lo 10, 20 and 30 ms wait: two overruns
lo_late : answer_to both [] (scan_of 0 35 ∷ begun) (scan_of 1 35) ≡ Ok (Scanned (set_of 2) (set_of 0) (set_of 0) 2 false)
unfolding verdict state_of is_hit core_state.state_of program_scan rank_order singles_of calls_of scan_answer
lo_late = ap (answer_by false) (lo_accepted (erasure both [] (scan_of 0 35 ∷ begun)) (ms 35) (NotDue (Some (ms 40))) refl refl refl)

-- at 36 ms Hi is not due: its next multiple is 40 ms
hi_not_due : answer_to both [] late (scan_of 0 36) ≡ Err (NotDue (Some (ms 40)))
unfolding verdict state_of core_state.state_of singles_of calls_of first_refusal turn_refusal
hi_not_due = refl

-- ---- one task of 10 ms, with single scans

abbrev one : PlantData
one = small (flag (codes "Lamp") ∷ []) (chart (initial_step (sets NonStored 0 ∷ []) ∷ []) [] [])

-- what is accepted of it
abbrev singles : CommandHistory
singles = go 4 ∷ single 2 3 ∷ single 7 2 ∷ stop 0 ∷ []

-- while running there are no single scans
single_not_yet : answer_to one [] [] (single 7 0) ≡ Err NotStopped
unfolding verdict state_of
single_not_yet = refl

-- Stop
halts : answer_to one [] [] (stop 0) ≡ Ok Done
unfolding verdict state_of
halts = refl

-- while halted no task is scanned
scan_not_yet : answer_to one [] (stop 0 ∷ []) (scan 1) ≡ Err Stopped
unfolding verdict state_of
scan_not_yet = refl

-- but one at a time, here 7 ms later
first_single : answer_to one [] (stop 0 ∷ []) (single 7 2) ≡ Ok (Scanned (set_of 1) (set_of 0) (set_of 0) 0 false)
unfolding verdict state_of core_state.state_of program_scan rank_order singles_of calls_of first_refusal turn_refusal scan_answer
first_single = refl

-- at 7 ms, whatever the raw instant is
first_at : run_at one [] (single 7 2 ∷ stop 0 ∷ []) ≡ ms 7
unfolding state_of
first_at = refl

-- and 2 ms later
second_single : answer_to one [] (single 7 2 ∷ stop 0 ∷ []) (single 2 3) ≡ Ok (Scanned (set_of 1) (set_of 0) (set_of 0) 0 false)
unfolding verdict state_of core_state.state_of program_scan rank_order singles_of calls_of first_refusal turn_refusal scan_answer
second_single = refl

-- at 9 ms
second_at : run_at one [] (single 2 3 ∷ single 7 2 ∷ stop 0 ∷ []) ≡ ms 9
unfolding state_of
second_at = refl

-- it is halted already
halted_already : answer_to one [] (single 2 3 ∷ single 7 2 ∷ stop 0 ∷ []) (stop 4) ≡ Err NotRunning
unfolding verdict state_of
halted_already = refl

-- Go
goes_on : answer_to one [] (single 2 3 ∷ single 7 2 ∷ stop 0 ∷ []) (go 4) ≡ Ok Done
unfolding verdict state_of
goes_on = refl

-- at 9 ms still
goes_on_at : run_at one [] singles ≡ ms 9
unfolding state_of
goes_on_at = refl

-- a millisecond later the task is due
due_again : answer_to one [] singles (scan 5) ≡ Ok (Scanned (set_of 1) (set_of 0) (set_of 0) 0 false)
unfolding verdict state_of is_hit core_state.state_of program_scan rank_order singles_of calls_of scan_answer
due_again = sole one (erasure one [] singles) (ms 10) false refl refl refl

-- at 10 ms
due_at : run_at one [] (scan 5 ∷ singles) ≡ ms 10
unfolding state_of
due_at = refl

-- when the step is active since 7 ms
since_first : time_in one 0 0 (erasure one [] (scan 5 ∷ singles)) ≡ ms 3
unfolding state_of core_state.state_of program_scan rank_order
since_first = refl

-- the resource was told a scan that was due, and two that needn't be
told_singles : erasure one [] (scan 5 ∷ singles) ≡ told.scan 10 ∷ told.forced_scan 9 ∷ told.forced_scan 7 ∷ []
unfolding state_of
told_singles = refl

abbrev script : List TimedCommand
script = single 7 0 ∷ stop 0 ∷ scan 1 ∷ single 7 2 ∷ single 2 3 ∷ stop 4 ∷ go 4 ∷ []

-- of the seven commands before that scan the three that are refused leave nothing
four_accepted : after_all one [] [] script ≡ singles
unfolding verdict state_of core_state.state_of first_refusal turn_refusal scan_answer
four_accepted = refl

-- ---- a breakpoint beside an on-delay: step 0 has V after 30 ms; after 20 ms step 2 follows step 1

abbrev branched : PlantData
branched = small (flag (codes "V") ∷ [])
    (chart (initial_step (sets (for Delayed 30) 0 ∷ []) ∷ initial_step [] ∷ step [] ∷ []) (goes 1 2 (lasts 1 20) ∷ []) [])

-- step 2 is watched
abbrev watched : CommandHistory
watched = scan 10 ∷ scan 0 ∷ break (at_step 2) 0 ∷ []

abbrev hit : CommandHistory
hit = scan 20 ∷ watched

-- at 20 ms it is activated: a hit
hits_at_20 : answer_to branched [] watched (scan 20) ≡ Ok (Scanned (set_of 1) (set_of 0) (set_of 0) 0 true)
unfolding verdict state_of is_hit core_state.state_of program_scan rank_order singles_of calls_of scan_answer
hits_at_20 = sole branched (erasure branched [] watched) (ms 20) true refl refl refl

-- at 10 ms it wasn't
no_hit_at_10 : answer_to branched [] (scan 0 ∷ break (at_step 2) 0 ∷ []) (scan 10) ≡ Ok (Scanned (set_of 1) (set_of 0) (set_of 0) 0 false)
unfolding verdict state_of is_hit core_state.state_of program_scan rank_order singles_of calls_of scan_answer
no_hit_at_10 = sole branched (erasure branched [] (scan 0 ∷ break (at_step 2) 0 ∷ [])) (ms 10) false refl refl refl

-- the hit halts
halted_then : answer_to branched [] hit (scan 1_000) ≡ Err Stopped
unfolding verdict state_of is_hit core_state.state_of program_scan rank_order
halted_then = refl

-- five seconds later it goes on, at 20 ms
on_again_at : run_at branched [] (go 5_000 ∷ hit) ≡ ms 20
unfolding state_of is_hit core_state.state_of program_scan rank_order
on_again_at = refl

-- 10 ms later the task is due; the breakpoint is set still, but step 2 was activated before
due_after_hit : answer_to branched [] (go 5_000 ∷ hit) (scan 5_010) ≡ Ok (Scanned (set_of 1) (set_of 0) (set_of 0) 0 false)
unfolding verdict state_of is_hit core_state.state_of program_scan rank_order singles_of calls_of scan_answer
due_after_hit = sole branched (erasure branched [] (go 5_000 ∷ hit)) (ms 30) false refl refl refl

-- the delay is over at 30 ms of run time, though five seconds of raw time were spent
delay_over : answer_to branched [] (scan 5_010 ∷ go 5_000 ∷ hit) (read 0 5_010) ≡ Ok (Value (value.Bool true))
unfolding verdict state_of is_hit core_state.state_of program_scan rank_order
delay_over = refl

-- the steps 0 and 2 are active
active_after : active branched (erasure branched [] (scan 5_010 ∷ go 5_000 ∷ hit)) ≡ 0 ∷ 2 ∷ []
unfolding state_of is_hit core_state.state_of program_scan rank_order
active_after = refl

-- step 2 for 10 ms
time_after : time_in branched 0 2 (erasure branched [] (scan 5_010 ∷ go 5_000 ∷ hit)) ≡ ms 10
unfolding state_of is_hit core_state.state_of program_scan rank_order
time_after = refl

-- The conditions 0 to 2: V, whether step 2 lasts for 10 ms, and 1 / 0 = 1.
abbrev table : List BreakCondition
table =
    let faulty : Expression = Binary op.Equal types.Int (Binary op.Divide types.Int (number 1) (number 0)) (number 1) in
    condition_of 0 (reads 0) ∷ condition_of 0 (lasts 2 10) ∷ condition_of 0 faulty ∷ []

-- three scans after a breakpoint that they don't hit
abbrev passed : TimedCommand → CommandHistory
passed set = scan 20 ∷ scan 10 ∷ scan 0 ∷ set ∷ []

-- at 20 ms V is FALSE
while_dark : answer_to branched table (scan 10 ∷ scan 0 ∷ break_if (at_step 2) 0 0 ∷ []) (scan 20) ≡ Ok (Scanned (set_of 1) (set_of 0) (set_of 0) 0 false)
unfolding verdict state_of is_hit core_state.state_of program_scan rank_order singles_of calls_of scan_answer
while_dark =
    sole branched (erasure branched table (scan 10 ∷ scan 0 ∷ break_if (at_step 2) 0 0 ∷ [])) (ms 20) false refl refl refl

-- at 30 ms V's action is executed, and step 2 lasts for 10 ms
so_long : answer_to branched table (passed (break_if (at_action 0) 1 0)) (scan 30) ≡ Ok (Scanned (set_of 1) (set_of 0) (set_of 0) 0 true)
unfolding verdict state_of is_hit core_state.state_of program_scan rank_order singles_of calls_of scan_answer
so_long = sole branched (erasure branched table (passed (break_if (at_action 0) 1 0))) (ms 30) true refl refl refl

-- with a condition that faults that is no hit
at_fault : answer_to branched table (passed (break_if (at_action 0) 2 0)) (scan 30) ≡ Ok (Scanned (set_of 1) (set_of 0) (set_of 0) 0 false)
unfolding verdict state_of is_hit core_state.state_of program_scan rank_order singles_of calls_of scan_answer
at_fault = sole branched (erasure branched table (passed (break_if (at_action 0) 2 0))) (ms 30) false refl refl refl

-- the scans before were accepted, since they hit nothing
passed_running : mode_in branched table (passed (break_if (at_action 0) 1 0)) ≡ mode.Running
unfolding state_of is_hit core_state.state_of program_scan rank_order
passed_running = refl

-- where there are no conditions, none is there
none_there : answer_to branched [] [] (break_if (at_step 2) 0 0) ≡ Err NoSuchCondition
unfolding verdict state_of rank_order
none_there = refl
