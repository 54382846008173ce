-- The run instant as a sum, the rows that are wanted, and the number of breakpoints in the work of a scan.
use Rattle.std.proofs.Common.{◌≡◌, ◌∙◌, refl, ap, arith, ◌+◌, ◌≤◌, List, [], ◌∷◌, length, filter, Ok}
use Rattle.std.proofs.Common.{ℤ, ◌+ℤ◌, ◌-ℤ◌}
use Rattle.std.proofs.lemmas.Int.{ints}
use Rattle.sfc_base.specs.declared.ids.TaskId.{TaskId}
use Rattle.sfc_plant.specs.Plants.{PlantData}
use Rattle.sfc_events.specs.declared.command.Answer.{Answer}
use Rattle.sfc_events.specs.declared.command.Command.{Command}
use Rattle.sfc_events.specs.declared.command.Command.TheVariants.{Scan}
use Rattle.sfc_events.specs.declared.event.Event.TheVariants as events
use Rattle.sfc_core.specs.Work.{event_work}
use Rattle.sfc_debug.specs.declared.break_condition.BreakCondition.{BreakCondition}
use Rattle.sfc_debug.specs.declared.breakpoint.Breakpoint.{Breakpoint}
use Rattle.sfc_debug.specs.declared.mode.Mode.{Mode}
use Rattle.sfc_debug.specs.declared.mode.Mode.TheVariants.{Running, Stopped, Ended}
use Rattle.sfc_debug.specs.declared.trace_mask.TraceMask.{TraceMask}
use Rattle.sfc_debug.specs.Histories.{CommandHistory}
use Rattle.sfc_debug.specs.Meaning.{IsAccepted}
use Rattle.sfc_debug.specs.RunClock.{delta_of, running_time}
use Rattle.sfc_debug.specs.States.{state_of}
use Rattle.sfc_debug.specs.Sums.{latest_raw, counted, running_stretches, single_deltas, answer_in, all_rows, wanted_rows, nodes_of_points}
use Rattle.sfc_debug.specs.Tracing.{is_wanted, row_of, with_row}
use Rattle.sfc_debug.specs.Verdict.{verdict}
use Rattle.sfc_debug.specs.Work.{command_work, points_work, condition_nodes}
use Rattle.sfc_debug.proofs.Setting.{fits}

raw_behind : (plant : PlantData) (table : List BreakCondition) (h : CommandHistory) → (state_of plant table h).clock.raw ≡ latest_raw h
unfolding state_of
raw_behind plant table [] = refl
raw_behind plant table (timed ∷ h) = refl

same_stretch : (mode : Mode) (since raw : ℤ) → running_time mode since raw ≡ counted mode (raw -ℤ since)
same_stretch Running since raw = refl
same_stretch Stopped since raw = refl
same_stretch Ended since raw = refl

sums : (a b c d : ℤ) → (a +ℤ b) +ℤ c +ℤ d ≡ (a +ℤ c) +ℤ (b +ℤ d)
sums a b c d = omega (arith, ints)

pub run_time : (plant : PlantData) (table : List BreakCondition) (h : CommandHistory)
    → (state_of plant table h).clock.instant ≡ running_stretches plant table h +ℤ single_deltas h
unfolding state_of
run_time plant table [] = refl
run_time plant table (timed ∷ h) =
    let clock = (state_of plant table h).clock in
    ap (λ t. t +ℤ running_time clock.mode clock.raw timed.1 +ℤ delta_of timed.0) (run_time plant table h)
    ∙ ap (λ t. (running_stretches plant table h +ℤ single_deltas h) +ℤ t +ℤ delta_of timed.0)
    (same_stretch clock.mode clock.raw timed.1 ∙ ap (λ since. counted clock.mode (timed.1 -ℤ since)) (raw_behind plant table h))
    ∙ sums (running_stretches plant table h) (single_deltas h) (counted clock.mode (timed.1 -ℤ latest_raw h)) (delta_of timed.0)

pub rows_more : (plant : PlantData) (table : List BreakCondition) (mask : TraceMask) (h : CommandHistory) (command : Command) (raw : ℤ)
    (answer : Answer) → verdict plant table h command raw ≡ Ok answer → wanted_rows plant table mask ((command, raw) ∷ h) ≡
    with_row mask (row_of plant table h command raw answer) (wanted_rows plant table mask h)
rows_more plant table mask h command raw answer given =
    ap (λ o. filter (λ row. is_wanted mask row.command) (row_of plant table h command raw (answer_in o) ∷ all_rows plant table h)) given

parted : (table : List BreakCondition) (set : List Breakpoint) → points_work table set ≡ length set + nodes_of_points table set
parted table [] = refl
parted table (breakpoint ∷ set) =
    ap (λ n. 1 + condition_nodes table breakpoint.condition + n) (parted table set)
    ∙ omega arith

pub scan_bound : (plant : PlantData) (table : List BreakCondition) (h : CommandHistory) (task : TaskId) → IsAccepted plant table h
    → command_work plant table (state_of plant table h).points (Scan task) ≤
    event_work plant (events.Scan task) + 64 + nodes_of_points table (state_of plant table h).points
scan_bound plant table h task accepted =
    let set = (state_of plant table h).points in
    let few : length set ≤ 64 = (fits plant table h accepted).count in
    let parts : points_work table set ≡ length set + nodes_of_points table set = parted table set in
    omega arith
