-- The lines of commands and of their answers (our choice of format).
use Rattle.std.specs.Prelude.{ℕ, suc, ◌==◌, Bool, true, false, List, [], ◌++◌, if◌then◌else◌, flat_map, length, ℤ, codes}
use Rattle.std.specs.Prelude.{Option, Some, None, Result, Ok, Err, slice_get}
use Rattle.std.specs.List.{range_with_len}
use Rattle.std.specs.Fmt.{decimal}
use Rattle.sfc_base.specs.TimeText.{time_text}
use Rattle.sfc_base.specs.declared.value.Value.{Value}
use Rattle.sfc_base.specs.declared.ids.ProgId.{ProgId}
use Rattle.sfc_base.specs.declared.ids.TaskId.{TaskId}
use Rattle.sfc_base.specs.declared.ids.VarId.{VarId}
use Rattle.sfc_plant.specs.declared.instance.Instance.{Instance}
use Rattle.sfc_plant.specs.Finding.{chart_of}
use Rattle.sfc_plant.specs.InstanceSpaces.{space_of}
use Rattle.sfc_plant.specs.Names.{step_name}
use Rattle.sfc_plant.specs.Plants.{PlantData}
use Rattle.sfc_plant.specs.Spaces.{Space}
use Rattle.sfc_debug.specs.sfc_tables.Tables.{Tabled, tables_of}
use Rattle.sfc_events.specs.declared.command.Answer.{Answer}
use Rattle.sfc_events.specs.declared.command.Answer.TheVariants as answers
use Rattle.sfc_events.specs.declared.command.Command.{Command}
use Rattle.sfc_events.specs.declared.command.Command.TheVariants as commands
use Rattle.sfc_events.specs.declared.command.Point.{Point}
use Rattle.sfc_events.specs.declared.command.Point.TheVariants as points
use Rattle.sfc_events.specs.declared.command.TraceRow.{TraceRow}
use Rattle.sfc_events.specs.InstanceSets.{has}
use Rattle.sfc_events.specs.declared.refusal.Refusal.{Refusal}
use Rattle.sfc_events.specs.declared.refusal.Refusal.TheVariants.{NotDue, Yield}
use Rattle.sfc_events.specs.Refusals.{refusal_text}
use Rattle.sfc_debug.specs.sfc_instance.declared.scan_end.ScanEnd.{ScanEnd}
use Rattle.sfc_debug.specs.sfc_instance.declared.scan_end.ScanEnd.TheVariants.{Ran, Faulted, Skipped}
use Rattle.sfc_debug.specs.sfc_instance.Life.{InstanceState}
use Rattle.sfc_expr.specs.Trees.{Expression}
use Rattle.sfc_debug.specs.sfc_core.PlantState as core
use Rattle.sfc_debug.specs.declared.debugger.Debugger.{Debugger}
use Rattle.sfc_debug.specs.Agreement.{plant_of, table_of}
use Rattle.sfc_debug.specs.Histories.{CommandHistory}
use Rattle.sfc_debug.specs.Hits.{shown_condition}
use Rattle.sfc_debug.specs.States.{DebugState, state_of}
use Rattle.sfc_list.specs.Expressions.{expression_text}
use Rattle.sfc_plant.specs.PlantNames.{task_name, instance_name, image_name}
use Rattle.sfc_debug.specs.sfc_tables.ActionNames.{numbered_action}
use Rattle.sfc_output.specs.Programs.{program_line}
use Rattle.sfc_debug.specs.Steered.{Steered, steered_by}
use Rattle.sfc_page.specs.Values.{line_end, value_text}

-- ---- breakpoints

-- a point of a chart with these names and tables; the number of a transition is printed from 1 on
abbrev pub point_text : Space → Tabled → Point → List ℕ
point_text space tables (points.Step s) = codes " STEP " ++ step_name space s
point_text space tables (points.Transition tr) = codes " TRANSITION " ++ decimal (suc tr.0)
point_text space tables (points.Action a) = codes " ACTION " ++ numbered_action space tables a.0

abbrev pub point_in : PlantData → ProgId → Point → Option Instance → List ℕ
point_in plant p point None = []
point_in plant p point (Some instance) = point_text (space_of plant p) (tables_of (chart_of plant p)) point

-- where a breakpoint stands: a program instance, and a point of its chart
abbrev pub place_text : PlantData → ProgId → Point → List ℕ
place_text plant p point = instance_name plant p ++ point_in plant p point (slice_get plant.instances p.0)

-- an expression, as the condition of a transition of this program instance is listed
abbrev pub expression_in : PlantData → ProgId → Expression → Option Instance → List ℕ
expression_in plant p e None = []
expression_in plant p e (Some instance) = expression_text (space_of plant p) [] e

-- a condition of breakpoints: a program instance, and an expression in it
abbrev pub condition_text : PlantData → Option (ProgId × Expression) → List ℕ
condition_text plant None = []
condition_text plant (Some c) = expression_in plant c.0 c.1 (slice_get plant.instances c.0.0)

-- ---- commands

-- a variable and a value
abbrev pub valued_text : PlantData → VarId → Value → List ℕ
valued_text plant id v = image_name plant id ++ codes " " ++ value_text v

-- a task, and the time that a single scan of it lets pass
abbrev pub single_text : PlantData → TaskId → ℤ → List ℕ
single_text plant task delta = codes " SINGLE " ++ task_name plant task ++ codes " " ++ time_text delta

-- the words of a command
abbrev pub command_text : Steered → Command → List ℕ
command_text steered (commands.Scan task) = codes " SCAN " ++ task_name steered.plant task
command_text steered (commands.Input id v) = codes " INPUT " ++ valued_text steered.plant id v
command_text steered (commands.Force id v) = codes " FORCE " ++ valued_text steered.plant id v
command_text steered (commands.Release id) = codes " RELEASE " ++ image_name steered.plant id
command_text steered (commands.Reset p) = codes " RESET " ++ instance_name steered.plant p
command_text steered (commands.Read id) = codes " READ " ++ image_name steered.plant id
command_text steered (commands.Break p point) = codes " BREAK " ++ place_text steered.plant p point
command_text steered (commands.BreakIf p point id) =
    codes " BREAK " ++ place_text steered.plant p point ++ codes " WHEN "
    ++ condition_text steered.plant (shown_condition (slice_get steered.table id.0))
command_text steered (commands.Unbreak p point) = codes " UNBREAK " ++ place_text steered.plant p point
command_text steered commands.Stop = codes " STOP"
command_text steered commands.Go = codes " GO"
command_text steered (commands.Single task delta) = single_text steered.plant task delta
command_text steered commands.End = codes " END"
command_text steered commands.Epoch = codes " EPOCH"

-- ---- answers

abbrev pub hit_text : Bool → List ℕ
hit_text true = codes " hit"
hit_text false = []

-- what the answer adds: what the variable reads, or the task's overruns and whether a breakpoint was hit
abbrev pub answer_text : Answer → List ℕ
answer_text answers.Done = []
answer_text (answers.Value v) = codes " " ++ value_text v
answer_text (answers.Scanned ran faulted skipped overruns hit) = codes " overruns " ++ decimal overruns ++ hit_text hit

-- the line of an accepted command: its run instant, its words, and what its answer adds
unfoldable pub command_line : Steered → Command → ℤ → Answer → List ℕ
command_line steered command t answer = time_text t ++ command_text steered command ++ answer_text answer ++ line_end

-- the line of a row of the trace: its number, and the line of its command
abbrev pub row_line : Steered → TraceRow → List ℕ
row_line steered row = decimal row.number ++ codes " " ++ command_line steered row.command row.t row.answer

-- what a refusal adds to its number and name: the next release, or the task that goes first
abbrev pub refusal_detail : PlantData → Refusal → List ℕ
refusal_detail plant (NotDue None) = codes " none"
refusal_detail plant (NotDue (Some t)) = codes " " ++ time_text t
refusal_detail plant (Yield task) = codes " " ++ task_name plant task
refusal_detail plant _ = []

-- the line of a refused command
unfoldable pub refusal_line : PlantData → Refusal → List ℕ
refusal_line plant refusal = refusal_text refusal ++ refusal_detail plant refusal ++ line_end

-- ---- the programs of a scan

-- how the scan of instance k ended, if the answer tells of it
abbrev pub scan_end_in : Answer → ℕ → Option ScanEnd
scan_end_in (answers.Scanned ran faulted skipped overruns hit) k =
    if has ran k then Some Ran else
    if has faulted k then Some Faulted else
    if has skipped k then Some Skipped else None
scan_end_in _ k = None

abbrev pub written_line : PlantData → (ℕ → InstanceState) → ℕ → Option ScanEnd → List ℕ
written_line plant instance_state k None = []
written_line plant instance_state k (Some scan_end) = program_line plant (record { 0 = k }) (instance_state k) scan_end

-- A line for each instance that an answer tells of, in text order; `instance_state` is how each instance stands after
-- the scan.
abbrev pub program_lines : PlantData → (ℕ → InstanceState) → Answer → List ℕ
program_lines plant instance_state answer =
    flat_map (λ k. written_line plant instance_state k (scan_end_in answer k)) (range_with_len 0 (length plant.instances))

-- The lines of a command that was answered so, at this run instant; `instance_state` is how each instance stands after it.
abbrev pub answer_lines : Steered → (ℕ → InstanceState) → Command → ℤ → Result Answer Refusal → List ℕ
answer_lines steered instance_state command t (Ok answer) =
    command_line steered command t answer ++ program_lines steered.plant instance_state answer
answer_lines steered instance_state command t (Err refusal) = refusal_line steered.plant refusal

-- The lines of a command that was answered so, where the debugger stands so after it.
abbrev pub lines_at : Steered → DebugState → Command → Result Answer Refusal → List ℕ
lines_at steered state command answer =
    answer_lines steered (core.state_of steered.plant state.events).instance_state command state.clock.instant answer

-- The lines of a command that this debugger answered so, where these are the commands that it has accepted.
abbrev pub lines_of : Debugger → CommandHistory → Command → Result Answer Refusal → List ℕ
lines_of debugger history command answer =
    lines_at (steered_by debugger) (state_of (plant_of debugger) (table_of debugger) history) command answer
