-- What a run tells beside its lines (our choice of format).
use Rattle.std.specs.Prelude.{ℕ, zero, suc, length, ◌≡◌, ◌-◌, ◌+◌, ◌==◌, Bool, true, false, not, ◌||◌, if◌then◌else◌, List, [], ◌∷◌, ◌++◌, Option, None, Some, Ok, codes}
use Rattle.std.specs.Fmt.{decimal}
use Rattle.sfc_events.specs.declared.command.Answer.{Answer}
use Rattle.sfc_events.specs.declared.command.Answer.TheVariants.{Scanned}
use Rattle.sfc_events.specs.declared.command.TraceRow.{TraceRow}
use Rattle.sfc_events.specs.InstanceSets.{has}
use Rattle.sfc_events.specs.declared.instance_set.InstanceSet.{InstanceSet}
use Rattle.sfc_plant.specs.Names.{instance_name}
use Rattle.sfc_plant.specs.Plants.{PlantData}
use Rattle.sfc_control.specs.sfc_debug.Agreement.{Agrees}
use Rattle.sfc_control.specs.sfc_debug.Histories.{CommandHistory}
use Rattle.sfc_control.specs.sfc_debug.States.{DebugState}
use Rattle.sfc_control.specs.sfc_debug.Steered.{Steered}
use Rattle.sfc_control.specs.sfc_debug.sfc_instance.Life.{InstanceState}
use Rattle.sfc_replay.specs.sfc_output.Commands.{lines_at, row_line}
use Rattle.sfc_replay.specs.sfc_output.FaultPlaces.{faulted_line}
use Rattle.sfc_replay.specs.sfc_output.Output as output
use Rattle.sfc_run.specs.declared.alarms.Alarms.{Alarms}
use Rattle.sfc_run.specs.declared.alarms.Told.{Told}
use Rattle.sfc_run.specs.declared.follower.Follower.{Follower}
use Rattle.sfc_run.specs.Following.{Follows, debugger_in, is_level, newest_in, steered_in}
use Rattle.sfc_run.specs.Losses.{known_text, losses_after, none_waiting, told_with}
use Rattle.sfc_run.specs.Overruns.{is_due, told_after, told_in}
use Rattle.sfc_run.specs.Recording.{IsRecorded, lost_after}
use Rattle.sfc_run.specs.Resuming.{AreOfRun}
use Rattle.sfc_run.specs.Screens.{Mirrors, again_if, before_in, is_end, shown_text}

-- a program's scan ended with a fault, or a breakpoint was hit
abbrev pub is_alarm : Answer → Bool
is_alarm (Scanned ran faulted skipped overruns hit) = not (faulted.bits == 0) || hit
is_alarm _ = false

-- what tells of it doesn't wait
abbrev pub is_urgent : TraceRow → Bool
is_urgent row = is_alarm row.answer || is_end row.command

-- so many rows of the feed were lost
abbrev pub lost_text : ℕ → List ℕ
lost_text lost = if lost == 0 then [] else codes "lost " ++ decimal lost ++ codes " commands\n"

-- its number, and its lines as a replay writes them, where the debugger stands so behind it
abbrev pub whole_text : Steered → DebugState → TraceRow → List ℕ
whole_text steered state row = decimal row.number ++ codes " " ++ lines_at steered state row.command (Ok row.answer)

-- the line of program k, where its scan ended with a fault
abbrev pub fault_line : Bool → PlantData → ℕ → List ℕ
fault_line true plant k = codes "  " ++ instance_name plant.instances k ++ codes " fault\n"
fault_line false plant k = []

-- the same for each of the first n
abbrev pub fault_lines : PlantData → InstanceSet → ℕ → List ℕ
fault_lines plant faulted zero = []
fault_lines plant faulted (suc n) = fault_lines plant faulted n ++ fault_line (has faulted n) plant n

-- the same for each of which an answer tells that
abbrev pub faulted_text : PlantData → Answer → List ℕ
faulted_text plant (Scanned ran faulted skipped overruns hit) = fault_lines plant faulted (length plant.instances)
faulted_text plant _ = []

-- where the fault of program k is, where its scan ended with one
abbrev pub ended_line : Bool → PlantData → (ℕ → InstanceState) → ℕ → List ℕ
ended_line true plant instance_state k = faulted_line plant (record { 0 = k }) (instance_state k)
ended_line false plant instance_state k = []

-- the same for each of the first n
abbrev pub ended_lines : PlantData → (ℕ → InstanceState) → InstanceSet → ℕ → List ℕ
ended_lines plant instance_state faulted zero = []
ended_lines plant instance_state faulted (suc n) =
    ended_lines plant instance_state faulted n ++ ended_line (has faulted n) plant instance_state n

-- the same for each of which an answer tells that; `instance_state` is how each program stands behind it
abbrev pub ended_text : PlantData → (ℕ → InstanceState) → Answer → List ℕ
ended_text plant instance_state (Scanned ran faulted skipped overruns hit) = ended_lines plant instance_state faulted (length plant.instances)
ended_text plant instance_state _ = []

-- the lines of a scan, and where its faults are
abbrev pub level_text : Steered → DebugState → TraceRow → List ℕ
level_text steered state row =
    whole_text steered state row ++ ended_text steered.plant (output.plant_state steered state).instance_state row.answer

-- What is told of an alarm: all that a replay writes, and where its faults are. Behind lost rows it isn't known how programs stand: then
-- the line of the scan alone, and which programs ended with a fault.
abbrev pub scan_text : Bool → Steered → DebugState → TraceRow → List ℕ
scan_text true steered state row = level_text steered state row
scan_text false steered state row = row_line steered row ++ faulted_text steered.plant row.answer

-- of a scan that is no alarm its overruns, where they are due
abbrev pub overruns_text : Bool → Steered → TraceRow → List ℕ
overruns_text true steered row = row_line steered row
overruns_text false steered row = []

-- so many rows were lost before a row, behind the newest
abbrev pub lost_before : Follower → TraceRow → ℕ
lost_before follower row = row.number - (newest_in follower + 1)

-- what is told of a row
abbrev pub told_text : Bool → Bool → Steered → DebugState → TraceRow → List ℕ
told_text is_level is_due steered state row =
    if is_alarm row.answer then scan_text is_level steered state row else overruns_text is_due steered row

-- and of so many lost ones
abbrev pub alarm_text : ℕ → Bool → Bool → Steered → DebugState → TraceRow → List ℕ
alarm_text lost is_level is_due steered state row = lost_text lost ++ told_text is_level is_due steered state row

-- A row was taken behind these commands, and this was told of it; the debugger that follows stands behind those commands then.
pub record IsAlarmed (old new : Alarms) (row : TraceRow) (h behind : CommandHistory) (text : List ℕ) : Type 0 where
  pub follows : Follows old.follower new.follower row h behind
  pub overruns : told_in new.overruns ≡ told_after (told_in old.overruns) row
  pub losses : new.losses ≡ losses_after old.losses (lost_before old.follower row) row.t (is_urgent row)
  pub told : text ≡ alarm_text (told_with old.losses (lost_before old.follower row) row.t (is_urgent row)) (is_level new.follower)
      (is_due (told_in old.overruns) row) (steered_in new.follower) ((output.debugger_of (steered_in new.follower)).state behind) row

-- and that was shown and recorded of it
pub record IsTold (old new : Alarms) (row : TraceRow) (h behind : CommandHistory) (text shown recorded : List ℕ) : Type 0 where
  pub alarmed : IsAlarmed old new row h behind text
  pub shows : new.screen.shows ≡ old.screen.shows
  pub changes : Mirrors old.screen old.follower h →
      (shown ≡ shown_text old.screen.shows (is_level new.follower) (steered_in new.follower) h behind row) × Mirrors new.screen new.follower behind
  pub records : IsRecorded old.recording new.recording new.follower row recorded

-- Behind the newest row all was set again: the debugger that follows goes on from what the run saved, behind those commands, and is level.
-- This was told of it, and that was shown.
pub record IsSet (old new : Alarms) (behind : CommandHistory) (text shown : List ℕ) : Type 0 where
  pub newest : newest_in new.follower ≡ newest_in old.follower
  pub steered : steered_in new.follower ≡ steered_in old.follower
  pub was : is_level old.follower ≡ false
  pub level : is_level new.follower ≡ true
  pub run : AreOfRun (steered_in old.follower) (newest_in old.follower) behind
  pub agrees : Agrees (debugger_in new.follower) behind
  pub overruns : new.overruns ≡ old.overruns
  pub losses : new.losses ≡ none_waiting old.losses
  pub shows : new.screen.shows ≡ old.screen.shows
  pub told : text ≡ lost_text old.losses.waiting ++ known_text (newest_in old.follower)
  pub changes : (h : CommandHistory) → Agrees (before_in old.screen) h
      → shown ≡ again_if old.screen.shows (steered_in old.follower) (newest_in old.follower) h behind
  pub mirrors : Mirrors new.screen new.follower behind
  pub recording : new.recording ≡ lost_after old.recording

-- A row was taken, or all was set again.
abbrev pub IsHeard : Alarms → Alarms → Option TraceRow → CommandHistory → CommandHistory → List ℕ → List ℕ → List ℕ → Type 0
IsHeard old new (Some row) h behind text shown recorded = IsTold old new row h behind text shown recorded
IsHeard old new None h behind text shown recorded = IsSet old new behind text shown × (recorded ≡ [])

-- the row, if it is one, in front of others
abbrev pub with_heard : Option TraceRow → List TraceRow → List TraceRow
with_heard None rows = rows
with_heard (Some row) rows = row ∷ rows

-- those that were taken
abbrev pub rows_heard : List (Option TraceRow) → List TraceRow
rows_heard [] = []
rows_heard (one ∷ heard) = with_heard one (rows_heard heard)

-- Rows were taken one after the other, and between them all may have been set again; this was told of it all, and that was shown and recorded.
abbrev pub AreTold : Alarms → Alarms → List (Option TraceRow) → CommandHistory → CommandHistory → List ℕ → List ℕ → List ℕ → Type 0
AreTold old new [] h behind text shown recorded = (new ≡ old) × (behind ≡ h) × (text ≡ []) × (shown ≡ []) × (recorded ≡ [])
AreTold old new (one ∷ heard) h behind text shown recorded =
    (mid : Alarms) × (between : CommandHistory) × (some : List ℕ) × (rest : List ℕ) × (seen : List ℕ) × (others : List ℕ)
    × (put : List ℕ) × (more : List ℕ)
    × (text ≡ some ++ rest) × (shown ≡ seen ++ others) × (recorded ≡ put ++ more)
    × IsHeard old mid one h between some seen put × AreTold mid new heard between behind rest others more

-- These rows were taken, and all may have been set again between them. What was told, shown and recorded stands behind the three texts.
abbrev pub Hears : Alarms → Alarms → List TraceRow → Told → Told → Type 0
Hears old new rows before after =
    (h : CommandHistory) → Agrees (debugger_in old.follower) h
    → (heard : List (Option TraceRow)) × (rows_heard heard ≡ rows)
    × (behind : CommandHistory) × (text : List ℕ) × (shown : List ℕ) × (recorded : List ℕ)
    × (after.alarms.items ≡ before.alarms.items ++ text) × (after.changes.items ≡ before.changes.items ++ shown)
    × (after.record.items ≡ before.record.items ++ recorded)
    × AreTold old new heard h behind text shown recorded
