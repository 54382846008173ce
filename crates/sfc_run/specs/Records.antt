-- What a replay of the record of a run writes.
use Rattle.std.specs.Prelude.{ℕ, ◌≡◌, ◌≤◌, true, List, [], ◌∷◌, ◌++◌, length, Ok}
use mathlib.Core.List.{IsPrefix}
use Rattle.sfc_events.specs.declared.command.TraceRow.{TraceRow}
use Rattle.sfc_plant.specs.Plants.{PlantData}
use Rattle.sfc_control.specs.sfc_debug.Histories.{CommandHistory}
use Rattle.sfc_control.specs.sfc_debug.Steered.{Steered}
use Rattle.sfc_replay.specs.Replay.{IsOutput}
use Rattle.sfc_replay.specs.sfc_output.Commands.{lines_at}
use Rattle.sfc_replay.specs.sfc_output.Output.{closing_lines, debugger_of, text_of}
use Rattle.sfc_run.specs.Following.{command_of}
use Rattle.sfc_run.specs.Recording.{goes_on, record_text}
use Rattle.sfc_run.specs.declared.recording.Recording.{Recording}

-- the commands of these rows behind others; the newest is the first
abbrev pub behind_rows : CommandHistory → List TraceRow → CommandHistory
behind_rows h [] = h
behind_rows h (row ∷ rows) = behind_rows (command_of row ∷ h) rows

-- the lines of each row's command, with the answer that the run gave
abbrev pub answered_lines : Steered → CommandHistory → List TraceRow → List ℕ
answered_lines steered h [] = []
answered_lines steered h (row ∷ rows) =
    lines_at steered ((debugger_of steered).state (command_of row ∷ h)) row.command (Ok row.answer)
    ++ answered_lines steered (command_of row ∷ h) rows

-- these lines, and then those of the variables
abbrev pub run_lines : Steered → List TraceRow → List ℕ
run_lines steered rows =
    answered_lines steered [] rows ++ closing_lines (debugger_of steered) (text_of steered) (behind_rows [] rows)

-- a plant before any breakpoint waits for a condition
abbrev pub opened_on : PlantData → Steered
opened_on plant = record { plant = plant; table = [] }

-- Of the rows of a run a front was recorded, and all of them where recording goes on. A replay of the record answers each command of that
-- front as the run answered it; so does one of a record that was cut behind any of its lines. No script has more than 1,048,576 bytes.
pub record IsRecordOf (chart : List ℕ) (plant : PlantData) (recording : Recording) (rows : List TraceRow) (bytes : List ℕ) : Type 0 where
  pub front : List TraceRow
  pub of_rows : IsPrefix front rows
  pub whole : goes_on recording ≡ true → front ≡ rows
  pub lines : bytes ≡ record_text (opened_on plant) front
  pub replayed : (cut : List TraceRow) → IsPrefix cut front → length (record_text (opened_on plant) cut) ≤ 1048576
      → IsOutput chart (record_text (opened_on plant) cut) (run_lines (opened_on plant) cut)
