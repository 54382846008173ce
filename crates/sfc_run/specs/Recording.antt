-- The record of a run: its accepted commands as a script (our choice of format).
use Rattle.std.specs.Prelude.{ℕ, ◌≡◌, Bool, true, false, List, [], ◌∷◌, ◌++◌, Option, Some, None, Ok, codes}
use Rattle.sfc_base.specs.TimeText.{time_text}
use Rattle.sfc_events.specs.declared.command.TraceRow.{TraceRow}
use Rattle.sfc_page.specs.Values.{line_end}
use Rattle.sfc_plant.specs.Plants.{PlantData}
use Rattle.sfc_control.specs.sfc_debug.Steered.{Steered}
use Rattle.sfc_replay.specs.sfc_output.Commands.{command_text}
use Rattle.sfc_replay.specs.sfc_script.Scripts.{ScriptData, ScriptReads}
use Rattle.sfc_run.specs.Following.{command_of, is_level, steered_in}
use Rattle.sfc_run.specs.declared.follower.Follower.{Follower}
use Rattle.sfc_run.specs.declared.recording.Recording.{Recording}
use Rattle.sfc_run.specs.declared.recording.Recording.TheVariants.{Off, On, Lost, Unread}

-- the line of a row's command as a script has it: its raw instant, and its words
abbrev pub record_line : Steered → TraceRow → List ℕ
record_line steered row = time_text row.raw ++ command_text steered row.command ++ line_end

-- a line for each row
abbrev pub record_text : Steered → List TraceRow → List ℕ
record_text steered [] = []
record_text steered (row ∷ rows) = record_line steered row ++ record_text steered rows

-- a row's command at its raw instant, and nothing else
abbrev pub only : TraceRow → ScriptData
only row = record { commands = command_of row ∷ []; table = [] }

-- A script that is this line says that.
abbrev pub IsReadBack : PlantData → List ℕ → TraceRow → Type 0
IsReadBack plant line row = ScriptReads plant line (Ok (only row))

abbrev pub goes_on : Recording → Bool
goes_on On = true
goes_on _ = false

-- A row was taken, which the follower has taken, and this was recorded of it: where recording goes on, it went on before, the follower is
-- level, and it is the line of the row's command, which is read back; else it is nothing. It goes on where it did, the follower is level, and
-- that line is read back.
pub record IsRecorded (old new : Recording) (follower : Follower) (row : TraceRow) (text : List ℕ) : Type 0 where
  pub line : goes_on new ≡ true → (goes_on old ≡ true) × (is_level follower ≡ true)
      × (text ≡ record_line (steered_in follower) row) × IsReadBack (steered_in follower).plant text row
  pub none : goes_on new ≡ false → text ≡ []
  pub stays : goes_on old ≡ true → is_level follower ≡ true
      → IsReadBack (steered_in follower).plant (record_line (steered_in follower) row) row → goes_on new ≡ true
  pub ended : goes_on old ≡ false → new ≡ old

-- where rows were lost it doesn't go on
abbrev pub lost_after : Recording → Recording
lost_after On = Lost
lost_after recording = recording

-- ---- its end

-- why nothing more is recorded
abbrev pub end_reason : Recording → Option (List ℕ)
end_reason Off = None
end_reason On = None
end_reason Lost = Some (codes "the record has ended: commands were lost\n")
end_reason Unread = Some (codes "the record has ended: a command has no line in a script\n")

-- what is told of it, where its writer has failed, or else by that
abbrev pub end_note : Bool → Recording → Option (List ℕ)
end_note true recording = Some (codes "the record has ended: write fault\n")
end_note false recording = end_reason recording

-- once, where it wasn't told before
abbrev pub told_note : Bool → Option (List ℕ) → List ℕ
told_note true _ = []
told_note false None = []
told_note false (Some text) = text

-- what was told between two moments, before and behind which it was told so: at most one note
abbrev pub IsNote : Bool → Bool → List ℕ → Type 0
IsNote false false text = text ≡ []
IsNote false true text = (failed : Bool) × (recording : Recording) × (end_note failed recording ≡ Some text)
IsNote true false text = ⊥
IsNote true true text = text ≡ []
