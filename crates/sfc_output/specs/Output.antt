-- What is written of a session: of each command with its answer, and of how the session stands at the end.
use Rattle.std.specs.Prelude.{ℕ, ◌==◌, Bool, true, false, not, ◌||◌, List, [], ◌∷◌, ◌++◌, Result, Ok, Err}
use Rattle.sfc_events.specs.declared.command.Answer.{Answer}
use Rattle.sfc_events.specs.declared.command.Answer.TheVariants.{Scanned}
use Rattle.sfc_events.specs.declared.refusal.Refusal.{Refusal}
use Rattle.sfc_debug.specs.sfc_instances.PlantState.{PlantState}
use Rattle.sfc_debug.specs.sfc_core.PlantState as core
use Rattle.sfc_debug.specs.Histories.{TimedCommand}
use Rattle.sfc_debug.specs.States.{DebugState, state_of}
use Rattle.sfc_debug.specs.Verdict.{verdict, after}
use Rattle.sfc_output.specs.Commands.{lines_at}
use Rattle.sfc_output.specs.ImageLines.{image_lines}
use Rattle.sfc_debug.specs.Steered.{Steered}

-- ---- for whatever answers commands

-- Something that answers commands C by A, and stands so after them: its answer to a command after those that it accepted,
-- those that it has accepted then, and how it stands after them.
pub record Session (C A S : Type 0) : Type 0 where
  pub verdict : List C → C → A
  pub after : List C → C → List C
  pub state : List C → S

-- what is written of a command and its answer, where the session stands so after it; and of how it stands at the end
pub record Lines (C A S : Type 0) : Type 0 where
  pub command : S → C → A → List ℕ
  pub closing : S → List ℕ

-- the lines of a command after others
abbrev pub command_lines : {C A S : Type 0} → Session C A S → Lines C A S → List C → C → List ℕ
command_lines session lines h c = lines.command (session.state (session.after h c)) c (session.verdict h c)

-- the lines of commands after others
abbrev pub commands_lines : {C A S : Type 0} → Session C A S → Lines C A S → List C → List C → List ℕ
commands_lines session lines h [] = []
commands_lines session lines h (c ∷ cs) = command_lines session lines h c ++ commands_lines session lines (session.after h c) cs

-- what was accepted after a list of commands, the first of them first
abbrev pub session_after : {C A S : Type 0} → Session C A S → List C → List C → List C
session_after session h [] = h
session_after session h (c ∷ cs) = session_after session (session.after h c) cs

-- how it stands at the end
abbrev pub closing_lines : {C A S : Type 0} → Session C A S → Lines C A S → List C → List ℕ
closing_lines session lines h = lines.closing (session.state h)

-- the lines of the commands, and then of how it stands after them
abbrev pub lines_of_play : {C A S : Type 0} → Session C A S → Lines C A S → List C → List C → List ℕ
lines_of_play session lines h cs = commands_lines session lines h cs ++ closing_lines session lines (session_after session h cs)

-- ---- a debugger, and its text

-- what a debugger answers
abbrev pub Verdict : Type 0
Verdict = Result Answer Refusal

-- a debugger of this plant, with this table of conditions
abbrev pub debugger_of : Steered → Session TimedCommand Verdict DebugState
debugger_of steered = record {
  verdict = λ h timed. verdict steered.plant steered.table h timed.0 timed.1;
  after = after steered.plant steered.table;
  state = state_of steered.plant steered.table;
}

-- how the plant stands, where the debugger stands so
abbrev pub plant_state : Steered → DebugState → PlantState
plant_state steered state = core.state_of steered.plant state.events

-- the text of a debugger: the lines of each command, at its run instant, and at the end those of the image
abbrev pub text_of : Steered → Lines TimedCommand Verdict DebugState
text_of steered = record {
  command = λ state timed answer. lines_at steered state timed.0 answer;
  closing = λ state. image_lines steered.plant (plant_state steered state);
}

-- ---- what went amiss

-- a command was refused, or the scan of an instance ended with a fault or was passed over for one
abbrev pub is_amiss : Verdict → Bool
is_amiss (Err refusal) = true
is_amiss (Ok (Scanned ran faulted skipped overruns hit)) = not (faulted.bits == 0) || not (skipped.bits == 0)
is_amiss (Ok _) = false

-- that was so of one of the commands after others
abbrev pub any_amiss : Steered → List TimedCommand → List TimedCommand → Bool
any_amiss steered h [] = false
any_amiss steered h (c ∷ cs) = is_amiss ((debugger_of steered).verdict h c) || any_amiss steered ((debugger_of steered).after h c) cs
