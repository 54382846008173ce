-- What is shown of a run where it changes (our choice of format).
use Rattle.std.specs.Prelude.{ℕ, ◌≡◌, ◌-◌, ◌^◌, ◌==◌, Bool, true, false, not, ◌&&◌, ◌||◌, List, [], ◌∷◌, ◌++◌}
use Rattle.sfc_events.specs.declared.command.Answer.{Answer}
use Rattle.sfc_events.specs.declared.command.Answer.TheVariants.{Scanned}
use Rattle.sfc_events.specs.declared.command.Command.{Command}
use Rattle.sfc_events.specs.declared.command.Command.TheVariants.{End}
use Rattle.sfc_events.specs.declared.command.TraceRow.{TraceRow}
use Rattle.sfc_events.specs.InstanceSets.{no_instance, set_of}
use Rattle.sfc_control.specs.sfc_debug.Agreement.{Agrees}
use Rattle.sfc_control.specs.sfc_debug.Histories.{CommandHistory}
use Rattle.sfc_control.specs.sfc_debug.Steered.{Steered, steered_by}
use Rattle.sfc_control.specs.sfc_debug.declared.debugger.Debugger.{Debugger}
use Rattle.sfc_panel.specs.Changes.{changes}
use Rattle.sfc_panel.specs.declared.panel.Panel.{Panel}
use Rattle.sfc_replay.specs.sfc_output.Commands.{row_line}
use Rattle.sfc_replay.specs.sfc_output.Output as output
use Rattle.sfc_run.specs.Following.{AnswersSo, command_of, debugger_in, is_level, steered_in}
use Rattle.sfc_run.specs.Losses.{known_text}
use Rattle.sfc_run.specs.declared.follower.Follower.{Follower}
use Rattle.sfc_run.specs.declared.screen.Screen.{Screen}
use Rattle.sfc_run.specs.declared.screen.Shows.{Shows}

-- the debugger that stands where the run stood before the next row
unfoldable pub before_in : Screen → Debugger
before_in screen = screen.before

-- a fault ended the scan of a program
abbrev pub has_fault : Answer → Bool
has_fault (Scanned ran faulted skipped overruns hit) = not (faulted.bits == 0)
has_fault _ = false

abbrev pub is_end : Command → Bool
is_end End = true
is_end _ = false

-- it did, or the run ends
abbrev pub closes : TraceRow → Bool
closes row = has_fault row.answer || is_end row.command

abbrev pub closing_text : Bool → List ℕ → List ℕ
closing_text true at_end = at_end
closing_text false at_end = []

-- the line of a row, and below it what is shown of it, where something is
abbrev pub headed : Steered → TraceRow → List ℕ → List ℕ
headed steered row [] = []
headed steered row (byte ∷ bytes) = row_line steered row ++ byte ∷ bytes

-- what has changed between these commands and those
abbrev pub changes_text : Panel → Steered → CommandHistory → CommandHistory → Answer → List ℕ
changes_text panel steered h behind answer =
    changes panel steered.plant (output.plant_state steered ((output.debugger_of steered).state h))
    (output.plant_state steered ((output.debugger_of steered).state behind)) answer

-- the same, where it is known
abbrev pub changed_text : Bool → Panel → Steered → CommandHistory → CommandHistory → Answer → List ℕ
changed_text true panel steered h behind answer = changes_text panel steered h behind answer
changed_text false panel steered h behind answer = []

-- What is shown of a row, behind these commands, and those: what has changed, where that is known, and what is told of its end.
abbrev pub shown_text : Shows → Bool → Steered → CommandHistory → CommandHistory → TraceRow → List ℕ
shown_text shows is_level steered h behind row =
    headed steered row (changed_text (shows.is_on && is_level) shows.panel steered h behind row.answer
    ++ closing_text (closes row) shows.at_end.items)

-- an answer by which each program is shown that stands otherwise than before
abbrev pub of_each : Answer
of_each = Scanned (set_of (2 ^ 64 - 1)) no_instance no_instance 0 false

-- What is shown where it is known again how all stands, behind so many commands, which are those: what has changed since these.
abbrev pub again_text : Panel → Steered → ℕ → CommandHistory → CommandHistory → List ℕ
again_text panel steered count h behind = known_text count ++ changes_text panel steered h behind of_each

abbrev pub again_by : Bool → Panel → Steered → ℕ → CommandHistory → CommandHistory → List ℕ
again_by true panel steered count h behind = again_text panel steered count h behind
again_by false panel steered count h behind = []

-- the same, where changes are shown
abbrev pub again_if : Shows → Steered → ℕ → CommandHistory → CommandHistory → List ℕ
again_if shows steered count h behind = again_by shows.is_on shows.panel steered count h behind

-- The debugger of a screen stands behind those commands, where it is used: what changes is shown, and the follower is level.
pub record Mirrors (screen : Screen) (follower : Follower) (h : CommandHistory) : Type 0 where
  pub steered : steered_by (before_in screen) ≡ steered_in follower
  pub agrees : screen.shows.is_on ≡ true → is_level follower ≡ true → Agrees (before_in screen) h

-- The same before a row, which the follower has taken: it stands behind these commands then.
pub record Sees (screen : Screen) (follower : Follower) (row : TraceRow) (h behind : CommandHistory) : Type 0 where
  pub steered : steered_by (before_in screen) ≡ steered_in follower
  pub follows : Agrees (debugger_in follower) behind
  pub agrees : screen.shows.is_on ≡ true → is_level follower ≡ true →
      Agrees (before_in screen) h × (behind ≡ command_of row ∷ h) × AnswersSo (steered_in follower) h row
