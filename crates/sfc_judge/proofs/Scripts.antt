-- The commands of a case, as a replay accepts them.
use Rattle.std.proofs.Common.{◌≡◌, ◌∙◌, refl, sym, ap, List, [], ◌∷◌, ◌++◌}
use Rattle.std.proofs.lemmas.List.{map-append}
use Rattle.std.specs.Prelude.{map}
use Rattle.sfc_replay.specs.sfc_debug.Histories.{CommandHistory, TimedCommand}
use Rattle.sfc_replay.specs.sfc_debug.Steered.{Steered}
use Rattle.sfc_replay.specs.sfc_output.Output.{debugger_of, session_after}
use Rattle.sfc_cases.specs.declared.line.Line.{Line}
use Rattle.sfc_judge.specs.Courses.{behind_line, behind_lines, commands_of, given, here, steps_of}
use Rattle.sfc_judge.specs.Moments.{Moment, Step, behind_step, last_moment, moments}
use Rattle.sfc_judge.proofs.Passing.{settled_history}

abbrev timed_of : Step → TimedCommand
timed_of step = step.timed

module _ (st : Steered) where
  histories : (m : Moment) (cs : List Step) → (last_moment m (moments st m cs)).history ≡ session_after (debugger_of st) m.history (map timed_of cs)
  histories m [] = refl
  histories m (step ∷ cs) = histories (behind_step st m step) cs

  session_appended : (h : CommandHistory) (cs ds : List TimedCommand)
      → session_after (debugger_of st) h (cs ++ ds) ≡ session_after (debugger_of st) (session_after (debugger_of st) h cs) ds
  session_appended h [] ds = refl
  session_appended h (timed ∷ cs) ds = session_appended ((debugger_of st).after h timed) cs ds

  pub as_script : (m : Moment) (lines : List Line) → (behind_lines st m lines).history ≡ session_after (debugger_of st) m.history (commands_of st m lines)
  as_script m [] = refl
  as_script m (line ∷ lines) =
      as_script (behind_line st m line) lines
      ∙ ap (λ h. session_after (debugger_of st) h (commands_of st (behind_line st m line) lines))
      (settled_history line.deed (here m line).clock (last_moment (here m line) (moments st (here m line) (given st (here m line) line.deed)))
      ∙ histories (here m line) (given st (here m line) line.deed))
      ∙ sym (session_appended m.history (map timed_of (given st (here m line) line.deed)) (commands_of st (behind_line st m line) lines))
      ∙ ap (session_after (debugger_of st) m.history)
      (sym (map-append timed_of (given st (here m line) line.deed) (steps_of st (behind_line st m line) lines)))
