-- A longer table of conditions changes no line of what was accepted with the shorter one.
use Rattle.std.proofs.Common.{◌≡◌, ◌∙◌, refl, ap, ℕ, List, [], ◌∷◌, ◌++◌, length, ◌+◌, Ok, Err, ℤ, codes}
use Rattle.circular_buffer.proofs.Places.{slice_get-append_left}
use Rattle.sfc_base.specs.TimeText.{time_text}
use Rattle.sfc_plant.specs.Plants.{PlantData}
use Rattle.sfc_events.specs.declared.command.Command.{Command}
use Rattle.sfc_events.specs.declared.command.Command.TheVariants as commands
use Rattle.sfc_output.specs.sfc_instance.Life.{InstanceState}
use Rattle.sfc_output.specs.sfc_debug.declared.break_condition.BreakCondition.{BreakCondition}
use Rattle.sfc_output.specs.sfc_debug.Histories.{CommandHistory, TimedCommand}
use Rattle.sfc_output.specs.sfc_debug.Hits.{shown_condition}
use Rattle.sfc_output.specs.sfc_debug.Longer.{IsNamedWithin, NamesWithin}
use Rattle.sfc_output.specs.sfc_debug.Meaning.{IsAccepted}
use Rattle.sfc_output.specs.sfc_debug.States.{DebugState, state_of}
use Rattle.sfc_output.specs.sfc_debug.Verdict.{verdict, history_by}
use Rattle.sfc_output.proofs.of_sfc_debug.Longer.{state_same, verdict_same}
use Rattle.sfc_output.proofs.of_sfc_debug.LongerAccepted.{named, named_one}
use Rattle.sfc_output.specs.Commands.{answer_lines, answer_text, command_line, command_text, condition_text, place_text, program_lines}
use Rattle.sfc_output.specs.sfc_debug.Steered.{Steered}
use Rattle.sfc_page.specs.Values.{line_end}
use Rattle.sfc_output.specs.Output.{Verdict, command_lines, debugger_of, plant_state, text_of}
use Rattle.sfc_session.specs.Sessions.{history_lines}

module _ (plant : PlantData) (table more : List BreakCondition) where
  abbrev short : Steered
  short = record { plant = plant; table = table }

  abbrev long : Steered
  long = record { plant = plant; table = table ++ more }

  -- ---- lines

  words_same : (command : Command) → IsNamedWithin (length table) command → command_text long command ≡ command_text short command
  words_same (commands.BreakIf p point id) within =
      ap (λ entry. codes " BREAK " ++ place_text plant p point ++ codes " WHEN " ++ condition_text plant (shown_condition entry))
      (slice_get-append_left table more id.0 within)
  words_same (commands.Scan task) within = refl
  words_same (commands.Single task delta) within = refl
  words_same (commands.Input id v) within = refl
  words_same (commands.Force id v) within = refl
  words_same (commands.Release id) within = refl
  words_same (commands.Reset p) within = refl
  words_same (commands.Read id) within = refl
  words_same (commands.Break p point) within = refl
  words_same (commands.Unbreak p point) within = refl
  words_same commands.Stop within = refl
  words_same commands.Go within = refl
  words_same commands.End within = refl
  words_same commands.Epoch within = refl

  answer_same : (instance_state : ℕ → InstanceState) (command : Command) (t : ℤ) (answer : Verdict) → IsNamedWithin (length table) command
      → answer_lines long instance_state command t answer ≡ answer_lines short instance_state command t answer
  unfolding command_line
  answer_same instance_state command t (Ok answer) within =
      ap (λ words. (time_text t ++ words ++ answer_text answer ++ line_end) ++ program_lines plant instance_state answer) (words_same command within)
  answer_same instance_state command t (Err refusal) within = refl

  -- how it stands after a command that was answered so
  after_same : (h : CommandHistory) (timed : TimedCommand) (answer : Verdict) → NamesWithin (length table) h → IsNamedWithin (length table) timed.0
      → state_of plant (table ++ more) (history_by answer timed h) ≡ state_of plant table (history_by answer timed h)
  after_same h timed (Ok answer) within one = state_same plant table more (timed ∷ h) (one, within)
  after_same h timed (Err refusal) within one = state_same plant table more h within

  told : DebugState → Command → Verdict → List ℕ
  told state command answer = answer_lines short (plant_state short state).instance_state command state.clock.instant answer

  pub lines_same : (h : CommandHistory) (timed : TimedCommand) → NamesWithin (length table) h → IsNamedWithin (length table) timed.0
      → command_lines (debugger_of long) (text_of long) h timed ≡ command_lines (debugger_of short) (text_of short) h timed
  unfolding told
  lines_same h timed within one =
      let v = verdict_same plant table more h timed.0 timed.1 within one in
      let answer = verdict plant (table ++ more) h timed.0 timed.1 in
      let state = state_of plant (table ++ more) (history_by answer timed h) in
      answer_same (plant_state long state).instance_state timed.0 state.clock.instant answer one
      ∙ ap (λ s. told s timed.0 answer) (after_same h timed answer within one)
      ∙ ap (λ w. told (state_of plant table (history_by w timed h)) timed.0 w) v

  pub history_same : (h : CommandHistory) → IsAccepted plant table h → history_lines long h ≡ history_lines short h
  history_same [] accepted = refl
  history_same (timed ∷ h) accepted =
      let one = named_one plant table h timed.0 timed.1 accepted.0 in
      let first = history_same h accepted.1 in
      let second = lines_same h timed (named plant table h accepted.1) one in
      (λ i. first i ++ second i)
