-- When the mode is Stopped after a command.
use Rattle.std.proofs.Common.{◌≡◌, ◌∙◌, ◌↔◌, Bool, true, false, List, ◌∷◌, ℤ, ap, sym, refl, rules}
use Rattle.std.specs.Prelude.{cond, ◌&&◌}
use Rattle.sfc_base.specs.declared.ids.TaskId.{TaskId}
use Rattle.sfc_plant.specs.Plants.{PlantData}
use Rattle.sfc_events.specs.declared.command.Command.{Command}
use Rattle.sfc_events.specs.declared.command.Command.TheVariants as commands
use Rattle.sfc_debug.specs.declared.break_condition.BreakCondition.{BreakCondition}
use Rattle.sfc_debug.specs.declared.mode.Mode.{Mode}
use Rattle.sfc_debug.specs.declared.mode.Mode.TheVariants.{Running, Stopped, Ended}
use Rattle.sfc_debug.specs.Histories.{CommandHistory}
use Rattle.sfc_debug.specs.Modes.{mode_after}
use Rattle.sfc_debug.specs.Meaning.{is_stopped, halts}
use Rattle.sfc_debug.specs.RunClock.{run_instant}
use Rattle.sfc_debug.specs.States.{state_of, hits}

by_scan : (task : TaskId) (hit : Bool) (mode : Mode) →
    is_stopped (mode_after (commands.Scan task) hit mode) ≡ halts (commands.Scan task) hit mode
by_scan task true mode = refl
by_scan task false Running = refl
by_scan task false Stopped = refl
by_scan task false Ended = refl

stays : (mode : Mode) → is_stopped mode ≡ (is_stopped mode && true)
stays Running = refl
stays Stopped = refl
stays Ended = refl

leaves : (mode : Mode) → false ≡ (is_stopped mode && false)
leaves Running = refl
leaves Stopped = refl
leaves Ended = refl

by_command : (command : Command) (hit : Bool) (mode : Mode) → is_stopped (mode_after command hit mode) ≡ halts command hit mode
by_command (commands.Scan task) hit mode = by_scan task hit mode
by_command (commands.Single task delta) hit mode = stays mode
by_command (commands.Input id v) hit mode = stays mode
by_command (commands.Force id v) hit mode = stays mode
by_command (commands.Release id) hit mode = stays mode
by_command (commands.Reset p) hit mode = stays mode
by_command (commands.Read id) hit mode = stays mode
by_command (commands.Break p point) hit mode = stays mode
by_command (commands.BreakIf p point id) hit mode = stays mode
by_command (commands.Unbreak p point) hit mode = stays mode
by_command commands.Stop hit mode = refl
by_command commands.Go hit mode = leaves mode
by_command commands.End hit mode = leaves mode
by_command commands.Epoch hit mode = stays mode

is_it : (mode : Mode) → is_stopped mode ≡ true → mode ≡ Stopped
is_it Stopped e = refl
is_it Running e = search rules
is_it Ended e = search rules

pub stopped : (command : Command) (hit : Bool) (mode : Mode) → (mode_after command hit mode ≡ Stopped) ↔ (halts command hit mode ≡ true)
stopped command hit mode =
    (λ e. sym (by_command command hit mode) ∙ ap is_stopped e, λ e. is_it (mode_after command hit mode) (by_command command hit mode ∙ e))

pub after_a_hit : (plant : PlantData) (table : List BreakCondition) (h : CommandHistory) (task : TaskId) (raw : ℤ) →
    hits plant table (commands.Scan task) (run_instant (state_of plant table h).clock (commands.Scan task) raw)
    (state_of plant table h).points (state_of plant table h).events ≡ true →
    (state_of plant table ((commands.Scan task, raw) ∷ h)).clock.mode ≡ Stopped
unfolding state_of
after_a_hit plant table h task raw hit = ap (λ b. cond b Stopped (state_of plant table h).clock.mode) hit
