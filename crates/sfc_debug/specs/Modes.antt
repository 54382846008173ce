-- The mode after an accepted command (our choice).
use Rattle.std.specs.Prelude.{Bool, true, false, cond}
use Rattle.sfc_events.specs.declared.command.Command.{Command}
use Rattle.sfc_events.specs.declared.command.Command.TheVariants as commands
use Rattle.sfc_debug.specs.declared.mode.Mode.{Mode}
use Rattle.sfc_debug.specs.declared.mode.Mode.TheVariants.{Running, Stopped, Ended}

-- A scan that hits a breakpoint ends in Stopped.
abbrev pub mode_after : Command → Bool → Mode → Mode
mode_after commands.Stop hit mode = Stopped
mode_after commands.Go hit mode = Running
mode_after commands.End hit mode = Ended
mode_after (commands.Scan task) hit mode = cond hit Stopped mode
mode_after _ hit mode = mode

abbrev pub is_ended : Mode → Bool
is_ended Ended = true
is_ended _ = false
