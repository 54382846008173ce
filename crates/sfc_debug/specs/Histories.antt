-- What a debugger was told: the commands that it accepted, each at its raw instant, the newest first.
use Rattle.std.specs.Prelude.{List, ℤ}
use Rattle.sfc_events.specs.declared.command.Command.{Command}

abbrev pub TimedCommand : Type 0
TimedCommand = Command × ℤ

abbrev pub CommandHistory : Type 0
CommandHistory = List TimedCommand
