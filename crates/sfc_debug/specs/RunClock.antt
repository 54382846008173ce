-- The run clock: raw time counts while the mode is Running, and a single scan lets its own time pass (our choice).
use Rattle.std.specs.Prelude.{ℤ, pos, ◌+ℤ◌, ◌-ℤ◌}
use Rattle.sfc_events.specs.declared.command.Command.{Command}
use Rattle.sfc_events.specs.declared.command.Command.TheVariants.{Single}
use Rattle.sfc_debug.specs.declared.mode.Mode.{Mode}
use Rattle.sfc_debug.specs.declared.mode.Mode.TheVariants.{Running}
use Rattle.sfc_debug.specs.declared.run_clock.RunClock.{RunClock}

-- what is spent of the stretch between two raw instants
abbrev pub running_time : Mode → ℤ → ℤ → ℤ
running_time Running since raw = raw -ℤ since
running_time _ since raw = pos 0

-- what a command lets pass itself, in microseconds
abbrev pub delta_of : Command → ℤ
delta_of (Single task delta) = delta
delta_of _ = pos 0

-- The run instant of a command at this raw instant: that of the command before it, the stretch since then if it was spent in
-- Running, and the delta of a single scan.
abbrev pub run_instant : RunClock → Command → ℤ → ℤ
run_instant clock command raw = clock.instant +ℤ running_time clock.mode clock.raw raw +ℤ delta_of command
