-- What a running debugger keeps within its limits: the instants of its clock, and room for breakpoints.
use Rattle.std.specs.Prelude.{◌≡◌, ◌<◌, ◌≤ℤ◌, ◌^◌, pos, ℤ, List, length, Option, Some, None, Result, Ok, Err, ⊤}
use Rattle.sfc_base.specs.declared.ids.ProgId.{ProgId}
use Rattle.sfc_events.specs.declared.command.Command.{Command}
use Rattle.sfc_events.specs.declared.command.Command.TheVariants.{Break, BreakIf}
use Rattle.sfc_events.specs.declared.command.Point.{Point}
use Rattle.sfc_events.specs.declared.refusal.Refusal.{Refusal}
use Rattle.sfc_debug.specs.declared.breakpoint.Breakpoint.{Breakpoint}
use Rattle.sfc_debug.specs.declared.run_clock.RunClock.{RunClock}
use Rattle.sfc_debug.specs.Points.{place_of}

-- from 0 to 2^62 microseconds
pub record IsInRange (clock : RunClock) : Type 0 where
  pub instant_low : pos 0 ≤ℤ clock.instant
  pub instant_high : clock.instant ≤ℤ pos (2 ^ 62)
  pub raw_low : pos 0 ≤ℤ clock.raw
  pub raw_high : clock.raw ≤ℤ pos (2 ^ 62)

-- the instant, where nothing is refused
abbrev pub granted : Option Refusal → ℤ → Result ℤ Refusal
granted None t = Ok t
granted (Some refusal) t = Err refusal

-- a breakpoint at this point has a place among those that are set, or finds one behind them
abbrev pub HasRoomAt : ProgId → Point → List Breakpoint → Type 0
HasRoomAt p point set = place_of p point set ≡ None → length set < 64

-- where the command sets one
abbrev pub HasRoom : Command → List Breakpoint → Type 0
HasRoom (Break p point) set = HasRoomAt p point set
HasRoom (BreakIf p point id) set = HasRoomAt p point set
HasRoom _ set = ⊤
