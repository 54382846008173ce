-- What later answers need of the calls of a block.
use Rattle.std.specs.Prelude.{Bool, List, Option, Some, None, cond, ℤ}
use Rattle.sfc_timers.specs.declared.on_delay.OnDelay.{OnDelay}
use Rattle.sfc_timers.specs.declared.edge.Edge.{Edge}
use Rattle.sfc_timers.specs.declared.flip_flop.FlipFlop.{FlipFlop}
use Rattle.sfc_timers.specs.Timers.{Bistable, Reading, is_on, run_of, newest_input}
use Rattle.sfc_timers.specs.Agreement.{begun_at}

-- whether it is on
abbrev pub flip_flop_past : List Bistable → Bool
flip_flop_past h = is_on h

-- while its input is true: PT and instant of the call at which it rose; nothing of a run that has ended
abbrev pub on_delay_past : List Reading → Option (ℤ × ℤ)
on_delay_past h = begun_at (run_of h)

-- its newest input
abbrev pub edge_past : List Bool → Bool
edge_past h = newest_input h

-- ---- the past that a block keeps

unfoldable pub flip_flop_in : FlipFlop → Bool
flip_flop_in block = block.on

unfoldable pub on_delay_in : OnDelay → Option (ℤ × ℤ)
on_delay_in timer = cond timer.is_running (Some (timer.preset, timer.start)) None

unfoldable pub edge_in : Edge → Bool
edge_in edge = edge.last
