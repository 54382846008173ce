-- What a block has seen: the histories whose look-back is what it keeps.
use Rattle.std.specs.Prelude.{◌≡◌, Bool, List, [], ◌∷◌, Option, Some, None, cond, ℤ}
use Rattle.sfc_timers.specs.declared.on_delay.OnDelay.{OnDelay}
use Rattle.sfc_timers.specs.declared.edge.Edge.{Edge}
use Rattle.sfc_timers.specs.declared.flip_flop.FlipFlop.{FlipFlop}
use Rattle.sfc_timers.specs.Timers.{Bistable, Reading, is_on, run_of, start_of, preset_of, instant_of, newest_input}

-- PT and instant of the first call of a run
abbrev pub begun_at : List Reading → Option (ℤ × ℤ)
begun_at [] = None
begun_at (now ∷ run) = Some (preset_of (start_of now run), instant_of (start_of now run))

unfoldable pub OnDelayAgrees : OnDelay → List Reading → Type 0
OnDelayAgrees timer h = begun_at (run_of h) ≡ cond timer.is_running (Some (timer.preset, timer.start)) None

unfoldable pub EdgeAgrees : Edge → List Bool → Type 0
EdgeAgrees edge h = edge.last ≡ newest_input h

unfoldable pub FlipFlopAgrees : FlipFlop → List Bistable → Type 0
FlipFlopAgrees flip_flop h = flip_flop.on ≡ is_on h
