-- The times of steps, worked out at an instant (2.6.2).
use Rattle.std.specs.Prelude.{ℕ, ◌-ℤ◌, cond, List, length, map, ℤ, pos, slice_index_or}
use Rattle.std.specs.List.{range_with_len}
use Rattle.sfc_flags.specs.Flags.{flag}
use Rattle.sfc_image.specs.declared.step_readings.StepReadings.{StepReadings}

-- the time of a step: since it was last activated, or what it kept when it was left
abbrev pub time_at : StepReadings → ℕ → ℤ
time_at steps s =
    cond (flag steps.active.now s) (steps.at -ℤ slice_index_or steps.since.now s (pos 0)) (slice_index_or steps.held_times.now s (pos 0))

-- the times of all steps, by number
abbrev pub times_of : StepReadings → List ℤ
times_of steps = map (time_at steps) (range_with_len 0 (length steps.active.now))
