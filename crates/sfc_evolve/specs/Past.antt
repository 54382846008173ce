-- What later answers need of the scans of a life.
use Rattle.std.specs.Prelude.{Bool, not, List, map, ℤ, pos, ◌-ℤ◌, cond}
use Rattle.std.specs.List.{range_with_len}
use Rattle.sfc_flags.specs.Flags.{flag}
use Rattle.sfc_tables.specs.Tables.{Tabled}
use Rattle.sfc_evolve.specs.declared.steps.Steps.{Steps}
use Rattle.sfc_evolve.specs.Lookback.{is_empty}
use Rattle.sfc_evolve.specs.Clearing.{step_count, transition_count}
use Rattle.sfc_evolve.specs.Evolution.{Scan, rows_of, active_steps, step_times, was_cleared, was_activated}
use Rattle.sfc_evolve.specs.Private.Keeping.{number}

pub record StepsPast : Type 0 where
  -- whether there was a scan
  pub begun : Bool
  -- which steps are active
  pub active : List Bool
  -- The step times at instant 0: of a step that was left the time that it keeps, and of an active one the instant of its
  -- activation, taken from 0. They give its time at every instant.
  pub times : List ℤ
  -- which transitions the latest scan cleared
  pub cleared : List Bool
  -- which steps it activated
  pub activated : List Bool

abbrev pub steps_past : Tabled → List Scan → StepsPast
steps_past tables scans = record {
  begun = not (is_empty scans);
  active = active_steps tables (rows_of tables scans);
  times = step_times tables (rows_of tables scans) (pos 0);
  cleared = map (was_cleared (rows_of tables scans)) (range_with_len 0 (transition_count tables));
  activated = map (was_activated tables (rows_of tables scans)) (range_with_len 0 (step_count tables));
}

-- the past that it keeps
unfoldable pub past_in : Tabled → Steps → StepsPast
past_in tables steps = record {
  begun = steps.begun;
  active = steps.active;
  times = map (λ s. cond (flag steps.active s) (pos 0 -ℤ number steps.since.items s) (number steps.held_times.items s))
      (range_with_len 0 (step_count tables));
  cleared = steps.cleared;
  activated = steps.on;
}
