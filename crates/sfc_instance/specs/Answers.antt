-- What a program shows, where its instance stands so.
use Rattle.std.specs.Prelude.{ℕ, ◌-◌, ◌^◌, min, Bool, length, ℤ}
use Rattle.sfc_tables.specs.Tables.{Tabled}
use Rattle.sfc_evolve.specs.Evolution as evolution
use Rattle.sfc_action.specs.ActionControl as control
use Rattle.sfc_instance.specs.Life.{InstanceState, evolution_rows, control_scans, latest_instant}

-- how many scans its life has had; a count of 64 bits stays at its greatest value (our choice)
abbrev pub scan_count : InstanceState → ℕ
scan_count instance_state = min (length instance_state.life) (2 ^ 64 - 1)

-- the step is active after the latest scan (2.6.2)
abbrev pub is_step_active : Tabled → InstanceState → ℕ → Bool
is_step_active tables instance_state s = evolution.is_active tables (evolution_rows tables instance_state.life) s

-- the step's time at the latest scan (2.6.2)
abbrev pub step_elapsed : Tabled → InstanceState → ℕ → ℤ
step_elapsed tables instance_state s =
    evolution.step_time tables (evolution_rows tables instance_state.life) s (latest_instant instance_state.life)

-- the latest scan activated the step
abbrev pub is_step_activated : Tabled → InstanceState → ℕ → Bool
is_step_activated tables instance_state s = evolution.was_activated tables (evolution_rows tables instance_state.life) s

-- the latest scan cleared the transition (2.6.5)
abbrev pub is_transition_cleared : Tabled → InstanceState → ℕ → Bool
is_transition_cleared tables instance_state tr = evolution.was_cleared (evolution_rows tables instance_state.life) tr

-- the action's Q after the latest scan (2.6.4.5)
abbrev pub action_q : Tabled → InstanceState → ℕ → Bool
action_q tables instance_state a = control.q tables a (control_scans tables instance_state.life)

-- the latest scan executed the action: its A (2.6.4.5)
abbrev pub is_action_executed : Tabled → InstanceState → ℕ → Bool
is_action_executed tables instance_state a = control.executed tables a (control_scans tables instance_state.life)
