-- What later answers need of the scans of a life.
use Rattle.std.specs.Prelude.{ℕ, Bool, false, List, map, length, find, ℤ, Option, Some, None}
use Rattle.std.specs.List.{range_with_len}
use Rattle.sfc_base.specs.declared.qualifier.TimedQualifier.{TimedQualifier}
use Rattle.sfc_flags.specs.Flags.{flag}
use Rattle.sfc_timers.specs.Timers.{has_elapsed}
use Rattle.sfc_timers.specs.Past.{on_delay_past, on_delay_in}
use Rattle.sfc_tables.specs.Tables.{Tabled}
use Rattle.sfc_action.specs.declared.blocks.Block.{Block}
use Rattle.sfc_action.specs.declared.control_state.ControlState.{ControlState}
use Rattle.sfc_action.specs.ActionControl.{Scan, S, DS, P, SD, SL, P1, P0, input, stored, delayed_then_stored, q, executed}
use Rattle.sfc_action.specs.Private.Keeping.{is_of, readings}

-- of an on-delay: its T and start while its input is 1, and whether it has elapsed at the newest scan
pub record DelayPast : Type 0 where
  pub begun : Option (ℤ × ℤ)
  pub elapsed : Bool

-- Of an action: the inputs of the newest scan that an edge is seen by, its flip-flops, its on-delays, its Q, and whether it
-- was executed.
pub record ActionPast : Type 0 where
  pub pulse : Bool
  pub rising_pulse : Bool
  pub falling_pulse : Bool
  pub set : Bool
  pub stored_delayed : Bool
  pub stored_limited : Bool
  pub delayed_stored : Bool
  pub q : Bool
  pub executed : Bool
  pub delay : TimedQualifier → DelayPast

abbrev pub delay_past : Tabled → ℕ → TimedQualifier → List Scan → DelayPast
delay_past tables a qualifier h = record {
  begun = on_delay_past (readings tables a qualifier h);
  elapsed = has_elapsed (readings tables a qualifier h);
}

abbrev pub action_past : Tabled → List Scan → ℕ → ActionPast
action_past tables h a = record {
  pulse = input tables a P h;
  rising_pulse = input tables a P1 h;
  falling_pulse = input tables a P0 h;
  set = stored tables a S h;
  stored_delayed = stored tables a SD h;
  stored_limited = stored tables a SL h;
  delayed_stored = delayed_then_stored tables a DS h;
  q = q tables a h;
  executed = executed tables a h;
  delay = λ qualifier. delay_past tables a qualifier h;
}

-- of each action, by number
abbrev pub controls_past : Tabled → List Scan → List ActionPast
controls_past tables h = map (action_past tables h) (range_with_len 0 (length tables.actions))

-- ---- the past that is kept

abbrev pub delay_in : Option Block → DelayPast
delay_in None = record { begun = None; elapsed = false }
delay_in (Some block) = record { begun = on_delay_in block.delay; elapsed = block.elapsed }

abbrev pub action_in : ControlState → ℕ → ActionPast
action_in state a = record {
  pulse = flag state.kept.pulse a;
  rising_pulse = flag state.kept.rising_pulse a;
  falling_pulse = flag state.kept.falling_pulse a;
  set = flag state.kept.stores.set a;
  stored_delayed = flag state.kept.stores.stored_delayed a;
  stored_limited = flag state.kept.stores.stored_limited a;
  delayed_stored = flag state.kept.delayed_stored a;
  q = flag state.q a;
  executed = flag state.executed a;
  delay = λ qualifier. delay_in (find (is_of a qualifier) state.blocks);
}

unfoldable pub past_in : Tabled → ControlState → List ActionPast
past_in tables state = map (action_in state) (range_with_len 0 (length tables.actions))
