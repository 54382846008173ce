-- What the associations that act leave as inputs.
use Rattle.std.specs.Prelude.{ℕ, ◌≡◌, ◌==◌, ◌<◌, ◌+◌, ◌-◌, nat_le, Bool, true, false, cond}
use Rattle.std.specs.Prelude.{List, [], ◌∷◌, length, filter, replicate, slice_set, slice_index_or, ℤ, pos}
use Rattle.sfc_base.specs.declared.qualifier.TimedQualifier.{TimedQualifier}
use Rattle.sfc_flags.specs.Flags.{flag}
use Rattle.sfc_plant.specs.declared.association.Qualifier.{Qualifier}
use Rattle.sfc_plant.specs.declared.association.Qualifier.TheVariants.{NonStored, Reset, Set, Pulse}
use Rattle.sfc_plant.specs.declared.association.Qualifier.TheVariants.{RisingPulse, FallingPulse, Timed}
use Rattle.sfc_tables.specs.declared.step_action.StepAction.{StepAction}
use Rattle.sfc_action.specs.declared.inputs.Inputs.{Inputs}
use Rattle.sfc_action.specs.ActionControl.{is_timed}
use Rattle.sfc_action.specs.Private.TimedSets.{AreAll, none, with_action}

-- each is a table of n actions
pub record AreSized (n : ℕ) (inputs : Inputs) : Type 0 where
  pub non_stored : length inputs.non_stored ≡ n
  pub reset : length inputs.reset ≡ n
  pub set : length inputs.set ≡ n
  pub pulse : length inputs.pulse ≡ n
  pub rising_pulse : length inputs.rising_pulse ≡ n
  pub falling_pulse : length inputs.falling_pulse ≡ n
  pub any_time : length inputs.any_time ≡ n
  pub more_times : length inputs.more_times ≡ n
  pub timed : AreAll n inputs.timed

abbrev pub cleared : ℕ → Inputs
cleared n = record {
  non_stored = replicate n false;
  reset = replicate n false;
  set = replicate n false;
  pulse = replicate n false;
  rising_pulse = replicate n false;
  falling_pulse = replicate n false;
  timed = none n;
  any_time = replicate n false;
  more_times = replicate n false;
}

-- the inputs with that of this action set, and that it has a time, or another
abbrev pub marked_timed : TimedQualifier → ℕ → Inputs → Inputs
marked_timed qualifier a i = record i {
  timed = with_action qualifier a i.timed;
  any_time = slice_set i.any_time a true;
  more_times = cond (flag i.any_time a) (slice_set i.more_times a true) i.more_times;
}

abbrev pub marked : Qualifier → ℕ → Inputs → Inputs
marked NonStored a i = record i { non_stored = slice_set i.non_stored a true }
marked Reset a i = record i { reset = slice_set i.reset a true }
marked Set a i = record i { set = slice_set i.set a true }
marked Pulse a i = record i { pulse = slice_set i.pulse a true }
marked RisingPulse a i = record i { rising_pulse = slice_set i.rising_pulse a true }
marked FallingPulse a i = record i { falling_pulse = slice_set i.falling_pulse a true }
marked (Timed qualifier time) a i = marked_timed qualifier a i

-- after these associations act
abbrev pub all_marked : List StepAction → Inputs → Inputs
all_marked [] i = i
all_marked (x ∷ xs) i = all_marked xs (marked x.qualifier x.action.0 i)

-- and the times of their actions
abbrev pub with_preset : List ℤ → StepAction → List ℤ → List ℤ
with_preset times x presets =
    cond (is_timed x.qualifier) (slice_set presets x.action.0 (slice_index_or times x.number.0 (pos 0))) presets

abbrev pub all_presets : List ℤ → List StepAction → List ℤ → List ℤ
all_presets times [] presets = presets
all_presets times (x ∷ xs) presets = all_presets times xs (with_preset times x presets)

-- the associations of a step
abbrev pub of_step : List StepAction → ℕ → List StepAction
of_step associations s = filter (λ x. x.step.0 == s) associations

-- the same after those of these steps
abbrev pub marked_at : List StepAction → List ℕ → Inputs → Inputs
marked_at associations [] i = i
marked_at associations (s ∷ places) i = marked_at associations places (all_marked (of_step associations s) i)

abbrev pub presets_at : List ℤ → List StepAction → List ℕ → List ℤ → List ℤ
presets_at times associations [] presets = presets
presets_at times associations (s ∷ places) presets =
    presets_at times associations places (all_presets times (of_step associations s) presets)

-- how many are of step `at` or a later one
unfoldable pub left : List StepAction → ℕ → ℕ
left [] at = 0
left (x ∷ xs) at = cond (nat_le at x.step.0) 1 0 + left xs at

-- what there is to do from step `at` on: the steps and their associations
abbrev pub work_from : List StepAction → List Bool → ℕ → ℕ
work_from associations active at = (length active - at) + left associations at

-- among n actions, and with its time among m
pub record IsWithin (n m : ℕ) (x : StepAction) : Type 0 where
  pub action : x.action.0 < n
  pub number : x.number.0 < m
