-- What a program instance reads of an image (2.4.3, 2.5.3).
use Rattle.std.specs.Prelude.{ℕ, ◌+◌, nat_lt, cond, Bool, false, List, length, ℤ, pos, Option, Some, None, is_some, slice_index_or}
use Rattle.sfc_flags.specs.Flags.{flag}
use Rattle.sfc_base.specs.declared.value.Value.{Value}
use Rattle.sfc_base.specs.declared.value.Value.TheVariants as value
use Rattle.sfc_base.specs.declared.references.Variable.{Variable}
use Rattle.sfc_base.specs.declared.references.Variable.TheVariants.{Global, Local}
use Rattle.sfc_expr.specs.Environment.{Environment}
use Rattle.sfc_base.specs.declared.ids.ProgId.{ProgId}
use Rattle.sfc_plant.specs.Plants.{PlantData}
use Rattle.sfc_plant.specs.Finding.{first_local, instance_locals}
use Rattle.sfc_image.specs.Changes.{Change}
use Rattle.sfc_image.specs.declared.step_readings.StepReadings.{StepReadings}
use Rattle.sfc_image.specs.StepTimes.{times_of}
use Rattle.sfc_image.specs.Values.{stored_value, forced_value}

-- The number of a variable where there are so many globals, and so many locals from number `first` on: a global has its
-- own place, a local its place behind the first.
abbrev pub number_among : ℕ → ℕ → ℕ → Variable → Option ℕ
number_among globals first locals (Global id) = cond (nat_lt id.0 globals) (Some id.0) None
number_among globals first locals (Local id) = cond (nat_lt id.0 locals) (Some (first + id.0)) None

-- the number of a variable of the instance's program
abbrev pub number_of : PlantData → ProgId → Variable → Option ℕ
number_of plant p = number_among (length plant.globals) (first_local plant p) (length (instance_locals plant p))

-- where there is no such variable FALSE is read
abbrev pub read_at : (ℕ → Value) → Option ℕ → Value
read_at reads None = value.Bool false
read_at reads (Some i) = reads i

-- where there is no such variable none is forced
abbrev pub force_at : (ℕ → Option Value) → Option ℕ → Option Value
force_at forces None = None
force_at forces (Some i) = forces i

-- Which steps are active and their times are handed in, by the steps' numbers, and so is Q.
pub record Moment : Type 0 where
  pub active : List Bool
  pub times : List ℤ
  pub q : Bool

abbrev pub moment_of : StepReadings → Bool → Moment
moment_of steps q = record { active = steps.active.now; times = times_of steps; q = q }

-- what the expressions of the instance's program read after these changes, and what its statements write to
abbrev pub environment_of : PlantData → List Change → ProgId → Moment → Environment
environment_of plant changes p moment = record {
  has = λ v. is_some (number_of plant p v);
  stored_at = λ v. read_at (stored_value plant changes) (number_of plant p v);
  forced_at = λ v. force_at (forced_value changes) (number_of plant p v);
  is_active = λ step. flag moment.active step.0;
  time_of = λ step. slice_index_or moment.times step.0 (pos 0);
  q = moment.q;
}
