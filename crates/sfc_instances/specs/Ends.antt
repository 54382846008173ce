-- How the scans of a task's instances end, as bits (2.7.2).
use Rattle.std.specs.Prelude.{ℕ, ◌≡◌, suc, ◌+◌, ◌==◌, ◌^◌, Bool, true, false, cond, List, [], ◌∷◌, ℤ}
use Rattle.sfc_base.specs.declared.ids.TaskId.{TaskId}
use Rattle.sfc_plant.specs.declared.instance.Instance.{Instance}
use Rattle.sfc_plant.specs.Plants.{PlantData}
use Rattle.sfc_instance.specs.declared.scan_end.ScanEnd.{ScanEnd}
use Rattle.sfc_instance.specs.declared.scan_end.ScanEnd.TheVariants.{Ran, Faulted, Skipped}
use Rattle.sfc_instances.specs.declared.bits.Bits.{Bits}
use Rattle.sfc_instances.specs.PlantState.{PlantState, program_scan, after_instance}

-- these ends are the same
abbrev pub is_so : ScanEnd → ScanEnd → Bool
is_so Ran Ran = true
is_so Faulted Faulted = true
is_so Skipped Skipped = true
is_so _ _ = false

-- instance k has bit k: it is set if the instance's scan ends so
abbrev pub bit_of : ScanEnd → ℕ → ScanEnd → ℕ
bit_of how k scan_end = cond (is_so how scan_end) (2 ^ k) 0

-- set only if this task is the instance's own
abbrev pub instance_bit : ScanEnd → PlantData → TaskId → ℤ → ℕ → Instance → PlantState → ℕ
instance_bit how plant task t k instance state =
    cond (instance.task.0 == task.0) (bit_of how k (program_scan plant t k state).scan_end) 0

-- the bits of the task's instances among these, after their scans at t one after the other; the first of these has number k
abbrev pub bits_of : ScanEnd → PlantData → TaskId → ℤ → ℕ → List Instance → PlantState → ℕ
bits_of how plant task t k [] state = 0
bits_of how plant task t k (instance ∷ instances) state =
    instance_bit how plant task t k instance state
    + bits_of how plant task t (suc k) instances (after_instance plant task t k instance state)

-- the bits of a scan of the task at t, where variables and instances stood so before it
pub record AreBits (plant : PlantData) (task : TaskId) (t : ℤ) (state : PlantState) (bits : Bits) : Type 0 where
  pub ran : bits.ran.bits ≡ bits_of Ran plant task t 0 plant.instances state
  pub faulted : bits.faulted.bits ≡ bits_of Faulted plant task t 0 plant.instances state
  pub skipped : bits.skipped.bits ≡ bits_of Skipped plant task t 0 plant.instances state
