-- Copies of programs.
use Rattle.std.specs.Prelude.{ℕ, ◌<◌, List, slice_index_or}
use Rattle.sfc_plant.specs.Plants.{PlantData}
use Rattle.sfc_instance.specs.declared.program.Program.{Program}
use Rattle.sfc_instance.specs.Agreement.{ProgramAgrees}
use Rattle.sfc_instance.specs.Life.{InstanceState}
use Rattle.sfc_instances.specs.Past.{tables_at}

-- the program of instance k agrees with all that the other agrees with
abbrev pub Takes : PlantData → ℕ → Program → Program → Type 0
Takes plant k from to = (instance_state : InstanceState) →
    ProgramAgrees (tables_at plant k) from instance_state → ProgramAgrees (tables_at plant k) to instance_state

-- the first n of these
abbrev pub AreTaken : PlantData → ℕ → List Program → List Program → Type 0
AreTaken plant n from to = (k : ℕ) (d : Program) → k < n → Takes plant k (slice_index_or from k d) (slice_index_or to k d)
