-- What later answers need of how the variables and the program instances of a plant came to stand.
use Rattle.std.specs.Prelude.{ℕ, ◌+◌, List, [], ◌∷◌, map, length}
use Rattle.std.specs.List.{range_with_len}
use Rattle.sfc_instance.specs.sfc_tables.Tables.{Tabled, tables_of}
use Rattle.sfc_plant.specs.Plants.{PlantData}
use Rattle.sfc_plant.specs.Finding.{chart_of}
use Rattle.sfc_instance.specs.sfc_image.Past as image
use Rattle.sfc_instance.specs.sfc_image.Past.{VariablePast, image_past}
use Rattle.sfc_instance.specs.declared.program.Program.{Program}
use Rattle.sfc_instance.specs.Past as program
use Rattle.sfc_instance.specs.Past.{InstancePast, instance_past}
use Rattle.sfc_instances.specs.declared.instances.Instances.{Instances}
use Rattle.sfc_instances.specs.PlantState.{PlantState}

-- of each variable, and of each program instance
pub record InstancesPast : Type 0 where
  pub variables : List VariablePast
  pub programs : List InstancePast

-- the tables of instance k
abbrev pub tables_at : PlantData → ℕ → Tabled
tables_at plant k = tables_of (chart_of plant (record { 0 = k }))

abbrev pub program_past : PlantData → PlantState → ℕ → InstancePast
program_past plant state k = instance_past (tables_at plant k) (state.instance_state k)

abbrev pub instances_past : PlantData → PlantState → InstancesPast
instances_past plant state = record {
  variables = image_past plant state.changes;
  programs = map (program_past plant state) (range_with_len 0 (length plant.instances));
}

-- ---- the past that the instances keep

-- of these programs, the first of which is that of instance k
abbrev pub programs_in : PlantData → ℕ → List Program → List InstancePast
programs_in plant k [] = []
programs_in plant k (one ∷ rest) = program.past_in (tables_at plant k) one ∷ programs_in plant (k + 1) rest

unfoldable pub past_in : PlantData → Instances → InstancesPast
past_in plant instances =
    record { variables = image.past_in plant instances.image; programs = programs_in plant 0 instances.programs.items }
