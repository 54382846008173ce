-- Programs as they stood.
use Rattle.std.specs.Prelude.{ℕ, ◌≡◌, ◌<◌, length, Option, None, Some, slice_get}
use Rattle.sfc_flags.specs.Flags.{flag}
use Rattle.sfc_output.specs.sfc_instance.Answers.{is_step_active, is_transition_cleared, is_action_executed}
use Rattle.sfc_output.specs.sfc_instance.Life.{InstanceState}
use Rattle.sfc_output.specs.sfc_instances.PlantState.{PlantState}
use Rattle.sfc_output.specs.sfc_tables.Tables.{Tabled, tables_of}
use Rattle.sfc_plant.specs.Finding.{chart_of}
use Rattle.sfc_plant.specs.Plants.{PlantData}
use Rattle.sfc_panel.specs.declared.picture.Picture.{Picture}
use Rattle.sfc_panel.specs.declared.picture.Shot.{Shot}

-- its active steps (2.6.2), and which transitions its latest scan cleared (2.6.5) and which actions it executed (2.6.4.5)
pub record IsShot (tables : Tabled) (state : InstanceState) (shot : Shot) : Type 0 where
  pub steps : length shot.active ≡ length tables.initial
  pub active : (s : ℕ) → s < length tables.initial → flag shot.active s ≡ is_step_active tables state s
  pub transitions : length shot.cleared ≡ length tables.sides
  pub cleared : (tr : ℕ) → tr < length tables.sides → flag shot.cleared tr ≡ is_transition_cleared tables state tr
  pub actions : length shot.executed ≡ length tables.actions
  pub executed : (a : ℕ) → a < length tables.actions → flag shot.executed a ≡ is_action_executed tables state a

-- there is one of program k
abbrev pub IsShotAt : PlantData → PlantState → ℕ → Option Shot → Type 0
IsShotAt plant state k None = ⊥
IsShotAt plant state k (Some shot) = IsShot (tables_of (chart_of plant (record { 0 = k }))) (state.instance_state k) shot

-- so it is of each program
unfoldable pub IsPicture : PlantData → PlantState → Picture → Type 0
IsPicture plant state picture =
    (k : ℕ) → k < length plant.instances → IsShotAt plant state k (slice_get picture.shots.items k)
