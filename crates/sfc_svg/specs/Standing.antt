-- The drawing of a plant's program instances as they stand.
use Rattle.std.specs.Prelude.{◌≡◌, ◌==◌, ℕ, Bool, true, false, List, Option, Some, None, length, slice_get, if◌then◌else◌}
use Rattle.std.specs.List.{filter_map, range_with_len}
use Rattle.sfc_base.specs.declared.ids.ProgId.{ProgId}
use Rattle.sfc_base.specs.declared.ids.TypeId.{TypeId}
use Rattle.sfc_plant.specs.declared.instance.Instance.{Instance}
use Rattle.sfc_plant.specs.Plants.{PlantData}
use Rattle.sfc_drawing.specs.declared.marks.Marked.{Marked}
use Rattle.sfc_drawing.specs.Drawings.{IsMarkedDrawing}
use Rattle.sfc_replay.specs.sfc_instances.PlantState.{PlantState}
use Rattle.sfc_svg.specs.Drawn.{is_missing, wanted_of}
use Rattle.sfc_svg.specs.Marking.{marks_told}

-- the instance is of the program type (2.7.1)
abbrev pub is_of : TypeId → Option Instance → Bool
is_of id None = false
is_of id (Some instance) = instance.program.0 == id.0

-- it is of the program type that is wanted; all are, where none is named
abbrev pub is_wanted : Option TypeId → Option Instance → Bool
is_wanted None instance = true
is_wanted (Some id) instance = is_of id instance

-- a program instance with what its window shows, if it is wanted
abbrev pub shown_of : PlantData → PlantState → Option TypeId → ProgId → Option Marked
shown_of plant state wanted p =
    if is_wanted wanted (slice_get plant.instances p.0) then Some record { instance = p; marks = marks_told plant state p } else None

-- those that are wanted, in the order of the text
abbrev pub shown : PlantData → PlantState → Option TypeId → List Marked
shown plant state wanted =
    filter_map (λ (n : ℕ). shown_of plant state wanted (record { 0 = n })) (range_with_len 0 (length plant.instances))

-- The drawing of the program instances of a plant that stands so: of all, or of those of the program type with this name.
pub record IsDrawingAt (plant : PlantData) (state : PlantState) (name : Option (List ℕ)) (text : List ℕ) : Type 0 where
  pub named : is_missing plant name ≡ false
  pub drawn : IsMarkedDrawing plant (shown plant state (wanted_of plant name)) text
