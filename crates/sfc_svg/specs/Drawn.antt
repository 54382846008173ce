-- What a drawing of a plant's program types is, and why there is none.
use Rattle.std.specs.Prelude.{◌≡◌, ℕ, Bool, true, false, List, Option, Some, None, is_none, ⊤}
use Rattle.sfc_base.specs.declared.ids.TypeId.{TypeId}
use Rattle.sfc_plant.specs.Finding.{type_named}
use Rattle.sfc_plant.specs.Plants.{PlantData}
use Rattle.sfc_drawing.specs.Drawings.{IsDrawing, wanted_types}
use Rattle.sfc_drawing.specs.declared.drawing_error.DrawingError.{DrawingError}
use Rattle.sfc_drawing.specs.declared.drawing_error.DrawingError.TheVariants as drawing
use Rattle.sfc_replay.specs.declared.replay_error.ReplayError.TheVariants as replay
use Rattle.sfc_svg.specs.declared.svg_error.SvgError.{SvgError}
use Rattle.sfc_svg.specs.declared.svg_error.SvgError.TheVariants as svg

abbrev pub of_drawing : DrawingError → SvgError
of_drawing (drawing.Layout error) = svg.TooLarge
of_drawing drawing.OutOfMemory = svg.Replay replay.Memory

-- the program type of the name that is wanted; none where all are
abbrev pub wanted_of : PlantData → Option (List ℕ) → Option TypeId
wanted_of plant None = None
wanted_of plant (Some name) = type_named plant name

-- no program type has the name
abbrev pub is_missing : PlantData → Option (List ℕ) → Bool
is_missing plant None = false
is_missing plant (Some name) = is_none (type_named plant name)

-- of all program types, or of the one with this name
pub record IsDrawingOf (plant : PlantData) (name : Option (List ℕ)) (text : List ℕ) : Type 0 where
  pub named : is_missing plant name ≡ false
  pub drawn : IsDrawing plant.globals (wanted_types plant.types (wanted_of plant name)) text

-- why a plant isn't drawn; a drawing that is too large, and want of memory, say nothing
abbrev pub IsUndrawnFor : PlantData → Option (List ℕ) → SvgError → Type 0
IsUndrawnFor plant name svg.NoSuchType = is_missing plant name ≡ true
IsUndrawnFor plant name svg.TooLarge = ⊤
IsUndrawnFor plant name (svg.Replay replay.Memory) = ⊤
IsUndrawnFor plant name (svg.Replay _) = ⊥
