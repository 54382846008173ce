-- What a drawing is: the charts of program types, or those of instances.
use Rattle.std.specs.Prelude.{◌≡◌, ◌++◌, ◌+◌, ℕ, List, [], ◌∷◌, Option, Some, None, codes, length, nat_lt, slice_range, if◌then◌else◌}
use Rattle.sfc_base.specs.declared.ids.TypeId.{TypeId}
use Rattle.sfc_plant.specs.declared.program_type.ProgramType.{ProgramType}
use Rattle.sfc_plant.specs.declared.variable.Variable.{Variable}
use Rattle.sfc_plant.specs.PlantNames.{instance_name}
use Rattle.sfc_plant.specs.Plants.{PlantData}
use Rattle.sfc_plant.specs.ProgramTypes.{type_of}
use Rattle.sfc_plant.specs.Spaces.{space_in}
use Rattle.sfc_drawing.specs.declared.drawn.DrawnChart.{DrawnChart}
use Rattle.sfc_drawing.specs.declared.drawn.Picture.{Picture}
use Rattle.sfc_drawing.specs.declared.marks.Marked.{Marked}
use Rattle.sfc_drawing.specs.declared.marks.Marks.{Marks}
use Rattle.sfc_tables.specs.Ranks.{priorities_of, rank_order}
use Rattle.sfc_drawing.specs.Said.{IsDrawn}
use Rattle.sfc_drawing.specs.Pictures.{picture_text}

-- the chart of a program type among these globals, under this name, with this behind it, and with what is told of it
pub record IsOf (globals : List Variable) (name note : List ℕ) (told : Marks) (p : ProgramType) (c : DrawnChart) : Type 0 where
  pub name_of : c.name ≡ name
  pub note_of : c.note ≡ note
  pub chart : IsDrawn (space_in globals p) p.chart (rank_order (priorities_of p.chart.transitions)) told c

-- nothing is told
abbrev pub nothing : Marks
nothing = record { note = []; steps = []; transitions = []; bodies = [] }

-- each type has its chart, under its own name
abbrev pub AreOf : List Variable → List ProgramType → List DrawnChart → Type 0
AreOf globals [] [] = Unit {0}
AreOf globals (p ∷ types) (c ∷ charts) = IsOf globals p.name [] nothing p c × AreOf globals types charts
AreOf globals types charts = ⊥

-- all types, or this one
abbrev pub wanted_types : List ProgramType → Option TypeId → List ProgramType
wanted_types types None = types
wanted_types types (Some id) = if nat_lt id.0 (length types) then slice_range types id.0 (id.0 + 1) else []

-- the text of a picture of these types
pub record IsDrawing (globals : List Variable) (types : List ProgramType) (text : List ℕ) : Type 0 where
  pub picture : Picture
  pub charts : AreOf globals types picture.charts
  pub whole : text ≡ picture_text picture

-- what stands behind the name of an instance
abbrev pub note_of : ProgramType → Marks → List ℕ
note_of p told = codes " : " ++ p.name ++ told.note

-- the chart of an instance, under its own name, where it has this type; none where the plant has no such instance
abbrev pub IsOfInstance : PlantData → Marked → Option ProgramType → Option DrawnChart → Type 0
IsOfInstance plant m None None = Unit {0}
IsOfInstance plant m (Some p) (Some c) = IsOf plant.globals (instance_name plant m.instance) (note_of p m.marks) m.marks p c
IsOfInstance plant m _ _ = ⊥

abbrev pub if_some : Option DrawnChart → List DrawnChart
if_some None = []
if_some (Some c) = c ∷ []

-- each instance has its chart, in turn
abbrev pub AreOfInstances : PlantData → List Marked → List DrawnChart → Type 0
AreOfInstances plant [] charts = charts ≡ []
AreOfInstances plant (m ∷ marked) charts =
    (first : Option DrawnChart) × (others : List DrawnChart) × (charts ≡ if_some first ++ others)
    × IsOfInstance plant m (type_of plant m.instance) first × AreOfInstances plant marked others

-- the text of a picture of these instances
pub record IsMarkedDrawing (plant : PlantData) (marked : List Marked) (text : List ℕ) : Type 0 where
  pub picture : Picture
  pub charts : AreOfInstances plant marked picture.charts
  pub whole : text ≡ picture_text picture
