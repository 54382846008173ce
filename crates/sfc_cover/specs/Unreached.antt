-- What scripts never reach, as marks of a drawing.
use Rattle.std.specs.Prelude.{◌≡◌, ◌==◌, ℕ, Bool, true, false, not, List, [], Option, Some, None, if◌then◌else◌}
use Rattle.std.specs.Prelude.{filter, is_none, length, map, slice_get}
use Rattle.std.specs.List.{filter_map, range_with_len}
use Rattle.sfc_base.specs.declared.ids.ProgId.{ProgId}
use Rattle.sfc_base.specs.declared.ids.TypeId.{TypeId}
use Rattle.sfc_plant.specs.declared.association.Target.{Target}
use Rattle.sfc_plant.specs.declared.association.Target.TheVariants as target
use Rattle.sfc_plant.specs.declared.instance.Instance.{Instance}
use Rattle.sfc_plant.specs.declared.program_type.ProgramType.{ProgramType}
use Rattle.sfc_plant.specs.Finding.{type_named}
use Rattle.sfc_plant.specs.ProgramTypes.{type_of}
use Rattle.sfc_plant.specs.Plants.{PlantData}
use Rattle.sfc_drawing.specs.declared.drawn.ActionMark.{ActionMark}
use Rattle.sfc_drawing.specs.declared.drawn.TransitionMark.{TransitionMark}
use Rattle.sfc_drawing.specs.declared.marks.Marked.{Marked}
use Rattle.sfc_drawing.specs.declared.marks.Marks.{Marks}
use Rattle.sfc_drawing.specs.declared.marks.StepState.{StepState}
use Rattle.sfc_drawing.specs.Drawings.{IsMarkedDrawing}
use Rattle.sfc_replay.specs.sfc_tables.Tables.{Tabled, tables_of}
use Rattle.sfc_replay.specs.sfc_tables.declared.step_action.StepAction.{StepAction}
use Rattle.sfc_cover.specs.declared.reach.Reach.{Reach}
use Rattle.sfc_cover.specs.declared.reached.Reached.{Reached}
use Rattle.sfc_cover.specs.declared.reached.Reached.TheVariants as reached
use Rattle.sfc_cover.specs.declared.reached.TransitionReach.{TransitionReach}

-- it is one of these, and marked
abbrev pub is_marked : Option Bool → Bool
is_marked None = false
is_marked (Some b) = b

-- it was cleared (2.6.5)
abbrev pub is_cleared : Reached → Bool
is_cleared reached.Never = false
is_cleared reached.Enabled = false
is_cleared reached.True = false
is_cleared reached.Cleared = true

abbrev pub was_cleared : Option TransitionReach → Bool
was_cleared None = false
was_cleared (Some transition) = is_cleared transition.reached

-- a transition that no scan cleared
abbrev pub transition_mark : Reach → ℕ → TransitionMark
transition_mark reach tr = record {
  is_enabled = false;
  is_cleared = false;
  is_never = not (was_cleared (slice_get reach.transitions.items tr));
}

-- an action that no scan executed (2.6.4.5)
abbrev pub action_mark : Reach → ℕ → ActionMark
action_mark reach a = record {
  is_executed = false;
  is_forced = false;
  is_never = not (is_marked (slice_get reach.actions.items a));
}

-- the body of such a one, if it has one (2.6.4.1)
abbrev pub body_mark : ActionMark → Option Target → Option ActionMark
body_mark mark None = None
body_mark mark (Some (target.Boolean v)) = None
body_mark mark (Some (target.Declared id)) = Some mark

module _ (tables : Tabled) (reach : Reach) where
  -- a step that was never active (2.6.2), with its associations
  abbrev pub step_mark : ℕ → StepState
  step_mark s = record {
    active = None;
    is_never = not (is_marked (slice_get reach.steps.items s));
    rows = map (λ (association : StepAction). action_mark reach association.action.0)
        (filter (λ (association : StepAction). association.step.0 == s) tables.associations);
  }

  abbrev pub body_marks : List ActionMark
  body_marks =
      filter_map (λ (a : ℕ). body_mark (action_mark reach a) (slice_get tables.actions a)) (range_with_len 0 (length tables.actions))

  -- all of a chart with these tables, and nothing behind its name
  abbrev pub marks_of : Marks
  marks_of = record {
    note = [];
    steps = map step_mark (range_with_len 0 (length tables.initial));
    transitions = map (transition_mark reach) (range_with_len 0 (length tables.sides));
    bodies = body_marks;
  }

-- ---- of a plant

-- the program type of the name that is wanted; none where all are
abbrev pub wanted_of : PlantData → Option (List ℕ) → Option TypeId
wanted_of plant None = None
wanted_of plant (Some name) = type_named plant name

-- no program type has the name
abbrev pub is_missing : PlantData → Option (List ℕ) → Bool
is_missing plant None = false
is_missing plant (Some name) = is_none (type_named plant name)

-- the instance is of the program type (2.7.1)
abbrev pub is_of : TypeId → Option Instance → Bool
is_of id None = false
is_of id (Some instance) = instance.program.0 == id.0

-- it is of the program type that is wanted; all are, where none is named
abbrev pub is_wanted : Option TypeId → Option Instance → Bool
is_wanted None instance = true
is_wanted (Some id) instance = is_of id instance

-- a program instance of this type, of which so much was reached
abbrev pub instance_marks : ProgId → Option ProgramType → Option Reach → Option Marked
instance_marks p None reach = None
instance_marks p (Some program) None = None
instance_marks p (Some program) (Some reach) = Some record { instance = p; marks = marks_of (tables_of program.chart) reach }

-- the same, if it is wanted
abbrev pub wanted_marks : PlantData → List Reach → Option TypeId → ProgId → Option Marked
wanted_marks plant reaches wanted p =
    if is_wanted wanted (slice_get plant.instances p.0) then instance_marks p (type_of plant p) (slice_get reaches p.0) else None

-- of those that are wanted, in the order of the text
abbrev pub all_marks : PlantData → List Reach → Option TypeId → List Marked
all_marks plant reaches wanted =
    filter_map (λ (n : ℕ). wanted_marks plant reaches wanted (record { 0 = n })) (range_with_len 0 (length plant.instances))

-- without what stands behind the name
abbrev pub without_note : Marks → Marks
without_note marks = record { note = []; steps = marks.steps; transitions = marks.transitions; bodies = marks.bodies }

abbrev pub unnoted : Marked → Marked
unnoted m = record { instance = m.instance; marks = without_note m.marks }

-- The drawing of the program instances of a plant that are wanted, of which so much was reached: what was never reached is marked, and
-- nothing else is. What stands behind the name of each is free.
pub record IsUnreachedOf (plant : PlantData) (reaches : List Reach) (wanted : Option TypeId) (text : List ℕ) : Type 0 where
  pub marked : List Marked
  pub unreached : map unnoted marked ≡ all_marks plant reaches wanted
  pub drawn : IsMarkedDrawing plant marked text

-- what Cover::drawing answers: the drawing, or none where no program type has the name
abbrev pub IsCovered : PlantData → List Reach → Option (List ℕ) → Option (List ℕ) → Type 0
IsCovered plant reaches name None = is_missing plant name ≡ true
IsCovered plant reaches name (Some text) = (is_missing plant name ≡ false) × IsUnreachedOf plant reaches (wanted_of plant name) text
