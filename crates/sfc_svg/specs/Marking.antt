-- What the window on a program instance shows, as marks of its drawing.
use Rattle.std.specs.Prelude.{◌==◌, ◌&&◌, ◌++◌, ℕ, ℤ, Bool, false, List, [], Option, Some, None, codes, filter, length, map, nat_lt, slice_get, if◌then◌else◌}
use Rattle.std.specs.Fmt.{decimal}
use Rattle.std.specs.List.{filter_map, range_with_len}
use Rattle.sfc_base.specs.declared.ids.ProgId.{ProgId}
use Rattle.sfc_plant.specs.declared.association.Target.{Target}
use Rattle.sfc_plant.specs.declared.association.Target.TheVariants as target
use Rattle.sfc_plant.specs.Finding.{chart_of}
use Rattle.sfc_plant.specs.Plants.{PlantData}
use Rattle.sfc_drawing.specs.declared.drawn.ActionMark.{ActionMark}
use Rattle.sfc_drawing.specs.declared.drawn.TransitionMark.{TransitionMark}
use Rattle.sfc_drawing.specs.declared.marks.Marks.{Marks}
use Rattle.sfc_drawing.specs.declared.marks.StepState.{StepState}
use Rattle.sfc_replay.specs.sfc_tables.Tables.{Tabled, tables_of}
use Rattle.sfc_replay.specs.sfc_tables.declared.step_action.StepAction.{StepAction}
use Rattle.sfc_replay.specs.sfc_instance.declared.scan_fault.ScanFault.{ScanFault}
use Rattle.sfc_replay.specs.sfc_instance.Answers.{scan_count, is_step_active, step_elapsed, is_transition_cleared, is_action_executed}
use Rattle.sfc_replay.specs.sfc_instance.FaultNames.{fault_name}
use Rattle.sfc_replay.specs.sfc_instance.Life.{InstanceState}
use Rattle.sfc_replay.specs.sfc_instance.ProgramScan.{enabled}
use Rattle.sfc_replay.specs.sfc_instances.PlantState.{PlantState}
use Rattle.sfc_svg.specs.declared.force.Force.{Force}
use Rattle.sfc_svg.specs.Forces.{forces_of, forces_said, has_action}

-- the body of an action that was executed, or wasn't; none of a variable that is an action by itself (2.6.4.1)
abbrev pub body_mark : Bool → Option Target → Option ActionMark
body_mark is_executed None = None
body_mark is_executed (Some (target.Boolean v)) = None
body_mark is_executed (Some (target.Declared id)) = Some record { is_executed = is_executed; is_forced = false; is_never = false }

module _ (tables : Tabled) (state : InstanceState) where
  -- for how long a step is active at the latest scan, if it is (2.6.2)
  abbrev pub active_told : ℕ → Option ℤ
  active_told s = if is_step_active tables state s then Some (step_elapsed tables state s) else None

  -- a transition: all its preceding steps are active (2.6.3), and the latest scan cleared it (2.6.5)
  abbrev pub transition_told : ℕ → TransitionMark
  transition_told tr = record {
    is_enabled = enabled tables state.life tr;
    is_cleared = is_transition_cleared tables state tr;
    is_never = false;
  }

  -- it is one of the actions, and the latest scan executed it (2.6.4.5)
  abbrev pub is_executed : ℕ → Bool
  is_executed a = nat_lt a (length tables.actions) && is_action_executed tables state a

  -- the bodies of actions (2.6.4.1), in the order of the text
  abbrev pub bodies_told : List ActionMark
  bodies_told = filter_map (λ (a : ℕ). body_mark (is_executed a) (slice_get tables.actions a)) (range_with_len 0 (length tables.actions))

  -- an association of a step (2.6.4.3): the step is active and the latest scan executed the action; the action is a variable that is forced
  abbrev pub row_told : List Force → ℕ → StepAction → ActionMark
  row_told forces s association = record {
    is_executed = is_step_active tables state s && is_executed association.action.0;
    is_forced = has_action forces (slice_get tables.actions association.action.0);
    is_never = false;
  }

  -- a step, with its associations in the order of the text
  abbrev pub step_told : List Force → ℕ → StepState
  step_told forces s = record {
    active = active_told s;
    is_never = false;
    rows = map (row_told forces s) (filter (λ (association : StepAction). association.step.0 == s) tables.associations);
  }

-- ---- behind the name

abbrev pub fault_told : Option ScanFault → List ℕ
fault_told None = []
fault_told (Some fault) = codes ", fault " ++ fault_name fault

-- how many scans its life has had, its fault, and what is forced
abbrev pub note_told : PlantData → InstanceState → List Force → List ℕ
note_told plant state forces = codes ", scans " ++ decimal (scan_count state) ++ fault_told state.fault ++ forces_said plant forces

-- ---- of all of it

abbrev pub marks_in : PlantData → Tabled → InstanceState → List Force → Marks
marks_in plant tables state forces = record {
  note = note_told plant state forces;
  steps = map (step_told tables state forces) (range_with_len 0 (length tables.initial));
  transitions = map (transition_told tables state) (range_with_len 0 (length tables.sides));
  bodies = bodies_told tables state;
}

-- a program instance of a plant that stands so
abbrev pub marks_told : PlantData → PlantState → ProgId → Marks
marks_told plant state p = marks_in plant (tables_of (chart_of plant p)) (state.instance_state p.0) (forces_of plant state.changes p)
