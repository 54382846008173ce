-- The program type that a text without fault is: each name that was looked up stands as what it is.
use Rattle.std.specs.Prelude.{ℕ, false, List, map, Option, Some, None, unwrap_or}
use Rattle.sfc_base.specs.declared.var_type.VarType.{VarType}
use Rattle.sfc_base.specs.declared.var_type.VarType.TheVariants as types
use Rattle.sfc_text.specs.declared.tree.Association as text_association
use Rattle.sfc_text.specs.declared.tree.AssociationTime as text_time
use Rattle.sfc_text.specs.declared.tree.AssociationTime.TheVariants as written_time
use Rattle.sfc_text.specs.declared.tree.Qualifier as text_qualifier
use Rattle.sfc_text.specs.declared.tree.Qualifier.TheVariants as written
use Rattle.sfc_text.specs.declared.tree.Step as text_step
use Rattle.sfc_text.specs.Trees.{ElementTree, TransitionTree, ActionTree, ProgramTree}
use Rattle.sfc_base.specs.declared.value.Value.TheVariants as value
use Rattle.sfc_base.specs.declared.references.Variable as expr
use Rattle.sfc_base.specs.declared.references.Variable.TheVariants.{Global}
use Rattle.sfc_base.specs.declared.references.StepId.{StepId}
use Rattle.sfc_expr.specs.Trees.{Literal, Nothing}
use Rattle.sfc_check.specs.Checking.{checked, checked_body}
use Rattle.sfc_base.specs.NameLists.{place_of}
use Rattle.sfc_plant.specs.declared.variable.Variable.{Variable}
use Rattle.sfc_variables.specs.Checks.{checked_or}
use Rattle.sfc_plant.specs.VariableNames.{variable_named}
use Rattle.sfc_variables.specs.Own.{locals_of, externals_of}
use Rattle.sfc_plant.specs.declared.association.Association.{Association}
use Rattle.sfc_plant.specs.declared.association.Target.{Target}
use Rattle.sfc_plant.specs.declared.association.Target.TheVariants as target
use Rattle.sfc_plant.specs.declared.association.Time.{Time}
use Rattle.sfc_plant.specs.declared.association.Time.TheVariants as time
use Rattle.sfc_plant.specs.declared.association.Qualifier.{Qualifier}
use Rattle.sfc_plant.specs.declared.association.Qualifier.TheVariants as qualifier
use Rattle.sfc_plant.specs.declared.action.Action.{Action}
use Rattle.sfc_plant.specs.declared.chart.Step.{Step}
use Rattle.sfc_plant.specs.declared.chart.Transition.{Transition}
use Rattle.sfc_plant.specs.declared.chart.Chart.{Chart}
use Rattle.sfc_plant.specs.declared.program_type.ProgramType.{ProgramType}
use Rattle.sfc_program.specs.Elements.{steps_of, transitions_of, actions_of}
use Rattle.sfc_plant.specs.Spaces.{Space}
use Rattle.sfc_program.specs.Names.{names_in}
use Rattle.sfc_program.specs.Loading.{space_of}

-- ---- associations

-- the variable that was found; where there is none a check has failed
abbrev pub found : Option (expr.Variable × VarType) → expr.Variable
found (Some v) = v.0
found None = Global (record { 0 = 0 })

abbrev pub variable_in : Space → List ℕ → expr.Variable
variable_in space name = found (variable_named space.locals space.globals name)

-- a declared action goes before a variable of its name
abbrev pub target_by : Option ℕ → expr.Variable → Target
target_by (Some place) v = target.Declared (record { 0 = place })
target_by None v = target.Boolean v

abbrev pub target_of : Space → List ℕ → Target
target_of space name = target_by (place_of name space.actions) (variable_in space name)

abbrev pub time_of : Space → text_time.AssociationTime → Time
time_of space (written_time.Literal t) = time.Literal t
time_of space (written_time.Variable name) = time.Variable (variable_in space name)

abbrev pub qualifier_of : Space → text_qualifier.Qualifier → Qualifier
qualifier_of space written.NonStored = qualifier.NonStored
qualifier_of space written.Reset = qualifier.Reset
qualifier_of space written.Set = qualifier.Set
qualifier_of space written.Pulse = qualifier.Pulse
qualifier_of space written.RisingPulse = qualifier.RisingPulse
qualifier_of space written.FallingPulse = qualifier.FallingPulse
qualifier_of space (written.Timed q t) = qualifier.Timed q (time_of space t)

abbrev pub association_of : Space → text_association.Association → Association
association_of space a = record {
  target = target_of space a.action;
  qualifier = qualifier_of space a.qualifier;
  indicators = map (variable_in space) a.indicators;
}

abbrev pub step_of : Space → text_step.Step → Step
step_of space s =
    record { name = s.name; is_initial = s.is_initial; associations = map (association_of space) s.associations }

-- ---- transitions and actions

abbrev pub step_id : List (List ℕ) → List ℕ → StepId
step_id steps name = record { 0 = unwrap_or (place_of name steps) 0 }

abbrev pub step_ids : List (List ℕ) → List (List ℕ) → List StepId
step_ids steps names = map (step_id steps) names

abbrev pub transition_of : Space → TransitionTree → Transition
transition_of space t = record {
  name = t.name;
  priority = t.priority;
  preceding = step_ids space.steps t.preceding;
  following = step_ids space.steps t.following;
  condition = checked_or (Literal (value.Bool false)) (checked (names_in space None) t.condition types.Bool);
}

abbrev pub action_of : Space → ActionTree → Action
action_of space a =
    record { name = a.name; body = checked_or Nothing (checked_body (names_in space (Some a.name)) a.body) }

-- ---- program types

abbrev pub chart_of : Space → List ElementTree → Chart
chart_of space elements = record {
  steps = map (step_of space) (steps_of elements);
  transitions = map (transition_of space) (transitions_of elements);
  actions = map (action_of space) (actions_of elements);
}

abbrev pub program_of : List Variable → ProgramTree → ProgramType
program_of globals p = record {
  name = p.name;
  locals = locals_of p.variables;
  externals = externals_of globals p.variables;
  chart = chart_of (space_of globals p) p.elements;
}
