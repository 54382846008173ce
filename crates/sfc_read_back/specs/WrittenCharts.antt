-- The trees that a listing spells of steps (2.6.2), transitions (2.6.3) and actions (2.6.4).
use Rattle.std.specs.Prelude.{List, [], ◌++◌, map}
use Rattle.sfc_text.specs.declared.tree.Association as text_association
use Rattle.sfc_text.specs.declared.tree.AssociationTime as text_time
use Rattle.sfc_text.specs.declared.tree.AssociationTime.TheVariants as written_time
use Rattle.sfc_text.specs.declared.tree.Qualifier as text_qualifier
use Rattle.sfc_text.specs.declared.tree.Qualifier.TheVariants as written
use Rattle.sfc_text.specs.declared.tree.Step as text_step
use Rattle.sfc_text.specs.Trees.{ElementTree, AStep, ATransition, AnAction, TransitionTree, ActionTree}
use Rattle.sfc_plant.specs.declared.association.Association.{Association}
use Rattle.sfc_plant.specs.declared.association.Time.{Time}
use Rattle.sfc_plant.specs.declared.association.Time.TheVariants as time
use Rattle.sfc_plant.specs.declared.association.Qualifier.{Qualifier}
use Rattle.sfc_plant.specs.declared.association.Qualifier.TheVariants as qualifier
use Rattle.sfc_plant.specs.declared.action.Action.{Action}
use Rattle.sfc_plant.specs.declared.chart.Step.{Step}
use Rattle.sfc_plant.specs.declared.chart.Transition.{Transition}
use Rattle.sfc_plant.specs.declared.chart.Chart.{Chart}
use Rattle.sfc_plant.specs.Spaces.{Space}
use Rattle.sfc_plant.specs.Names.{variable_name, step_name, target_name}
use Rattle.sfc_read_back.specs.WrittenTerms.{expression_tree, body_tree}

-- ---- steps and their action blocks

abbrev pub time_tree : Space → Time → text_time.AssociationTime
time_tree space (time.Literal t) = written_time.Literal t
time_tree space (time.Variable v) = written_time.Variable (variable_name space v)

-- a qualifier with its time, if it has one (2.6.4.4)
abbrev pub qualifier_tree : Space → Qualifier → text_qualifier.Qualifier
qualifier_tree space qualifier.NonStored = written.NonStored
qualifier_tree space qualifier.Reset = written.Reset
qualifier_tree space qualifier.Set = written.Set
qualifier_tree space qualifier.Pulse = written.Pulse
qualifier_tree space qualifier.RisingPulse = written.RisingPulse
qualifier_tree space qualifier.FallingPulse = written.FallingPulse
qualifier_tree space (qualifier.Timed q t) = written.Timed q (time_tree space t)

abbrev pub association_tree : Space → Association → text_association.Association
association_tree space a = record {
  action = target_name space a.target;
  qualifier = qualifier_tree space a.qualifier;
  indicators = map (variable_name space) a.indicators;
}

abbrev pub step_tree : Space → Step → text_step.Step
step_tree space s =
    record { is_initial = s.is_initial; name = s.name; associations = map (association_tree space) s.associations }

-- ---- transitions and actions

abbrev pub transition_tree : Space → Transition → TransitionTree
transition_tree space t = record {
  name = t.name;
  priority = t.priority;
  preceding = map (step_name space) t.preceding;
  following = map (step_name space) t.following;
  condition = expression_tree space [] t.condition;
}

abbrev pub action_tree : Space → Action → ActionTree
action_tree space a = record { name = a.name; body = body_tree space a.name a.body }

-- ---- charts

-- steps, then transitions, then actions
abbrev pub element_trees : Space → Chart → List ElementTree
element_trees space chart =
    map (λ s. AStep (step_tree space s)) chart.steps
    ++ map (λ t. ATransition (transition_tree space t)) chart.transitions
    ++ map (λ a. AnAction (action_tree space a)) chart.actions
