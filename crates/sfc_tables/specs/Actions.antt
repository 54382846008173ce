-- The actions of a chart and their numbers (2.6.4.1, 2.6.4.3).
use Rattle.std.specs.Prelude.{ℕ, ◌==◌, Bool, false, not, List, [], ◌∷◌, ◌++◌, length, map, filter, Option, Some, None}
use Rattle.std.specs.List.{flat_map, filter_map, position_or_len, range_with_len}
use Rattle.sfc_base.specs.declared.references.Variable.{Variable}
use Rattle.sfc_base.specs.declared.references.Variable.TheVariants as variable
use Rattle.sfc_plant.specs.declared.association.Association.{Association}
use Rattle.sfc_plant.specs.declared.association.Target.{Target}
use Rattle.sfc_plant.specs.declared.association.Target.TheVariants as target
use Rattle.sfc_base.specs.declared.ids.ActionId.{ActionId}
use Rattle.sfc_base.specs.declared.ids.ActionNumber.{ActionNumber}
use Rattle.sfc_plant.specs.declared.chart.Step.{Step}
use Rattle.sfc_plant.specs.declared.chart.Chart.{Chart}

abbrev pub same_variable : Variable → Variable → Bool
same_variable (variable.Global a) (variable.Global b) = a.0 == b.0
same_variable (variable.Local a) (variable.Local b) = a.0 == b.0
same_variable _ _ = false

abbrev pub same_target : Target → Target → Bool
same_target (target.Declared a) (target.Declared b) = a.0 == b.0
same_target (target.Boolean a) (target.Boolean b) = same_variable a b
same_target _ _ = false

-- the variables, each where it stands first
abbrev pub distinct : List Variable → List Variable
distinct [] = []
distinct (v ∷ variables) = v ∷ filter (λ other. not (same_variable other v)) (distinct variables)

-- the BOOL variable that is an action by itself
abbrev pub boolean_of : Target → Option Variable
boolean_of (target.Boolean v) = Some v
boolean_of (target.Declared id) = None

-- the variables of these associations that are actions, as often as they are associated
abbrev pub booleans_of : List Association → List Variable
booleans_of associations = filter_map (λ association. boolean_of association.target) associations

-- the associations in text order
abbrev pub associations_in : List Step → List Association
associations_in steps = flat_map (λ step. step.associations) steps

abbrev pub boolean_actions : Chart → List Variable
boolean_actions chart = distinct (booleans_of (associations_in chart.steps))

-- the declared actions, with a step or without
abbrev pub declared_actions : ℕ → List Target
declared_actions n = map (λ (i : ℕ). let id : ActionId = record { 0 = i } in target.Declared id) (range_with_len 0 n)

-- all actions: the Boolean ones by their first association, and then the declared ones by their declaration
abbrev pub actions_of : Chart → List Target
actions_of chart = map (λ v. target.Boolean v) (boolean_actions chart) ++ declared_actions (length chart.actions)

-- the number of an action is its place among all
abbrev pub number_of : List Target → Target → ActionNumber
number_of actions t = record { 0 = position_or_len (same_target t) actions }
