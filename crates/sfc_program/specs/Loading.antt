-- What loading accepts of a program type (2.5.3, 2.6.2 to 2.6.4): the checks, each a fact about the text's trees, in the order in
-- which they are made (our choice of order).
use Rattle.std.specs.Prelude.{ℕ, nat_lt, not, is_none, List, [], ◌++◌, length, Option, Some, None}
use Rattle.std.specs.List.{list_any}
use Rattle.sfc_base.specs.declared.limits.TheConstants.{ASSOCIATIONS, STEPS, TRANSITIONS}
use Rattle.sfc_base.specs.declared.var_type.VarType.{VarType}
use Rattle.sfc_base.specs.declared.var_type.VarType.TheVariants as types
use Rattle.sfc_text.specs.declared.tree.Literal.TheVariants as literal
use Rattle.sfc_text.specs.declared.tree.Association.{Association}
use Rattle.sfc_text.specs.declared.tree.AssociationTime.{AssociationTime}
use Rattle.sfc_text.specs.declared.tree.AssociationTime.TheVariants as time
use Rattle.sfc_text.specs.declared.tree.Qualifier.{Qualifier}
use Rattle.sfc_text.specs.declared.tree.Qualifier.TheVariants as qualifier
use Rattle.sfc_text.specs.declared.tree.Step.{Step}
use Rattle.sfc_text.specs.Trees.{ElementTree, TransitionTree, ActionTree, ProgramTree}
use Rattle.sfc_base.specs.declared.references.Variable as expr
use Rattle.sfc_base.specs.Values.{is_same_type}
use Rattle.sfc_check.specs.Checking.{checked, checked_body, checked_literal}
use Rattle.sfc_base.specs.NameLists.{has, place_of}
use Rattle.sfc_events.specs.declared.load_error.LoadError.{LoadError}
use Rattle.sfc_events.specs.declared.load_error.LoadError.TheVariants as fault
use Rattle.sfc_events.specs.declared.load_error.Limit.TheVariants as limit
use Rattle.sfc_plant.specs.declared.variable.Variable.{Variable}
use Rattle.sfc_variables.specs.Checks.{Check, ◌then◌, when, each, in_turn, typed}
use Rattle.sfc_plant.specs.VariableNames.{variable_named}
use Rattle.sfc_variables.specs.Own.{variables_check, locals_of, own_names}
use Rattle.sfc_program.specs.Elements.{steps_of, transitions_of, actions_of, step_names, action_names, transition_names, association_count}
use Rattle.sfc_plant.specs.Spaces.{Space}
use Rattle.sfc_program.specs.Names.{names_in}

-- ---- numbers and names

-- at most 1,024 steps, 2,048 transitions and 4,096 associations
abbrev pub limits_check : List ElementTree → Check
limits_check elements =
    when (nat_lt STEPS (length (steps_of elements))) (fault.Limit limit.Steps)
    then when (nat_lt TRANSITIONS (length (transitions_of elements))) (fault.Limit limit.Transitions)
    then when (nat_lt ASSOCIATIONS (association_count (steps_of elements))) (fault.Limit limit.Associations)

abbrev pub name_check : List (List ℕ) → List ℕ → Check
name_check before name = when (has before name) fault.Duplicate

-- no name stands twice, nor is one of these
abbrev pub distinct_check : List (List ℕ) → List (List ℕ) → Check
distinct_check before names = in_turn (λ name. name) name_check before names

-- steps, then actions, then transitions: one name space with the variables
abbrev pub element_names : List ElementTree → List (List ℕ)
element_names elements = step_names elements ++ action_names elements ++ transition_names elements

abbrev pub initial_check : List ElementTree → Check
initial_check elements = when (not (list_any (λ s. s.is_initial) (steps_of elements))) fault.NoInitial

-- ---- associations (2.6.4)

-- a variable of the wanted type; else the first fault where there is none of its name, and the second where it has another type
abbrev pub variable_check : VarType → LoadError → LoadError → Option (expr.Variable × VarType) → Check
variable_check wanted missing wrong None = Some missing
variable_check wanted missing wrong (Some v) = when (not (is_same_type v.1 wanted)) wrong

-- nothing where there is a place, else the check
abbrev pub unless_found : Option ℕ → Check → Check
unless_found (Some place) check = None
unless_found None check = check

-- a declared action, else a BOOL variable
abbrev pub target_check : Space → List ℕ → Check
target_check space name =
    unless_found (place_of name space.actions)
    (variable_check types.Bool fault.UnknownAction fault.NotBool (variable_named space.locals space.globals name))

-- a duration that is a TIME, or a TIME variable
abbrev pub time_check : Space → AssociationTime → Check
time_check space (time.Literal t) = typed (checked_literal (literal.Time t) types.Time)
time_check space (time.Variable name) =
    variable_check types.Time fault.Unknown fault.NotTime (variable_named space.locals space.globals name)

abbrev pub qualifier_check : Space → Qualifier → Check
qualifier_check space (qualifier.Timed q t) = time_check space t
qualifier_check space _ = None

-- an indicator is a variable of any type (2.6.4.3)
abbrev pub indicator_check : Space → List ℕ → Check
indicator_check space name = when (is_none (variable_named space.locals space.globals name)) fault.Unknown

abbrev pub association_check : Space → Association → Check
association_check space a =
    target_check space a.action then qualifier_check space a.qualifier then each (indicator_check space) a.indicators

abbrev pub step_check : Space → Step → Check
step_check space s = each (association_check space) s.associations

-- ---- transitions (2.6.3)

-- a side names steps, and none of them twice
abbrev pub side_step_check : List (List ℕ) → List (List ℕ) → List ℕ → Check
side_step_check steps before name = when (is_none (place_of name steps)) fault.UnknownStep then name_check before name

abbrev pub side_check : List (List ℕ) → List (List ℕ) → Check
side_check steps names = in_turn (λ name. name) (side_step_check steps) [] names

-- the steps before it, the steps behind it, and the condition, which is a BOOL
abbrev pub transition_check : Space → TransitionTree → Check
transition_check space t =
    side_check space.steps t.preceding
    then side_check space.steps t.following
    then typed (checked (names_in space None) t.condition types.Bool)

-- ---- actions (2.6.4.1)

abbrev pub action_check : Space → ActionTree → Check
action_check space a = typed (checked_body (names_in space (Some a.name)) a.body)

-- ---- program types (2.5.3)

-- what names stand for in the program type, whose globals are these
abbrev pub space_of : List Variable → ProgramTree → Space
space_of globals p =
    record { globals = globals; locals = locals_of p.variables; steps = step_names p.elements; actions = action_names p.elements }

-- associations, then transitions, then bodies
abbrev pub chart_check : Space → List ElementTree → Check
chart_check space elements =
    each (step_check space) (steps_of elements)
    then each (transition_check space) (transitions_of elements)
    then each (action_check space) (actions_of elements)

unfoldable pub program_check : List Variable → ProgramTree → Check
program_check globals p =
    limits_check p.elements
    then variables_check globals p.variables
    then distinct_check (own_names p.variables) (element_names p.elements)
    then initial_check p.elements
    then chart_check (space_of globals p) p.elements
