-- The actions of a chart whose checks passed have types.
use Rattle.std.proofs.Common.{◌≡◌, ℕ, false, not, List, [], ◌∷◌, length, map, filter, All, Option, Some, None, Ok, Err, IfOk, refl, ap, ◌∙◌}
use Rattle.std.specs.List.{cons_option, range_with_len}
use Rattle.std.proofs.lemmas.List.Elements.{All-nil, All-cons, All-head, All-tail, All-append, All-map, All-filter}
use Rattle.sfc_base.specs.Values.{is_same_type}
use Rattle.sfc_base.specs.NameLists.{place_of}
use Rattle.sfc_base.specs.declared.ids.ActionId.{ActionId}
use Rattle.sfc_base.specs.declared.references.Variable as expr
use Rattle.sfc_base.specs.declared.var_type.VarType.{VarType}
use Rattle.sfc_base.specs.declared.var_type.VarType.TheVariants as types
use Rattle.sfc_text.specs.Trees.{ElementTree, ActionTree, ProgramTree}
use Rattle.sfc_text.specs.declared.tree.Association as text_association
use Rattle.sfc_text.specs.declared.tree.Step as text_step
use Rattle.sfc_expr.specs.Trees.{Body, Nothing}
use Rattle.sfc_expr.specs.Types.{Declared, IsTyped}
use Rattle.sfc_script.specs.sfc_check.TypeFaults.{Checked}
use Rattle.sfc_script.specs.sfc_check.Checking.{checked_body}
use Rattle.sfc_script.specs.sfc_check.Scopes.{Declares}
use Rattle.sfc_script.proofs.of_sfc_check.CheckedTypes.{body_typed}
use Rattle.sfc_plant.specs.declared.action.Action.{Action}
use Rattle.sfc_plant.specs.declared.association.Association.{Association}
use Rattle.sfc_plant.specs.declared.association.Target.{Target}
use Rattle.sfc_plant.specs.declared.association.Target.TheVariants as target
use Rattle.sfc_plant.specs.declared.chart.Chart.{Chart}
use Rattle.sfc_plant.specs.declared.variable.Variable.{Variable}
use Rattle.sfc_plant.specs.Finding.{chart_in}
use Rattle.sfc_plant.specs.Spaces.{Space}
use Rattle.sfc_plant.specs.VariableNames.{variable_named}
use Rattle.sfc_events.specs.declared.load_error.LoadError.{LoadError}
use Rattle.sfc_events.specs.declared.load_error.LoadError.TheVariants as fault
use Rattle.sfc_script.specs.sfc_variables.Checks.{Check, each, checked_or}
use Rattle.sfc_script.specs.sfc_variables.Own.{variables_check, own_names}
use Rattle.sfc_script.specs.sfc_program.Elements.{steps_of, actions_of}
use Rattle.sfc_script.specs.sfc_program.Names.{names_in}
use Rattle.sfc_script.specs.sfc_program.Loading.{variable_check, unless_found, target_check, association_check, step_check, limits_check}
use Rattle.sfc_script.specs.sfc_program.Loading.{distinct_check, element_names, initial_check, chart_check, space_of, program_check}
use Rattle.sfc_script.specs.sfc_program.Built.{found, target_by, association_of, step_of, action_of, chart_of}
use Rattle.sfc_script.proofs.of_sfc_program.Soundness.{then_first, then_second, when_none}
use Rattle.sfc_output.specs.sfc_tables.Actions as table
use Rattle.sfc_output.specs.sfc_tables.Actions.{same_variable, distinct, boolean_of, booleans_of, associations_in, boolean_actions, declared_actions}
use Rattle.sfc_output.specs.sfc_instance.Types.{IsTypedTarget}

-- what holds of all actions of a chart
pub record HasTypes (declared : Declared) (chart : Chart) : Type 0 where
  pub targets : All (IsTypedTarget declared) (table.actions_of chart)
  pub bodies : All (λ (action : Action). IsTyped declared action.body) chart.actions

each_passes : {A : Type 0} (check : A → Check) (P : A → Type 0) → ((x : A) → check x ≡ None → P x)
    → (xs : List A) → each check xs ≡ None → All P xs
each_passes check P says [] e = All-nil P
each_passes check P says (x ∷ xs) e =
    All-cons P x xs (says x (then_first (check x) (each check xs) e))
    (each_passes check P says xs (then_second (check x) (each check xs) e))

same_is : (t u : VarType) → not (is_same_type t u) ≡ false → t ≡ u
same_is types.Bool types.Bool e = refl
same_is types.Int types.Int e = refl
same_is types.Dint types.Dint e = refl
same_is types.Time types.Time e = refl
same_is types.Bool _ e = absurd cc
same_is types.Int _ e = absurd cc
same_is types.Dint _ e = absurd cc
same_is types.Time _ e = absurd cc

abbrev a_declared : ℕ → Target
a_declared i = let id : ActionId = record { 0 = i } in target.Declared id

module _ (declared : Declared) where
  -- ---- bodies

  or_nothing : (r : Checked Body) → IfOk r (IsTyped declared) → IsTyped declared (checked_or Nothing r)
  or_nothing (Ok x) h = h
  or_nothing (Err f) h = tt

  bodies_typed : (space : Space) → ((own : Option (List ℕ)) → Declares (names_in space own) declared) → (actions : List ActionTree)
      → All (λ (action : Action). IsTyped declared action.body) (map (action_of space) actions)
  bodies_typed space declares [] = All-nil (λ (action : Action). IsTyped declared action.body)
  bodies_typed space declares (a ∷ actions) =
      All-cons (λ (action : Action). IsTyped declared action.body) (action_of space a) (map (action_of space) actions)
      (or_nothing (checked_body (names_in space (Some a.name)) a.body)
      (body_typed (names_in space (Some a.name)) declared (declares (Some a.name)) a.body))
      (bodies_typed space declares actions)

  -- ---- targets

  abbrev IsBool : expr.Variable → Type 0
  IsBool v = declared v ≡ Some types.Bool

  abbrev HasTarget : Association → Type 0
  HasTarget association = IsTypedTarget declared association.target

  found_bool : (missing wrong : LoadError) (o : Option (expr.Variable × VarType))
      → ((v : expr.Variable) (t : VarType) → o ≡ Some (v, t) → declared v ≡ Some t)
      → variable_check types.Bool missing wrong o ≡ None → IsBool (found o)
  found_bool missing wrong None says e = absurd cc
  found_bool missing wrong (Some v) says e =
      says v.0 v.1 refl ∙ ap (λ t. Some t) (same_is v.1 types.Bool (when_none (not (is_same_type v.1 types.Bool)) wrong e))

  target_typed : (place : Option ℕ) (o : Option (expr.Variable × VarType))
      → ((v : expr.Variable) (t : VarType) → o ≡ Some (v, t) → declared v ≡ Some t)
      → unless_found place (variable_check types.Bool fault.UnknownAction fault.NotBool o) ≡ None
      → IsTypedTarget declared (target_by place (found o))
  target_typed (Some i) o says e = tt
  target_typed None o says e = found_bool fault.UnknownAction fault.NotBool o says e

  with_boolean : (t : Target) (vs : List expr.Variable) → IsTypedTarget declared t → All IsBool vs
      → All IsBool (cons_option (boolean_of t) vs)
  with_boolean (target.Boolean v) vs h rest = All-cons IsBool v vs h rest
  with_boolean (target.Declared id) vs h rest = rest

  -- the BOOL variables that are actions
  booleans_typed : (associations : List Association) → All HasTarget associations → All IsBool (booleans_of associations)
  booleans_typed [] h = All-nil IsBool
  booleans_typed (a ∷ associations) h =
      with_boolean a.target (booleans_of associations) (All-head HasTarget a associations h)
      (booleans_typed associations (All-tail HasTarget a associations h))

  distinct_typed : (vs : List expr.Variable) → All IsBool vs → All IsBool (distinct vs)
  distinct_typed [] h = All-nil IsBool
  distinct_typed (v ∷ vs) h =
      All-cons IsBool v (filter (λ other. not (same_variable other v)) (distinct vs)) (All-head IsBool v vs h)
      (All-filter (λ other. not (same_variable other v)) IsBool (distinct vs) (distinct_typed vs (All-tail IsBool v vs h)))

  boolean_targets : (vs : List expr.Variable) → All IsBool vs → All (IsTypedTarget declared) (map (λ v. target.Boolean v) vs)
  boolean_targets [] h = All-nil (IsTypedTarget declared)
  boolean_targets (v ∷ vs) h =
      All-cons (IsTypedTarget declared) (target.Boolean v) (map (λ v. target.Boolean v) vs) (All-head IsBool v vs h)
      (boolean_targets vs (All-tail IsBool v vs h))

  declared_targets : (ids : List ℕ) → All (IsTypedTarget declared) (map a_declared ids)
  declared_targets [] = All-nil (IsTypedTarget declared)
  declared_targets (i ∷ ids) = All-cons (IsTypedTarget declared) (a_declared i) (map a_declared ids) tt (declared_targets ids)

  targets_typed : (chart : Chart) → All HasTarget (associations_in chart.steps) → All (IsTypedTarget declared) (table.actions_of chart)
  targets_typed chart h =
      All-append (IsTypedTarget declared) (map (λ v. target.Boolean v) (boolean_actions chart)) (declared_actions (length chart.actions))
      (boolean_targets (boolean_actions chart)
      (distinct_typed (booleans_of (associations_in chart.steps)) (booleans_typed (associations_in chart.steps) h)))
      (declared_targets (range_with_len 0 (length chart.actions)))

  module _ (space : Space) (declares : (own : Option (List ℕ)) → Declares (names_in space own) declared) where
    association_typed : (a : text_association.Association) → association_check space a ≡ None → HasTarget (association_of space a)
    association_typed a e =
        target_typed (place_of a.action space.actions) (variable_named space.locals space.globals a.action)
        ((declares None).variable a.action) (then_first (target_check space a.action) _ e)

    step_typed : (s : text_step.Step) → step_check space s ≡ None → All HasTarget (step_of space s).associations
    step_typed s e =
        All-map HasTarget (association_of space) s.associations
        (each_passes (association_check space) (λ a. HasTarget (association_of space a)) association_typed s.associations e)

    steps_typed : (steps : List text_step.Step) → each (step_check space) steps ≡ None
        → All HasTarget (associations_in (map (step_of space) steps))
    steps_typed [] e = All-nil HasTarget
    steps_typed (s ∷ steps) e =
        All-append HasTarget (step_of space s).associations (associations_in (map (step_of space) steps))
        (step_typed s (then_first (step_check space s) (each (step_check space) steps) e))
        (steps_typed steps (then_second (step_check space s) (each (step_check space) steps) e))

    chart_typed : (elements : List ElementTree) → chart_check space elements ≡ None → HasTypes declared (chart_of space elements)
    chart_typed elements e = record {
      targets = targets_typed (chart_of space elements)
          (steps_typed (steps_of elements) (then_first (each (step_check space) (steps_of elements)) _ e));
      bodies = bodies_typed space declares (actions_of elements);
    }

-- a program type whose checks passed
pub program_typed : (declared : Declared) (globals : List Variable) (p : ProgramTree) → program_check globals p ≡ None
    → ((own : Option (List ℕ)) → Declares (names_in (space_of globals p) own) declared)
    → HasTypes declared (chart_of (space_of globals p) p.elements)
unfolding program_check
program_typed declared globals p e declares =
    let after_limits = then_second (limits_check p.elements) _ e in
    let after_variables = then_second (variables_check globals p.variables) _ after_limits in
    let after_names = then_second (distinct_check (own_names p.variables) (element_names p.elements)) _ after_variables in
    let after_initial = then_second (initial_check p.elements) _ after_names in
    chart_typed declared (space_of globals p) declares p.elements after_initial

-- a chart without steps and actions
pub none_typed : (declared : Declared) → HasTypes declared (chart_in None)
none_typed declared = record {
  targets = All-nil (IsTypedTarget declared);
  bodies = All-nil (λ (action : Action). IsTyped declared action.body);
}
