-- What a listing spells of steps, transitions and actions is loaded as them again.
use Rattle.std.proofs.Common.{◌≡◌, ℕ, Bool, true, false, List, [], ◌∷◌, ◌++◌, map, All, Option, None, Some, is_none, unwrap_or, refl, sym, ap, ◌∙◌}
use Rattle.std.specs.List.{position}
use Rattle.std.proofs.lemmas.List.Elements.{All-nil, All-cons, All-head, All-tail, All-map, All-weaker}
use Rattle.sfc_base.specs.Case.{same_word}
use Rattle.sfc_base.specs.declared.var_type.VarType.{VarType}
use Rattle.sfc_base.specs.declared.var_type.VarType.TheVariants as types
use Rattle.sfc_text.specs.declared.tree.Association as text_association
use Rattle.sfc_text.specs.declared.tree.AssociationTime.TheVariants as written_time
use Rattle.sfc_text.specs.declared.tree.Qualifier as text_qualifier
use Rattle.sfc_text.specs.declared.tree.Qualifier.TheVariants as written
use Rattle.sfc_text.specs.declared.tree.Step as text_step
use Rattle.sfc_text.specs.Trees.{TransitionTree, ActionTree}
use Rattle.sfc_base.specs.declared.value.Value.TheVariants as value
use Rattle.sfc_base.specs.declared.references.Variable as expr
use Rattle.sfc_base.specs.declared.references.StepId.{StepId}
use Rattle.sfc_expr.specs.Trees.{Expression, Literal, Nothing}
use Rattle.sfc_load.specs.sfc_check.Checking.{checked, checked_body}
use Rattle.sfc_base.specs.NameLists.{place_of}
use Rattle.sfc_events.specs.declared.load_error.LoadError.{LoadError}
use Rattle.sfc_events.specs.declared.load_error.LoadError.TheVariants as fault
use Rattle.sfc_load.specs.sfc_variables.Checks.{when, each, in_turn, typed, checked_or}
use Rattle.sfc_plant.specs.VariableNames.{variable_named}
use Rattle.sfc_plant.specs.declared.association.Association.{Association}
use Rattle.sfc_plant.specs.declared.association.Target.{Target}
use Rattle.sfc_plant.specs.declared.association.Time.TheVariants as time
use Rattle.sfc_plant.specs.declared.association.Qualifier.{Qualifier}
use Rattle.sfc_plant.specs.declared.association.Qualifier.TheVariants as qualifier
use Rattle.sfc_plant.specs.declared.action.Action.{Action}
use Rattle.sfc_plant.specs.declared.chart.Step.{Step}
use Rattle.sfc_plant.specs.declared.chart.Transition.{Transition}
use Rattle.sfc_plant.specs.Spaces.{Space}
use Rattle.sfc_load.specs.sfc_program.Names.{names_in}
use Rattle.sfc_load.specs.sfc_program.Loading.{name_check, distinct_check, variable_check, unless_found, target_check, qualifier_check, indicator_check, association_check, step_check, side_step_check, side_check, transition_check, action_check}
use Rattle.sfc_load.specs.sfc_program.Built.{found, variable_in, target_by, target_of, qualifier_of, association_of, step_of, step_id, step_ids, transition_of, action_of}
use Rattle.sfc_load.specs.sfc_program.Scoping.AnyCase.{ignoring_case}
use Rattle.sfc_load.proofs.of_sfc_program.Soundness.{then_first, then_second, when_none}
use Rattle.sfc_plant.specs.Names.{name_at, variable_name, step_name, target_name}
use Rattle.sfc_read_back.specs.WrittenCharts.{qualifier_tree, association_tree, step_tree, transition_tree, action_tree}
use Rattle.sfc_read_back.proofs.WrittenExpressions.{IsBack, variable_again, expression_back}
use Rattle.sfc_read_back.proofs.WrittenStatements.{IsBodyBack, body_back}
use Rattle.sfc_read_back.proofs.WrittenNames.{alike, turned, spelled_at, place_again, variable_spelled, spells}
use Rattle.sfc_read_back.proofs.WrittenLists.{both_pass, each_all, each_again, kept_again, AreSame, distinct_same}
use Rattle.sfc_read_back.proofs.WrittenVariables.{held}

module _ (space : Space) where
  -- ---- variables

  abbrev named : List ℕ → Option (expr.Variable × VarType)
  named name = variable_named space.locals space.globals name

  -- what is spelled of the variable that was found finds it
  variable_kept : (name : List ℕ) (v : expr.Variable × VarType) → named name ≡ Some v
      → named (variable_name space (variable_in space name)) ≡ named name
  variable_kept name v e =
      ap (λ o. named (variable_name space (found o))) e
      ∙ variable_again (names_in space None) (ignoring_case None space) space [] (spells space None) name v e ∙ sym e

  passed : (wanted : VarType) (missing wrong : LoadError) (o : Option (expr.Variable × VarType))
      → variable_check wanted missing wrong o ≡ None → (v : expr.Variable × VarType) × (o ≡ Some v)
  passed wanted missing wrong (Some v) e = (v, refl)
  passed wanted missing wrong None e = absurd cc

  some_one : (o : Option (expr.Variable × VarType)) → is_none o ≡ false → (v : expr.Variable × VarType) × (o ≡ Some v)
  some_one (Some v) e = (v, refl)
  some_one None e = absurd cc

  -- ---- associations

  pub record IsTargetBack (t : Target) : Type 0 where
    pub checks : target_check space (target_name space t) ≡ None
    pub built : target_of space (target_name space t) ≡ t

  target_at : (name : List ℕ) (place : Option ℕ) (o : Option (expr.Variable × VarType)) → place_of name space.actions ≡ place
      → named name ≡ o
      → unless_found place (variable_check types.Bool fault.UnknownAction fault.NotBool o) ≡ None → IsTargetBack (target_by place (found o))
  target_at name (Some i) o is at e =
      let again : place_of (name_at space.actions i) space.actions ≡ Some i = place_again name space.actions i is in
      record {
        checks = ap (λ p. unless_found p (variable_check types.Bool fault.UnknownAction fault.NotBool (named (name_at space.actions i))))
            again;
        built = ap (λ p. target_by p (variable_in space (name_at space.actions i))) again;
      }
  target_at name None (Some v) is at e =
      let spelled : List ℕ = variable_name space v.0 in
      let same : same_word spelled name ≡ true = variable_spelled space name v at in
      let place : place_of spelled space.actions ≡ None = ap (λ (p : List ℕ → Bool). position p space.actions) (alike spelled name same)
      ∙ is in
      let again : named spelled ≡ Some v =
      variable_again (names_in space None) (ignoring_case None space) space [] (spells space None) name v at in
      record {
        checks = (λ i. unless_found (place i) (variable_check types.Bool fault.UnknownAction fault.NotBool (again i))) ∙ e;
        built = λ i. target_by (place i) (found (again i));
      }
  target_at name None None is at e = cc

  target_back : (name : List ℕ) → target_check space name ≡ None → IsTargetBack (target_of space name)
  target_back name e = target_at name (place_of name space.actions) (named name) refl refl e

  pub record IsQualifierBack (q : Qualifier) : Type 0 where
    pub checks : qualifier_check space (qualifier_tree space q) ≡ None
    pub built : qualifier_of space (qualifier_tree space q) ≡ q

  qualifier_back : (q : text_qualifier.Qualifier) → qualifier_check space q ≡ None → IsQualifierBack (qualifier_of space q)
  qualifier_back written.NonStored e = record { checks = refl; built = refl }
  qualifier_back written.Reset e = record { checks = refl; built = refl }
  qualifier_back written.Set e = record { checks = refl; built = refl }
  qualifier_back written.Pulse e = record { checks = refl; built = refl }
  qualifier_back written.RisingPulse e = record { checks = refl; built = refl }
  qualifier_back written.FallingPulse e = record { checks = refl; built = refl }
  qualifier_back (written.Timed q (written_time.Literal t)) e = record { checks = e; built = refl }
  qualifier_back (written.Timed q (written_time.Variable name)) e =
      let some = passed types.Time fault.Unknown fault.NotTime (named name) e in
      let kept = variable_kept name some.0 some.1 in
      record {
        checks = ap (variable_check types.Time fault.Unknown fault.NotTime) kept ∙ e;
        built = ap (λ o. qualifier.Timed q (time.Variable (found o))) kept;
      }

  pub record IsIndicatorBack (v : expr.Variable) : Type 0 where
    pub checks : indicator_check space (variable_name space v) ≡ None
    pub built : variable_in space (variable_name space v) ≡ v

  indicator_back : (name : List ℕ) → indicator_check space name ≡ None → IsIndicatorBack (variable_in space name)
  indicator_back name e =
      let some = some_one (named name) (when_none (is_none (named name)) fault.Unknown e) in
      let kept = variable_kept name some.0 some.1 in
      record { checks = ap (λ o. when (is_none o) fault.Unknown) kept ∙ e; built = ap found kept }

  pub record IsAssociationBack (a : Association) : Type 0 where
    pub checks : association_check space (association_tree space a) ≡ None
    pub built : association_of space (association_tree space a) ≡ a

  association_back : (a : text_association.Association) → association_check space a ≡ None → IsAssociationBack (association_of space a)
  association_back a e =
      let after = then_second (target_check space a.action) _ e in
      let t = target_back a.action (then_first (target_check space a.action) _ e) in
      let q = qualifier_back a.qualifier (then_first (qualifier_check space a.qualifier) _ after) in
      let vs : List expr.Variable = map (variable_in space) a.indicators in
      let is : All IsIndicatorBack vs =
      All-map IsIndicatorBack (variable_in space) a.indicators
      (All-weaker (λ name. indicator_check space name ≡ None) (λ name. IsIndicatorBack (variable_in space name)) indicator_back a.indicators
      (each_all (indicator_check space) a.indicators (then_second (qualifier_check space a.qualifier) _ after))) in
      let pass : each (indicator_check space) (map (variable_name space) vs) ≡ None =
      each_again (indicator_check space) (variable_name space) vs
      (All-weaker IsIndicatorBack (λ v. indicator_check space (variable_name space v) ≡ None) (λ v b. b.checks) vs is) in
      let kept : map (variable_in space) (map (variable_name space) vs) ≡ vs =
      kept_again (variable_name space) (variable_in space) vs
      (All-weaker IsIndicatorBack (λ v. variable_in space (variable_name space v) ≡ v) (λ v b. b.built) vs is) in
      record {
        checks = both_pass (target_check space (target_name space (target_of space a.action))) _ t.checks
            (both_pass (qualifier_check space (qualifier_tree space (qualifier_of space a.qualifier))) _ q.checks pass);
        built = λ i. record { target = t.built i; qualifier = q.built i; indicators = kept i };
      }

  -- ---- steps

  pub record IsStepBack (s : Step) : Type 0 where
    pub checks : step_check space (step_tree space s) ≡ None
    pub built : step_of space (step_tree space s) ≡ s

  pub step_back : (s : text_step.Step) → step_check space s ≡ None → IsStepBack (step_of space s)
  step_back s e =
      let made : List Association = map (association_of space) s.associations in
      let h : All IsAssociationBack made =
      All-map IsAssociationBack (association_of space) s.associations
      (All-weaker (λ a. association_check space a ≡ None) (λ a. IsAssociationBack (association_of space a)) association_back s.associations
      (each_all (association_check space) s.associations e)) in
      let kept : map (association_of space) (map (association_tree space) made) ≡ made =
      kept_again (association_tree space) (association_of space) made
      (All-weaker IsAssociationBack (λ a. association_of space (association_tree space a) ≡ a) (λ a b. b.built) made h) in
      record {
        checks = each_again (association_check space) (association_tree space) made
            (All-weaker IsAssociationBack (λ a. association_check space (association_tree space a) ≡ None) (λ a b. b.checks) made h);
        built = λ i. record { name = s.name; is_initial = s.is_initial; associations = kept i };
      }

  -- ---- transitions

  abbrev step_there : List ℕ → Type 0
  step_there name = is_none (place_of name space.steps) ≡ false

  sides_distinct : (before names : List (List ℕ)) → in_turn (λ name. name) (side_step_check space.steps) before names ≡ None
      → distinct_check before names ≡ None
  sides_distinct before [] e = refl
  sides_distinct before (x ∷ names) e =
      let rest = in_turn (λ name. name) (side_step_check space.steps) (before ++ x ∷ []) names in
      both_pass (name_check before x) (distinct_check (before ++ x ∷ []) names)
      (then_second (when (is_none (place_of x space.steps)) fault.UnknownStep) _ (then_first (side_step_check space.steps before x) rest e))
      (sides_distinct (before ++ x ∷ []) names (then_second (side_step_check space.steps before x) rest e))

  sides_there : (before names : List (List ℕ)) → in_turn (λ name. name) (side_step_check space.steps) before names ≡ None
      → All step_there names
  sides_there before [] e = All-nil step_there
  sides_there before (x ∷ names) e =
      let rest = in_turn (λ name. name) (side_step_check space.steps) (before ++ x ∷ []) names in
      All-cons step_there x names
      (when_none (is_none (place_of x space.steps)) fault.UnknownStep
      (then_first _ (name_check before x) (then_first (side_step_check space.steps before x) rest e)))
      (sides_there (before ++ x ∷ []) names (then_second (side_step_check space.steps before x) rest e))

  sides_pass : (before names : List (List ℕ)) → distinct_check before names ≡ None → All step_there names
      → in_turn (λ name. name) (side_step_check space.steps) before names ≡ None
  sides_pass before [] e h = refl
  sides_pass before (x ∷ names) e h =
      let rest = distinct_check (before ++ x ∷ []) names in
      both_pass (side_step_check space.steps before x) (in_turn (λ name. name) (side_step_check space.steps) (before ++ x ∷ []) names)
      (both_pass (when (is_none (place_of x space.steps)) fault.UnknownStep) (name_check before x)
      (ap (λ b. when b fault.UnknownStep) (All-head step_there x names h)) (then_first (name_check before x) rest e))
      (sides_pass (before ++ x ∷ []) names (then_second (name_check before x) rest e) (All-tail step_there x names h))

  -- a step by its name
  pub record IsStepNamed (s : StepId) : Type 0 where
    pub place : place_of (step_name space s) space.steps ≡ Some s.0

  named_step : (name : List ℕ) (place : Option ℕ) → place_of name space.steps ≡ place → is_none place ≡ false
      → (let s : StepId = record { 0 = unwrap_or place 0 } in IsStepNamed s × (same_word name (step_name space s) ≡ true))
  named_step name (Some i) is e =
      (record { place = place_again name space.steps i is }, turned (name_at space.steps i) name (spelled_at name space.steps i is))
  named_step name None is e = absurd cc

  step_named : (name : List ℕ) → step_there name → IsStepNamed (step_id space.steps name)
  step_named name e = (named_step name (place_of name space.steps) refl e).0

  steps_same : (names : List (List ℕ)) → All step_there names → AreSame names (map (step_name space) (step_ids space.steps names))
  steps_same [] h = tt
  steps_same (x ∷ names) h =
      ((named_step x (place_of x space.steps) refl (All-head step_there x names h)).1, steps_same names (All-tail step_there x names h))

  pub record IsSideBack (ids : List StepId) : Type 0 where
    pub checks : side_check space.steps (map (step_name space) ids) ≡ None
    pub built : step_ids space.steps (map (step_name space) ids) ≡ ids

  side_back : (names : List (List ℕ)) → side_check space.steps names ≡ None → IsSideBack (step_ids space.steps names)
  side_back names e =
      let there = sides_there [] names e in
      let ids : List StepId = step_ids space.steps names in
      let h : All IsStepNamed ids =
      All-map IsStepNamed (step_id space.steps) names
      (All-weaker step_there (λ name. IsStepNamed (step_id space.steps name)) step_named names there) in
      record {
        checks = sides_pass [] (map (step_name space) ids)
            (distinct_same [] [] names (map (step_name space) ids) (λ name. refl) (steps_same names there) (sides_distinct [] names e))
            (All-map step_there (step_name space) ids
            (All-weaker IsStepNamed (λ s. step_there (step_name space s)) (λ s b. ap is_none b.place) ids h));
        built = kept_again (step_name space) (step_id space.steps) ids
            (All-weaker IsStepNamed (λ s. step_id space.steps (step_name space s) ≡ s)
            (λ s b. ap (λ p. let id : StepId = record { 0 = unwrap_or p 0 } in id) b.place) ids h);
      }

  pub record IsTransitionBack (t : Transition) : Type 0 where
    pub checks : transition_check space (transition_tree space t) ≡ None
    pub built : transition_of space (transition_tree space t) ≡ t

  pub transition_back : (t : TransitionTree) → transition_check space t ≡ None → IsTransitionBack (transition_of space t)
  transition_back t e =
      let after = then_second (side_check space.steps t.preceding) _ e in
      let p = side_back t.preceding (then_first (side_check space.steps t.preceding) _ e) in
      let f = side_back t.following (then_first (side_check space.steps t.following) _ after) in
      let otherwise : Expression = Literal (value.Bool false) in
      let c = held (IsBack (names_in space None) (ignoring_case None space) space [] (spells space None) types.Bool) otherwise
      (checked (names_in space None) t.condition types.Bool)
      (expression_back (names_in space None) (ignoring_case None space) space [] (spells space None) t.condition types.Bool)
      (then_second (side_check space.steps t.following) _ after) in
      record {
        checks = both_pass (side_check space.steps (map (step_name space) (step_ids space.steps t.preceding))) _ p.checks
            (both_pass (side_check space.steps (map (step_name space) (step_ids space.steps t.following))) _ f.checks (ap typed c.checks));
        built = λ i. record {
          name = t.name;
          priority = t.priority;
          preceding = p.built i;
          following = f.built i;
          condition = checked_or otherwise (c.checks i);
        };
      }

  -- ---- actions

  pub record IsActionBack (a : Action) : Type 0 where
    pub checks : action_check space (action_tree space a) ≡ None
    pub built : action_of space (action_tree space a) ≡ a

  pub action_back : (a : ActionTree) → action_check space a ≡ None → IsActionBack (action_of space a)
  action_back a e =
      let own : Option (List ℕ) = Some a.name in
      let b = held (IsBodyBack (names_in space own) (ignoring_case own space) space a.name (spells space own)) Nothing
      (checked_body (names_in space own) a.body)
      (body_back (names_in space own) (ignoring_case own space) space a.name (spells space own) a.body) e in
      record { checks = ap typed b; built = λ i. record { name = a.name; body = checked_or Nothing (b i) } }
