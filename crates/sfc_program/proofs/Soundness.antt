-- Where no check fails, the chart is sound.
use Rattle.std.proofs.Common.{◌≡◌, ℕ, ◌+◌, ◌<◌, ◌≤◌, ◌^◌, ℤ, pos, neg_ℤ, ◌≤ℤ◌, if◌then◌else◌, Ok, Err, nat_lt, int_le, Bool, true, false, not, ◌&&◌, ◌||◌, List, [], ◌∷◌, ◌++◌, length, map, sum_by, All, Any, Option, Some, None, unwrap_or, is_none, slice_get, refl, sym, subst, ◌∙◌, arith, rules}
use Rattle.std.specs.List.{list_any}
use Rattle.std.proofs.lemmas.List.{length-map}
use Rattle.std.proofs.lemmas.List.Elements.{All-nil, All-cons, All-head, All-tail, All-map}
use Rattle.std.proofs.lemmas.List.Folds.{Any-from_list_any}
use Rattle.std.proofs.lemmas.List.Sums.{sum_by-cons}
use Rattle.std.proofs.lemmas.Option.{slice_get_within}
use Rattle.std.proofs.lemmas.Grind.{common_steps}
use Rattle.sfc_base.specs.declared.limits.TheConstants.{ASSOCIATIONS, STEPS, TRANSITIONS}
use Rattle.sfc_base.specs.declared.var_type.VarType.{VarType}
use Rattle.sfc_base.specs.declared.var_type.VarType.TheVariants as types
use Rattle.sfc_text.specs.Lists.{is_empty}
use Rattle.sfc_text.specs.Trees.{ElementTree, TransitionTree, ActionTree, ProgramTree, element_of}
use Rattle.sfc_text.specs.Trees as trees
use Rattle.sfc_text.specs.declared.tree.Program.{Program}
use Rattle.sfc_text.specs.declared.tree.Element.{Element}
use Rattle.sfc_text.specs.declared.tree.Element.TheVariants as element
use Rattle.sfc_text.specs.declared.tree.Step as text_step
use Rattle.sfc_text.specs.declared.tree.Association as text_association
use Rattle.sfc_text.specs.declared.tree.AssociationTime as text_time
use Rattle.sfc_text.specs.declared.tree.AssociationTime.TheVariants as written_time
use Rattle.sfc_text.specs.declared.tree.Qualifier as text_qualifier
use Rattle.sfc_text.specs.declared.tree.Qualifier.TheVariants as written
use Rattle.sfc_text.specs.declared.tree.Literal.TheVariants as literal
use Rattle.sfc_base.specs.declared.references.Variable as expr
use Rattle.sfc_base.specs.declared.references.Variable.TheVariants.{Global, Local}
use Rattle.sfc_base.specs.declared.references.StepId.{StepId}
use Rattle.sfc_base.specs.declared.value.Value.{Value}
use Rattle.sfc_base.specs.declared.value.Value.TheVariants as value
use Rattle.sfc_expr.specs.declared.fault.Fault.TheVariants as faults
use Rattle.sfc_base.specs.Values.{is_in_range}
use Rattle.sfc_check.specs.Checking.{checked_literal, or_range}
use Rattle.sfc_base.proofs.NamePlaces.{place_below}
use Rattle.sfc_base.specs.NameLists.{place_of}
use Rattle.sfc_events.specs.declared.load_error.LoadError.{LoadError}
use Rattle.sfc_events.specs.declared.load_error.LoadError.TheVariants as fault
use Rattle.sfc_events.specs.declared.load_error.Limit.TheVariants as limit
use Rattle.sfc_plant.specs.declared.variable.Variable.{Variable}
use Rattle.sfc_variables.specs.Checks.{Check, ◌then◌, when, each, in_turn, typed}
use Rattle.sfc_plant.specs.VariableNames.{variable_place, with_type, typed_at, or_else, global_named, local_named, variable_named}
use Rattle.sfc_variables.specs.Own.{variables_check, own_names}
use Rattle.sfc_plant.specs.declared.chart.Step.{Step}
use Rattle.sfc_plant.specs.Chart.{IsVariable, IsTime, IsAssociationTime, IsQualifier, IsTarget, IsAssociation, IsTransition, IsChart}
use Rattle.sfc_plant.specs.Chart as tables
use Rattle.sfc_plant.specs.declared.program_type.ProgramType.{ProgramType}
use Rattle.sfc_program.specs.Elements.{steps_of, transitions_of, actions_of, association_count}
use Rattle.sfc_plant.specs.Spaces.{Space}
use Rattle.sfc_program.specs.Loading.{limits_check, distinct_check, element_names, initial_check, variable_check, unless_found, target_check, time_check, qualifier_check, indicator_check, association_check, step_check, side_step_check, side_check, transition_check, space_of, chart_check, program_check}
use Rattle.sfc_program.specs.Built.{found, variable_in, target_by, target_of, time_of, qualifier_of, association_of, step_of, step_id, step_ids, transition_of, action_of, chart_of, program_of}

-- ---- checks that pass

pub then_first : (a b : Check) → (a then b) ≡ None → a ≡ None
then_first None b e = refl
then_first (Some f) b e = e

pub then_second : (a b : Check) → (a then b) ≡ None → b ≡ None
then_second None b e = e
then_second (Some f) b e = cc

pub when_none : (b : Bool) (f : LoadError) → when b f ≡ None → b ≡ false
when_none false f e = refl
when_none true f e = cc

not_false : (b : Bool) → not b ≡ false → b ≡ true
not_false true e = refl
not_false false e = cc

each_passes : {A : Type 0} (check : A → Check) (P : A → Type 0) → ((x : A) → check x ≡ None → P x)
    → (xs : List A) → each check xs ≡ None → All P xs
each_passes check P says [] e = All-nil P
each_passes check P says (x ∷ xs) e =
    All-cons P x xs (says x (then_first (check x) (each check xs) e))
    (each_passes check P says xs (then_second (check x) (each check xs) e))

pub in_turn_passes : {A : Type 0} (name : A → List ℕ) (check : List (List ℕ) → A → Check) (P : A → Type 0)
    → ((before : List (List ℕ)) (x : A) → check before x ≡ None → P x)
    → (before : List (List ℕ)) (xs : List A) → in_turn name check before xs ≡ None → All P xs
in_turn_passes name check P says before [] e = All-nil P
in_turn_passes name check P says before (x ∷ xs) e =
    let rest = in_turn name check (before ++ name x ∷ []) xs in
    All-cons P x xs (says before x (then_first (check before x) rest e))
    (in_turn_passes name check P says (before ++ name x ∷ []) xs (then_second (check before x) rest e))

-- ---- names that are found

-- how many variables there are
abbrev pub counts : Space → tables.Counts
counts space = record { globals = length space.globals; locals = length space.locals }

pub found_below : (n : ℕ) (place : Option ℕ) → ((i : ℕ) → place ≡ Some i → i < n) → is_none place ≡ false → unwrap_or place 0 < n
found_below n None says e = cc
found_below n (Some i) says e = says i refl

-- what is found among variables is one of them
module _ (P : expr.Variable → Type 0) (id : ℕ → expr.Variable) (vs : List Variable) (says : (i : ℕ) → i < length vs → P (id i)) where
  there : (i : ℕ) (at : Option Variable) (v : expr.Variable × VarType) → slice_get vs i ≡ at → with_type id i at ≡ Some v → P v.0
  there i (Some w) v is e = subst P (let same : id i ≡ v.0 = cc in same) (says i (slice_get_within vs i w is))
  there i None v is e = cc

  among : (place : Option ℕ) (v : expr.Variable × VarType) → typed_at id vs place ≡ Some v → P v.0
  among (Some i) v e = there i (slice_get vs i) v refl e
  among None v e = cc

either : (P : expr.Variable → Type 0) (a b : Option (expr.Variable × VarType))
    → ((v : expr.Variable × VarType) → a ≡ Some v → P v.0) → ((v : expr.Variable × VarType) → b ≡ Some v → P v.0)
    → (v : expr.Variable × VarType) → or_else a b ≡ Some v → P v.0
either P (Some w) b first second v e = first v e
either P None b first second v e = second v e

pub named_sound : (space : Space) (name : List ℕ) (v : expr.Variable × VarType)
    → variable_named space.locals space.globals name ≡ Some v → IsVariable (counts space) v.0
named_sound space name =
    either (IsVariable (counts space)) (local_named space.locals name) (global_named space.globals name)
    (among (IsVariable (counts space)) (λ place. Local (record { 0 = place })) space.locals (λ i lt. lt)
    (variable_place space.locals name))
    (among (IsVariable (counts space)) (λ place. Global (record { 0 = place })) space.globals (λ i lt. lt)
    (variable_place space.globals name))

checked_found : (P : expr.Variable → Type 0) (wanted : VarType) (missing wrong : LoadError) (o : Option (expr.Variable × VarType))
    → ((v : expr.Variable × VarType) → o ≡ Some v → P v.0)
    → variable_check wanted missing wrong o ≡ None → P (found o)
checked_found P wanted missing wrong None says e = cc
checked_found P wanted missing wrong (Some v) says e = says v refl

some_found : (P : expr.Variable → Type 0) (o : Option (expr.Variable × VarType))
    → ((v : expr.Variable × VarType) → o ≡ Some v → P v.0) → is_none o ≡ false → P (found o)
some_found P None says e = cc
some_found P (Some v) says e = says v refl

-- ---- associations

target_by_sound : (space : Space) (n : ℕ) (place : Option ℕ) (o : Option (expr.Variable × VarType))
    → ((i : ℕ) → place ≡ Some i → i < n)
    → ((v : expr.Variable × VarType) → o ≡ Some v → IsVariable (counts space) v.0)
    → unless_found place (variable_check types.Bool fault.UnknownAction fault.NotBool o) ≡ None
    → IsTarget (counts space) n (target_by place (found o))
target_by_sound space n (Some i) o below says e = below i refl
target_by_sound space n None o below says e =
    checked_found (IsVariable (counts space)) types.Bool fault.UnknownAction fault.NotBool o says e

target_sound : (space : Space) (name : List ℕ) → target_check space name ≡ None
    → IsTarget (counts space) (length space.actions) (target_of space name)
target_sound space name =
    target_by_sound space (length space.actions) (place_of name space.actions)
    (variable_named space.locals space.globals name) (place_below name space.actions) (named_sound space name)

both_true : (a b : Bool) → a && b ≡ true → (a ≡ true) × (b ≡ true)
both_true true b e = (refl, e)
both_true false b e = cc

low_of : (t : ℤ) → int_le (neg_ℤ (pos (2 ^ 62))) t ≡ true → neg_ℤ (pos (2 ^ 62)) ≤ℤ t
low_of t e = search rules

high_of : (t : ℤ) → int_le t (pos (2 ^ 62)) ≡ true → t ≤ℤ pos (2 ^ 62)
high_of t e = search rules

in_range : (t : ℤ) → is_in_range types.Time t ≡ true → IsTime t
in_range t e =
    let both = both_true (int_le (neg_ℤ (pos (2 ^ 62))) t) (int_le t (pos (2 ^ 62))) e in
    record { low = low_of t both.0; high = high_of t both.1 }

passes_range : (fits : Bool) (x : Value) → typed (or_range (if fits then Ok x else Err faults.Range)) ≡ None → fits ≡ true
passes_range true x e = refl
passes_range false x e = cc

pub literal_sound : (t : ℤ) → typed (checked_literal (literal.Time t) types.Time) ≡ None → IsTime t
literal_sound t e = in_range t (passes_range (is_in_range types.Time t) (value.Time t) e)

time_sound : (space : Space) (t : text_time.AssociationTime) → time_check space t ≡ None
    → IsAssociationTime (counts space) (time_of space t)
time_sound space (written_time.Literal t) e = literal_sound t e
time_sound space (written_time.Variable name) e =
    checked_found (IsVariable (counts space)) types.Time fault.Unknown fault.NotTime (variable_named space.locals space.globals name)
    (named_sound space name) e

qualifier_sound : (space : Space) (q : text_qualifier.Qualifier) → qualifier_check space q ≡ None
    → IsQualifier (counts space) (qualifier_of space q)
qualifier_sound space written.NonStored e = tt
qualifier_sound space written.Reset e = tt
qualifier_sound space written.Set e = tt
qualifier_sound space written.Pulse e = tt
qualifier_sound space written.RisingPulse e = tt
qualifier_sound space written.FallingPulse e = tt
qualifier_sound space (written.Timed q t) e = time_sound space t e

indicator_sound : (space : Space) (name : List ℕ) → indicator_check space name ≡ None
    → IsVariable (counts space) (variable_in space name)
indicator_sound space name e =
    let o = variable_named space.locals space.globals name in
    some_found (IsVariable (counts space)) o (named_sound space name) (when_none (is_none o) fault.Unknown e)

pub association_sound : (space : Space) (a : text_association.Association) → association_check space a ≡ None
    → IsAssociation (counts space) (length space.actions) (association_of space a)
association_sound space a e =
    let after = then_second (target_check space a.action) _ e in
    record {
      target = target_sound space a.action (then_first (target_check space a.action) _ e);
      qualifier = qualifier_sound space a.qualifier (then_first (qualifier_check space a.qualifier) _ after);
      indicators = All-map (IsVariable (counts space)) (variable_in space) a.indicators
          (each_passes (indicator_check space) (λ name. IsVariable (counts space) (variable_in space name))
          (indicator_sound space) a.indicators
          (then_second (qualifier_check space a.qualifier) _ after));
    }

step_sound : (space : Space) (s : text_step.Step) → step_check space s ≡ None
    → All (IsAssociation (counts space) (length space.actions)) (step_of space s).associations
step_sound space s e =
    All-map (IsAssociation (counts space) (length space.actions)) (association_of space) s.associations
    (each_passes (association_check space) (λ a. IsAssociation (counts space) (length space.actions) (association_of space a))
    (association_sound space) s.associations e)

-- ---- transitions

-- no side is empty
pub record HasSides (t : TransitionTree) : Type 0 where
  pub preceding : is_empty t.preceding ≡ false
  pub following : is_empty t.following ≡ false

pub side_sound : (steps names : List (List ℕ)) → side_check steps names ≡ None
    → All (λ (s : StepId). s.0 < length steps) (step_ids steps names)
side_sound steps names e =
    All-map (λ (s : StepId). s.0 < length steps) (step_id steps) names
    (in_turn_passes (λ name. name) (side_step_check steps) (λ name. (step_id steps name).0 < length steps)
    (λ before name e. found_below (length steps) (place_of name steps) (place_below name steps)
    (when_none (is_none (place_of name steps)) _ (then_first _ _ e)))
    [] names e)

nonempty : {A B : Type 0} (f : A → B) (xs : List A) → is_empty xs ≡ false → 0 < length (map f xs)
nonempty f [] h = absurd cc
nonempty f (x ∷ xs) h = omega arith

transition_sound : (space : Space) (t : TransitionTree) → HasSides t → transition_check space t ≡ None
    → IsTransition (length space.steps) (transition_of space t)
transition_sound space t sides e =
    let after = then_second (side_check space.steps t.preceding) _ e in
    record {
      preceding = side_sound space.steps t.preceding (then_first (side_check space.steps t.preceding) _ e);
      following = side_sound space.steps t.following (then_first (side_check space.steps t.following) _ after);
      some_preceding = nonempty (step_id space.steps) t.preceding sides.preceding;
      some_following = nonempty (step_id space.steps) t.following sides.following;
    }

-- what holds of each element, and follows from its check where it is so
both : {A : Type 0} (P Q R : A → Type 0) → ((x : A) → P x → Q x → R x)
    → (xs : List A) → All P xs → All Q xs → All R xs
both P Q R says [] p q = All-nil R
both P Q R says (x ∷ xs) p q =
    All-cons R x xs (says x (All-head P x xs p) (All-head Q x xs q))
    (both P Q R says xs (All-tail P x xs p) (All-tail Q x xs q))

transitions_sound : (space : Space) (ts : List TransitionTree) → All HasSides ts → each (transition_check space) ts ≡ None
    → All (IsTransition (length space.steps)) (map (transition_of space) ts)
transitions_sound space ts sides e =
    let Follows : TransitionTree → Type 0 = λ t. HasSides t → IsTransition (length space.steps) (transition_of space t) in
    All-map (IsTransition (length space.steps)) (transition_of space) ts
    (both HasSides Follows (λ t. IsTransition (length space.steps) (transition_of space t)) (λ t h f. f h) ts sides
    (each_passes (transition_check space) Follows (λ t e h. transition_sound space t h e) ts e))

-- ---- charts

pub not_above : (m n : ℕ) → nat_lt m n ≡ false → n ≤ m
not_above m n e = grind (arith, common_steps)

list_any-map_same : {A B : Type 0} (f : A → B) (p : B → Bool) (q : A → Bool) → ((x : A) → p (f x) ≡ q x)
    → (xs : List A) → list_any p (map f xs) ≡ list_any q xs
list_any-map_same f p q same [] = refl
list_any-map_same f p q same (x ∷ xs) = λ i. same x i || list_any-map_same f p q same xs i

Any_map : {A B : Type 0} (f : A → B) (p : B → Bool) (q : A → Bool) → ((x : A) → p (f x) ≡ q x)
    → (xs : List A) → list_any q xs ≡ true → Any (λ y. p y ≡ true) (map f xs)
Any_map f p q same xs e = Any-from_list_any p (map f xs) (list_any-map_same f p q same xs ∙ e)

association_count_kept : (space : Space) (steps : List text_step.Step)
    → sum_by (λ (step : Step). length step.associations) (map (step_of space) steps) ≡ association_count steps
association_count_kept space [] = refl
association_count_kept space (s ∷ steps) =
    sum_by-cons (λ step. length step.associations) (step_of space s) (map (step_of space) steps)
    ∙ (λ i. length-map s.associations (association_of space) i + association_count_kept space steps i)
    ∙ sym (sum_by-cons (λ step. length step.associations) s steps)

record IsLimited (elements : List ElementTree) : Type 0 where
  steps : length (steps_of elements) ≤ STEPS
  transitions : length (transitions_of elements) ≤ TRANSITIONS
  associations : association_count (steps_of elements) ≤ ASSOCIATIONS

limits_sound : (elements : List ElementTree) → limits_check elements ≡ None → IsLimited elements
limits_sound elements e =
    let m : ℕ = length (steps_of elements) in
    let n : ℕ = length (transitions_of elements) in
    let k : ℕ = association_count (steps_of elements) in
    let after = then_second (when (nat_lt STEPS m) (fault.Limit limit.Steps)) _ e in
    record {
      steps = not_above STEPS m (when_none (nat_lt STEPS m) (fault.Limit limit.Steps) (then_first _ _ e));
      transitions = not_above TRANSITIONS n (when_none (nat_lt TRANSITIONS n) (fault.Limit limit.Transitions) (then_first _ _ after));
      associations = not_above ASSOCIATIONS k (when_none (nat_lt ASSOCIATIONS k) (fault.Limit limit.Associations)
          (then_second (when (nat_lt TRANSITIONS n) (fault.Limit limit.Transitions)) _ after));
    }

-- A chart whose checks pass, where these are its steps and its actions.
module _ (globals : List Variable) (p : ProgramTree) where
  abbrev space : Space
  space = space_of globals p

  step_count : length space.steps ≡ length (map (step_of space) (steps_of p.elements))
  step_count = length-map (steps_of p.elements) (λ s. s.name) ∙ sym (length-map (steps_of p.elements) (step_of space))

  action_count : length space.actions ≡ length (map (action_of space) (actions_of p.elements))
  action_count = length-map (actions_of p.elements) (λ a. a.name) ∙ sym (length-map (actions_of p.elements) (action_of space))

  chart_sound : IsLimited p.elements → All HasSides (transitions_of p.elements) → initial_check p.elements ≡ None
      → chart_check space p.elements ≡ None → IsChart (counts space) (chart_of space p.elements)
  chart_sound limited sides initial e =
      let steps = steps_of p.elements in
      let transitions = transitions_of p.elements in
      let after = then_second (each (step_check space) steps) _ e in
      record {
        associations =
            subst (λ n. All (λ (step : Step). All (IsAssociation (counts space) n) step.associations) (map (step_of space) steps))
            action_count
            (All-map (λ (step : Step). All (IsAssociation (counts space) (length space.actions)) step.associations) (step_of space) steps
            (each_passes (step_check space) (λ s. All (IsAssociation (counts space) (length space.actions)) (step_of space s).associations)
            (step_sound space) steps
            (then_first (each (step_check space) steps) _ e)));
        transitions = subst (λ m. All (IsTransition m) (map (transition_of space) transitions)) step_count
            (transitions_sound space transitions sides (then_first (each (transition_check space) transitions) _ after));
        initial = Any_map (step_of space) (λ step. step.is_initial) (λ s. s.is_initial) (λ s. refl) steps
            (not_false (list_any (λ s. s.is_initial) steps) (when_none (not (list_any (λ s. s.is_initial) steps)) fault.NoInitial initial));
        step_limit = rw (length-map steps (step_of space)) limited.steps;
        transition_limit = rw (length-map transitions (transition_of space)) limited.transitions;
        association_limit = rw (association_count_kept space steps) limited.associations;
      }

  -- Where no check fails and no transition has an empty side, the chart is sound.
  pub tree_sound : All HasSides (transitions_of p.elements) → program_check globals p ≡ None
      → IsChart (counts space) (program_of globals p).chart
  unfolding program_check
  tree_sound sides e =
      let after_limits = then_second (limits_check p.elements) _ e in
      let after_variables = then_second (variables_check globals p.variables) _ after_limits in
      let after_names = then_second (distinct_check (own_names p.variables) (element_names p.elements)) _ after_variables in
      chart_sound (limits_sound p.elements (then_first (limits_check p.elements) _ e)) sides
      (then_first (initial_check p.elements) _ after_names)
      (then_second (initial_check p.elements) _ after_names)

-- ---- texts

-- no transition of a text has an empty side
sides_of : (elements : List Element) → All HasSides (transitions_of (map element_of elements))
sides_of [] = All-nil HasSides
sides_of (element.Step s span ∷ rest) = sides_of rest
sides_of (element.Action a span ∷ rest) = sides_of rest
sides_of (element.Transition t span ∷ rest) =
    All-cons HasSides (trees.transition_of t) (transitions_of (map element_of rest))
    (record { preceding = t.some_preceding; following = t.some_following })
    (sides_of rest)

-- Where no check of a program type's text fails, its chart is sound.
pub program_sound : (globals : List Variable) (p : Program) → program_check globals (trees.program_of p) ≡ None
    → let loaded : ProgramType = program_of globals (trees.program_of p) in
    IsChart (record { globals = length globals; locals = length loaded.locals }) loaded.chart
program_sound globals p e = tree_sound globals (trees.program_of p) (sides_of p.elements) e
