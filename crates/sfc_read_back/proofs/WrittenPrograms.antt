-- What a listing spells of a program type is loaded as that program type again.
use Rattle.std.proofs.Common.{◌≡◌, ℕ, ◌+◌, nat_lt, Bool, not, ◌||◌, List, [], ◌∷◌, ◌++◌, length, map, filter_map, fold, All, Option, None, Some, refl, sym, ap, ◌∙◌}
use Rattle.std.specs.List.{list_any, cons_option}
use Rattle.std.proofs.lemmas.List.{append-nil, length-map}
use Rattle.std.proofs.lemmas.List.Elements.{All-map, All-weaker, filter_map-append}
use Rattle.std.proofs.lemmas.Simd.{map-map}
use Rattle.sfc_base.specs.declared.limits.TheConstants.{ASSOCIATIONS, STEPS, TRANSITIONS}
use Rattle.sfc_text.specs.declared.tree.Step as text_step
use Rattle.sfc_text.specs.Trees.{ElementTree, AStep, ATransition, AnAction, ProgramTree}
use Rattle.sfc_events.specs.declared.load_error.LoadError.TheVariants as fault
use Rattle.sfc_events.specs.declared.load_error.Limit.TheVariants as limit
use Rattle.sfc_plant.specs.declared.variable.Variable.{Variable}
use Rattle.sfc_load.specs.sfc_variables.Checks.{◌then◌, when, each}
use Rattle.sfc_load.specs.sfc_variables.Own.{variables_check, own_names}
use Rattle.sfc_plant.specs.declared.action.Action.{Action}
use Rattle.sfc_plant.specs.declared.chart.Step.{Step}
use Rattle.sfc_plant.specs.declared.chart.Transition.{Transition}
use Rattle.sfc_plant.specs.declared.chart.Chart.{Chart}
use Rattle.sfc_plant.specs.declared.program_type.ProgramType.{ProgramType}
use Rattle.sfc_load.specs.sfc_program.Elements.{step_in, transition_in, action_in, steps_of, transitions_of, actions_of, step_names, action_names, transition_names, association_count}
use Rattle.sfc_plant.specs.Spaces.{Space, space_in}
use Rattle.sfc_load.specs.sfc_program.Loading.{limits_check, distinct_check, element_names, initial_check, step_check, transition_check, action_check, space_of, chart_check, program_check}
use Rattle.sfc_load.specs.sfc_program.Built.{association_of, step_of, transition_of, action_of, chart_of, program_of}
use Rattle.sfc_load.proofs.of_sfc_program.Soundness.{then_first, then_second}
use Rattle.sfc_read_back.specs.WrittenCharts.{association_tree, step_tree, transition_tree, action_tree, element_trees}
use Rattle.sfc_read_back.specs.Written.{program_tree}
use Rattle.sfc_read_back.proofs.WrittenLists.{both_pass, each_all, each_again, kept_again, same_refl, distinct_same}
use Rattle.sfc_read_back.proofs.WrittenOwn.{blocks_again, AreDeclaredAgain, variables_back}
use Rattle.sfc_read_back.proofs.WrittenCharts.{IsStepBack, step_back, IsTransitionBack, transition_back, IsActionBack, action_back}

-- ---- elements by kind

filtered_all : {A X Y : Type 0} (h : X → Option Y) (f : A → X) (g : A → Y) → ((a : A) → h (f a) ≡ Some (g a))
    → (xs : List A) → filter_map h (map f xs) ≡ map g xs
filtered_all h f g says [] = refl
filtered_all h f g says (x ∷ xs) = rw (says x) (ap (λ ys. g x ∷ ys) (filtered_all h f g says xs))

filtered_none : {A X Y : Type 0} (h : X → Option Y) (f : A → X) → ((a : A) → h (f a) ≡ None) → (xs : List A) → filter_map h (map f xs) ≡ []
filtered_none h f says [] = refl
filtered_none h f says (x ∷ xs) = rw (says x) (filtered_none h f says xs)

filtered_same : {A X Y : Type 0} (h : X → Option Y) (f : A → X) (k : A → Option Y) → ((a : A) → h (f a) ≡ k a)
    → (xs : List A) → filter_map h (map f xs) ≡ filter_map k xs
filtered_same h f k says [] = refl
filtered_same h f k says (x ∷ xs) = rw (says x, filtered_same h f k says xs) refl

in_three : {X Y : Type 0} (h : X → Option Y) (a b c : List X)
    → filter_map h (a ++ b ++ c) ≡ filter_map h a ++ filter_map h b ++ filter_map h c
in_three h a b c = filter_map-append h (a ++ b) c ∙ ap (λ ys. ys ++ filter_map h c) (filter_map-append h a b)

-- the transitions that have names
names_among : (elements : List ElementTree) → transition_names elements ≡ filter_map (λ t. t.name) (transitions_of elements)
names_among [] = refl
names_among (AStep s ∷ elements) = names_among elements
names_among (ATransition t ∷ elements) = ap (cons_option t.name) (names_among elements)
names_among (AnAction a ∷ elements) = names_among elements

module _ (space : Space) (chart : Chart) where
  abbrev a_step : Step → ElementTree
  a_step s = AStep (step_tree space s)

  abbrev a_transition : Transition → ElementTree
  a_transition t = ATransition (transition_tree space t)

  abbrev an_action : Action → ElementTree
  an_action a = AnAction (action_tree space a)

  steps_in : steps_of (element_trees space chart) ≡ map (step_tree space) chart.steps
  steps_in =
      in_three step_in (map a_step chart.steps) (map a_transition chart.transitions) (map an_action chart.actions)
      ∙ (λ i. filtered_all step_in a_step (step_tree space) (λ s. refl) chart.steps i
      ++ filtered_none step_in a_transition (λ t. refl) chart.transitions i ++ filtered_none step_in an_action (λ a. refl) chart.actions i)
      ∙ append-nil (map (step_tree space) chart.steps ++ []) ∙ append-nil (map (step_tree space) chart.steps)

  pub transitions_in : transitions_of (element_trees space chart) ≡ map (transition_tree space) chart.transitions
  transitions_in =
      in_three transition_in (map a_step chart.steps) (map a_transition chart.transitions) (map an_action chart.actions)
      ∙ (λ i. filtered_none transition_in a_step (λ s. refl) chart.steps i
      ++ filtered_all transition_in a_transition (transition_tree space) (λ t. refl) chart.transitions i
      ++ filtered_none transition_in an_action (λ a. refl) chart.actions i)
      ∙ append-nil (map (transition_tree space) chart.transitions)

  pub actions_in : actions_of (element_trees space chart) ≡ map (action_tree space) chart.actions
  actions_in =
      in_three action_in (map a_step chart.steps) (map a_transition chart.transitions) (map an_action chart.actions)
      ∙ (λ i. filtered_none action_in a_step (λ s. refl) chart.steps i
      ++ filtered_none action_in a_transition (λ t. refl) chart.transitions i
      ++ filtered_all action_in an_action (action_tree space) (λ a. refl) chart.actions i)

  -- the names of the parts
  steps_named : step_names (element_trees space chart) ≡ map (λ s. s.name) chart.steps
  steps_named = ap (map (λ s. s.name)) steps_in ∙ map-map (λ s. s.name) (step_tree space) chart.steps

  actions_named : action_names (element_trees space chart) ≡ map (λ a. a.name) chart.actions
  actions_named = ap (map (λ a. a.name)) actions_in ∙ map-map (λ a. a.name) (action_tree space) chart.actions

  transitions_named : transition_names (element_trees space chart) ≡ filter_map (λ t. t.name) chart.transitions
  transitions_named =
      names_among (element_trees space chart) ∙ ap (filter_map (λ t. t.name)) transitions_in
      ∙ filtered_same (λ t. t.name) (transition_tree space) (λ t. t.name) (λ t. refl) chart.transitions

-- ---- numbers

fold_mapped : {A B : Type 0} (f : A → B) (g : A → ℕ) (h : B → ℕ) → ((x : A) → h (f x) ≡ g x) → (n : ℕ) (xs : List A)
    → fold (λ a y. a + h y) n (map f xs) ≡ fold (λ a x. a + g x) n xs
fold_mapped f g h says n [] = refl
fold_mapped f g h says n (x ∷ xs) =
    fold_mapped f g h says (n + h (f x)) xs ∙ ap (λ m. fold (λ a x. a + g x) (n + m) xs) (says x)

any_mapped : {A B : Type 0} (f : A → B) (p : A → Bool) (q : B → Bool) → ((x : A) → q (f x) ≡ p x) → (xs : List A)
    → list_any q (map f xs) ≡ list_any p xs
any_mapped f p q says [] = refl
any_mapped f p q says (x ∷ xs) = λ i. says x i || any_mapped f p q says xs i

counted : (space : Space) (steps : List text_step.Step)
    → association_count (map (step_tree space) (map (step_of space) steps)) ≡ association_count steps
counted space steps =
    fold_mapped (step_tree space) (λ s. length s.associations) (λ s. length s.associations)
    (λ s. length-map s.associations (association_tree space)) 0 (map (step_of space) steps)
    ∙ fold_mapped (step_of space) (λ s. length s.associations) (λ s. length s.associations)
    (λ s. length-map s.associations (association_of space)) 0 steps

-- ---- a chart

-- the elements that are spelled of a chart that was built of these
abbrev pub elements_again : Space → List ElementTree → List ElementTree
elements_again space elements = element_trees space (chart_of space elements)

module _ (space : Space) (elements : List ElementTree) where
  abbrev chart : Chart
  chart = chart_of space elements

  abbrev again : List ElementTree
  again = elements_again space elements

  step_names_again : step_names again ≡ step_names elements
  step_names_again = steps_named space chart ∙ map-map (λ s. s.name) (step_of space) (steps_of elements)

  action_names_again : action_names again ≡ action_names elements
  action_names_again = actions_named space chart ∙ map-map (λ a. a.name) (action_of space) (actions_of elements)

  transition_names_again : transition_names again ≡ transition_names elements
  transition_names_again =
      transitions_named space chart ∙ filtered_same (λ t. t.name) (transition_of space) (λ t. t.name) (λ t. refl) (transitions_of elements)
      ∙ sym (names_among elements)

  names_again : element_names again ≡ element_names elements
  names_again = λ i. step_names_again i ++ action_names_again i ++ transition_names_again i

  limits_again : limits_check again ≡ limits_check elements
  limits_again =
      let steps : length (steps_of again) ≡ length (steps_of elements) =
      ap length (steps_in space chart) ∙ length-map chart.steps (step_tree space) ∙ length-map (steps_of elements) (step_of space) in
      let transitions : length (transitions_of again) ≡ length (transitions_of elements) =
      ap length (transitions_in space chart) ∙ length-map chart.transitions (transition_tree space)
      ∙ length-map (transitions_of elements) (transition_of space) in
      let associations : association_count (steps_of again) ≡ association_count (steps_of elements) =
      ap association_count (steps_in space chart) ∙ counted space (steps_of elements) in
      λ i. when (nat_lt STEPS (steps i)) (fault.Limit limit.Steps)
      then when (nat_lt TRANSITIONS (transitions i)) (fault.Limit limit.Transitions)
      then when (nat_lt ASSOCIATIONS (associations i)) (fault.Limit limit.Associations)

  initial_again : initial_check again ≡ initial_check elements
  initial_again =
      let any : list_any (λ s. s.is_initial) (steps_of again) ≡ list_any (λ s. s.is_initial) (steps_of elements) =
      ap (list_any (λ s. s.is_initial)) (steps_in space chart)
      ∙ any_mapped (step_tree space) (λ s. s.is_initial) (λ s. s.is_initial) (λ s. refl) chart.steps
      ∙ any_mapped (step_of space) (λ s. s.is_initial) (λ s. s.is_initial) (λ s. refl) (steps_of elements) in
      ap (λ b. when (not b) fault.NoInitial) any

  -- what is spelled of a chart passes, and is built as that chart
  record IsChartBack : Type 0 where
    checks : chart_check space again ≡ None
    built : chart_of space again ≡ chart

  chart_back : chart_check space elements ≡ None → IsChartBack
  chart_back e =
      let after = then_second (each (step_check space) (steps_of elements)) _ e in
      let s : All (IsStepBack space) chart.steps =
      All-map (IsStepBack space) (step_of space) (steps_of elements)
      (All-weaker (λ s. step_check space s ≡ None) (λ s. IsStepBack space (step_of space s)) (step_back space) (steps_of elements)
      (each_all (step_check space) (steps_of elements) (then_first (each (step_check space) (steps_of elements)) _ e))) in
      let t : All (IsTransitionBack space) chart.transitions =
      All-map (IsTransitionBack space) (transition_of space) (transitions_of elements)
      (All-weaker (λ t. transition_check space t ≡ None) (λ t. IsTransitionBack space (transition_of space t)) (transition_back space)
      (transitions_of elements)
      (each_all (transition_check space) (transitions_of elements)
      (then_first (each (transition_check space) (transitions_of elements)) _ after))) in
      let a : All (IsActionBack space) chart.actions =
      All-map (IsActionBack space) (action_of space) (actions_of elements)
      (All-weaker (λ a. action_check space a ≡ None) (λ a. IsActionBack space (action_of space a)) (action_back space) (actions_of elements)
      (each_all (action_check space) (actions_of elements)
      (then_second (each (transition_check space) (transitions_of elements)) _ after))) in
      let steps_kept : map (step_of space) (steps_of again) ≡ chart.steps =
      ap (map (step_of space)) (steps_in space chart)
      ∙ kept_again (step_tree space) (step_of space) chart.steps
      (All-weaker (IsStepBack space) (λ s. step_of space (step_tree space s) ≡ s) (λ s b. b.built) chart.steps s) in
      let transitions_kept : map (transition_of space) (transitions_of again) ≡ chart.transitions =
      ap (map (transition_of space)) (transitions_in space chart)
      ∙ kept_again (transition_tree space) (transition_of space) chart.transitions
      (All-weaker (IsTransitionBack space) (λ t. transition_of space (transition_tree space t) ≡ t) (λ t b. b.built) chart.transitions t) in
      let actions_kept : map (action_of space) (actions_of again) ≡ chart.actions =
      ap (map (action_of space)) (actions_in space chart)
      ∙ kept_again (action_tree space) (action_of space) chart.actions
      (All-weaker (IsActionBack space) (λ a. action_of space (action_tree space a) ≡ a) (λ a b. b.built) chart.actions a) in
      record {
        checks = both_pass (each (step_check space) (steps_of again)) _
            (ap (each (step_check space)) (steps_in space chart)
            ∙ each_again (step_check space) (step_tree space) chart.steps
            (All-weaker (IsStepBack space) (λ s. step_check space (step_tree space s) ≡ None) (λ s b. b.checks) chart.steps s))
            (both_pass (each (transition_check space) (transitions_of again)) _
            (ap (each (transition_check space)) (transitions_in space chart)
            ∙ each_again (transition_check space) (transition_tree space) chart.transitions
            (All-weaker (IsTransitionBack space) (λ t. transition_check space (transition_tree space t) ≡ None)
            (λ t b. b.checks) chart.transitions t))
            (ap (each (action_check space)) (actions_in space chart)
            ∙ each_again (action_check space) (action_tree space) chart.actions
            (All-weaker (IsActionBack space) (λ a. action_check space (action_tree space a) ≡ None) (λ a b. b.checks) chart.actions a)));
        built = λ i. record { steps = steps_kept i; transitions = transitions_kept i; actions = actions_kept i };
      }

-- ---- a program type

-- what is spelled of a program type passes, and is built as that program type
pub record IsProgramBack (globals : List Variable) (p : ProgramType) : Type 0 where
  pub checks : program_check globals (program_tree globals p) ≡ None
  pub built : program_of globals (program_tree globals p) ≡ p

module _ (globals : List Variable) (p : ProgramTree) where
  abbrev space : Space
  space = space_of globals p

  -- the same by its parts
  abbrev pub tree_again : ProgramTree
  tree_again = record { name = p.name; variables = blocks_again globals p.variables; elements = elements_again space p.elements }

  pub space_kept : space_in globals (program_of globals p) ≡ space
  space_kept = λ i. record {
    globals = globals;
    locals = space.locals;
    steps = map-map (λ s. s.name) (step_of space) (steps_of p.elements) i;
    actions = map-map (λ a. a.name) (action_of space) (actions_of p.elements) i;
  }

  pub tree_kept : program_tree globals (program_of globals p) ≡ tree_again
  tree_kept = λ i. record {
    name = p.name;
    variables = blocks_again globals p.variables;
    elements = element_trees (space_kept i) (chart_of space p.elements);
  }

  space_again : AreDeclaredAgain globals p.variables → space_of globals tree_again ≡ space
  space_again v = λ i. record {
    globals = globals;
    locals = v.locals i;
    steps = step_names_again space p.elements i;
    actions = action_names_again space p.elements i;
  }

  checks_again : program_check globals p ≡ None → program_check globals tree_again ≡ None
  unfolding program_check
  checks_again e =
      let no_limit = then_second (limits_check p.elements) _ e in
      let v = variables_back globals p.variables (then_first (variables_check globals p.variables) _ no_limit) in
      let declared = then_second (variables_check globals p.variables) _ no_limit in
      let distinct = then_first (distinct_check (own_names p.variables) (element_names p.elements)) _ declared in
      let after = then_second (distinct_check (own_names p.variables) (element_names p.elements)) _ declared in
      let c = chart_back space p.elements (then_second (initial_check p.elements) _ after) in
      both_pass (limits_check (elements_again space p.elements)) _
      (limits_again space p.elements ∙ then_first (limits_check p.elements) _ e)
      (both_pass (variables_check globals (blocks_again globals p.variables)) _ v.checks
      (both_pass (distinct_check (own_names (blocks_again globals p.variables)) (element_names (elements_again space p.elements))) _
      (ap (distinct_check (own_names (blocks_again globals p.variables))) (names_again space p.elements)
      ∙ distinct_same (own_names p.variables) (own_names (blocks_again globals p.variables)) (element_names p.elements)
      (element_names p.elements)
      v.names (same_refl (element_names p.elements)) distinct)
      (both_pass (initial_check (elements_again space p.elements)) _
      (initial_again space p.elements ∙ then_first (initial_check p.elements) _ after)
      (ap (λ s. chart_check s (elements_again space p.elements)) (space_again v) ∙ c.checks))))

  built_again : program_check globals p ≡ None → program_of globals tree_again ≡ program_of globals p
  unfolding program_check
  built_again e =
      let no_limit = then_second (limits_check p.elements) _ e in
      let v = variables_back globals p.variables (then_first (variables_check globals p.variables) _ no_limit) in
      let declared = then_second (variables_check globals p.variables) _ no_limit in
      let after = then_second (distinct_check (own_names p.variables) (element_names p.elements)) _ declared in
      let c = chart_back space p.elements (then_second (initial_check p.elements) _ after) in
      let kept : chart_of (space_of globals tree_again) (elements_again space p.elements) ≡ chart_of space p.elements =
      ap (λ s. chart_of s (elements_again space p.elements)) (space_again v) ∙ c.built in
      λ i. record { name = p.name; locals = v.locals i; externals = v.externals i; chart = kept i }

  pub program_back : program_check globals p ≡ None → IsProgramBack globals (program_of globals p)
  program_back e = record {
    checks = ap (program_check globals) tree_kept ∙ checks_again e;
    built = ap (program_of globals) tree_kept ∙ built_again e;
  }
