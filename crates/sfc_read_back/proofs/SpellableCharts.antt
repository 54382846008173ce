-- A chart whose text declares names, priorities and locations that can stand in a text can be spelled.
use Rattle.std.proofs.Common.{◌≡◌, ℕ, ◌<◌, ◌≤◌, ◌^◌, ℤ, pos, negsuc, neg_ℤ, ◌≤ℤ◌, unsigned_abs, false, List, [], ◌∷◌, length, map, All, Option, Some, None, arith}
use Rattle.std.proofs.lemmas.Int.{ints}
use Rattle.std.specs.Prelude.{⊤}
use Rattle.std.proofs.lemmas.List.Elements.{All-nil, All-cons, All-head, All-tail, All-map, All-weaker}
use Rattle.sfc_base.specs.Durations.{greatest}
use Rattle.sfc_base.specs.Names.{IsName}
use Rattle.sfc_tokens.specs.Spelling.{CanStand}
use Rattle.sfc_tokens.specs.declared.token.TokenKind.TheVariants as token
use Rattle.sfc_base.specs.declared.var_type.VarType.TheVariants as types
use Rattle.sfc_text.specs.declared.tree.Association as text_association
use Rattle.sfc_text.specs.declared.tree.Step as text_step
use Rattle.sfc_text.specs.Declares.{OfOptional, OfName, OfTransition, OfElement}
use Rattle.sfc_text.specs.Lists.{is_empty}
use Rattle.sfc_text.specs.Trees.{TransitionTree, ActionTree, ElementTree, AStep, ATransition, AnAction}
use Rattle.sfc_base.specs.declared.value.Value.TheVariants as value
use Rattle.sfc_base.specs.declared.references.StepId.{StepId}
use Rattle.sfc_expr.specs.Trees.{Literal, Nothing}
use Rattle.sfc_load.specs.sfc_check.Checking.{checked, checked_body}
use Rattle.sfc_load.specs.sfc_variables.Checks.{each}
use Rattle.sfc_plant.specs.declared.association.Target.{Target}
use Rattle.sfc_plant.specs.declared.association.Target.TheVariants as target
use Rattle.sfc_plant.specs.declared.association.Time.{Time}
use Rattle.sfc_plant.specs.declared.association.Time.TheVariants as time
use Rattle.sfc_plant.specs.declared.association.Qualifier.{Qualifier}
use Rattle.sfc_plant.specs.declared.association.Qualifier.TheVariants as qualifier
use Rattle.sfc_plant.specs.Chart.{IsVariable, IsAssociationTime, IsQualifier, IsTarget}
use Rattle.sfc_load.specs.sfc_program.Elements.{steps_of, transitions_of, actions_of}
use Rattle.sfc_load.specs.sfc_program.Loading.{side_check, association_check, step_check, transition_check, action_check, chart_check}
use Rattle.sfc_plant.specs.Spaces.{Space}
use Rattle.sfc_load.specs.sfc_program.Names.{names_in}
use Rattle.sfc_load.specs.sfc_program.Built.{association_of, step_of, step_ids, transition_of, action_of, chart_of}
use Rattle.sfc_load.proofs.of_sfc_program.Soundness.{then_first, then_second, counts, association_sound, side_sound, HasSides}
use Rattle.sfc_plant.specs.Names.{target_name}
use Rattle.sfc_read_back.specs.SpelledTexts.{AreNames, AreBodyNames}
use Rattle.sfc_read_back.specs.SpelledPlants.{CanSpellTime, CanSpellQualifier, IsVariableName, CanSpellAssociation, CanSpellStep, IsStepName, CanSpellTransition, CanSpellAction, CanSpellChart}
use Rattle.sfc_read_back.proofs.WrittenLists.{each_all}
use Rattle.sfc_read_back.proofs.WrittenVariables.{held}
use Rattle.sfc_read_back.proofs.SpellableTerms.{AreDeclared, name_there, variable_named, have_names, expression_named, body_named}

-- ---- times

pub between : (t : ℤ) → neg_ℤ (pos (2 ^ 62)) ≤ℤ t → t ≤ℤ pos (2 ^ 62) → unsigned_abs t ≤ greatest
between (pos n) low high = omega (arith, ints)
between (negsuc n) low high = omega (arith, ints)

-- ---- sides

-- a transition among elements has them
abbrev pub Sided : ElementTree → Type 0
Sided (ATransition t) = HasSides t
Sided _ = ⊤

module _ (space : Space) (are : AreDeclared space) where
  -- ---- steps

  target_spelled : (t : Target) → IsTarget (counts space) (length space.actions) t → IsName (target_name space t)
  target_spelled (target.Declared id) lt = name_there space.actions id.0 are.actions lt
  target_spelled (target.Boolean v) h = variable_named space v are h

  time_spelled : (t : Time) → IsAssociationTime (counts space) t → CanSpellTime space t
  time_spelled (time.Literal t) h = between t h.low h.high
  time_spelled (time.Variable v) h = variable_named space v are h

  qualifier_spelled : (q : Qualifier) → IsQualifier (counts space) q → CanSpellQualifier space q
  qualifier_spelled qualifier.NonStored h = tt
  qualifier_spelled qualifier.Reset h = tt
  qualifier_spelled qualifier.Set h = tt
  qualifier_spelled qualifier.Pulse h = tt
  qualifier_spelled qualifier.RisingPulse h = tt
  qualifier_spelled qualifier.FallingPulse h = tt
  qualifier_spelled (qualifier.Timed q t) h = time_spelled t h

  association_spelled : (a : text_association.Association) → association_check space a ≡ None → CanSpellAssociation space (association_of space a)
  association_spelled a e =
      let made = association_of space a in
      let sound = association_sound space a e in
      record {
        target = target_spelled made.target sound.target;
        qualifier = qualifier_spelled made.qualifier sound.qualifier;
        indicators = All-weaker (IsVariable (counts space)) (IsVariableName space) (λ v h. variable_named space v are h) made.indicators sound.indicators;
      }

  step_spelled : (s : text_step.Step) → IsName s.name → step_check space s ≡ None → CanSpellStep space (step_of space s)
  step_spelled s is e = record {
    name = is;
    associations = All-map (CanSpellAssociation space) (association_of space) s.associations
        (All-weaker (λ a. association_check space a ≡ None) (λ a. CanSpellAssociation space (association_of space a)) association_spelled
        s.associations (each_all (association_check space) s.associations e));
  }

  -- ---- transitions and actions

  some_ids : (names : List (List ℕ)) → is_empty names ≡ false → 0 < length (step_ids space.steps names)
  some_ids [] e = absurd cc
  some_ids (name ∷ names) e = omega arith

  side_spelled : (names : List (List ℕ)) → side_check space.steps names ≡ None → All (IsStepName space) (step_ids space.steps names)
  side_spelled names e =
      All-weaker (λ (s : StepId). s.0 < length space.steps) (IsStepName space) (λ s lt. name_there space.steps s.0 are.steps lt)
      (step_ids space.steps names) (side_sound space.steps names e)

  optional_name : (name : Option (List ℕ)) → OfOptional (OfName CanStand) name → OfOptional IsName name
  optional_name None h = tt
  optional_name (Some name) h = h

  optional_priority : (priority : Option ℕ) → OfOptional (λ n. CanStand (token.Integer n)) priority → OfOptional (λ n. n < 2 ^ 32) priority
  optional_priority None h = tt
  optional_priority (Some n) h = h

  transition_spelled : (t : TransitionTree) → OfTransition CanStand t → HasSides t → transition_check space t ≡ None
      → CanSpellTransition space (transition_of space t)
  transition_spelled t stands sides e =
      let after = then_second (side_check space.steps t.preceding) _ e in
      record {
        name = optional_name t.name stands.name;
        priority = optional_priority t.priority stands.priority;
        preceding = side_spelled t.preceding (then_first (side_check space.steps t.preceding) _ e);
        following = side_spelled t.following (then_first (side_check space.steps t.following) _ after);
        some_preceding = some_ids t.preceding sides.preceding;
        some_following = some_ids t.following sides.following;
        condition = held (AreNames space []) (Literal (value.Bool false)) (checked (names_in space None) t.condition types.Bool)
            (expression_named (names_in space None) space [] (have_names space None are tt) t.condition types.Bool)
            (then_second (side_check space.steps t.following) _ after);
      }

  action_spelled : (a : ActionTree) → IsName a.name → action_check space a ≡ None → CanSpellAction space (action_of space a)
  action_spelled a is e = record {
    name = is;
    body = held (AreBodyNames space a.name) Nothing (checked_body (names_in space (Some a.name)) a.body)
        (body_named (names_in space (Some a.name)) space a.name (have_names space (Some a.name) are is) a.body) e;
  }

  -- ---- charts

  abbrev Stands : ElementTree → Type 0
  Stands e = OfElement CanStand e

  steps_spelled : (es : List ElementTree) → All Stands es → All (λ s. step_check space s ≡ None) (steps_of es)
      → All (CanSpellStep space) (map (step_of space) (steps_of es))
  steps_spelled [] h e = All-nil (CanSpellStep space)
  steps_spelled (AStep s ∷ es) h e =
      All-cons (CanSpellStep space) (step_of space s) (map (step_of space) (steps_of es))
      (step_spelled s (All-head Stands (AStep s) es h) (All-head (λ s. step_check space s ≡ None) s (steps_of es) e))
      (steps_spelled es (All-tail Stands (AStep s) es h) (All-tail (λ s. step_check space s ≡ None) s (steps_of es) e))
  steps_spelled (ATransition t ∷ es) h e = steps_spelled es (All-tail Stands (ATransition t) es h) e
  steps_spelled (AnAction a ∷ es) h e = steps_spelled es (All-tail Stands (AnAction a) es h) e

  transitions_spelled : (es : List ElementTree) → All Stands es → All Sided es → All (λ t. transition_check space t ≡ None) (transitions_of es)
      → All (CanSpellTransition space) (map (transition_of space) (transitions_of es))
  transitions_spelled [] h s e = All-nil (CanSpellTransition space)
  transitions_spelled (ATransition t ∷ es) h s e =
      All-cons (CanSpellTransition space) (transition_of space t) (map (transition_of space) (transitions_of es))
      (transition_spelled t (All-head Stands (ATransition t) es h) (All-head Sided (ATransition t) es s)
      (All-head (λ t. transition_check space t ≡ None) t (transitions_of es) e))
      (transitions_spelled es (All-tail Stands (ATransition t) es h) (All-tail Sided (ATransition t) es s)
      (All-tail (λ t. transition_check space t ≡ None) t (transitions_of es) e))
  transitions_spelled (AStep x ∷ es) h s e =
      transitions_spelled es (All-tail Stands (AStep x) es h) (All-tail Sided (AStep x) es s) e
  transitions_spelled (AnAction a ∷ es) h s e =
      transitions_spelled es (All-tail Stands (AnAction a) es h) (All-tail Sided (AnAction a) es s) e

  actions_spelled : (es : List ElementTree) → All Stands es → All (λ a. action_check space a ≡ None) (actions_of es)
      → All (CanSpellAction space) (map (action_of space) (actions_of es))
  actions_spelled [] h e = All-nil (CanSpellAction space)
  actions_spelled (AnAction a ∷ es) h e =
      All-cons (CanSpellAction space) (action_of space a) (map (action_of space) (actions_of es))
      (action_spelled a (All-head Stands (AnAction a) es h) (All-head (λ a. action_check space a ≡ None) a (actions_of es) e))
      (actions_spelled es (All-tail Stands (AnAction a) es h) (All-tail (λ a. action_check space a ≡ None) a (actions_of es) e))
  actions_spelled (AStep s ∷ es) h e = actions_spelled es (All-tail Stands (AStep s) es h) e
  actions_spelled (ATransition t ∷ es) h e = actions_spelled es (All-tail Stands (ATransition t) es h) e

  pub chart_spelled : (es : List ElementTree) → All Stands es → All Sided es → chart_check space es ≡ None
      → CanSpellChart space (chart_of space es)
  chart_spelled es h s e =
      let after = then_second (each (step_check space) (steps_of es)) _ e in
      record {
        steps = steps_spelled es h (each_all (step_check space) (steps_of es) (then_first (each (step_check space) (steps_of es)) _ e));
        transitions = transitions_spelled es h s
            (each_all (transition_check space) (transitions_of es) (then_first (each (transition_check space) (transitions_of es)) _ after));
        actions = actions_spelled es h
            (each_all (action_check space) (actions_of es) (then_second (each (transition_check space) (transitions_of es)) _ after));
      }
