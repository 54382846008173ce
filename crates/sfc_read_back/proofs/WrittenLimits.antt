-- What a listing spells of a plant has the shapes of the conditions and bodies that were loaded, so it is within the same limits.
use Rattle.std.proofs.Common.{◌≡◌, ℕ, false, List, [], ◌∷◌, map, All, Option, Some, None, ap, ◌∙◌}
use Rattle.std.proofs.lemmas.List.Elements.{All-nil, All-cons, All-head, All-tail, All-weaker}
use Rattle.std.proofs.lemmas.Simd.{map-map}
use Rattle.sfc_base.specs.declared.var_type.VarType.TheVariants as types
use Rattle.sfc_text.specs.Trees.{Tree, Block, TransitionTree, ActionTree, ElementTree, ProgramTree, SourceTree}
use Rattle.sfc_base.specs.declared.value.Value.TheVariants as value
use Rattle.sfc_expr.specs.Trees.{Literal, Nothing}
use Rattle.sfc_load.specs.sfc_check.Checking.{checked, checked_body}
use Rattle.sfc_plant.specs.declared.variable.Variable.{Variable}
use Rattle.sfc_load.specs.sfc_variables.Checks.{each}
use Rattle.sfc_load.specs.sfc_variables.Declarations.{globals_check, globals_of}
use Rattle.sfc_load.specs.sfc_variables.Own.{variables_check, own_names}
use Rattle.sfc_load.specs.sfc_program.Elements.{steps_of, transitions_of, actions_of}
use Rattle.sfc_plant.specs.Spaces.{Space}
use Rattle.sfc_load.specs.sfc_program.Names.{names_in}
use Rattle.sfc_load.specs.sfc_program.Loading.{limits_check, distinct_check, element_names, initial_check, side_check, step_check, transition_check, action_check, space_of, chart_check, program_check}
use Rattle.sfc_load.specs.sfc_program.Built.{transition_of, action_of, chart_of, program_of}
use Rattle.sfc_load.proofs.of_sfc_program.Soundness.{then_first, then_second}
use Rattle.sfc_load.specs.Loading.{tasks_check, program_name, programs_check}
use Rattle.sfc_load.specs.Built.{source_check}
use Rattle.sfc_read_back.specs.WrittenCharts.{transition_tree, action_tree}
use Rattle.sfc_read_back.specs.Written.{program_tree}
use Rattle.sfc_read_back.proofs.WrittenShapes.{shape, block_shape, HasShape, shape_kept, AreStatements, HasBodyShape, body_shape_kept}
use Rattle.sfc_read_back.proofs.WrittenLists.{each_all, map_again, kinds_pass}
use Rattle.sfc_read_back.proofs.WrittenVariables.{held}
use Rattle.sfc_read_back.proofs.WrittenPrograms.{transitions_in, actions_in, elements_again, tree_kept}

-- ---- conditions and bodies

-- the shapes of the conditions of a program type, and of the bodies of its actions
abbrev pub conditions : List ElementTree → List Tree
conditions elements = map (λ t. shape t.condition) (transitions_of elements)

abbrev pub bodies : List ElementTree → List Block
bodies elements = map (λ a. block_shape a.body) (actions_of elements)

-- each body has its branches in IFs alone
abbrev pub AreBodies : List ElementTree → Type 0
AreBodies elements = All (λ a. AreStatements a.body) (actions_of elements)

module _ (space : Space) where
  condition_kept : (t : TransitionTree) → transition_check space t ≡ None
      → shape (transition_tree space (transition_of space t)).condition ≡ shape t.condition
  condition_kept t e =
      let after = then_second (side_check space.steps t.preceding) _ e in
      held (HasShape (names_in space None) space [] t.condition) (Literal (value.Bool false))
      (checked (names_in space None) t.condition types.Bool)
      (shape_kept (names_in space None) space [] t.condition types.Bool) (then_second (side_check space.steps t.following) _ after)

  body_kept : (a : ActionTree) → AreStatements a.body → action_check space a ≡ None
      → block_shape (action_tree space (action_of space a)).body ≡ block_shape a.body
  body_kept a is e =
      let own : Option (List ℕ) = Some a.name in
      held (HasBodyShape (names_in space own) space a.name a.body) Nothing (checked_body (names_in space own) a.body)
      (body_shape_kept (names_in space own) space a.name a.body is) e

  conditions_kept : (elements : List ElementTree) → chart_check space elements ≡ None
      → conditions (elements_again space elements) ≡ conditions elements
  conditions_kept elements e =
      let after = then_second (each (step_check space) (steps_of elements)) _ e in
      let h = each_all (transition_check space) (transitions_of elements)
      (then_first (each (transition_check space) (transitions_of elements)) _ after) in
      ap (map (λ t. shape t.condition)) (transitions_in space (chart_of space elements)
      ∙ map-map (transition_tree space) (transition_of space) (transitions_of elements))
      ∙ map_again (λ t. transition_tree space (transition_of space t)) (λ t. shape t.condition) (λ t. shape t.condition)
      (transitions_of elements)
      (All-weaker (λ t. transition_check space t ≡ None)
      (λ t. shape (transition_tree space (transition_of space t)).condition ≡ shape t.condition) condition_kept (transitions_of elements) h)

  both_hold : (actions : List ActionTree) → All (λ a. AreStatements a.body) actions → All (λ a. action_check space a ≡ None) actions
      → All (λ a. block_shape (action_tree space (action_of space a)).body ≡ block_shape a.body) actions
  both_hold [] is h = All-nil _
  both_hold (a ∷ actions) is h =
      All-cons (λ a. block_shape (action_tree space (action_of space a)).body ≡ block_shape a.body) a actions
      (body_kept a (All-head (λ a. AreStatements a.body) a actions is) (All-head (λ a. action_check space a ≡ None) a actions h))
      (both_hold actions (All-tail (λ a. AreStatements a.body) a actions is) (All-tail (λ a. action_check space a ≡ None) a actions h))

  bodies_kept : (elements : List ElementTree) → AreBodies elements → chart_check space elements ≡ None
      → bodies (elements_again space elements) ≡ bodies elements
  bodies_kept elements is e =
      let after = then_second (each (step_check space) (steps_of elements)) _ e in
      let h = each_all (action_check space) (actions_of elements)
      (then_second (each (transition_check space) (transitions_of elements)) _ after) in
      ap (map (λ a. block_shape a.body)) (actions_in space (chart_of space elements)
      ∙ map-map (action_tree space) (action_of space) (actions_of elements))
      ∙ map_again (λ a. action_tree space (action_of space a)) (λ a. block_shape a.body) (λ a. block_shape a.body) (actions_of elements)
      (both_hold (actions_of elements) is h)

-- ---- program types

-- what is spelled of a program type has the shapes of its conditions and bodies
pub record KeepsShapes (globals : List Variable) (p : ProgramTree) : Type 0 where
  pub conditions : conditions (program_tree globals (program_of globals p)).elements ≡ conditions p.elements
  pub bodies : AreBodies p.elements → bodies (program_tree globals (program_of globals p)).elements ≡ bodies p.elements

pub program_shapes : (globals : List Variable) (p : ProgramTree) → program_check globals p ≡ None → KeepsShapes globals p
unfolding program_check
program_shapes globals p e =
    let no_limit = then_second (limits_check p.elements) _ e in
    let declared = then_second (variables_check globals p.variables) _ no_limit in
    let after = then_second (distinct_check (own_names p.variables) (element_names p.elements)) _ declared in
    let c = then_second (initial_check p.elements) _ after in
    record {
      conditions = ap (λ (q : ProgramTree). conditions q.elements) (tree_kept globals p)
          ∙ conditions_kept (space_of globals p) p.elements c;
      bodies = λ is. ap (λ (q : ProgramTree). bodies q.elements) (tree_kept globals p) ∙ bodies_kept (space_of globals p) p.elements is c;
    }

-- ---- a plant

pub plant_shapes : (s : SourceTree) → source_check s ≡ None → All (KeepsShapes (globals_of s.configuration.globals)) s.programs
unfolding programs_check
plant_shapes s e =
    let globals : List Variable = globals_of s.configuration.globals in
    let after_globals = then_second (globals_check s.configuration.globals) _ e in
    let after_tasks = then_second (tasks_check globals s.configuration.tasks) _ after_globals in
    All-weaker (λ p. program_check globals p ≡ None) (KeepsShapes globals) (program_shapes globals) s.programs
    (kinds_pass program_name (program_check globals) [] s.programs (then_first (programs_check globals s.programs) _ after_tasks))
