-- The tree that a listing spells of a plant keeps to the limits of the tree that was loaded: it has its shapes.
use Rattle.std.proofs.Common.{◌≡◌, ℕ, suc, ◌≤◌, false, nat_lt, List, [], ◌∷◌, map, All, Option, None, Some, refl, sym, ap, ◌∙◌, subst}
use Rattle.std.specs.Prelude.{max}
use Rattle.std.proofs.lemmas.List.Elements.{All-nil, All-cons, All-head, All-tail, All-append, All-map, All-weaker}
use Rattle.std.proofs.lemmas.Simd.{map-map}
use Rattle.sfc_base.specs.declared.location.Location.{Location}
use Rattle.sfc_text.specs.declared.tree.VariableBlock.{VariableBlock}
use Rattle.sfc_text.specs.declared.tree.VariableBlock.TheVariants as block
use Rattle.sfc_text.specs.Limits.{Limits}
use Rattle.sfc_text.specs.Lists.{is_empty}
use Rattle.sfc_text.specs.Trees as text
use Rattle.sfc_text.specs.Trees.{Tree, Block, TransitionTree, ElementTree, AStep, ATransition, AnAction, ProgramTree, SourceTree}
use Rattle.sfc_text.specs.Spelled.{tighter, level, is_looser, deeper, nesting}
use Rattle.sfc_text.specs.SpelledStatements.{IsBody, AreBranches, AreOthers, block_nesting, most_operators}
use Rattle.sfc_text.specs.SpelledCharts.{KeepsElement}
use Rattle.sfc_text.specs.SpelledSources.{AreDeclared, IsDeclaration, IsExternal, AreVariables, KeepsProgram, KeepsSource}
use Rattle.sfc_base.specs.declared.references.GlobalId.{GlobalId}
use Rattle.sfc_plant.specs.declared.variable.Variable.{Variable}
use Rattle.sfc_plant.specs.declared.program_type.ProgramType.{ProgramType}
use Rattle.sfc_load.specs.sfc_program.Elements.{transitions_of, actions_of}
use Rattle.sfc_plant.specs.Spaces.{Space, space_in}
use Rattle.sfc_load.specs.sfc_program.Loading.{space_of}
use Rattle.sfc_load.specs.sfc_program.Built.{step_id, step_ids, transition_of, program_of}
use Rattle.sfc_load.specs.Loading.{task_names, program_names}
use Rattle.sfc_load.specs.Built.{instance_of, source_check, plant_of}
use Rattle.sfc_plant.specs.Plants.{PlantData}
use Rattle.sfc_plant.specs.Names.{step_name}
use Rattle.sfc_read_back.specs.WrittenVariables.{declaration_tree, external_tree, block_tree, variable_trees}
use Rattle.sfc_read_back.specs.WrittenCharts.{transition_tree}
use Rattle.sfc_read_back.specs.Written.{program_tree, instance_tree, written}
use Rattle.sfc_read_back.proofs.WrittenPrograms.{transitions_in}
use Rattle.sfc_read_back.proofs.WrittenShapes as shapes
use Rattle.sfc_read_back.proofs.WrittenShapes.{shape, block_shape, operators_by_shape, AreStatements}
use Rattle.sfc_read_back.proofs.WrittenLimits.{conditions, bodies, AreBodies, KeepsShapes, plant_shapes}

-- ---- expressions

level_by_shape : (e : Tree) → level (shape e) ≡ level e
level_by_shape (text.Constant l) = refl
level_by_shape (text.Named v) = refl
level_by_shape (text.Not a) = refl
level_by_shape (text.Minus a) = refl
level_by_shape (text.Binary o a b) = refl

-- an operand nests as deep
operand_by_shape : (wanted : ℕ) (e : Tree) → nesting (shape e) ≡ nesting e
    → deeper (is_looser wanted (shape e)) (nesting (shape e)) ≡ deeper (is_looser wanted e) (nesting e)
operand_by_shape wanted e h = λ i. deeper (nat_lt wanted (level_by_shape e i)) (h i)

nesting_by_shape : (e : Tree) → nesting (shape e) ≡ nesting e
nesting_by_shape (text.Constant l) = refl
nesting_by_shape (text.Named v) = refl
nesting_by_shape (text.Not a) = ap suc (operand_by_shape 0 a (nesting_by_shape a))
nesting_by_shape (text.Minus a) = ap suc (operand_by_shape 0 a (nesting_by_shape a))
nesting_by_shape (text.Binary o a b) =
    λ i. max (operand_by_shape (suc (tighter o)) a (nesting_by_shape a) i) (operand_by_shape (tighter o) b (nesting_by_shape b) i)

-- ---- statements

block_nesting_by_shape : (b : Block) → block_nesting (block_shape b) ≡ block_nesting b
block_nesting_by_shape text.Nothing = refl
block_nesting_by_shape (text.Assign v e rest) = λ i. max (nesting_by_shape e i) (block_nesting_by_shape rest i)
block_nesting_by_shape (text.If bs rest) = λ i. max (suc (block_nesting_by_shape bs i)) (block_nesting_by_shape rest i)
block_nesting_by_shape (text.When e body rest) =
    λ i. max (nesting_by_shape e i) (max (block_nesting_by_shape body i) (block_nesting_by_shape rest i))
block_nesting_by_shape (text.Otherwise body rest) = λ i. max (block_nesting_by_shape body i) (block_nesting_by_shape rest i)

most_by_shape : (b : Block) → most_operators (block_shape b) ≡ most_operators b
most_by_shape text.Nothing = refl
most_by_shape (text.Assign v e rest) = λ i. max (operators_by_shape e i) (most_by_shape rest i)
most_by_shape (text.If bs rest) = λ i. max (most_by_shape bs i) (most_by_shape rest i)
most_by_shape (text.When e body rest) = λ i. max (operators_by_shape e i) (max (most_by_shape body i) (most_by_shape rest i))
most_by_shape (text.Otherwise body rest) = λ i. max (most_by_shape body i) (most_by_shape rest i)

nothing_shaped : (b : Block) → b ≡ text.Nothing → block_shape b ≡ text.Nothing
nothing_shaped b e = ap block_shape e

nothing_by_shape : (b : Block) → block_shape b ≡ text.Nothing → b ≡ text.Nothing
nothing_by_shape text.Nothing e = refl
nothing_by_shape (text.Assign v x rest) e = cc
nothing_by_shape (text.If bs rest) e = cc
nothing_by_shape (text.When x body rest) e = cc
nothing_by_shape (text.Otherwise body rest) e = cc

mutual
  body_shaped : (b : Block) → IsBody b → IsBody (block_shape b)
  body_shaped text.Nothing is = tt
  body_shaped (text.Assign v e rest) is = body_shaped rest is
  body_shaped (text.If bs rest) is = (branches_shaped bs is.0, body_shaped rest is.1)
  body_shaped (text.When e body rest) is = absurd is
  body_shaped (text.Otherwise body rest) is = absurd is

  branches_shaped : (b : Block) → AreBranches b → AreBranches (block_shape b)
  branches_shaped text.Nothing are = absurd are
  branches_shaped (text.Assign v e rest) are = absurd are
  branches_shaped (text.If bs rest) are = absurd are
  branches_shaped (text.When e body rest) are = (body_shaped body are.0, others_shaped rest are.1)
  branches_shaped (text.Otherwise body rest) are = absurd are

  others_shaped : (b : Block) → AreOthers b → AreOthers (block_shape b)
  others_shaped text.Nothing are = tt
  others_shaped (text.Assign v e rest) are = absurd are
  others_shaped (text.If bs rest) are = absurd are
  others_shaped (text.When e body rest) are = (body_shaped body are.0, others_shaped rest are.1)
  others_shaped (text.Otherwise body rest) are = (body_shaped body are.0, nothing_shaped rest are.1)

mutual
  body_by_shape : (b : Block) → IsBody (block_shape b) → IsBody b
  body_by_shape text.Nothing is = tt
  body_by_shape (text.Assign v e rest) is = body_by_shape rest is
  body_by_shape (text.If bs rest) is = (branches_by_shape bs is.0, body_by_shape rest is.1)
  body_by_shape (text.When e body rest) is = absurd is
  body_by_shape (text.Otherwise body rest) is = absurd is

  branches_by_shape : (b : Block) → AreBranches (block_shape b) → AreBranches b
  branches_by_shape text.Nothing are = absurd are
  branches_by_shape (text.Assign v e rest) are = absurd are
  branches_by_shape (text.If bs rest) are = absurd are
  branches_by_shape (text.When e body rest) are = (body_by_shape body are.0, others_by_shape rest are.1)
  branches_by_shape (text.Otherwise body rest) are = absurd are

  others_by_shape : (b : Block) → AreOthers (block_shape b) → AreOthers b
  others_by_shape text.Nothing are = tt
  others_by_shape (text.Assign v e rest) are = absurd are
  others_by_shape (text.If bs rest) are = absurd are
  others_by_shape (text.When e body rest) are = (body_by_shape body are.0, others_by_shape rest are.1)
  others_by_shape (text.Otherwise body rest) are = (body_by_shape body are.0, nothing_by_shape rest are.1)

mutual
  are_statements : (b : Block) → IsBody b → AreStatements b
  are_statements text.Nothing is = tt
  are_statements (text.Assign v e rest) is = are_statements rest is
  are_statements (text.If bs rest) is = (are_branches bs is.0, are_statements rest is.1)
  are_statements (text.When e body rest) is = absurd is
  are_statements (text.Otherwise body rest) is = absurd is

  are_branches : (b : Block) → AreBranches b → shapes.AreBranches b
  are_branches text.Nothing are = absurd are
  are_branches (text.Assign v e rest) are = absurd are
  are_branches (text.If bs rest) are = absurd are
  are_branches (text.When e body rest) are = (are_statements body are.0, are_others rest are.1)
  are_branches (text.Otherwise body rest) are = absurd are

  are_others : (b : Block) → AreOthers b → shapes.AreBranches b
  are_others text.Nothing are = tt
  are_others (text.Assign v e rest) are = absurd are
  are_others (text.If bs rest) are = absurd are
  are_others (text.When e body rest) are = (are_statements body are.0, are_others rest are.1)
  are_others (text.Otherwise body rest) are =
      (are_statements body are.0, subst shapes.AreBranches (sym are.1) tt)

-- ---- elements

-- a transition has steps on both sides
abbrev HasBothSides : TransitionTree → Type 0
HasBothSides t = (is_empty t.preceding ≡ false) × (is_empty t.following ≡ false)

module _ (limits : Limits) where
  -- the shape of a condition, and that of a body, are within the limits
  abbrev pub KeepsCondition : Tree → Type 0
  KeepsCondition e = nesting e ≤ limits.depth × text.operators e ≤ limits.operators

  abbrev pub KeepsBody : Block → Type 0
  KeepsBody b = IsBody b × block_nesting b ≤ limits.depth × most_operators b ≤ limits.operators

  condition_shaped : (e : Tree) → KeepsCondition e → KeepsCondition (shape e)
  condition_shaped e h = (rw (nesting_by_shape e) h.0, rw (operators_by_shape e) h.1)

  condition_by_shape : (e : Tree) → KeepsCondition (shape e) → KeepsCondition e
  condition_by_shape e h = (
    subst (λ n. n ≤ limits.depth) (nesting_by_shape e) h.0,
    subst (λ n. n ≤ limits.operators) (operators_by_shape e) h.1,
  )

  statements_shaped : (b : Block) → KeepsBody b → KeepsBody (block_shape b)
  statements_shaped b h = (body_shaped b h.0, rw (block_nesting_by_shape b) h.1, rw (most_by_shape b) h.2)

  statements_by_shape : (b : Block) → KeepsBody (block_shape b) → KeepsBody b
  statements_by_shape b h = (
    body_by_shape b h.0,
    subst (λ n. n ≤ limits.depth) (block_nesting_by_shape b) h.1,
    subst (λ n. n ≤ limits.operators) (most_by_shape b) h.2,
  )

  -- what is within the limits in elements
  conditions_keep : (es : List ElementTree) → All (KeepsElement limits) es → All KeepsCondition (conditions es)
  conditions_keep [] h = All-nil KeepsCondition
  conditions_keep (AStep s ∷ es) h = conditions_keep es (All-tail (KeepsElement limits) (AStep s) es h)
  conditions_keep (AnAction a ∷ es) h = conditions_keep es (All-tail (KeepsElement limits) (AnAction a) es h)
  conditions_keep (ATransition t ∷ es) h =
      let one = All-head (KeepsElement limits) (ATransition t) es h in
      All-cons KeepsCondition (shape t.condition) (conditions es) (condition_shaped t.condition (one.2, one.3))
      (conditions_keep es (All-tail (KeepsElement limits) (ATransition t) es h))

  bodies_keep : (es : List ElementTree) → All (KeepsElement limits) es → All KeepsBody (bodies es)
  bodies_keep [] h = All-nil KeepsBody
  bodies_keep (AStep s ∷ es) h = bodies_keep es (All-tail (KeepsElement limits) (AStep s) es h)
  bodies_keep (ATransition t ∷ es) h = bodies_keep es (All-tail (KeepsElement limits) (ATransition t) es h)
  bodies_keep (AnAction a ∷ es) h =
      All-cons KeepsBody (block_shape a.body) (bodies es)
      (statements_shaped a.body (All-head (KeepsElement limits) (AnAction a) es h))
      (bodies_keep es (All-tail (KeepsElement limits) (AnAction a) es h))

  are_bodies : (es : List ElementTree) → All (KeepsElement limits) es → AreBodies es
  are_bodies [] h = All-nil (λ a. AreStatements a.body)
  are_bodies (AStep s ∷ es) h = are_bodies es (All-tail (KeepsElement limits) (AStep s) es h)
  are_bodies (ATransition t ∷ es) h = are_bodies es (All-tail (KeepsElement limits) (ATransition t) es h)
  are_bodies (AnAction a ∷ es) h =
      All-cons (λ a. AreStatements a.body) a (actions_of es)
      (are_statements a.body (All-head (KeepsElement limits) (AnAction a) es h).0)
      (are_bodies es (All-tail (KeepsElement limits) (AnAction a) es h))

  -- elements of which the sides, the conditions and the bodies are
  elements_keep : (es : List ElementTree) → All HasBothSides (transitions_of es) → All KeepsCondition (conditions es) → All KeepsBody (bodies es)
      → All (KeepsElement limits) es
  elements_keep [] s c b = All-nil (KeepsElement limits)
  elements_keep (AStep x ∷ es) s c b = All-cons (KeepsElement limits) (AStep x) es tt (elements_keep es s c b)
  elements_keep (ATransition t ∷ es) s c b =
      let sides = All-head HasBothSides t (transitions_of es) s in
      let condition = condition_by_shape t.condition (All-head KeepsCondition (shape t.condition) (conditions es) c) in
      All-cons (KeepsElement limits) (ATransition t) es (sides.0, sides.1, condition.0, condition.1)
      (elements_keep es (All-tail HasBothSides t (transitions_of es) s) (All-tail KeepsCondition (shape t.condition) (conditions es) c) b)
  elements_keep (AnAction a ∷ es) s c b =
      All-cons (KeepsElement limits) (AnAction a) es
      (statements_by_shape a.body (All-head KeepsBody (block_shape a.body) (bodies es) b))
      (elements_keep es s c (All-tail KeepsBody (block_shape a.body) (bodies es) b))

  -- elements of the same conditions and bodies, each transition with both sides
  pub elements_again_keep : (es again : List ElementTree) → All HasBothSides (transitions_of again) → conditions again ≡ conditions es
      → (AreBodies es → bodies again ≡ bodies es) → All (KeepsElement limits) es → All (KeepsElement limits) again
  elements_again_keep es again sides same_conditions same_bodies h =
      elements_keep again sides (subst (All KeepsCondition) (sym same_conditions) (conditions_keep es h))
      (subst (All KeepsBody) (sym (same_bodies (are_bodies es h))) (bodies_keep es h))

-- ---- program types

no_element : {A B : Type 0} (f : A → B) (xs : List A) → is_empty (map f xs) ≡ is_empty xs
no_element f [] = refl
no_element f (x ∷ xs) = refl

-- what is spelled of a transition has steps on the sides on which it has some
sides_kept : (space other : Space) (t : TransitionTree) → HasBothSides t → HasBothSides (transition_tree space (transition_of other t))
sides_kept space other t h = (
  no_element (step_name space) (step_ids other.steps t.preceding) ∙ no_element (step_id other.steps) t.preceding ∙ h.0,
  no_element (step_name space) (step_ids other.steps t.following) ∙ no_element (step_id other.steps) t.following ∙ h.1,
)

sides_of : (limits : Limits) (es : List ElementTree) → All (KeepsElement limits) es → All HasBothSides (transitions_of es)
sides_of limits [] h = All-nil HasBothSides
sides_of limits (AStep s ∷ es) h = sides_of limits es (All-tail (KeepsElement limits) (AStep s) es h)
sides_of limits (AnAction a ∷ es) h = sides_of limits es (All-tail (KeepsElement limits) (AnAction a) es h)
sides_of limits (ATransition t ∷ es) h =
    let one = All-head (KeepsElement limits) (ATransition t) es h in
    All-cons HasBothSides t (transitions_of es) (one.0, one.1) (sides_of limits es (All-tail (KeepsElement limits) (ATransition t) es h))

locals_declared : (locals : List Variable) → All IsDeclaration (map declaration_tree locals)
locals_declared [] = All-nil IsDeclaration
locals_declared (v ∷ vs) = All-cons IsDeclaration (declaration_tree v) (map declaration_tree vs) (one v.location) (locals_declared vs)
  where
    one : (l : Option Location) → AreDeclared (v.name ∷ []) l
    one None = tt
    one (Some l) = refl

externals_named : (globals : List Variable) (externals : List GlobalId) → All IsExternal (map (external_tree globals) externals)
externals_named globals [] = All-nil IsExternal
externals_named globals (id ∷ ids) = All-cons IsExternal (external_tree globals id) (map (external_tree globals) ids) refl (externals_named globals ids)

-- one block or none
block_is : {A : Type 0} (made : List A → VariableBlock) (xs : List A) → AreVariables (made xs) → All AreVariables (block_tree made xs)
block_is made [] h = All-nil AreVariables
block_is made (x ∷ xs) h = All-cons AreVariables (made (x ∷ xs)) [] h (All-nil AreVariables)

variables_are : (globals locals : List Variable) (externals : List GlobalId) → All AreVariables (variable_trees globals locals externals)
variables_are globals locals externals =
    All-append AreVariables (block_tree (λ ds. block.Local ds) (map declaration_tree locals)) (block_tree (λ es. block.External es) (map (external_tree globals) externals))
    (block_is (λ ds. block.Local ds) (map declaration_tree locals) (locals_declared locals))
    (block_is (λ es. block.External es) (map (external_tree globals) externals) (externals_named globals externals))

program_keeps : (limits : Limits) (globals : List Variable) (p : ProgramTree) → KeepsShapes globals p → KeepsProgram limits p
    → KeepsProgram limits (program_tree globals (program_of globals p))
program_keeps limits globals p shapes_kept h =
    let loaded : ProgramType = program_of globals p in
    let own : Space = space_in globals loaded in
    let other : Space = space_of globals p in
    let again : List ElementTree = (program_tree globals loaded).elements in
    let both : All HasBothSides (map (λ t. transition_tree own (transition_of other t)) (transitions_of p.elements)) =
    All-map HasBothSides (λ t. transition_tree own (transition_of other t)) (transitions_of p.elements)
    (All-weaker HasBothSides (λ t. HasBothSides (transition_tree own (transition_of other t))) (sides_kept own other) (transitions_of p.elements)
    (sides_of limits p.elements h.elements)) in
    let same : transitions_of again ≡ map (λ t. transition_tree own (transition_of other t)) (transitions_of p.elements) =
    transitions_in own loaded.chart ∙ map-map (transition_tree own) (transition_of other) (transitions_of p.elements) in
    record {
      variables = variables_are globals loaded.locals loaded.externals;
      elements = elements_again_keep limits p.elements again (subst (All HasBothSides) (sym same) both) shapes_kept.conditions shapes_kept.bodies
          h.elements;
    }

-- ---- the whole

programs_keep : (limits : Limits) (globals : List Variable) (ps : List ProgramTree) → All (KeepsShapes globals) ps → All (KeepsProgram limits) ps
    → All (KeepsProgram limits) (map (program_tree globals) (map (program_of globals) ps))
programs_keep limits globals [] s h = All-nil (KeepsProgram limits)
programs_keep limits globals (p ∷ ps) s h =
    All-cons (KeepsProgram limits) (program_tree globals (program_of globals p)) (map (program_tree globals) (map (program_of globals) ps))
    (program_keeps limits globals p (All-head (KeepsShapes globals) p ps s) (All-head (KeepsProgram limits) p ps h))
    (programs_keep limits globals ps (All-tail (KeepsShapes globals) p ps s) (All-tail (KeepsProgram limits) p ps h))

pub written_keeps : (limits : Limits) (s : SourceTree) → source_check s ≡ None → KeepsSource limits s → KeepsSource limits (written (plant_of s))
written_keeps limits s e h =
    let plant : PlantData = plant_of s in
    record {
      programs = programs_keep limits plant.globals s.programs (plant_shapes s e) h.programs;
      configuration = record {
        globals = locals_declared plant.globals;
        instances = no_element (instance_tree plant.tasks plant.types) plant.instances
            ∙ no_element (instance_of (task_names s.configuration.tasks) (program_names s.programs)) s.configuration.instances
            ∙ h.configuration.instances;
      };
    }
