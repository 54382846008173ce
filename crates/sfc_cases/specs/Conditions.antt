-- The conditions of a test: expressions as behind WHEN, each in a program instance, joined by AND and OR (our choice of format; 2.6.3,
-- 3.3).
use Rattle.std.specs.Prelude.{ℕ, zero, suc, ◌==◌, Bool, true, false, ◌&&◌, if◌then◌else◌, List, [], ◌∷◌, length, map, codes}
use Rattle.std.specs.Prelude.{Option, Some, None, option_map, Result, Ok, Err}
use Rattle.std.specs.List.{range_with_len}
use Rattle.std.specs.Option.{option_and_then, option_or}
use Rattle.sfc_base.specs.Case.{same_word}
use Rattle.sfc_base.specs.declared.ids.ProgId.{ProgId}
use Rattle.sfc_base.specs.declared.references.Variable.{Variable}
use Rattle.sfc_base.specs.declared.references.Variable.TheVariants.{Global, Local}
use Rattle.sfc_events.specs.ReadErrors.{Read}
use Rattle.sfc_expr.specs.Trees.{Expression, Literal, Read as ReadVariable, StepActive, StepTime, ActionQ, Not, Minus, Binary}
use Rattle.sfc_plant.specs.Finding.{instance_named}
use Rattle.sfc_plant.specs.Plants.{PlantData}
use Rattle.sfc_text.specs.Reads.{ExpressionReads}
use Rattle.sfc_text.specs.Trees.{Tree}
use Rattle.sfc_debug.specs.declared.break_condition.BreakCondition.{BreakCondition}
use Rattle.sfc_script.specs.Conditions.{ConditionFault, condition_of}
use Rattle.sfc_script.specs.Lines.{first_word}
use Rattle.sfc_script.specs.Private.Splitting.{begins_with_blank}
use Rattle.sfc_cases.specs.declared.joined.Condition.{Condition}
use Rattle.sfc_cases.specs.declared.joined.Joint.{Joint}
use Rattle.sfc_cases.specs.declared.joined.Joint.TheVariants.{And, Or}
use Rattle.sfc_cases.specs.declared.joined.Part.{Part}
use Rattle.sfc_cases.specs.Lines.{divided_at}

-- ---- what texts are read as

abbrev pub Reader : Type 0
Reader = List ℕ → Read Tree

-- It reads each text as the grammar of expressions has it. There is such a reader, and it tells one tree of a text, or that there is none.
abbrev pub IsReader : Reader → Type 0
IsReader read = (text : List ℕ) → ExpressionReads text (read text)

-- ---- of which program instance something is said

-- IN, a program instance, and what is said of it
abbrev pub asked_in : PlantData → List ℕ × List ℕ → Option (ProgId × List ℕ)
asked_in plant w = option_map (λ p. (p, w.1)) (instance_named plant w.0)

-- all of it, where there is one instance
abbrev pub asked_alone : PlantData → List ℕ → Option (ProgId × List ℕ)
asked_alone plant text = if length plant.instances == 1 then Some (record { 0 = 0 }, text) else None

abbrev pub is_in : List ℕ → Bool
is_in word = same_word word (codes "IN")

abbrev pub asked_by : PlantData → List ℕ → List ℕ × List ℕ → Option (ProgId × List ℕ)
asked_by plant text w =
    if is_in w.0 then option_and_then (asked_in plant) (first_word w.1) else asked_alone plant text

abbrev pub asked : PlantData → List ℕ → Option (ProgId × List ℕ)
asked plant text = option_and_then (asked_by plant text) (first_word text)

-- ---- an expression

abbrev pub found : Result BreakCondition ConditionFault → Option BreakCondition
found (Ok condition) = Some condition
found (Err fault) = None

-- a BOOL expression of the program instance
abbrev pub condition_by : PlantData → ProgId → Read Tree → Option BreakCondition
condition_by plant p (Ok tree) = found (condition_of plant 0 p tree)
condition_by plant p (Err kind) = None

abbrev pub condition_in : PlantData → Reader → ProgId × List ℕ → Option BreakCondition
condition_in plant read a = condition_by plant a.0 (read a.1)

-- ---- an expression of global variables alone, which is of no program instance

abbrev pub is_global : Variable → Bool
is_global (Global id) = true
is_global (Local id) = false

abbrev pub is_shared : Expression → Bool
is_shared (Literal value) = true
is_shared (ReadVariable variable) = is_global variable
is_shared (StepActive step) = false
is_shared (StepTime step) = false
is_shared ActionQ = false
is_shared (Not operand) = is_shared operand
is_shared (Minus type operand) = is_shared operand
is_shared (Binary operator type left right) = is_shared left && is_shared right

abbrev pub if_shared : Option BreakCondition → Option BreakCondition
if_shared None = None
if_shared (Some condition) = if is_shared condition.condition then Some condition else None

-- as the first of these program instances has it that reads it so
abbrev pub shared_among : PlantData → Read Tree → List ℕ → Option BreakCondition
shared_among plant tree [] = None
shared_among plant tree (p ∷ others) =
    option_or (if_shared (condition_by plant (record { 0 = p }) tree)) (shared_among plant tree others)

abbrev pub shared : PlantData → Read Tree → Option BreakCondition
shared plant tree = shared_among plant tree (range_with_len 0 (length plant.instances))

-- ---- one part: in a program instance, or of global variables alone where none is named

abbrev pub names_instance : Option (List ℕ × List ℕ) → Bool
names_instance None = false
names_instance (Some w) = is_in w.0

abbrev pub unasked : PlantData → Reader → List ℕ → Option BreakCondition
unasked plant read text = if names_instance (first_word text) then None else shared plant (read text)

abbrev pub part_by : PlantData → Reader → List ℕ → Option (ProgId × List ℕ) → Option BreakCondition
part_by plant read text (Some a) = condition_in plant read a
part_by plant read text None = unasked plant read text

abbrev pub part_of : PlantData → Reader → List ℕ → Option BreakCondition
part_of plant read text = part_by plant read text (asked plant text)

-- ---- conditions: parts, joined

abbrev pub joint_said : List ℕ → Option Joint
joint_said word =
    if same_word word (codes "AND") then Some And else
    if same_word word (codes "OR") then Some Or else None

-- the text, where its first word is IN
abbrev pub if_in : Joint → List ℕ → Option (Joint × List ℕ)
if_in joint text = if names_instance (first_word text) then Some (joint, text) else None

abbrev pub joint_by : List ℕ × List ℕ → Option (Joint × List ℕ)
joint_by w = option_and_then (λ joint. if_in joint w.1) (joint_said w.0)

-- AND or OR, where the text begins with that word and the next one is IN, and what stands from there on
abbrev pub joint_of : List ℕ → Option (Joint × List ℕ)
joint_of text = if begins_with_blank text then None else option_and_then joint_by (first_word text)

-- what stands before the first AND IN or OR IN behind a blank, and from IN on; nothing where no more may be there
abbrev pub joint_within : ℕ → List ℕ → Option (List ℕ × (Joint × List ℕ))
joint_within zero text = None
joint_within (suc n) text = divided_at joint_of text

abbrev pub parts_then : Joint → List ℕ → (Joint → List ℕ → List (Joint × List ℕ)) → Option (List ℕ × (Joint × List ℕ))
    → List (Joint × List ℕ)
parts_then joint text more None = (joint, text) ∷ []
parts_then joint text more (Some d) = (joint, d.0) ∷ more d.1.0 d.1.1

-- the parts of a text, each with what joins it to those before it, with n joints at the most
abbrev pub parts_of : ℕ → Joint → List ℕ → List (Joint × List ℕ)
parts_of zero joint text = (joint, text) ∷ []
parts_of (suc n) joint text = parts_then joint text (parts_of n) (joint_within (suc n) text)

abbrev pub part_said : PlantData → Reader → Joint × List ℕ → Option Part
part_said plant read p = option_map (λ condition. record { joint = p.0; condition = condition }) (part_of plant read p.1)

abbrev pub all_parts : List (Option Part) → Option (List Part)
all_parts [] = Some []
all_parts (None ∷ parts) = None
all_parts (Some part ∷ parts) = option_map (λ others. part ∷ others) (all_parts parts)

-- at most 256 parts
abbrev pub condition : PlantData → Reader → List ℕ → Option Condition
condition plant read text =
    option_map (λ parts. record { parts = parts }) (all_parts (map (part_said plant read) (parts_of 255 Or text)))
