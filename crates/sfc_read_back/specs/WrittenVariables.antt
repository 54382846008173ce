-- The trees that a listing spells of variables (2.4.3).
use Rattle.std.specs.Prelude.{List, [], ◌∷◌, ◌++◌, map, Option, Some, None, slice_get}
use Rattle.sfc_base.specs.declared.var_type.VarType.{VarType}
use Rattle.sfc_base.specs.declared.var_type.VarType.TheVariants as types
use Rattle.sfc_text.specs.declared.tree.Declaration.{Declaration}
use Rattle.sfc_text.specs.declared.tree.External.{External}
use Rattle.sfc_text.specs.declared.tree.VariableBlock.{VariableBlock}
use Rattle.sfc_text.specs.declared.tree.VariableBlock.TheVariants as block
use Rattle.sfc_base.specs.declared.references.GlobalId.{GlobalId}
use Rattle.sfc_plant.specs.declared.variable.Variable.{Variable}
use Rattle.sfc_plant.specs.VariableNames.{names_of}
use Rattle.sfc_plant.specs.Names.{name_at}
use Rattle.sfc_read_back.specs.WrittenTerms.{literal_tree}

-- each by itself, with the value that it begins with
abbrev pub declaration_tree : Variable → Declaration
declaration_tree v =
    record { names = v.name ∷ []; location = v.location; var_type = v.var_type; initial = Some (literal_tree v.initial) }

-- the type of the global that an external is; each is one
abbrev pub type_of_global : Option Variable → VarType
type_of_global (Some v) = v.var_type
type_of_global None = types.Bool

-- an external has the name of the global that it is
abbrev pub external_tree : List Variable → GlobalId → External
external_tree globals id =
    record { names = name_at (names_of globals) id.0 ∷ []; var_type = type_of_global (slice_get globals id.0) }

-- one block, and none where there is nothing in it
abbrev pub block_tree : {A : Type 0} → (List A → VariableBlock) → List A → List VariableBlock
block_tree made [] = []
block_tree made (x ∷ xs) = made (x ∷ xs) ∷ []

-- the locals of a program type, and then the globals that it names
abbrev pub variable_trees : List Variable → List Variable → List GlobalId → List VariableBlock
variable_trees globals locals externals =
    block_tree (λ ds. block.Local ds) (map declaration_tree locals)
    ++ block_tree (λ es. block.External es) (map (external_tree globals) externals)
