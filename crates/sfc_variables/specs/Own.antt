-- The variables of a program type: its own, and the globals that it names (2.4.3, 2.5.3).
use Rattle.std.specs.Prelude.{ℕ, not, List, [], map, flat_map, Option, Some, None, unwrap_or}
use Rattle.std.specs.List.{filter_map}
use Rattle.sfc_base.specs.declared.var_type.VarType.{VarType}
use Rattle.sfc_text.specs.declared.tree.External.{External}
use Rattle.sfc_text.specs.declared.tree.VariableBlock.{VariableBlock}
use Rattle.sfc_text.specs.declared.tree.VariableBlock.TheVariants as block
use Rattle.sfc_base.specs.declared.references.GlobalId.{GlobalId}
use Rattle.sfc_base.specs.declared.references.Variable.{Variable}
use Rattle.sfc_base.specs.Values.{is_same_type}
use Rattle.sfc_base.specs.NameLists.{has}
use Rattle.sfc_events.specs.declared.load_error.LoadError.TheVariants as fault
use Rattle.sfc_variables.specs.declared.own.OwnVariables.{OwnVariables}
use Rattle.sfc_plant.specs.declared.variable.Variable.{Variable as PlantVariable}
use Rattle.sfc_variables.specs.Checks.{Check, ◌then◌, when, in_turn}
use Rattle.sfc_variables.specs.Declarations.{Declared, declared_in, declared_check, variable_of}
use Rattle.sfc_plant.specs.VariableNames.{variable_place, global_named}

-- one name in a block of variables
pub data Own : Type 0 where
  -- of VAR
  ALocal : Declared → Own
  -- of VAR_EXTERNAL, with its type
  AnExternal : List ℕ → VarType → Own

abbrev pub named_as : External → List ℕ → Own
named_as e name = AnExternal name e.var_type

abbrev pub named_by : External → List Own
named_by e = map (named_as e) e.names

abbrev pub own_by : VariableBlock → List Own
own_by (block.Local ds) = map ALocal (declared_in ds)
own_by (block.External es) = flat_map named_by es

-- the names of all blocks, in text order
abbrev pub own_in : List VariableBlock → List Own
own_in blocks = flat_map own_by blocks

abbrev pub own_name : Own → List ℕ
own_name (ALocal d) = d.name
own_name (AnExternal name t) = name

abbrev pub own_names : List VariableBlock → List (List ℕ)
own_names blocks = map own_name (own_in blocks)

-- ---- checks

-- a global of this type
abbrev pub external_check : Option (Variable × VarType) → VarType → Check
external_check None t = Some fault.Unknown
external_check (Some v) t = when (not (is_same_type v.1 t)) fault.WrongType

abbrev pub kind_check : List PlantVariable → Own → Check
kind_check globals (ALocal d) = declared_check d
kind_check globals (AnExternal name t) = external_check (global_named globals name) t

-- no name stands twice
abbrev pub own_check : List PlantVariable → List (List ℕ) → Own → Check
own_check globals before o = when (has before (own_name o)) fault.Duplicate then kind_check globals o

unfoldable pub variables_check : List PlantVariable → List VariableBlock → Check
variables_check globals blocks = in_turn own_name (own_check globals) [] (own_in blocks)

-- ---- what they are

abbrev pub local_in : Own → Option Declared
local_in (ALocal d) = Some d
local_in (AnExternal name t) = None

abbrev pub external_in : Own → Option (List ℕ)
external_in (ALocal d) = None
external_in (AnExternal name t) = Some name

-- the variables of VAR blocks, in text order
abbrev pub locals_of : List VariableBlock → List PlantVariable
locals_of blocks = map variable_of (filter_map local_in (own_in blocks))

abbrev pub global_id : List PlantVariable → List ℕ → GlobalId
global_id globals name = record { 0 = unwrap_or (variable_place globals name) 0 }

-- the globals that VAR_EXTERNAL blocks name, in text order
abbrev pub externals_of : List PlantVariable → List VariableBlock → List GlobalId
externals_of globals blocks = map (global_id globals) (filter_map external_in (own_in blocks))

abbrev pub own_of : List PlantVariable → List VariableBlock → OwnVariables
own_of globals blocks =
    record { locals = locals_of blocks; externals = externals_of globals blocks; names = own_names blocks }
