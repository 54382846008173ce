-- The variables that a text declares begin with values of their types.
use Rattle.std.proofs.Common.{List, [], ◌∷◌, map, flat_map, All, Option, Some, None, Ok, Err, IfOk, slice_get, refl, sym, subst}
use Rattle.std.specs.List.{filter_map}
use Rattle.std.specs.Option.{option_map}
use Rattle.std.proofs.lemmas.List.Elements.{All-nil, All-cons, All-append}
use Rattle.std.proofs.lemmas.Option.{slice_get-map}
use Rattle.sfc_base.specs.Values.{default_value}
use Rattle.sfc_base.specs.declared.value.Value.{Value}
use Rattle.sfc_base.specs.declared.var_type.VarType.{VarType}
use Rattle.sfc_base.specs.declared.var_type.VarType.TheVariants as types
use Rattle.sfc_text.specs.Trees.{ProgramTree}
use Rattle.sfc_text.specs.declared.tree.Literal.{Literal}
use Rattle.sfc_expr.specs.Types.{IsOf}
use Rattle.sfc_script.specs.sfc_check.TypeFaults.{Checked}
use Rattle.sfc_script.specs.sfc_check.Checking.{checked_literal}
use Rattle.sfc_script.proofs.of_sfc_check.CheckedTypes.{literal_of}
use Rattle.sfc_plant.specs.declared.variable.Variable.{Variable}
use Rattle.sfc_plant.specs.declared.instance.Instance.{Instance}
use Rattle.sfc_plant.specs.declared.program_type.ProgramType.{ProgramType}
use Rattle.sfc_plant.specs.Image.{locals_in, locals_of, image_of}
use Rattle.sfc_script.specs.sfc_variables.Checks.{checked_or}
use Rattle.sfc_script.specs.sfc_variables.Declarations.{Declared, initial_value, variable_of}
use Rattle.sfc_script.specs.sfc_variables.Own.{local_in, own_in}
use Rattle.sfc_script.specs.sfc_program.Built.{program_of}

abbrev pub IsTypedVariable : Variable → Type 0
IsTypedVariable variable = IsOf variable.var_type variable.initial

default_of : (t : VarType) → IsOf t (default_value t)
default_of types.Bool = (refl, refl)
default_of types.Int = (refl, refl)
default_of types.Dint = (refl, refl)
default_of types.Time = (refl, refl)

or_default : (t : VarType) (r : Checked Value) → IfOk r (IsOf t) → IsOf t (checked_or (default_value t) r)
or_default t (Ok x) h = h
or_default t (Err f) h = default_of t

initial_typed : (t : VarType) (l : Option Literal) → IsOf t (initial_value t l)
initial_typed t None = default_of t
initial_typed t (Some l) = or_default t (checked_literal l t) (literal_of l t)

pub declared_typed : (ds : List Declared) → All IsTypedVariable (map variable_of ds)
declared_typed [] = All-nil IsTypedVariable
declared_typed (d ∷ ds) =
    All-cons IsTypedVariable (variable_of d) (map variable_of ds) (initial_typed d.var_type d.initial) (declared_typed ds)

-- the locals of a program type
locals_typed : (globals : List Variable) (p : Option ProgramTree)
    → All IsTypedVariable (locals_in (option_map (program_of globals) p))
locals_typed globals None = All-nil IsTypedVariable
locals_typed globals (Some p) = declared_typed (filter_map local_in (own_in p.variables))

instance_typed : (globals : List Variable) (programs : List ProgramTree) (i : Instance)
    → All IsTypedVariable (locals_of (map (program_of globals) programs) i)
instance_typed globals programs i =
    subst (λ (o : Option ProgramType). All IsTypedVariable (locals_in o))
    (sym (slice_get-map (program_of globals) programs i.program.0))
    (locals_typed globals (slice_get programs i.program.0))

instances_typed : (globals : List Variable) (programs : List ProgramTree) (instances : List Instance)
    → All IsTypedVariable (flat_map (locals_of (map (program_of globals) programs)) instances)
instances_typed globals programs [] = All-nil IsTypedVariable
instances_typed globals programs (i ∷ instances) =
    let types : List ProgramType = map (program_of globals) programs in
    All-append IsTypedVariable (locals_of types i) (flat_map (locals_of types) instances)
    (instance_typed globals programs i) (instances_typed globals programs instances)

-- all variables of an image
pub image_typed : (globals : List Variable) (programs : List ProgramTree) (instances : List Instance)
    → All IsTypedVariable globals → All IsTypedVariable (image_of globals (map (program_of globals) programs) instances)
image_typed globals programs instances h =
    All-append IsTypedVariable globals (flat_map (locals_of (map (program_of globals) programs)) instances) h
    (instances_typed globals programs instances)
