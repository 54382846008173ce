-- The text of types, and of values as literals with their types (2.2).
use Rattle.std.specs.Prelude.{◌++◌, ℕ, List, true, false, codes}
use Rattle.std.specs.Fmt.{signed_decimal}
use Rattle.sfc_base.specs.declared.var_type.VarType.{VarType}
use Rattle.sfc_base.specs.declared.var_type.VarType.TheVariants as types
use Rattle.sfc_base.specs.TimeText.{time_text}
use Rattle.sfc_base.specs.declared.value.Value.{Value}
use Rattle.sfc_base.specs.declared.value.Value.TheVariants as value

abbrev pub type_text : VarType → List ℕ
type_text types.Bool = codes "BOOL"
type_text types.Int = codes "INT"
type_text types.Dint = codes "DINT"
type_text types.Time = codes "TIME"

abbrev pub literal_text : Value → List ℕ
literal_text (value.Bool false) = codes "FALSE"
literal_text (value.Bool true) = codes "TRUE"
literal_text (value.Int n) = codes "INT#" ++ signed_decimal n
literal_text (value.Dint n) = codes "DINT#" ++ signed_decimal n
literal_text (value.Time t) = time_text t
