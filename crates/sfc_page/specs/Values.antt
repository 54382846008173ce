-- The text of values (our choice of format).
use Rattle.std.specs.Prelude.{ℕ, true, false, List, [], ◌∷◌, codes}
use Rattle.std.specs.Fmt.{signed_decimal}
use Rattle.sfc_base.specs.TimeText.{time_text}
use Rattle.sfc_base.specs.declared.value.Value.{Value}
use Rattle.sfc_base.specs.declared.value.Value.TheVariants as value

-- the end of a line
abbrev pub line_end : List ℕ
line_end = 10 ∷ []

abbrev pub value_text : Value → List ℕ
value_text (value.Bool true) = codes "TRUE"
value_text (value.Bool false) = codes "FALSE"
value_text (value.Int n) = signed_decimal n
value_text (value.Dint n) = signed_decimal n
value_text (value.Time t) = time_text t
