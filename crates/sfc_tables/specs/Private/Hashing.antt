-- What a hash of a variable is made of.
use Rattle.std.specs.Prelude.{ℕ}
use Rattle.sfc_base.specs.declared.references.Variable.{Variable}
use Rattle.sfc_base.specs.declared.references.Variable.TheVariants.{Global, Local}

-- its place among its kind
abbrev pub hashed : Variable → ℕ
hashed (Global id) = id.0
hashed (Local id) = id.0
