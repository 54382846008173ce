-- What the expressions read and the statements write.
use Rattle.std.specs.Prelude.{◌==◌, nat_lt, List, None, Bool, true, false, pos, length, slice_index_or, if◌then◌else◌}
use Rattle.sfc_base.specs.declared.value.Value.{Value}
use Rattle.sfc_base.specs.declared.value.Value.TheVariants as value
use Rattle.sfc_base.specs.declared.references.Variable.{Variable}
use Rattle.sfc_base.specs.declared.references.Variable.TheVariants.{Global, Local}
use Rattle.sfc_expr.specs.Environment.{Environment}

-- the variables are the globals
abbrev pub has : List Value → Variable → Bool
has values (Global g) = nat_lt g.0 (length values)
has values (Local l) = false

abbrev pub stored_at : List Value → Variable → Value
stored_at values (Global g) = slice_index_or values g.0 (value.Bool false)
stored_at values (Local l) = value.Bool false

-- No variable is forced. Step 0 is active, for 1.5 s now; no other step ever was. The action's Q is TRUE.
abbrev pub environment_of : List Value → Environment
environment_of values = record {
  has = has values;
  stored_at = stored_at values;
  forced_at = λ v. None;
  is_active = λ step. step.0 == 0;
  time_of = λ step. if step.0 == 0 then pos 1500000 else pos 0;
  q = true;
}
