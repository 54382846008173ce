-- What expressions and statements stand in (2.4.2, 2.6.2, 2.6.4.5).
use Rattle.std.specs.Prelude.{◌==◌, ◌&&◌, Bool, false, ℤ, Option, unwrap_or, if◌then◌else◌}
use Rattle.sfc_base.specs.declared.value.Value.{Value}
use Rattle.sfc_base.specs.declared.references.Variable.{Variable}
use Rattle.sfc_base.specs.declared.references.Variable.TheVariants.{Global, Local}
use Rattle.sfc_base.specs.declared.references.StepId.{StepId}

-- Which variables there are, their stored values and the values to which they are forced, which steps are active, the
-- times of steps in microseconds, and the output Q of the action whose body it is.
pub record Environment : Type 0 where
  pub has : Variable → Bool
  pub stored_at : Variable → Value
  pub forced_at : Variable → Option Value
  pub is_active : StepId → Bool
  pub time_of : StepId → ℤ
  pub q : Bool

-- what a variable reads: the value to which it is forced, if it is, else the stored one
abbrev pub value_at : Environment → Variable → Value
value_at env v = unwrap_or (env.forced_at v) (env.stored_at v)

abbrev pub is_same : Variable → Variable → Bool
is_same (Global g) (Global h) = g.0 == h.0
is_same (Local l) (Local m) = l.0 == m.0
is_same _ _ = false

-- The new value is stored in the variable, under whatever force, and all else is as before. Where there is no such
-- variable nothing changes: trees whose types were checked name none that is not there.
abbrev pub assigned : Environment → Variable → Value → Environment
assigned env v x = record env {
  stored_at = λ w. if env.has v && is_same w v then x else env.stored_at w;
}
