-- Conditions that ask whether a step's time has come to a limit, as `Step.T >= T#5s` does (2.6.2, 2.6.3).
use Rattle.std.specs.Prelude.{Option, Some, None}
use Rattle.sfc_base.specs.declared.references.StepId.{StepId}
use Rattle.sfc_base.specs.declared.value.Value.TheVariants as value
use Rattle.sfc_expr.specs.declared.operator.Operator.TheVariants as op
use Rattle.sfc_expr.specs.Trees.{Expression, Literal, StepTime, Binary}
use Rattle.sfc_tables.specs.declared.least_time.LeastTime.{LeastTime}

-- that the step's time is at least what this expression says, where that is a TIME
abbrev pub least_by : StepId → Expression → Option LeastTime
least_by step (Literal (value.Time t)) = Some (record { step = step; micros = t })
least_by step _ = None

-- the same of what is asked of the left operand by the right one
abbrev pub least_between : Expression → Expression → Option LeastTime
least_between (StepTime step) right = least_by step right
least_between _ right = None

-- the least time of a step for which the condition asks, if it asks for that alone
abbrev pub least_time_of : Expression → Option LeastTime
least_time_of (Binary op.GreaterOrEqual var_type left right) = least_between left right
least_time_of _ = None
