-- What conditions that ask for a least time of a step come to.
use Rattle.std.proofs.Common.{◌≡◌, Bool, Some, ap}
use Rattle.std.specs.Prelude.{int_le}
use Rattle.sfc_base.specs.declared.references.StepId.{StepId}
use Rattle.sfc_base.specs.declared.value.Value.TheVariants as value
use Rattle.sfc_base.specs.declared.var_type.VarType.{VarType}
use Rattle.sfc_expr.specs.declared.operator.Operator.{Operator}
use Rattle.sfc_expr.specs.declared.operator.Operator.TheVariants as op
use Rattle.sfc_expr.specs.Environment.{Environment}
use Rattle.sfc_expr.specs.Meaning.{of_truth, value_of}
use Rattle.sfc_expr.specs.Trees.{Expression, Literal, Read, StepActive, StepTime, ActionQ, Not, Minus, Binary}
use Rattle.sfc_tables.specs.LeastTimes.{least_by, least_between, least_time_of}
use Rattle.sfc_tables.specs.declared.least_time.LeastTime.{LeastTime}

module _ (env : Environment) (least : LeastTime) where
  -- whether the step's time has come to the limit
  abbrev is_reached : Bool
  is_reached = int_le least.micros (env.time_of least.step)

  asked_by : (t : VarType) (step : StepId) (right : Expression) → least_by step right ≡ Some least
      → value_of env (Binary op.GreaterOrEqual t (StepTime step) right) ≡ of_truth is_reached
  asked_by t step (Literal (value.Time n)) e = let same : record { step = step; micros = n } ≡ least = cc in
      ap (λ (l : LeastTime). of_truth (int_le l.micros (env.time_of l.step))) same
  asked_by t step (Literal (value.Bool b)) e = absurd cc
  asked_by t step (Literal (value.Int n)) e = absurd cc
  asked_by t step (Literal (value.Dint n)) e = absurd cc
  asked_by t step (Read v) e = absurd cc
  asked_by t step (StepActive s) e = absurd cc
  asked_by t step (StepTime s) e = absurd cc
  asked_by t step ActionQ e = absurd cc
  asked_by t step (Not a) e = absurd cc
  asked_by t step (Minus u a) e = absurd cc
  asked_by t step (Binary o u a b) e = absurd cc

  asked_between : (t : VarType) (left right : Expression) → least_between left right ≡ Some least
      → value_of env (Binary op.GreaterOrEqual t left right) ≡ of_truth is_reached
  asked_between t (StepTime step) right e = asked_by t step right e
  asked_between t (Literal x) right e = absurd cc
  asked_between t (Read v) right e = absurd cc
  asked_between t (StepActive s) right e = absurd cc
  asked_between t ActionQ right e = absurd cc
  asked_between t (Not a) right e = absurd cc
  asked_between t (Minus u a) right e = absurd cc
  asked_between t (Binary o u a b) right e = absurd cc

  asked_for : (o : Operator) (t : VarType) (left right : Expression) → least_time_of (Binary o t left right) ≡ Some least
      → value_of env (Binary o t left right) ≡ of_truth is_reached
  asked_for op.GreaterOrEqual t left right e = asked_between t left right e
  asked_for op.Or t left right e = absurd cc
  asked_for op.Xor t left right e = absurd cc
  asked_for op.And t left right e = absurd cc
  asked_for op.Equal t left right e = absurd cc
  asked_for op.NotEqual t left right e = absurd cc
  asked_for op.Less t left right e = absurd cc
  asked_for op.Greater t left right e = absurd cc
  asked_for op.LessOrEqual t left right e = absurd cc
  asked_for op.Add t left right e = absurd cc
  asked_for op.Subtract t left right e = absurd cc
  asked_for op.Multiply t left right e = absurd cc
  asked_for op.Divide t left right e = absurd cc
  asked_for op.Modulo t left right e = absurd cc

  -- the value of a condition that asks for a least time of a step
  pub asked : (condition : Expression) → least_time_of condition ≡ Some least → value_of env condition ≡ of_truth is_reached
  asked (Binary o t left right) e = asked_for o t left right e
  asked (Literal x) e = absurd cc
  asked (Read v) e = absurd cc
  asked (StepActive s) e = absurd cc
  asked (StepTime s) e = absurd cc
  asked ActionQ e = absurd cc
  asked (Not a) e = absurd cc
  asked (Minus u a) e = absurd cc
