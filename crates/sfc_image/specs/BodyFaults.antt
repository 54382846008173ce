-- Which statement of a body has the fault that ends it (3.3.2).
use Rattle.std.specs.Prelude.{ℕ, zero, suc, Option, Some, None, Result, Ok, Err}
use Rattle.sfc_expr.specs.declared.fault.Fault.{Fault}
use Rattle.sfc_expr.specs.Trees.{Body, Nothing, Assign, If}
use Rattle.sfc_expr.specs.Environment.{Environment}
use Rattle.sfc_expr.specs.Effect.{BodyEffect, effect}

-- one more than those behind it, where it had no fault
abbrev pub counted : Result (Unit {0}) Fault → ℕ → ℕ
counted (Ok u) behind = suc behind
counted (Err f) behind = 0

-- where those behind it begin with the environment that it left
abbrev pub counted_before : BodyEffect → (Environment → ℕ) → ℕ
counted_before one behind = counted one.result (behind one.environment)

-- how many statements of a body are executed without a fault: all, or those before the first that has one
abbrev pub statements_done : Body → Environment → ℕ
statements_done Nothing env = 0
statements_done (Assign v e rest) env = counted_before (effect (Assign v e Nothing) env) (λ after. statements_done rest after)
statements_done (If bs rest) env = counted_before (effect (If bs Nothing) env) (λ after. statements_done rest after)

abbrev pub after_done : Result (Unit {0}) Fault → ℕ → Option ℕ
after_done (Ok u) k = None
after_done (Err f) k = Some k

-- the statement whose fault ends a body, counted from 0, if one does
abbrev pub faulty_statement : Body → Environment → Option ℕ
faulty_statement body env = after_done (effect body env).result (statements_done body env)

-- the first statements of a body
abbrev pub front : ℕ → Body → Body
front zero body = Nothing
front (suc k) Nothing = Nothing
front (suc k) (Assign v e rest) = Assign v e (front k rest)
front (suc k) (If bs rest) = If bs (front k rest)
