-- The effect of statements on the environment, up to the first fault (3.3.2).
use Rattle.std.specs.Prelude.{Result, Ok, Err, if◌then◌else◌}
use Rattle.sfc_base.specs.declared.value.Value.{Value}
use Rattle.sfc_expr.specs.declared.fault.Fault.{Fault}
use Rattle.sfc_base.specs.Values.{truth}
use Rattle.sfc_expr.specs.Trees.{Body, Nothing, Assign, If, Branches, NoBranch, When, Otherwise}
use Rattle.sfc_expr.specs.Environment.{Environment, assigned}
use Rattle.sfc_expr.specs.Meaning.{value_of}

-- how statements ended, and the environment that they left
pub record BodyEffect : Type 0 where
  pub result : Result (Unit {0}) Fault
  pub environment : Environment

abbrev pub done : Environment → BodyEffect
done env = record { result = Ok tt; environment = env }

-- a fault ends all statements; what was written before it stays
abbrev pub ended : Environment → Fault → BodyEffect
ended env fault = record { result = Err fault; environment = env }

-- what follows from a value
abbrev pub on_value : Environment → Result Value Fault → (Value → BodyEffect) → BodyEffect
on_value env (Ok x) next = next x
on_value env (Err fault) next = ended env fault

-- what follows in the environment that statements left
abbrev pub on_end : Result (Unit {0}) Fault → Environment → (Environment → BodyEffect) → BodyEffect
on_end (Ok x) env next = next env
on_end (Err fault) env next = ended env fault

abbrev pub and_then : BodyEffect → (Environment → BodyEffect) → BodyEffect
and_then o next = on_end o.result o.environment next

-- Statements are executed in order. Of an IF it is the first branch that applies, an ELSE always does; the conditions
-- behind it are not evaluated.
abbrev mutual
  pub effect : Body → Environment → BodyEffect
  effect Nothing env = done env
  effect (Assign v e rest) env = on_value env (value_of env e) (λ x. effect rest (assigned env v x))
  effect (If bs rest) env = and_then (branch_effect bs env) (λ after. effect rest after)

  pub branch_effect : Branches → Environment → BodyEffect
  branch_effect NoBranch env = done env
  branch_effect (When e body rest) env = on_value env (value_of env e) (λ x. if truth x then effect body env else branch_effect rest env)
  branch_effect (Otherwise body rest) env = effect body env
