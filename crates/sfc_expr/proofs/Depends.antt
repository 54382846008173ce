-- What an expression depends on, and what statements leave alone.
use Rattle.std.proofs.Common.{◌≡◌, Bool, true, false, cond, Result, Ok, Err, refl, ap, ◌∙◌}
use Rattle.sfc_base.specs.declared.value.Value.{Value}
use Rattle.sfc_base.specs.declared.value.Value.TheVariants as value
use Rattle.sfc_expr.specs.declared.fault.Fault.{Fault}
use Rattle.sfc_base.specs.Values.{truth}
use Rattle.sfc_expr.specs.Trees.{Expression, Literal, Read, StepActive, StepTime, ActionQ, Not, Minus, Binary, Body, Nothing, Assign, If, Branches, NoBranch, When, Otherwise}
use Rattle.sfc_expr.specs.Environment.{Environment, assigned}
use Rattle.sfc_expr.specs.Meaning.{value_of, of_truth}
use Rattle.sfc_expr.specs.Effect.{BodyEffect, on_value, on_end, effect, branch_effect}
use Rattle.sfc_expr.specs.Dependence.{AgreeOn, KeepsAllButValues}

pub value_same : (e : Expression) (one other : Environment) → AgreeOn e one other → value_of one e ≡ value_of other e
value_same (Literal x) one other h = refl
value_same (Read v) one other h = ap Ok h
value_same (StepActive s) one other h = ap of_truth h
value_same (StepTime s) one other h = ap (λ t. Ok (value.Time t)) h
value_same ActionQ one other h = ap of_truth h
value_same (Not e) one other h = rw (value_same e one other h) refl
value_same (Minus t e) one other h = rw (value_same e one other h) refl
value_same (Binary o t a b) one other h = rw (value_same a one other h.0, value_same b one other h.1) refl

-- ---- statements

same : (env : Environment) → KeepsAllButValues env env
same env = record { variables = refl; forces = refl; steps = refl; times = refl; q = refl }

then_same : (a b c : Environment) → KeepsAllButValues a b → KeepsAllButValues b c → KeepsAllButValues a c
then_same a b c h k = record {
  variables = k.variables ∙ h.variables;
  forces = k.forces ∙ h.forces;
  steps = k.steps ∙ h.steps;
  times = k.times ∙ h.times;
  q = k.q ∙ h.q;
}

on_value_same : (env : Environment) (r : Result Value Fault) (go : Value → BodyEffect) → ((x : Value) → KeepsAllButValues env (go x).environment) → KeepsAllButValues env (on_value env r go).environment
on_value_same env (Ok x) go k = k x
on_value_same env (Err fault) go k = same env

on_end_same : (old : Environment) (r : Result (Unit {0}) Fault) (env : Environment) (go : Environment → BodyEffect) → KeepsAllButValues old env → KeepsAllButValues env (go env).environment → KeepsAllButValues old (on_end r env go).environment
on_end_same old (Ok x) env go h k = then_same old env _ h k
on_end_same old (Err fault) env go h k = h

either : (env : Environment) (b : Bool) (o p : BodyEffect) → KeepsAllButValues env o.environment → KeepsAllButValues env p.environment → KeepsAllButValues env (cond b o p).environment
either env true o p h k = h
either env false o p h k = k

mutual
  pub effect_same : (body : Body) (env : Environment) → KeepsAllButValues env (effect body env).environment
  effect_same Nothing env = same env
  effect_same (Assign v e rest) env = on_value_same env (value_of env e) _ (λ x. then_same env (assigned env v x) _ (record { variables = refl; forces = refl; steps = refl; times = refl; q = refl }) (effect_same rest (assigned env v x)))
  effect_same (If bs rest) env = on_end_same env (branch_effect bs env).result (branch_effect bs env).environment _ (branches_same bs env) (effect_same rest (branch_effect bs env).environment)

  branches_same : (bs : Branches) (env : Environment) → KeepsAllButValues env (branch_effect bs env).environment
  branches_same NoBranch env = same env
  branches_same (When e body rest) env = on_value_same env (value_of env e) _ (λ x. either env (truth x) _ _ (effect_same body env) (branches_same rest env))
  branches_same (Otherwise body rest) env = effect_same body env
