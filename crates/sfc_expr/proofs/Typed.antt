-- Typed trees have values of their types.
use Rattle.std.proofs.Common.{◌≡◌, ◌&&◌, ℕ, Bool, true, false, cond, Option, Some, None, unwrap_or, IfSome, ℤ, pos, int_div, Result, Ok, Err, IfOk, refl, sym, ap, subst, ◌∙◌}
use Rattle.std.specs.Ordering.{int_eq}
use Rattle.sfc_base.specs.declared.var_type.VarType.{VarType}
use Rattle.sfc_base.specs.declared.var_type.VarType.TheVariants as types
use Rattle.sfc_base.specs.declared.value.Value.{Value}
use Rattle.sfc_base.specs.declared.value.Value.TheVariants as value
use Rattle.sfc_expr.specs.declared.fault.Fault.{Fault}
use Rattle.sfc_expr.specs.declared.fault.Fault.TheVariants as faults
use Rattle.sfc_expr.specs.declared.operator.Operator.{Operator}
use Rattle.sfc_expr.specs.declared.operator.Operator.TheVariants as op
use Rattle.sfc_base.specs.Values.{is_in_range, truth, number}
use Rattle.sfc_base.specs.declared.references.Variable.{Variable}
use Rattle.sfc_base.specs.declared.references.Variable.TheVariants.{Global, Local}
use Rattle.sfc_expr.specs.Trees.{Expression, Literal, Read, StepActive, StepTime, ActionQ, Not, Minus, Binary, Body, Nothing, Assign, If, Branches, NoBranch, When, Otherwise}
use Rattle.sfc_expr.specs.Environment.{Environment, assigned, is_same}
use Rattle.sfc_expr.specs.Effect.{BodyEffect, on_value, on_end, effect, branch_effect}
use Rattle.sfc_expr.specs.Meaning.{in_type, ◌>>=◌, value_of, operated, quotient}
use Rattle.sfc_expr.specs.Types.{Declared, IsOf, logical_type, integer_type, sum_type, ordering_type, result_type, HasType, IsTyped, AreTyped, GivesTypes}
use borrow.Author.Tests.{eqb-true}

-- what holds of a value holds of what follows from it
pub on_values : {A B : Type 0} (P : A → Type 0) (Q : B → Type 0) (r : Result A Fault) (f : A → Result B Fault) → IfOk r P → ((x : A) → P x → IfOk (f x) Q) → IfOk (r >>= f) Q
on_values P Q (Ok x) f h k = k x h
on_values P Q (Err fault) f h k = tt

pub in_type_of : (t : VarType) (n : ℤ) → IfOk (in_type t n) (IsOf t)
in_type_of types.Bool n = tt
in_type_of types.Int n = at (is_in_range types.Int n) refl
  where
    at : (b : Bool) → is_in_range types.Int n ≡ b → IfOk (cond b (Ok (value.Int n)) (Err faults.Range)) (IsOf types.Int)
    at true e = (refl, e)
    at false e = tt
in_type_of types.Dint n = at (is_in_range types.Dint n) refl
  where
    at : (b : Bool) → is_in_range types.Dint n ≡ b → IfOk (cond b (Ok (value.Dint n)) (Err faults.Range)) (IsOf types.Dint)
    at true e = (refl, e)
    at false e = tt
in_type_of types.Time n = at (is_in_range types.Time n) refl
  where
    at : (b : Bool) → is_in_range types.Time n ≡ b → IfOk (cond b (Ok (value.Time n)) (Err faults.Range)) (IsOf types.Time)
    at true e = (refl, e)
    at false e = tt

quotient_of : (t : VarType) (a b : ℤ) → IfOk (quotient t a b) (IsOf t)
quotient_of t a b = at (int_eq b (pos 0))
  where
    at : (z : Bool) → IfOk (cond z (Err faults.DivZero) (in_type t (int_div a b))) (IsOf t)
    at true = tt
    at false = in_type_of t _

-- ---- the type of a result is BOOL, or that of its operands

bool-logical_type : (t u : VarType) → logical_type t ≡ Some u → types.Bool ≡ u
bool-logical_type types.Bool u e = cc
bool-logical_type types.Int u e = cc
bool-logical_type types.Dint u e = cc
bool-logical_type types.Time u e = cc

bool-ordering_type : (t u : VarType) → ordering_type t ≡ Some u → types.Bool ≡ u
bool-ordering_type types.Bool u e = cc
bool-ordering_type types.Int u e = cc
bool-ordering_type types.Dint u e = cc
bool-ordering_type types.Time u e = cc

same-sum_type : (t u : VarType) → sum_type t ≡ Some u → t ≡ u
same-sum_type types.Bool u e = cc
same-sum_type types.Int u e = cc
same-sum_type types.Dint u e = cc
same-sum_type types.Time u e = cc

same-integer_type : (t u : VarType) → integer_type t ≡ Some u → t ≡ u
same-integer_type types.Bool u e = cc
same-integer_type types.Int u e = cc
same-integer_type types.Dint u e = cc
same-integer_type types.Time u e = cc

along : (t u : VarType) (r : Result Value Fault) → t ≡ u → IfOk r (IsOf t) → IfOk r (IsOf u)
along t u r e h = subst (λ (z : VarType). IfOk r (IsOf z)) e h

some_bool : (u : VarType) → Some types.Bool ≡ Some u → types.Bool ≡ u
some_bool u e = cc

operated_of : (o : Operator) (t u : VarType) (x y : Value) → result_type o t ≡ Some u → IfOk (operated o t x y) (IsOf u)
operated_of op.Or t u x y e = (bool-logical_type t u e, refl)
operated_of op.Xor t u x y e = (bool-logical_type t u e, refl)
operated_of op.And t u x y e = (bool-logical_type t u e, refl)
operated_of op.Equal t u x y e = (some_bool u e, refl)
operated_of op.NotEqual t u x y e = (some_bool u e, refl)
operated_of op.Less t u x y e = (bool-ordering_type t u e, refl)
operated_of op.Greater t u x y e = (bool-ordering_type t u e, refl)
operated_of op.LessOrEqual t u x y e = (bool-ordering_type t u e, refl)
operated_of op.GreaterOrEqual t u x y e = (bool-ordering_type t u e, refl)
operated_of op.Add t u x y e = along t u _ (same-sum_type t u e) (in_type_of t _)
operated_of op.Subtract t u x y e = along t u _ (same-sum_type t u e) (in_type_of t _)
operated_of op.Multiply t u x y e = along t u _ (same-integer_type t u e) (in_type_of t _)
operated_of op.Divide t u x y e = along t u _ (same-integer_type t u e) (quotient_of t (number x) (number y))
operated_of op.Modulo t u x y e = along t u _ (same-integer_type t u e) (in_type_of t _)

-- ---- expressions

read_typed : (forced : Option Value) (stored : Value) (t : VarType) → IfSome forced (IsOf t) → IsOf t stored → IsOf t (unwrap_or forced stored)
read_typed (Some x) stored t f s = f
read_typed None stored t f s = s

module _ (declared : Declared) (env : Environment) (gives : GivesTypes declared env) where
  pub value_typed : (e : Expression) (t : VarType) → HasType declared e t → IfOk (value_of env e) (IsOf t)
  value_typed (Literal x) t h = h
  value_typed (Read v) t h = read_typed (env.forced_at v) (env.stored_at v) t (gives.forced v t h) (gives.stored v t h)
  value_typed (StepActive s) t h = (sym h, refl)
  value_typed (StepTime s) t h = (sym h, gives.times s)
  value_typed ActionQ t h = (sym h, refl)
  value_typed (Not e) t h = on_values (IsOf types.Bool) (IsOf t) (value_of env e) _ (value_typed e types.Bool h.1) (λ x typed. (sym h.0, refl))
  value_typed (Minus u e) t h = on_values (IsOf u) (IsOf t) (value_of env e) _ (value_typed e u h.1) (λ x typed. along u t _ (same-integer_type u t h.0) (in_type_of u _))
  value_typed (Binary o u a b) t h =
      on_values (IsOf u) (IsOf t) (value_of env a) _ (value_typed a u h.1)
      (λ x typed. on_values (IsOf u) (IsOf t) (value_of env b) _ (value_typed b u h.2) (λ y typed'. operated_of o u t x y h.0))

-- ---- statements

some_same : (t u : VarType) → Some t ≡ Some u → t ≡ u
some_same t u e = cc

and-right : (b c : Bool) → (b && c) ≡ true → c ≡ true
and-right true c e = e
and-right false c e = cc

same_variable : (v w : Variable) → is_same v w ≡ true → v ≡ w
same_variable (Global g) (Global h) e = ap (λ (n : ℕ). Global (record { 0 = n })) (eqb-true _ _ e)
same_variable (Local l) (Local m) e = ap (λ (n : ℕ). Local (record { 0 = n })) (eqb-true _ _ e)
same_variable (Global g) (Local m) e = cc
same_variable (Local l) (Global h) e = cc

module _ (declared : Declared) where
  -- an assignment of a value of the target's type keeps the types
  assigned_typed : (env : Environment) (v : Variable) (t : VarType) (x : Value) → GivesTypes declared env → declared v ≡ Some t → IsOf t x → GivesTypes declared (assigned env v x)
  assigned_typed env v t x gives is_declared typed = record {
    stored = λ w u h. at w u h (env.has v && is_same w v) refl;
    forced = gives.forced;
    times = gives.times;
  }
    where
      at : (w : Variable) (u : VarType) → declared w ≡ Some u → (b : Bool) → (env.has v && is_same w v) ≡ b → IsOf u (cond b x (env.stored_at w))
      at w u h true e =
          let same : w ≡ v = same_variable w v (and-right (env.has v) (is_same w v) e) in
          let types : t ≡ u = some_same t u (sym is_declared ∙ sym (ap declared same) ∙ h) in
          subst (λ (z : VarType). IsOf z x) types typed
      at w u h false e = gives.stored w u h

  on_value_typed : (env : Environment) (r : Result Value Fault) (P : Value → Type 0) (go : Value → BodyEffect) → GivesTypes declared env → IfOk r P → ((x : Value) → P x → GivesTypes declared (go x).environment) → GivesTypes declared (on_value env r go).environment
  on_value_typed env (Ok x) P go gives typed k = k x typed
  on_value_typed env (Err fault) P go gives typed k = gives

  on_end_typed : (r : Result (Unit {0}) Fault) (env : Environment) (go : Environment → BodyEffect) → GivesTypes declared env → GivesTypes declared (go env).environment → GivesTypes declared (on_end r env go).environment
  on_end_typed (Ok x) env go gives k = k
  on_end_typed (Err fault) env go gives k = gives

  either : (b : Bool) (o p : BodyEffect) → GivesTypes declared o.environment → GivesTypes declared p.environment → GivesTypes declared (cond b o p).environment
  either true o p g h = g
  either false o p g h = h

  mutual
    pub effect_typed : (body : Body) (env : Environment) → GivesTypes declared env → IsTyped declared body → GivesTypes declared (effect body env).environment
    effect_typed Nothing env gives typed = gives
    effect_typed (Assign v e rest) env gives typed =
        on_value_typed env (value_of env e) (IsOf typed.0.0) _ gives (value_typed declared env gives e typed.0.0 typed.0.2)
        (λ x h. effect_typed rest (assigned env v x) (assigned_typed env v typed.0.0 x gives typed.0.1 h) typed.1)
    effect_typed (If bs rest) env gives typed =
        let after = branches_typed bs env gives typed.0 in
        on_end_typed (branch_effect bs env).result (branch_effect bs env).environment _ after (effect_typed rest (branch_effect bs env).environment after typed.1)

    branches_typed : (bs : Branches) (env : Environment) → GivesTypes declared env → AreTyped declared bs → GivesTypes declared (branch_effect bs env).environment
    branches_typed NoBranch env gives typed = gives
    branches_typed (When e body rest) env gives typed =
        on_value_typed env (value_of env e) (IsOf types.Bool) _ gives (value_typed declared env gives e types.Bool typed.0)
        (λ x h. either (truth x) _ _ (effect_typed body env gives typed.1) (branches_typed rest env gives typed.2))
    branches_typed (Otherwise body rest) env gives typed = effect_typed body env gives typed.0
