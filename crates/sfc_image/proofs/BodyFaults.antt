-- Which statement of a body has a fault.
use Rattle.std.proofs.Common.{◌≡◌, ℕ, zero, suc, ◌+◌, ◌<◌, true, List, length, get_or, drop, Some, Result, Ok, Err, is_ok, is_err, is_some, refl, sym, ap, ◌∙◌, arith}
use Rattle.sfc_base.specs.declared.value.Value.{Value}
use Rattle.sfc_base.specs.declared.references.Variable.{Variable}
use Rattle.sfc_expr.specs.declared.fault.Fault.{Fault}
use Rattle.sfc_expr.specs.declared.statement.Statement.{Statement}
use Rattle.sfc_expr.specs.declared.statement.Statement.TheVariants as statement
use Rattle.sfc_expr.specs.Trees.{Body, Nothing, Assign, If, before, body_of}
use Rattle.sfc_expr.specs.Environment.{Environment, assigned}
use Rattle.sfc_expr.specs.Meaning.{value_of}
use Rattle.sfc_expr.specs.Effect.{BodyEffect, done, on_value, on_end, and_then, effect, branch_effect}
use Rattle.sfc_expr.proofs.Effects.{split}
use Rattle.sfc_image.specs.BodyFaults.{after_done, counted, counted_before, faulty_statement, front, statements_done}

-- ---- a statement before others

pub done_before : (s : Statement) (rest : Body) (env : Environment)
    → statements_done (before s rest) env ≡ counted_before (effect (before s Nothing) env) (λ after. statements_done rest after)
done_before (statement.Assign v e) rest env = refl
done_before (statement.If' shape bs) rest env = refl

module _ (xs : List Statement) (i : ℕ) (x : Statement) (lt : i < length xs) (is : x ≡ get_or xs i x) where
  done_at : (env : Environment) → statements_done (body_of (drop i xs)) env
      ≡ counted_before (effect (before x Nothing) env) (λ after. statements_done (body_of (drop (i + 1) xs)) after)
  done_at env = ap (λ (s : List Statement). statements_done (body_of s) env) (split xs i x lt is) ∙ done_before x _ env

  -- one that has no fault
  pub count_on : (env env' : Environment) (u : Unit {0}) → Ok u ≡ (effect (before x Nothing) env).result
      → env' ≡ (effect (before x Nothing) env).environment
      → i + statements_done (body_of (drop i xs)) env ≡ (i + 1) + statements_done (body_of (drop (i + 1) xs)) env'
  count_on env env' u r e =
      let rest : Environment → ℕ = λ after. statements_done (body_of (drop (i + 1) xs)) after in
      let one : statements_done (body_of (drop i xs)) env ≡ suc (rest env') =
      done_at env ∙ ap (λ (a : Result (Unit {0}) Fault). counted a (rest (effect (before x Nothing) env).environment)) (sym r)
      ∙ ap (λ (z : Environment). suc (rest z)) (sym e) in
      omega (arith, one)

  -- and one that has
  pub count_ends : (env : Environment) (fault : Fault) → Err fault ≡ (effect (before x Nothing) env).result
      → i + statements_done (body_of (drop i xs)) env ≡ i
  count_ends env fault r =
      let rest : Environment → ℕ = λ after. statements_done (body_of (drop (i + 1) xs)) after in
      let none : statements_done (body_of (drop i xs)) env ≡ 0 =
      done_at env ∙ ap (λ (a : Result (Unit {0}) Fault). counted a (rest (effect (before x Nothing) env).environment)) (sym r) in
      omega (arith, none)

-- ---- the first statements of a body

value_split : (v : Variable) (rest : Body) (env : Environment) (r : Result Value Fault)
    → on_value env r (λ x. effect rest (assigned env v x)) ≡ and_then (on_value env r (λ x. done (assigned env v x))) (λ after. effect rest after)
value_split v rest env (Ok x) = refl
value_split v rest env (Err f) = refl

end_split : (rest : Body) (r : Result (Unit {0}) Fault) (env : Environment)
    → on_end r env (λ after. effect rest after) ≡ and_then (on_end r env (λ after. done after)) (λ after. effect rest after)
end_split rest (Ok u) env = refl
end_split rest (Err f) env = refl

some_same : (j k : ℕ) → Some j ≡ Some k → j ≡ k
some_same j k e = cc

-- what is told behind a statement that has no fault
one_less : (r : Result (Unit {0}) Fault) (n k : ℕ) → after_done r (suc n) ≡ Some (suc k) → after_done r n ≡ Some k
one_less (Ok u) n k e = absurd cc
one_less (Err f) n k e =
    let same : suc n ≡ suc k = some_same (suc n) (suc k) e in
    let less : n ≡ k = omega (arith, same) in
    ap (λ m. Some m) less

not_first : (r : Result (Unit {0}) Fault) (n : ℕ) → after_done r (suc n) ≡ Some 0 → ⊥
not_first (Ok u) n e = absurd cc
not_first (Err f) n e = let bad : suc n ≡ 0 = some_same (suc n) 0 e in omega (arith, bad)

-- one statement, and those behind it
module _ (one : BodyEffect) (rest : Body) where
  abbrev IsTold : ℕ → Type 0
  IsTold k = after_done (and_then one (λ after. effect rest after)).result (counted_before one (λ after. statements_done rest after)) ≡ Some k

  before_more : (k : ℕ)
      → (faulty_statement rest one.environment ≡ Some k → is_ok (effect (front k rest) one.environment).result ≡ true)
      → IsTold (suc k) → is_ok (and_then one (λ after. effect (front k rest) after)).result ≡ true
  before_more k next told = by one.result told where
    by : (r : Result (Unit {0}) Fault)
        → after_done (on_end r one.environment (λ after. effect rest after)).result (counted r (statements_done rest one.environment)) ≡ Some (suc k)
        → is_ok (on_end r one.environment (λ after. effect (front k rest) after)).result ≡ true
    by (Ok u) told = next (one_less (effect rest one.environment).result (statements_done rest one.environment) k told)
    by (Err f) told = absurd (let bad : 0 ≡ suc k = some_same 0 (suc k) told in omega (arith, bad))

  there_more : (k : ℕ)
      → ((j : ℕ) → faulty_statement rest one.environment ≡ Some j
      → (effect (front (suc j) rest) one.environment).result ≡ (effect rest one.environment).result)
      → IsTold k
      → (and_then one (λ after. effect (front k rest) after)).result ≡ (and_then one (λ after. effect rest after)).result
  there_more k next told = by one.result k told where
    by : (r : Result (Unit {0}) Fault) (k : ℕ)
        → after_done (on_end r one.environment (λ after. effect rest after)).result (counted r (statements_done rest one.environment)) ≡ Some k
        → (on_end r one.environment (λ after. effect (front k rest) after)).result ≡ (on_end r one.environment (λ after. effect rest after)).result
    by (Ok u) zero told = absurd (not_first (effect rest one.environment).result (statements_done rest one.environment) told)
    by (Ok u) (suc j) told = next j (one_less (effect rest one.environment).result (statements_done rest one.environment) j told)
    by (Err f) k told = refl

module _ (v : Variable) (rest : Body) (env : Environment) (r : Result Value Fault) where
  abbrev assigning : BodyEffect
  assigning = on_value env r (λ x. done (assigned env v x))

  told_assign : (n k : ℕ) → after_done (on_value env r (λ x. effect rest (assigned env v x))).result n ≡ Some k
      → after_done (and_then assigning (λ after. effect rest after)).result n ≡ Some k
  told_assign n k told = sym (ap (λ (o : BodyEffect). after_done o.result n) (value_split v rest env r)) ∙ told

pub ends_before : (body : Body) (env : Environment) (k : ℕ) → faulty_statement body env ≡ Some k
    → is_ok (effect (front k body) env).result ≡ true
ends_before body env zero told = refl
ends_before Nothing env (suc k) told = refl
ends_before (Assign v e rest) env (suc k) told =
    let one : BodyEffect = effect (Assign v e Nothing) env in
    ap (λ (o : BodyEffect). is_ok o.result) (value_split v (front k rest) env (value_of env e))
    ∙ before_more one rest k (λ next. ends_before rest one.environment k next)
    (told_assign v rest env (value_of env e) (statements_done (Assign v e rest) env) (suc k) told)
ends_before (If bs rest) env (suc k) told =
    let all : BodyEffect = branch_effect bs env in
    let one : BodyEffect = effect (If bs Nothing) env in
    ap (λ (o : BodyEffect). is_ok o.result) (end_split (front k rest) all.result all.environment)
    ∙ before_more one rest k (λ next. ends_before rest one.environment k next)
    (sym (ap (λ (o : BodyEffect). after_done o.result (statements_done (If bs rest) env)) (end_split rest all.result all.environment)) ∙ told)

pub ends_there : (body : Body) (env : Environment) (k : ℕ) → faulty_statement body env ≡ Some k
    → (effect (front (suc k) body) env).result ≡ (effect body env).result
ends_there Nothing env k told = refl
ends_there (Assign v e rest) env k told =
    let one : BodyEffect = effect (Assign v e Nothing) env in
    ap (λ (o : BodyEffect). o.result) (value_split v (front k rest) env (value_of env e))
    ∙ there_more one rest k (λ j next. ends_there rest one.environment j next)
    (told_assign v rest env (value_of env e) (statements_done (Assign v e rest) env) k told)
    ∙ sym (ap (λ (o : BodyEffect). o.result) (value_split v rest env (value_of env e)))
ends_there (If bs rest) env k told =
    let all : BodyEffect = branch_effect bs env in
    let one : BodyEffect = effect (If bs Nothing) env in
    ap (λ (o : BodyEffect). o.result) (end_split (front k rest) all.result all.environment)
    ∙ there_more one rest k (λ j next. ends_there rest one.environment j next)
    (sym (ap (λ (o : BodyEffect). after_done o.result (statements_done (If bs rest) env)) (end_split rest all.result all.environment)) ∙ told)
    ∙ sym (ap (λ (o : BodyEffect). o.result) (end_split rest all.result all.environment))

pub told_exactly : (r : Result (Unit {0}) Fault) (k : ℕ) → is_some (after_done r k) ≡ is_err r
told_exactly (Ok u) k = refl
told_exactly (Err f) k = refl
