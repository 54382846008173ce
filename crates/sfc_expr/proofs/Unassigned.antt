-- A variable that no statement assigns.
use Rattle.std.proofs.Common.{◌≡◌, Bool, true, false, cond, ◌&&◌, ◌||◌, Result, Ok, Err, refl, ◌∙◌}
use Rattle.sfc_base.specs.declared.references.Variable.{Variable}
use Rattle.sfc_base.specs.declared.value.Value.{Value}
use Rattle.sfc_expr.specs.declared.fault.Fault.{Fault}
use Rattle.sfc_base.specs.Values.{truth}
use Rattle.sfc_expr.specs.Trees.{Body, Nothing, Assign, If, Branches, NoBranch, When, Otherwise}
use Rattle.sfc_expr.specs.Environment.{Environment, assigned, is_same}
use Rattle.sfc_expr.specs.Meaning.{value_of}
use Rattle.sfc_expr.specs.Effect.{BodyEffect, on_value, on_end, effect, branch_effect}
use Rattle.sfc_expr.specs.Dependence.{is_assigned, is_assigned_in}

neither : (a b : Bool) → a || b ≡ false → (a ≡ false) × (b ≡ false)
neither true b e = cc
neither false b e = (refl, e)

module _ (v : Variable) where
  abbrev Stays : Environment → Environment → Type 0
  Stays old new = new.stored_at v ≡ old.stored_at v

  beside : (env : Environment) (w : Variable) (x : Value) → is_same v w ≡ false → Stays env (assigned env w x)
  beside env w x off = by (env.has w) (is_same v w) off
    where
      by : (a b : Bool) → b ≡ false → cond (a && b) x (env.stored_at v) ≡ env.stored_at v
      by true true e = cc
      by true false e = refl
      by false b e = refl

  on_value_stays : (env : Environment) (r : Result Value Fault) (go : Value → BodyEffect) → ((x : Value) → Stays env (go x).environment)
      → Stays env (on_value env r go).environment
  on_value_stays env (Ok x) go k = k x
  on_value_stays env (Err fault) go k = refl

  on_end_stays : (old : Environment) (r : Result (Unit {0}) Fault) (env : Environment) (go : Environment → BodyEffect) → Stays old env
      → Stays env (go env).environment → Stays old (on_end r env go).environment
  on_end_stays old (Ok x) env go h k = k ∙ h
  on_end_stays old (Err fault) env go h k = h

  either : (env : Environment) (b : Bool) (o p : BodyEffect) → Stays env o.environment → Stays env p.environment
      → Stays env (cond b o p).environment
  either env true o p h k = h
  either env false o p h k = k

  mutual
    pub unassigned : (body : Body) (env : Environment) → is_assigned v body ≡ false → Stays env (effect body env).environment
    unassigned Nothing env off = refl
    unassigned (Assign w e rest) env off =
        let offs = neither (is_same v w) (is_assigned v rest) off in
        on_value_stays env (value_of env e) _ (λ x. unassigned rest (assigned env w x) offs.1 ∙ beside env w x offs.0)
    unassigned (If bs rest) env off =
        let offs = neither (is_assigned_in v bs) (is_assigned v rest) off in
        on_end_stays env (branch_effect bs env).result (branch_effect bs env).environment _ (unassigned_in bs env offs.0)
        (unassigned rest (branch_effect bs env).environment offs.1)

    unassigned_in : (bs : Branches) (env : Environment) → is_assigned_in v bs ≡ false → Stays env (branch_effect bs env).environment
    unassigned_in NoBranch env off = refl
    unassigned_in (When e body rest) env off =
        let offs = neither (is_assigned v body) (is_assigned_in v rest) off in
        on_value_stays env (value_of env e) _ (λ x. either env (truth x) _ _ (unassigned body env offs.0) (unassigned_in rest env offs.1))
    unassigned_in (Otherwise body rest) env off =
        let offs = neither (is_assigned v body) (is_assigned_in v rest) off in
        unassigned body env offs.0
