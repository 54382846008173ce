-- What an expression depends on, and what statements leave alone.
use Rattle.std.specs.Prelude.{◌≡◌, ◌||◌, Bool, false, ⊤}
use Rattle.sfc_base.specs.declared.references.Variable.{Variable}
use Rattle.sfc_expr.specs.Trees.{Expression, Literal, Read, StepActive, StepTime, ActionQ, Not, Minus, Binary}
use Rattle.sfc_expr.specs.Trees.{Body, Nothing, Assign, If, Branches, NoBranch, When, Otherwise}
use Rattle.sfc_expr.specs.Environment.{Environment, value_at, is_same}

-- two environments agree on what occurs in an expression
abbrev pub AgreeOn : Expression → Environment → Environment → Type 0
AgreeOn (Literal x) one other = ⊤
AgreeOn (Read v) one other = value_at one v ≡ value_at other v
AgreeOn (StepActive s) one other = one.is_active s ≡ other.is_active s
AgreeOn (StepTime s) one other = one.time_of s ≡ other.time_of s
AgreeOn ActionQ one other = one.q ≡ other.q
AgreeOn (Not e) one other = AgreeOn e one other
AgreeOn (Minus t e) one other = AgreeOn e one other
AgreeOn (Binary o t a b) one other = AgreeOn a one other × AgreeOn b one other

-- all but the stored values of variables is as before
pub record KeepsAllButValues (old new : Environment) : Type 0 where
  pub variables : new.has ≡ old.has
  pub forces : new.forced_at ≡ old.forced_at
  pub steps : new.is_active ≡ old.is_active
  pub times : new.time_of ≡ old.time_of
  pub q : new.q ≡ old.q

-- some statement among these assigns the variable, be it executed or not
abbrev mutual
  pub is_assigned : Variable → Body → Bool
  is_assigned v Nothing = false
  is_assigned v (Assign w e rest) = is_same v w || is_assigned v rest
  is_assigned v (If bs rest) = is_assigned_in v bs || is_assigned v rest

  pub is_assigned_in : Variable → Branches → Bool
  is_assigned_in v NoBranch = false
  is_assigned_in v (When e body rest) = is_assigned v body || is_assigned_in v rest
  is_assigned_in v (Otherwise body rest) = is_assigned v body || is_assigned_in v rest
