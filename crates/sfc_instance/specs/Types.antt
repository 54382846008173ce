-- Program instances whose actions have types (2.4.3, 2.6.4.1, 3.3.2).
use Rattle.std.specs.Prelude.{◌≡◌, ◌≤ℤ◌, ◌^◌, ℤ, pos, All, Some, ⊤}
use Rattle.sfc_base.specs.declared.ids.ProgId.{ProgId}
use Rattle.sfc_base.specs.declared.var_type.VarType.TheVariants as types
use Rattle.sfc_expr.specs.Types.{Declared, IsTyped}
use Rattle.sfc_plant.specs.declared.action.Action.{Action}
use Rattle.sfc_plant.specs.declared.association.Target.{Target}
use Rattle.sfc_plant.specs.declared.association.Target.TheVariants.{Boolean, Declared as DeclaredAction}
use Rattle.sfc_plant.specs.Plants.{PlantData}
use Rattle.sfc_plant.specs.Finding.{chart_of}
use Rattle.sfc_tables.specs.Tables.{tables_of}
use Rattle.sfc_image.specs.Types.{types_of}
use Rattle.sfc_instance.specs.Life.{Life, Row}

-- an action that is a variable by itself is a BOOL
abbrev pub IsTypedTarget : Declared → Target → Type 0
IsTypedTarget declared (Boolean v) = declared v ≡ Some types.Bool
IsTypedTarget declared (DeclaredAction id) = ⊤

-- the Boolean actions of the instance are BOOLs, and the bodies of the declared ones have types
pub record IsTypedInstance (plant : PlantData) (p : ProgId) : Type 0 where
  pub targets : All (IsTypedTarget (types_of plant p)) (tables_of (chart_of plant p)).actions
  pub bodies : All (λ (action : Action). IsTyped (types_of plant p) action.body) (chart_of plant p).actions

-- an instant, in microseconds (our choice)
abbrev pub IsInstant : ℤ → Type 0
IsInstant t = (pos 0 ≤ℤ t) × (t ≤ℤ pos (2 ^ 62))

-- each scan of the life was at one
abbrev pub AreInstants : Life → Type 0
AreInstants life = All (λ (row : Row). IsInstant row.at) life
