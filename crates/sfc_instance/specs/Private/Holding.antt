-- Which conditions are TRUE.
use Rattle.std.specs.Prelude.{ℕ, ◌≡◌, ◌<◌, Bool, true, false, List, replicate, slice_set}
use Rattle.sfc_tables.specs.Tables.{Tabled}
use Rattle.sfc_evolve.specs.declared.steps.Steps.{Steps}
use Rattle.sfc_evolve.specs.Agreement.{Enables}
use Rattle.sfc_instance.specs.declared.holding.Holding.{Holding}
use Rattle.sfc_instance.specs.declared.holding.Holding.TheVariants.{Nothing, One, Any}

-- the conditions of n transitions are as it tells
abbrev pub AreHeld : ℕ → Holding → List Bool → Type 0
AreHeld n Nothing conditions = conditions ≡ replicate n false
AreHeld n (One tr) conditions = (tr.0 < n) × (conditions ≡ slice_set (replicate n false) tr.0 true)
AreHeld n Any conditions = Unit {0}

-- the transition that alone has a TRUE condition is enabled
abbrev pub IsReady : Tabled → Steps → Holding → Type 0
IsReady tables steps Nothing = Unit {0}
IsReady tables steps (One tr) = Enables tables steps tr.0
IsReady tables steps Any = Unit {0}
