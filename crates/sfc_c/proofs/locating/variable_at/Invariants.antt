use Rattle.std.proofs.Common.{◌≡◌, ◌<◌, ℕ, false}
use Rattle.sfc_replay.specs.sfc_core.Agreement.{plant_of}
use Rattle.sfc_c.specs.Names.{lies_at}
use Rattle.sfc_c.proofs.locating.variable_at.Given as goal

abbrev pub invariant-variables : goal.invariant-variables
invariant-variables l = (j : ℕ) → j < l.k → lies_at (plant_of l.resource) l.location j ≡ false
