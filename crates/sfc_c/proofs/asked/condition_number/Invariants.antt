use Rattle.std.proofs.Common.{◌≡◌, ◌<◌, ℕ, Some}
use Rattle.std.specs.List.{slice_get}
use Rattle.sfc_replay.specs.sfc_debug.Agreement.{table_of}
use Rattle.sfc_c.proofs.asked.condition_number.Given as goal

abbrev pub invariant-conditions : goal.invariant-conditions
invariant-conditions l = (j : ℕ) → j < l.k → slice_get (table_of l.debugger) j ≡ Some l.condition → ⊥
