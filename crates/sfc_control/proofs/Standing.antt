-- Receipts of a history that grows.
use Rattle.std.proofs.Common.{◌≡◌, ◌+◌, ◌-◌, ◌<◌, ◌≤◌, List, [], ◌∷◌, ◌++◌, Option, Some, None, length, arith, ◌⊎◌, inl, inr}
use Rattle.std.proofs.lemmas.Bool.{cases_lt}
use Rattle.std.proofs.lemmas.Option.{slice_get_within}
use Rattle.sfc_plant.specs.Plants.{PlantData}
use Rattle.sfc_debug.specs.declared.break_condition.BreakCondition.{BreakCondition}
use Rattle.sfc_control.specs.declared.entry.Entry.{Entry}
use Rattle.sfc_control.specs.declared.receipt.Receipt.{Receipt}
use Rattle.sfc_control.specs.Holding.{first_in}
use Rattle.sfc_control.specs.LegalHistory.{IsLegal}
use Rattle.sfc_control.specs.Receipts.{entry_of, Stands}
use Rattle.sfc_control.specs.Seats.{KeptStands, BothStand}

-- its index is not beyond the last entry
within : (es : List Entry) (r : Receipt) → first_in es ≤ length es + 1 → Stands es r → r.index < length es + 1
within es r low s = by (cases_lt r.index (first_in es))
  where
    by : (r.index < first_in es) ⊎ (first_in es ≤ r.index) → r.index < length es + 1
    by (inl below) = omega (arith, below, low)
    by (inr from) = omega (arith, s.0, slice_get_within es (r.index - 1) (entry_of r) (s.1 from))

pub both_stand : (plant : PlantData) (table : List BreakCondition) (last : Option Receipt) (es : List Entry) (r : Receipt) →
    first_in es ≤ length es + 1 → KeptStands last es → IsLegal plant table (es ++ entry_of r ∷ []) → r.index ≡ length es + 1 →
    BothStand plant table last r
both_stand plant table None es r low kept legal at = (es, legal, at, tt)
both_stand plant table (Some q) es r low kept legal at =
    let below : q.index < length es + 1 = within es q low kept in
    (es, legal, at, (kept, omega (arith, below, at)))
