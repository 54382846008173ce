use Rattle.std.proofs.Common.{◌≡◌, length}
use Rattle.sfc_script.specs.Conditions.{conditions_from}
use Rattle.sfc_script.proofs.ConditionTables.{onto}
use Rattle.sfc_script.proofs.conditions.conditions_of.Given as goal

abbrev pub invariant-entries : goal.invariant-entries
invariant-entries l =
    conditions_from l.fn.plant 0 l.written ≡ onto l.table.items (conditions_from l.fn.plant (length l.table.items) l.rest)

abbrev pub decreases-entries : goal.decreases-entries
decreases-entries l = length l.rest
