use Rattle.std.proofs.Common.{◌≡◌, ◌-◌, length, Ok}
use Rattle.std.specs.List.{range_with_len}
use Rattle.sfc_text.specs.Trees.{tree_of}
use Rattle.sfc_cases.specs.Conditions.{shared, shared_among}
use Rattle.sfc_cases.proofs.condition.shared.Given as goal

abbrev pub invariant-instances : goal.invariant-instances
invariant-instances l = shared l.plant (Ok (tree_of l.expression))
    ≡ shared_among l.plant (Ok (tree_of l.expression)) (range_with_len l.number (length l.plant.instances - l.number))
