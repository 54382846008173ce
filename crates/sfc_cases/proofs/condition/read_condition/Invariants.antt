use Rattle.std.proofs.Common.{◌≡◌, ◌++◌}
use Rattle.std.specs.Prelude.{map, option_map}
use Rattle.sfc_cases.specs.declared.joined.Joint.TheVariants.{Or}
use Rattle.sfc_cases.specs.Conditions.{IsReader, Reader, all_parts, part_said, parts_of}
use Rattle.sfc_cases.proofs.condition.read_condition.Given as goal

abbrev pub invariant-parts : goal.invariant-parts
invariant-parts l = (read : Reader) → IsReader read → all_parts (map (part_said l.plant read) (parts_of 255 Or l.text))
    ≡ option_map (λ parts. l.parts.items ++ parts) (all_parts (map (part_said l.plant read) (parts_of l.left l.joint l.rest)))

abbrev pub decreases-parts : goal.decreases-parts
decreases-parts l = l.left
