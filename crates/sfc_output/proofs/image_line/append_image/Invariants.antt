use Rattle.std.proofs.Common.{◌≡◌, ◌-◌, ◌++◌}
use Rattle.std.specs.List.{flat_map, range_with_len}
use Rattle.sfc_debug.specs.sfc_image.Values.{variable_count}
use Rattle.sfc_events.specs.History.{History}
use Rattle.sfc_debug.specs.sfc_core.PlantState.{state_of}
use Rattle.sfc_debug.specs.sfc_core.Agreement.{Agrees, plant_of}
use Rattle.sfc_output.specs.ImageLines.{variable_line}
use Rattle.sfc_output.proofs.image_line.append_image.Given as goal

abbrev pub invariant-loop-v : goal.invariant-loop-v
invariant-loop-v l = (h : History) → Agrees l.resource h →
    let plant = plant_of l.resource in
    let n = variable_count plant in
    l.initial.out.items ++ flat_map (variable_line plant (state_of plant h)) (range_with_len 0 n)
    ≡ l.out.items ++ flat_map (variable_line plant (state_of plant h)) (range_with_len l.v (n - l.v))
