use Rattle.std.proofs.Common.{◌≡◌, ℕ}
use Rattle.std.specs.List.{filter_map, range_with_len}
use Rattle.sfc_events.specs.History.{History}
use Rattle.sfc_replay.specs.sfc_core.Agreement.{Agrees, plant_of}
use Rattle.sfc_replay.specs.sfc_core.PlantState.{state_of}
use Rattle.sfc_svg.specs.Standing.{shown_of}
use Rattle.sfc_svg.proofs.svg.shown_instances.Given as goal

abbrev pub invariant-loop-number : goal.invariant-loop-number
invariant-loop-number l = (h : History) → Agrees l.resource h →
    let plant = plant_of l.resource in
    l.shown.items ≡ filter_map (λ (n : ℕ). shown_of plant (state_of plant h) l.wanted (record { 0 = n })) (range_with_len 0 l.number)
