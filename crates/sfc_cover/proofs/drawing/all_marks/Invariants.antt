use Rattle.std.proofs.Common.{◌≡◌, ℕ, map}
use Rattle.std.specs.List.{filter_map, range_with_len}
use Rattle.sfc_cover.specs.Unreached.{unnoted, wanted_marks}
use Rattle.sfc_cover.proofs.drawing.all_marks.Given as goal

abbrev pub invariant-loop-number : goal.invariant-loop-number
invariant-loop-number l =
    map unnoted l.marked.items
    ≡ filter_map (λ (n : ℕ). wanted_marks l.plant l.reaches l.wanted (record { 0 = n })) (range_with_len 0 l.number)
