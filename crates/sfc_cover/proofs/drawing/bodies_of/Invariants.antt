use Rattle.std.proofs.Common.{◌≡◌, ℕ, slice_get}
use Rattle.std.specs.List.{filter_map, range_with_len}
use Rattle.sfc_cover.specs.Unreached.{action_mark, body_mark}
use Rattle.sfc_cover.proofs.drawing.bodies_of.Given as goal

abbrev pub invariant-loop-number : goal.invariant-loop-number
invariant-loop-number l =
    l.bodies.items
    ≡ filter_map (λ (a : ℕ). body_mark (action_mark l.reach a) (slice_get l.tables.actions a)) (range_with_len 0 l.number)
