use Rattle.std.proofs.Common.{◌≡◌, ℕ, List, slice_get}
use Rattle.std.specs.List.{filter_map, range_with_len}
use Rattle.sfc_replay.specs.sfc_image.Changes.{Change}
use Rattle.sfc_replay.specs.sfc_instance.Life.{InstanceState}
use Rattle.sfc_replay.specs.sfc_instance.Views.{Shows, tables_in}
use Rattle.sfc_svg.specs.Marking.{body_mark, is_executed}
use Rattle.sfc_svg.proofs.marking.bodies_of.Given as goal

abbrev pub invariant-loop-number : goal.invariant-loop-number
invariant-loop-number l = (changes : List Change) (state : InstanceState) → Shows l.view changes state →
    let tables = tables_in l.view in
    l.bodies.items ≡ filter_map (λ (a : ℕ). body_mark (is_executed tables state a) (slice_get tables.actions a)) (range_with_len 0 l.number)
