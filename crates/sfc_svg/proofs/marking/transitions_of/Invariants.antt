use Rattle.std.proofs.Common.{◌≡◌, List, map}
use Rattle.std.specs.List.{range_with_len}
use Rattle.sfc_replay.specs.sfc_image.Changes.{Change}
use Rattle.sfc_replay.specs.sfc_instance.Life.{InstanceState}
use Rattle.sfc_replay.specs.sfc_instance.Views.{Shows, tables_in}
use Rattle.sfc_svg.specs.Marking.{transition_told}
use Rattle.sfc_svg.proofs.marking.transitions_of.Given as goal

abbrev pub invariant-loop-number : goal.invariant-loop-number
invariant-loop-number l = (changes : List Change) (state : InstanceState) → Shows l.view changes state →
    l.transitions.items ≡ map (transition_told (tables_in l.view) state) (range_with_len 0 l.number)
