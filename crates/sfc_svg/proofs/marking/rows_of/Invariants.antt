use Rattle.std.proofs.Common.{◌≡◌, List, map, take}
use Rattle.sfc_replay.specs.sfc_image.Changes.{Change}
use Rattle.sfc_replay.specs.sfc_instance.Life.{InstanceState}
use Rattle.sfc_replay.specs.sfc_instance.Views.{Shows, tables_in}
use Rattle.sfc_svg.specs.Marking.{row_told}
use Rattle.sfc_svg.proofs.marking.rows_of.Given as goal

abbrev pub invariant-loop-association : goal.invariant-loop-association
invariant-loop-association l = (changes : List Change) (state : InstanceState) → Shows l.view changes state →
    l.rows.items ≡ map (row_told (tables_in l.view) state l.forces l.step.0) (take l.association-index l.associations)
