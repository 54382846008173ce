use Rattle.std.proofs.Common.{◌+◌, ◌-◌, length}
use Rattle.sfc_plant.specs.Spaces.{Space}
use Rattle.sfc_debug.specs.sfc_tables.Tables.{Tabled}
use Rattle.sfc_output.specs.Memories.{AreRight}
use Rattle.sfc_output.proofs.kept_lines.ProgramMemory.grow.Given as goal

abbrev pub invariant-places : goal.invariant-places
invariant-places l =
    (space : Space) (tables : Tabled) → AreRight space tables l.initial.self.effects.items → AreRight space tables l.self.effects.items

abbrev pub decreases-places : goal.decreases-places
decreases-places l = l.place + 1 - length l.self.effects.items
