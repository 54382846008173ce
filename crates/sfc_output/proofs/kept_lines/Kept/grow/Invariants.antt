use Rattle.std.proofs.Common.{◌≡◌, ℕ, ◌+◌, ◌-◌, length}
use Rattle.sfc_plant.specs.Spaces.{Space}
use Rattle.sfc_debug.specs.sfc_tables.Tables.{Tabled}
use Rattle.sfc_output.specs.Memories.{AllRight}
use Rattle.sfc_output.proofs.kept_lines.Kept.grow.Given as goal

abbrev pub invariant-programs : goal.invariant-programs
invariant-programs l = record {
  right : (space : ℕ → Space) (tables : ℕ → Tabled) → AllRight space tables l.initial.self.programs.items →
      AllRight space tables l.self.programs.items;
  tasks : l.self.tasks ≡ l.initial.self.tasks;
  heads : l.self.heads ≡ l.initial.self.heads;
}

abbrev pub decreases-programs : goal.decreases-programs
decreases-programs l = l.program + 1 - length l.self.programs.items
