use Rattle.std.proofs.Common.{◌≡◌, ◌+◌, ◌-◌, length}
use Rattle.sfc_plant.specs.Plants.{PlantData}
use Rattle.sfc_output.specs.Memories.{HeadsRight}
use Rattle.sfc_output.proofs.kept_lines.Kept.keep_head.Given as goal

abbrev pub invariant-heads : goal.invariant-heads
invariant-heads l = record {
  right : (plant : PlantData) → HeadsRight plant l.initial.self.heads.items → HeadsRight plant l.self.heads.items;
  tasks : l.self.tasks ≡ l.initial.self.tasks;
  programs : l.self.programs ≡ l.initial.self.programs;
}

abbrev pub decreases-heads : goal.decreases-heads
decreases-heads l = l.program + 1 - length l.self.heads.items
