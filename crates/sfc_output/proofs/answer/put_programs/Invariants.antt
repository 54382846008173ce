use Rattle.std.proofs.Common.{◌≡◌, ◌-◌, ◌++◌, length, ℕ}
use Rattle.std.specs.List.{flat_map, range_with_len}
use Rattle.sfc_events.specs.History.{History}
use Rattle.sfc_debug.specs.sfc_core.Agreement.{Agrees, plant_of}
use Rattle.sfc_debug.specs.sfc_core.PlantState.{state_of}
use Rattle.sfc_output.specs.Commands.{scan_end_in, written_line}
use Rattle.sfc_output.specs.Memories.{Fits}
use Rattle.sfc_page.specs.Lines.{written}
use Rattle.sfc_output.proofs.answer.put_programs.Given as goal

abbrev pub invariant-loop-k : goal.invariant-loop-k
invariant-loop-k l = record {
  lines : (h : History) → Agrees l.resource h → Fits (plant_of l.resource) l.initial.memory →
      let plant = plant_of l.resource in
      let n = length plant.instances in
      let line = λ (k : ℕ). written_line plant (state_of plant h).instance_state k (scan_end_in l.answer k) in
      written l.initial.out.items l.initial.line ++ flat_map line (range_with_len 0 n)
      ≡ written l.out.items l.line ++ flat_map line (range_with_len l.k (n - l.k));
  fits : Fits (plant_of l.resource) l.initial.memory → Fits (plant_of l.resource) l.memory;
}
