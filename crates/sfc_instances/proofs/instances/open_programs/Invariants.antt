use Rattle.std.proofs.Common.{◌≡◌, ℕ, ◌<◌, length, slice_get, slice_index_or, Some}
use Rattle.sfc_instance.specs.sfc_tables.Tables.{Tabled}
use Rattle.sfc_plant.specs.declared.instance.Instance.{Instance}
use Rattle.sfc_instance.specs.declared.program.Program.{Program}
use Rattle.sfc_instances.specs.Private.Building.{IsOpened}
use Rattle.sfc_instances.proofs.instances.open_programs.Given as goal

abbrev pub invariant-loop-k : goal.invariant-loop-k
invariant-loop-k l = record {
  len : length l.programs.items ≡ l.k;
  each : (j : ℕ) (instance : Instance) (tabled : Tabled) (d : Program) → j < l.k → slice_get l.instances j ≡ Some instance →
      slice_get l.tables instance.program.0 ≡ Some tabled → IsOpened tabled (slice_index_or l.programs.items j d);
}
