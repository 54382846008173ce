use Rattle.std.proofs.Common.{◌≡◌, map, take}
use Rattle.sfc_plant.specs.declared.program_type.ProgramType.{ProgramType}
use Rattle.sfc_instance.specs.sfc_tables.Tables.{tables_of}
use Rattle.sfc_instances.proofs.instances.build_tables.Given as goal

abbrev pub invariant-loop-k : goal.invariant-loop-k
invariant-loop-k l = record {
  tables : l.tables.items ≡ map (λ (p : ProgramType). tables_of p.chart) (take l.k l.types);
}
