use Rattle.sfc_instances.proofs.Scanned.{chart_at, tables_at}
use Rattle.sfc_instances.proofs.instances.context_of.Goals as goal

pub returns-clause-context : goal.returns-clause-context
returns-clause-context c =
    let plant = c.args.plant.now in
    let p = c.args.instance in
    record {
      chart = chart_at plant c.instances.ensures.sound p c.requires.instance c.instances.result.now c.types.result.now
          c.index-instances-instance.result c.index-types-program.result c.instances.ensures.value c.types.ensures.value;
      tables = tables_at plant c.instances.ensures.sound p c.requires.instance c.instances.result.now c.types.result.now
          c.index-instances-instance.result c.index-types-program.result c.instances.ensures.value c.types.ensures.value c.args.tables.now
          c.index-tables-program.result c.requires.tables c.index-tables-program.is;
    }
