-- Instances are of a plant in one way at most, so that can be a ghost field.
use denote.Struct.Props.{props}
use Rattle.std.proofs.Common.{List}
use Rattle.std.specs.Coded.{Coded-set, coded_list}
use Rattle.sfc_plant.specs.Plants.{PlantData}
use Rattle.sfc_instance.specs.sfc_tables.contracts.tables.Tables as tables
use Rattle.sfc_instance.specs.sfc_tables.Tables.{Tabled}
use Rattle.sfc_instance.proofs.Places.{for_prop}
use Rattle.sfc_instances.specs.declared.instances.Instances.{Instances}
use Rattle.sfc_instances.specs.Agreement.{AreInstancesOf}

tables_set : IsSet (List Tabled)
tables_set = Coded-set (coded_list tables.the_row.coded)

pub instances_prop : (plant : PlantData) (instances : Instances) → IsProp (AreInstancesOf plant instances)
instances_prop plant instances = hlevel (props, for_prop, tables_set)
