-- Two plants, and two tables of conditions, are equal in one way at most.
use Rattle.std.specs.Prelude.{List}
use Rattle.std.specs.Coded.{Coded-set, coded_list}
use Rattle.sfc_plant.specs.Plants.{PlantData}
use Rattle.sfc_plant.specs.contracts.plant.Plant as plant
use Rattle.sfc_debug.specs.declared.break_condition.BreakCondition.{BreakCondition}
use Rattle.sfc_debug.specs.contracts.break_condition.BreakCondition as condition

pub plant_set : IsSet PlantData
plant_set = Coded-set plant.the_row.coded

pub table_set : IsSet (List BreakCondition)
table_set = Coded-set (coded_list condition.the_row.coded)
