-- Which values may go to another thread: a resource and an opening.
use denote.Param.Send.{IsSend, sendable}
use Rattle.sfc_instances.proofs.instances.Instances.TheSendSync as instances
use Rattle.sfc_plant.proofs.Crosses.{plant_send}
use Rattle.sfc_tasks.proofs.table.TaskTable.TheSendSync as tasks
use Rattle.sfc_core.specs.contracts.resource.Resource as Resource

pub resource_send : IsSend (Resource.the_field).row
resource_send = search (sendable, plant_send, instances.the_field_send, tasks.the_field_send) depth 12
