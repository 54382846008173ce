-- Which values may go to another thread: a plant and its parts. Of a type that is not named here the prover finds it by itself.
use denote.Param.Send.{IsSend, sendable}
use Rattle.std.proofs.Crossing.{Vec-send}
use Rattle.sfc_base.proofs.items.Items.TheSendSync as items
use Rattle.sfc_base.proofs.name.Name.TheSendSync as name
use Rattle.sfc_base.proofs.references.GlobalId.TheSendSync as global_id
use Rattle.sfc_base.proofs.references.StepId.TheSendSync as step_id
use Rattle.sfc_expr.proofs.Crosses.{expr_send, statement_send}
use Rattle.sfc_plant.proofs.chart.Step.TheSendSync as step
use Rattle.sfc_plant.proofs.instance.Instance.TheSendSync as instance
use Rattle.sfc_plant.proofs.name_table.NameTable.TheSendSync as name_table
use Rattle.sfc_plant.proofs.task.Task.TheSendSync as task
use Rattle.sfc_plant.proofs.titles.Titles.TheSendSync as titles
use Rattle.sfc_plant.proofs.variable_table.VariableTable.TheSendSync as variable_table
use Rattle.sfc_plant.specs.contracts.action.Action as Action
use Rattle.sfc_plant.specs.contracts.chart.Chart as Chart
use Rattle.sfc_plant.specs.contracts.chart.Transition as Transition
use Rattle.sfc_plant.specs.contracts.declarations.Declarations as Declarations
use Rattle.sfc_plant.specs.contracts.parts.Parts as Parts
use Rattle.sfc_plant.specs.contracts.plant.Plant as Plant
use Rattle.sfc_plant.specs.contracts.program_type.ProgramType as ProgramType
use Rattle.sfc_plant.specs.contracts.typed.Condition as Condition
use Rattle.sfc_plant.specs.contracts.typed.Statements as Statements

pub condition_send : IsSend Condition.the_row
condition_send = search (sendable, expr_send)

statements_send : IsSend Statements.the_row
statements_send = search (sendable, Vec-send, statement_send) depth 12

action_send : IsSend (Action.the_field).row
action_send = search (sendable, name.the_send, statements_send)

transition_send : IsSend (Transition.the_field).row
transition_send = search (sendable, name.the_send, items.the_send, condition_send, step_id.the_field_send) depth 12

chart_send : IsSend (Chart.the_field).row
chart_send = search (sendable, items.the_send, action_send, transition_send, step.the_field_send) depth 12

program_type_send : IsSend (ProgramType.the_field).row
program_type_send = search (sendable, items.the_send, name.the_send, chart_send, variable_table.the_send, global_id.the_field_send) depth 12

declarations_send : IsSend (Declarations.the_field).row
declarations_send = search (sendable, items.the_send, program_type_send, variable_table.the_send, name_table.the_send, task.the_field_send) depth 12

parts_send : IsSend (Parts.the_field).row
parts_send = search (sendable, items.the_send, declarations_send, instance.the_field_send, name_table.the_send) depth 12

pub plant_send : IsSend Plant.the_row
plant_send = search (sendable, parts_send, titles.the_field_send) depth 12
