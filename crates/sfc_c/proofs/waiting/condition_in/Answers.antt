use Rattle.std.proofs.Common.{◌∙◌, ap, subst}
use Rattle.std.specs.Prelude.{IfOk}
use Rattle.sfc_plant.specs.Plants.{PlantData}
use Rattle.sfc_replay.specs.sfc_debug.Agreement.{plant_of}
use Rattle.sfc_replay.specs.sfc_script.Scripts.{ConditionReads}
use Rattle.sfc_c.specs.Waiting.{added_by}
use Rattle.sfc_c.proofs.waiting.condition_in.Goals as goal

pub returns : goal.returns
returns c =
    subst (λ (plant : PlantData). IfOk c.read_condition.result (λ found. ConditionReads plant 0 c.args.program c.args.text.now (added_by found)))
    (c.plant.ensures ∙ c.resource.ensures.plant ∙ ap plant_of c.debugger.ensures) c.read_condition.ensures
