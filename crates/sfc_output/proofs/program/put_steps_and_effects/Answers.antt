use Rattle.std.proofs.Common.{◌≡◌, ◌++◌, ℕ, Option, ap, ◌∙◌}
use Rattle.std.proofs.lemmas.Result.{IfOk-weaker}
use Rattle.sfc_base.specs.declared.ids.ProgId.{ProgId}
use Rattle.sfc_plant.specs.Plants.{PlantData}
use Rattle.sfc_plant.specs.Spaces.{Space}
use Rattle.sfc_plant.specs.InstanceSpaces.{space_of}
use Rattle.sfc_debug.specs.sfc_instance.Views.{plant_in, instance_in, tables_in}
use Rattle.sfc_output.specs.Lists.{listed}
use Rattle.sfc_output.specs.Programs.{step_texts}
use Rattle.sfc_output.specs.Private.Pieces.{did_text, done_text, lacking}
use Rattle.sfc_page.specs.Lines.{written}
use Rattle.sfc_output.proofs.Done.{did_appended}
use Rattle.sfc_output.proofs.program.put_steps_and_effects.Goals as goal

pub returns : goal.returns
returns c changes instance_state shows fits =
    let plant = plant_in c.args.view.now in
    let p = instance_in c.args.view.now in
    let tables = tables_in c.args.view.now in
    let space = space_of plant p in
    let old = written c.args.out.now.items c.args.line.now in
    let second = written c.put_steps.new.out.items c.put_steps.new.line in
    let steps = λ (s : Space). listed (step_texts s tables instance_state) in
    let named : c.names-names.result ≡ space =
    c.names-names.ensures ∙ ap (λ (x : PlantData). space_of x c.instance.result) c.plant.ensures
    ∙ ap (λ (q : ProgId). space_of plant q) c.instance.ensures.value in
    let with_steps : second ≡ old ++ steps space =
    c.in_ok-place.ensures changes instance_state shows ∙ ap (λ (s : Space). old ++ steps s) named in
    let done = done_text space tables instance_state in
    let text = λ (rest : Option ℕ). written c.put_effects.new.out.items c.put_effects.new.line ++ lacking rest done in
    IfOk-weaker c.put_effects.result (λ rest. text rest ≡ second ++ done)
    (λ rest. text rest ≡ old ++ did_text space tables instance_state)
    (λ rest e. did_appended old second (text rest) space tables instance_state with_steps e)
    (c.put_effects.ensures changes instance_state shows fits)
