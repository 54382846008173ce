use Rattle.std.proofs.Common.{◌≡◌, ◌++◌, ℕ, List, ap, ◌∙◌}
use Rattle.std.proofs.lemmas.Result.{on_ok_weaker}
use Rattle.sfc_base.specs.declared.ids.ProgId.{ProgId}
use Rattle.sfc_plant.specs.InstanceSpaces.{space_of}
use Rattle.sfc_plant.specs.Plants.{PlantData}
use Rattle.sfc_plant.specs.Spaces.{Space}
use Rattle.sfc_debug.specs.sfc_instance.Answers.{scan_count}
use Rattle.sfc_debug.specs.sfc_instance.Views.{plant_in, instance_in, tables_in}
use Rattle.sfc_output.specs.Lists.{listed}
use Rattle.sfc_output.specs.Memories.{effects_text}
use Rattle.sfc_output.specs.Programs.{scans_text, step_texts}
use Rattle.sfc_output.specs.Private.Pieces.{done_text}
use Rattle.sfc_page.specs.Lines.{written}
use Rattle.sfc_output.proofs.Done.{did_appended, ran_appended}
use Rattle.sfc_output.proofs.program.put_new_ran.Goals as goal

pub returns : goal.returns
returns c changes instance_state shows =
    let plant = plant_in c.args.view.now in
    let tables = tables_in c.args.view.now in
    let space = space_of plant (instance_in c.args.view.now) in
    let name = c.args.name.now in
    let sets = c.sets_of-sets.result in
    let old = written c.args.out.now.items c.args.line.now in
    let first = written c.put_scans.new.out.items c.put_scans.new.line in
    let second = written c.put_steps.new.out.items c.put_steps.new.line in
    let third = written c.put_sets.new.out.items c.put_sets.new.line in
    let named : c.names-names.result ≡ space =
    c.names-names.ensures ∙ ap (λ (x : PlantData). space_of x c.instance.result) c.plant.ensures
    ∙ ap (λ (q : ProgId). space_of plant q) c.instance.ensures.value in
    let with_scans : first ≡ old ++ scans_text name (scan_count instance_state) =
    c.in_ok-put_scans.ensures ∙ ap (λ (n : ℕ). old ++ scans_text name n) (c.scans.ensures changes instance_state shows) in
    let with_steps : second ≡ first ++ listed (step_texts space tables instance_state) =
    c.in_ok-put_steps.ensures changes instance_state shows
    ∙ ap (λ (s : Space). first ++ listed (step_texts s tables instance_state)) named in
    let done : effects_text c.names-names.result c.tables.result.now sets.cleared.now sets.executed.now ≡ done_text space tables instance_state =
    (λ i. effects_text (named i) (c.tables.ensures i) sets.cleared.now sets.executed.now)
    ∙ c.sets_of-sets.ensures.shows changes instance_state space shows in
    on_ok_weaker c.put_sets.result
    (λ e. ran_appended old first third name space tables instance_state with_scans
    (did_appended first second third space tables instance_state with_steps (e ∙ ap (λ (xs : List ℕ). second ++ xs) done)))
    c.put_sets.ensures
