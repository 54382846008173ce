use Rattle.std.proofs.Common.{◌≡◌, ◌++◌, ◌∙◌, List, ℕ, ap, sym, codes}
use Rattle.std.proofs.lemmas.Result.{on_ok_weaker}
use Rattle.sfc_debug.specs.sfc_instance.Views.{plant_in, instance_in}
use Rattle.sfc_debug.specs.sfc_instance.declared.scan_end.ScanEnd.{ScanEnd}
use Rattle.sfc_plant.specs.PlantNames.{instance_name}
use Rattle.sfc_output.specs.Programs.{program_line}
use Rattle.sfc_output.specs.Private.Pieces.{fault_line}
use Rattle.sfc_page.specs.Lines.{written}
use Rattle.sfc_output.proofs.Done.{faulted_regrouped, skipped_regrouped}
use Rattle.sfc_output.proofs.program.put_program.Goals as goal

pub returns-in-Faulted : goal.returns-in-Faulted
returns-in-Faulted c changes instance_state shows =
    let plant = plant_in c.args.view.now in
    let p = instance_in c.args.view.now in
    let old = written c.args.out.now.items c.args.line.now in
    let name : c.instance_name-name.result.now ≡ instance_name plant p =
    c.instance_name-name.ensures ∙ (λ i. instance_name (c.plant.ensures i) (c.instance.ensures.value i)) in
    let fault = c.fault.ensures changes instance_state shows in
    on_ok_weaker c.put_fault.result
    (λ e. e ∙ (λ i. old ++ fault_line (name i) (codes " fault ") (fault i))
    ∙ ap (λ (xs : List ℕ). old ++ xs) (faulted_regrouped plant p instance_state)
    ∙ ap (λ (how : ScanEnd). old ++ program_line plant p instance_state how) (sym c.in-Faulted.is))
    c.put_fault.ensures

pub returns-in-Skipped : goal.returns-in-Skipped
returns-in-Skipped c changes instance_state shows =
    let plant = plant_in c.args.view.now in
    let p = instance_in c.args.view.now in
    let old = written c.args.out.now.items c.args.line.now in
    let name : c.instance_name-name.result.now ≡ instance_name plant p =
    c.instance_name-name.ensures ∙ (λ i. instance_name (c.plant.ensures i) (c.instance.ensures.value i)) in
    let fault = c.fault-in-Skipped.ensures changes instance_state shows in
    on_ok_weaker c.put_fault-in-Skipped.result
    (λ e. e ∙ (λ i. old ++ fault_line (name i) (codes " skipped ") (fault i))
    ∙ ap (λ (xs : List ℕ). old ++ xs) (skipped_regrouped plant p instance_state)
    ∙ ap (λ (how : ScanEnd). old ++ program_line plant p instance_state how) (sym c.in-Skipped.is))
    c.put_fault-in-Skipped.ensures
