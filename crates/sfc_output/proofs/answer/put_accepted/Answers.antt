use Rattle.std.proofs.Common.{◌++◌, ap, ◌∙◌, sym, subst}
use Rattle.std.proofs.lemmas.Result.{on_ok_weaker}
use Rattle.sfc_plant.specs.Plants.{PlantData}
use Rattle.sfc_debug.specs.sfc_core.PlantState as plant_state
use Rattle.sfc_debug.specs.Agreement.{plant_of, table_of}
use Rattle.sfc_debug.specs.States.{state_of}
use Rattle.sfc_output.specs.Commands.{command_line, program_lines}
use Rattle.sfc_output.specs.Memories.{Fits}
use Rattle.sfc_page.specs.Lines.{written}
use Rattle.sfc_debug.specs.Steered.{steered_by}
use Rattle.sfc_page.proofs.Appended.{two_appended}
use Rattle.sfc_output.proofs.answer.put_accepted.Goals as goal

pub returns-clause-lines : goal.returns-clause-lines
returns-clause-lines c h agrees fits =
    let plant = plant_of c.args.debugger.now in
    let state = state_of plant (table_of c.args.debugger.now) h in
    let answer = c.args.accepted.now.answer.now in
    let old = written c.args.out.now.items c.args.line.now in
    let first = written c.put_first.new.out.items c.put_first.new.line in
    let both = written c.put_programs.new.out.items c.put_programs.new.line in
    let line = command_line (steered_by c.args.debugger.now) c.args.accepted.now.command.now state.clock.instant answer in
    let lines = λ (p : PlantData). program_lines p (plant_state.state_of p state.events).instance_state answer in
    on_ok_weaker c.put_programs.result
    (λ e. two_appended old first both line (lines plant) (c.in_ok-put_first.ensures.line h agrees fits)
    (e ∙ ap (λ (p : PlantData). first ++ lines p) c.resource.ensures.plant))
    (c.put_programs.ensures.lines state.events (c.resource.ensures.agrees h agrees)
    (subst (λ (p : PlantData). Fits p c.put_first.new.memory) (sym c.resource.ensures.plant) (c.put_first.ensures.fits fits)))
