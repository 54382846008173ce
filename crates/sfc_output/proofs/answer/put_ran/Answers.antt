use Rattle.std.proofs.Common.{◌∙◌, subst, sym}
use Rattle.std.proofs.lemmas.List.{append-nil}
use Rattle.std.proofs.lemmas.Result.{on_ok_weaker}
use Rattle.sfc_plant.specs.Plants.{PlantData}
use Rattle.sfc_debug.specs.sfc_core.Agreement.{plant_of}
use Rattle.sfc_debug.specs.sfc_core.PlantState.{state_of}
use Rattle.sfc_output.specs.Memories.{Fits}
use Rattle.sfc_page.specs.Lines.{written}
use Rattle.sfc_output.proofs.Done.{line_ran}
use Rattle.sfc_output.proofs.answer.put_ran.Goals as goal

pub returns-in-Some-clause-line : goal.returns-in-Some-clause-line
returns-in-Some-clause-line c h agrees fits =
    let state = state_of (plant_of c.args.resource.now) h in
    let instance_state = state.instance_state c.args.instance.0 in
    let shown = subst (λ (x : PlantData). Fits x c.put_head.new.memory) (sym c.program.ensures.plant) (c.put_head.ensures.fits fits) in
    on_ok_weaker c.put_done_of.result
    (λ e. e ∙ line_ran instance_state (written c.args.out.now.items c.args.line.now) (written c.put_head.new.out.items c.put_head.new.line)
    (written c.put_steps_and_effects.new.out.items c.put_steps_and_effects.new.line) c.program.ensures.plant c.program.ensures.instance c.in-Some.is
    (c.in_ok-put_head.ensures.line h agrees fits)
    (c.in_ok-place.ensures state.changes instance_state (c.program.ensures.shows h agrees) shown))
    (c.put_done_of.ensures.line h agrees)

pub returns-in-None-clause-line : goal.returns-in-None-clause-line
returns-in-None-clause-line c h agrees fits =
    let state = state_of (plant_of c.args.resource.now) h in
    let instance_state = state.instance_state c.args.instance.0 in
    let put = written c.put_steps_and_effects.new.out.items c.put_steps_and_effects.new.line in
    let shown = subst (λ (x : PlantData). Fits x c.put_head.new.memory) (sym c.program.ensures.plant) (c.put_head.ensures.fits fits) in
    sym (append-nil put)
    ∙ line_ran instance_state (written c.args.out.now.items c.args.line.now) (written c.put_head.new.out.items c.put_head.new.line) put
    c.program.ensures.plant c.program.ensures.instance c.in-None.is (c.in_ok-put_head.ensures.line h agrees fits)
    (c.in_ok-place.ensures state.changes instance_state (c.program.ensures.shows h agrees) shown)
