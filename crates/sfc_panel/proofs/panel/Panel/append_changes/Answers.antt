use Rattle.std.proofs.Common.{◌++◌, ◌∙◌, ap, List, ℕ, append_assoc}
use Rattle.sfc_base.specs.declared.ids.VarId.{VarId}
use Rattle.sfc_output.specs.sfc_core.Agreement.{plant_of}
use Rattle.sfc_output.specs.sfc_core.PlantState.{state_of}
use Rattle.sfc_panel.specs.Changes.{programs_shown, variable_changes}
use Rattle.sfc_panel.proofs.Follow.{on_ok}
use Rattle.sfc_panel.proofs.panel.Panel.append_changes.Goals as goal

pub returns : goal.returns
returns c h g stand =
    let plant = plant_of c.args.passed.before.now in
    let old = state_of plant h in
    let new = state_of plant g in
    let first = programs_shown c.args.self.now.programs plant old new c.args.answer.now in
    on_ok c.append_variables.result (λ e. e
    ∙ ap (λ (ids : List VarId). c.append_shown.new.out.items ++ variable_changes plant old new ids) c.deref.ensures.value
    ∙ ap (λ (xs : List ℕ). xs ++ variable_changes plant old new c.args.self.now.variables.items) (c.in_ok-append_shown.ensures h g stand)
    ∙ append_assoc c.args.out.now.items first (variable_changes plant old new c.args.self.now.variables.items))
    (c.append_variables.ensures h g stand)
