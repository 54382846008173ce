use Rattle.std.proofs.Common.{◌∙◌, ◌<◌, sym, ap, subst, length}
use Rattle.sfc_tables.specs.Tables.{Tabled}
use Rattle.sfc_evolve.specs.Evolution.{is_active}
use Rattle.sfc_instance.specs.Life.{evolution_rows}
use Rattle.sfc_instance.specs.Views.{Shows, plant_in, instance_in}
use Rattle.sfc_instance.proofs.Windows.{active_flag}
use Rattle.sfc_instance.proofs.program_view.ProgramView.active_flags.Goals as goal

pub returns-clause-each : goal.returns-clause-each
unfolding Shows plant_in instance_in
returns-clause-each c changes instance_state s lt shows =
    let view = c.args.self.now in
    let here : s < length view.tables.now.initial = subst (λ (t : Tabled). s < length t.initial) (sym view.tabled) lt in
    active_flag view.tables.now (evolution_rows view.tables.now instance_state.life) c.active_flags.result.now s
    (c.active_flags.ensures.flags view.tables.now instance_state shows.program) here
    ∙ ap (λ (t : Tabled). is_active t (evolution_rows t instance_state.life) s) view.tabled
