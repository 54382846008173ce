use Rattle.std.proofs.Common.{◌∙◌, ◌<◌, sym, ap, subst, length, pos, List, ℤ, slice_index_or, arith}
use Rattle.std.proofs.lemmas.List.FromFn.{get_or-map-range_with_len}
use Rattle.sfc_tables.specs.Tables.{Tabled}
use Rattle.sfc_evolve.specs.Evolution.{is_active, step_time}
use Rattle.sfc_instance.specs.Life.{evolution_rows, latest_instant}
use Rattle.sfc_instance.specs.Views.{Shows, plant_in, instance_in}
use Rattle.sfc_instance.proofs.Windows.{active_flag}
use Rattle.sfc_instance.proofs.program_view.ProgramView.readings.Goals as goal

pub returns-clause-active : goal.returns-clause-active
unfolding Shows plant_in instance_in
returns-clause-active c changes instance_state s lt shows =
    let view = c.args.self.now in
    let here : s < length view.tables.now.initial = subst (λ (t : Tabled). s < length t.initial) (sym view.tabled) lt in
    active_flag view.tables.now (evolution_rows view.tables.now instance_state.life) c.readings.result.active.now s
    (c.readings.ensures.active view.tables.now instance_state shows.program) here
    ∙ ap (λ (t : Tabled). is_active t (evolution_rows t instance_state.life) s) view.tabled

pub returns-clause-times : goal.returns-clause-times
unfolding Shows plant_in instance_in
returns-clause-times c changes instance_state s lt shows =
    let view = c.args.self.now in
    let life = instance_state.life in
    let n = length view.tables.now.initial in
    let here : s < n = subst (λ (t : Tabled). s < length t.initial) (sym view.tabled) lt in
    ap (λ (times : List ℤ). slice_index_or times s (pos 0)) (c.readings.ensures.times view.tables.now instance_state shows.program)
    ∙ get_or-map-range_with_len (λ s. step_time view.tables.now (evolution_rows view.tables.now life) s (latest_instant life)) 0 n s s (pos 0)
    here (omega arith)
    ∙ ap (λ (t : Tabled). step_time t (evolution_rows t life) s (latest_instant life)) view.tabled
