use Rattle.std.proofs.Common.{Option, ℕ, List, subst, sym, ap}
use Rattle.sfc_plant.specs.Finding.{chart_of}
use Rattle.sfc_plant.specs.InstanceSpaces.{space_of}
use Rattle.sfc_plant.specs.Spaces.{Space}
use Rattle.sfc_debug.specs.sfc_tables.Tables.{Tabled, tables_of}
use Rattle.sfc_output.specs.declared.kept_head.KeptHead.{KeptHead}
use Rattle.sfc_output.specs.declared.kept_lines.Kept.{Kept}
use Rattle.sfc_output.specs.declared.kept_lines.ProgramMemory.{ProgramMemory}
use Rattle.sfc_output.specs.Memories.{AllRight, Fits, HeadsRight, TasksRight, heads_in, programs_in, tasks_in}
use Rattle.sfc_output.proofs.kept_lines.KeptLines.keep_tasks.Goals as goal

pub returns-in-Some : goal.returns-in-Some
unfolding Fits
returns-in-Some c fits =
    let plant = c.args.plant.now in
    let space : ℕ → Space = λ k. space_of plant (record { 0 = k }) in
    let tables : ℕ → Tabled = λ k. tables_of (chart_of plant (record { 0 = k })) in (
      c.keep_tasks.ensures.right (subst (λ (kept : Option Kept). TasksRight plant (tasks_in kept)) c.in-Some.is fits.0),
      subst (λ (heads : List KeptHead). HeadsRight plant heads) (ap (λ v. v.items) (sym c.keep_tasks.ensures.heads))
          (subst (λ (kept : Option Kept). HeadsRight plant (heads_in kept)) c.in-Some.is fits.1),
      subst (λ (programs : List ProgramMemory). AllRight space tables programs) (ap (λ v. v.items) (sym c.keep_tasks.ensures.programs))
          (subst (λ (kept : Option Kept). AllRight space tables (programs_in kept)) c.in-Some.is fits.2),
    )
