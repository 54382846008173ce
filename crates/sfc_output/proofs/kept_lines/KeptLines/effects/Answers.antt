use Rattle.std.proofs.Common.{Option, ℕ, subst}
use Rattle.sfc_plant.specs.Finding.{chart_of}
use Rattle.sfc_plant.specs.InstanceSpaces.{space_of}
use Rattle.sfc_plant.specs.Spaces.{Space}
use Rattle.sfc_debug.specs.sfc_tables.Tables.{Tabled, tables_of}
use Rattle.sfc_output.specs.declared.kept_lines.Kept.{Kept}
use Rattle.sfc_output.specs.Memories.{AllRight, Fits, programs_in}
use Rattle.sfc_output.proofs.kept_lines.KeptLines.effects.Goals as goal

pub returns-in-Some : goal.returns-in-Some
unfolding Fits
returns-in-Some c plant fits =
    let space : ℕ → Space = λ k. space_of plant (record { 0 = k }) in
    let tables : ℕ → Tabled = λ k. tables_of (chart_of plant (record { 0 = k })) in
    c.at.ensures space tables (subst (λ (kept : Option Kept). AllRight space tables (programs_in kept)) c.in-Some.is fits.2)
