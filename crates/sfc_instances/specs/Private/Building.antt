-- What the instances of a plant are built of.
use Rattle.std.specs.Prelude.{ℕ, ◌≡◌, List, Some, slice_get, slice_index_or}
use Rattle.sfc_instance.specs.sfc_tables.Tables.{Tabled}
use Rattle.sfc_plant.specs.declared.instance.Instance.{Instance}
use Rattle.sfc_instance.specs.declared.program.Program.{Program}
use Rattle.sfc_instance.specs.Agreement.{IsFor, ProgramAgrees}
use Rattle.sfc_instance.specs.Life.{fresh}

-- it is large enough for these tables, and agrees with an instance that wasn't scanned yet
pub record IsOpened (tables : Tabled) (program : Program) : Type 0 where
  pub sizes : IsFor tables program
  pub agrees : ProgramAgrees tables program fresh

-- so does each of these programs, with the tables of its instance's type
abbrev pub AreOpened : List Tabled → List Instance → List Program → Type 0
AreOpened tables instances programs =
    (k : ℕ) (instance : Instance) (tabled : Tabled) (d : Program) → slice_get instances k ≡ Some instance →
    slice_get tables instance.program.0 ≡ Some tabled → IsOpened tabled (slice_index_or programs k d)
