-- How much a scan handles, at most: steps, associations and actions. Actions are handled 64 at once, which counts as one.
use Rattle.std.specs.Prelude.{ℕ, ◌+◌, ◌*◌, length}
use Rattle.sfc_tables.specs.Tables.{Tabled}

-- of action control in a scan that reads its inputs
abbrev pub step_work : Tabled → ℕ
step_work tables = length tables.initial + 6 * length tables.associations + 4 * length tables.actions

-- of action control in a scan, which may ask first whether it is at rest
abbrev pub control_work : Tabled → ℕ
control_work tables = step_work tables + length tables.actions

-- of a copy
abbrev pub copy_work : Tabled → ℕ
copy_work tables = length tables.actions + length tables.associations
