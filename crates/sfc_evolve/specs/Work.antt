-- How much a scan handles, at most: steps, transitions, and links of transitions to steps.
use Rattle.std.specs.Prelude.{ℕ, ◌+◌, ◌*◌, length, sum_by}
use Rattle.sfc_tables.specs.Tables.{Sides, Tabled}

abbrev pub links : Tabled → ℕ
links tables = sum_by (λ (sides : Sides). length sides.preceding + length sides.following) tables.sides

-- of a scan
abbrev pub advance_work : Tabled → ℕ
advance_work tables = 5 * length tables.initial + 5 * length tables.sides + 5 * links tables
