-- Times of less than a minute.
use Rattle.std.specs.Prelude.{ℕ, List, ◌++◌, ◌/◌, ◌%◌, ◌==◌}
use Rattle.sfc_base.specs.declared.unit.Unit.TheVariants.{Second}
use Rattle.sfc_base.specs.TimeText.{milliseconds_text, part_text}

-- the seconds and the milliseconds of less than a minute
unfoldable pub seconds_text : ℕ → List ℕ
seconds_text v = part_text (v / 1000000) Second (v % 1000000 == 0) ++ milliseconds_text (v % 1000000)
