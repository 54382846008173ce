use Rattle.std.proofs.Common.{◌≡◌, ◌-◌, length}
use Rattle.std.specs.List.{list_all, range_with_len}
use Rattle.sfc_plant.specs.Finding.{chart_of}
use Rattle.sfc_replay.specs.sfc_tables.Tables.{tables_of}
use Rattle.sfc_judge.specs.Holding.{are_active, is_as_told}
use Rattle.sfc_judge.specs.Moments.{Moment}
use Rattle.sfc_judge.specs.Running.Benches.{Stands, steered_in}
use Rattle.sfc_judge.proofs.bench.Bench.are_active.Given as goal

abbrev pub invariant-steps : goal.invariant-steps
invariant-steps l = (m : Moment) → Stands l.self m → are_active (steered_in l.self) m l.fn.program l.steps
    ≡ list_all (is_as_told (steered_in l.self) m l.fn.program l.steps)
    (range_with_len l.number (length (tables_of (chart_of (steered_in l.self).plant l.fn.program)).initial - l.number))
