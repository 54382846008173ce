-- The numbers of seats.
use Rattle.std.specs.Prelude.{ℕ, slice_index_or}
use Rattle.sfc_control.specs.declared.seat_counts.SeatCounts.{SeatCounts}

abbrev pub count_in : SeatCounts → ℕ → ℕ
count_in counts k = slice_index_or counts.counts.items k 0
