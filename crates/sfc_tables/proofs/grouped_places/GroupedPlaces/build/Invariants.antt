use Rattle.std.proofs.Common.{◌≡◌, ◌<◌, ◌==◌, ℕ, [], length}
use Rattle.std.specs.Prelude.{filter, slice_index_or}
use Rattle.std.specs.List.{range_with_len}
use Rattle.sfc_tables.proofs.grouped_places.GroupedPlaces.build.Given as goal

abbrev pub invariant-loop-place : goal.invariant-loop-place
invariant-loop-place l = record {
  len : length l.places ≡ l.groups;
  lists : (s : ℕ) → s < l.groups
      → slice_index_or l.places s [] ≡ filter (λ j. slice_index_or l.numbers j 0 == s) (range_with_len 0 l.place);
}
