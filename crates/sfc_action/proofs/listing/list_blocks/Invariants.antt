use Rattle.std.proofs.Common.{◌≡◌, ◌<◌, ◌≤◌, ℕ, [], length, drop}
use Rattle.std.specs.Prelude.{slice_index_or, map}
use Rattle.sfc_tables.specs.declared.step_action.StepAction.{StepAction}
use Rattle.sfc_action.specs.Private.Keeping.{IsCovered, delay_of}
use Rattle.sfc_action.specs.Private.DelayLists.{with_delays}
use Rattle.sfc_action.specs.Private.Listing.{IsListing}
use Rattle.sfc_action.proofs.listing.list_blocks.Given as goal

abbrev pub invariant-loop-association : goal.invariant-loop-association
invariant-loop-association l = record {
  sized : length l.seen.limited ≡ length l.initial.seen.limited;
  listing : IsListing (length l.initial.seen.limited) l.seen l.blocks.items;
  delays : with_delays (map delay_of l.blocks.items) (drop l.association-index l.associations)
      ≡ with_delays [] l.associations;
  few : length l.blocks.items ≤ l.association-index;
  covered : (k : ℕ) (d : StepAction) → k < l.association-index → IsCovered l.blocks.items (slice_index_or l.associations k d);
}
