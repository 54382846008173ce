use Rattle.std.proofs.Common.{◌≡◌, drop}
use Rattle.sfc_tables.specs.Actions.{booleans_of}
use Rattle.sfc_tables.specs.Private.Listing.{with_booleans}
use Rattle.sfc_tables.proofs.action_list.note_all.Given as goal

abbrev pub invariant-loop-association : goal.invariant-loop-association
invariant-loop-association l = record {
  rest : with_booleans l.booleans.keys (booleans_of (drop l.association-index l.associations))
      ≡ with_booleans l.initial.booleans.keys (booleans_of l.associations);
}
