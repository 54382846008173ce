use Rattle.std.proofs.Common.{◌≡◌, drop, []}
use Rattle.sfc_tables.specs.Actions.{booleans_of, associations_in}
use Rattle.sfc_tables.specs.Private.Listing.{with_booleans}
use Rattle.sfc_tables.proofs.action_list.boolean_actions.Given as goal

abbrev pub invariant-loop-step : goal.invariant-loop-step
invariant-loop-step l = record {
  rest : with_booleans l.booleans.keys (booleans_of (associations_in (drop l.step-index l.steps)))
      ≡ with_booleans [] (booleans_of (associations_in l.steps));
}
