use Rattle.std.proofs.Common.{◌≡◌, take}
use Rattle.sfc_tables.specs.Departures.{first_steps}
use Rattle.sfc_tables.proofs.departures.list_firsts.Given as goal

abbrev pub invariant-loop-transition : goal.invariant-loop-transition
invariant-loop-transition l = record {
  firsts : l.firsts.items ≡ first_steps l.links (take l.transition-index l.ranked);
}
