use Rattle.std.proofs.Common.{◌≡◌, drop}
use Rattle.sfc_base.specs.Ticks.{Within}
use Rattle.sfc_action.specs.ActionControl.{first_in}
use Rattle.sfc_action.specs.Private.Failing.{fault_at}
use Rattle.sfc_action.proofs.faults.search.Given as goal

abbrev pub invariant-loop-association : goal.invariant-loop-association
invariant-loop-association l = record {
  rest : first_in (fault_at l.inputs l.stores) (drop l.association-index l.associations)
      ≡ first_in (fault_at l.inputs l.stores) l.associations;
  ticks : Within l.association-index l.initial.ticks l.ticks;
}
