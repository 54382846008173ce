use Rattle.std.proofs.Common.{◌≡◌, ◌≤◌, ◌-◌, ◌++◌, length, map}
use Rattle.sfc_flags.specs.Flags.{places_from}
use Rattle.sfc_output.specs.Lists.{listed}
use Rattle.sfc_output.specs.Private.ListParts.{continued}
use Rattle.sfc_debug.specs.sfc_tables.ActionNames.{numbered_action}
use Rattle.sfc_page.specs.Lines.{written}
use Rattle.sfc_output.proofs.program.put_executed.Given as goal

abbrev pub invariant-places : goal.invariant-places
invariant-places l = record {
  within : l.from ≤ length l.executed;
  rest : written l.initial.out.items l.initial.line ++ listed (map (numbered_action l.names l.tables) (places_from l.executed 0))
      ≡ written l.out.items l.line ++ continued l.is_first (map (numbered_action l.names l.tables) (places_from l.executed l.from));
}

abbrev pub decreases-places : goal.decreases-places
decreases-places l = length l.executed - l.from
