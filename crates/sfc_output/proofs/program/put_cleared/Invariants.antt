use Rattle.std.proofs.Common.{◌≡◌, ◌≤◌, ◌-◌, ◌++◌, length, map}
use Rattle.sfc_flags.specs.Flags.{places_from}
use Rattle.sfc_output.specs.Lists.{listed}
use Rattle.sfc_output.specs.Private.ListParts.{continued}
use Rattle.sfc_output.specs.Programs.{transition_text}
use Rattle.sfc_page.specs.Lines.{written}
use Rattle.sfc_output.proofs.program.put_cleared.Given as goal

abbrev pub invariant-places : goal.invariant-places
invariant-places l = record {
  within : l.from ≤ length l.cleared;
  rest : written l.initial.out.items l.initial.line ++ listed (map transition_text (places_from l.cleared 0))
      ≡ written l.out.items l.line ++ continued l.is_first (map transition_text (places_from l.cleared l.from));
}

abbrev pub decreases-places : goal.decreases-places
decreases-places l = length l.cleared - l.from
