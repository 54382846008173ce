use Rattle.std.proofs.Common.{◌≡◌, ◌≤◌, ◌-◌, ◌==◌, ◌++◌, List, length, map}
use Rattle.sfc_flags.specs.Cursors.{StandsAt}
use Rattle.sfc_flags.specs.Flags.{places_from}
use Rattle.sfc_debug.specs.sfc_image.Changes.{Change}
use Rattle.sfc_debug.specs.sfc_instance.Life.{InstanceState}
use Rattle.sfc_debug.specs.sfc_instance.Views.{tables_in, Shows}
use Rattle.sfc_output.specs.Lists.{listed}
use Rattle.sfc_output.specs.Programs.{step_text}
use Rattle.sfc_output.specs.Private.ListParts.{continued}
use Rattle.sfc_page.specs.Lines.{written}
use Rattle.sfc_output.proofs.program.put_steps.Given as goal

abbrev pub invariant-places : goal.invariant-places
invariant-places l = record {
  within : l.from ≤ length l.active;
  stands : StandsAt l.active l.from l.cursor;
  rest : (changes : List Change) (instance_state : InstanceState) → Shows l.view changes instance_state →
      written l.initial.out.items l.initial.line ++ listed (map (step_text l.names (tables_in l.view) instance_state) (places_from l.active 0))
      ≡ written l.out.items l.line ++ continued (l.from == 0) (map (step_text l.names (tables_in l.view) instance_state) (places_from l.active l.from));
}

abbrev pub decreases-places : goal.decreases-places
decreases-places l = length l.active - l.from
