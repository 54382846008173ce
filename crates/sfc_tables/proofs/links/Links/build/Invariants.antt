use Rattle.std.proofs.Common.{◌≡◌, ◌++◌, length, drop}
use Rattle.std.specs.Prelude.{map, All}
use Rattle.sfc_tables.specs.Tables.{sides_of}
use Rattle.sfc_tables.specs.Private.Parts.{sides_in, IsRange}
use Rattle.sfc_tables.proofs.links.Links.build.Given as goal

abbrev pub invariant-loop-transition : goal.invariant-loop-transition
invariant-loop-transition l = record {
  shown : map (sides_in l.steps.items) l.ranges.items ++ map sides_of (drop l.transition-index l.transitions) ≡ map sides_of l.transitions;
  within : All (IsRange (length l.steps.items)) l.ranges.items;
}
