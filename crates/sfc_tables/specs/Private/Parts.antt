-- Where the links of transitions lie in one flat list.
use Rattle.std.specs.Prelude.{ℕ, ◌≤◌, List, slice_range}
use Rattle.sfc_base.specs.declared.references.StepId.{StepId}
use Rattle.sfc_tables.specs.declared.links.Range.{Range}
use Rattle.sfc_tables.specs.Tables.{Sides}

abbrev pub sides_in : List StepId → Range → Sides
sides_in steps range = record {
  preceding = slice_range steps range.start range.middle;
  following = slice_range steps range.middle range.end;
}

-- within a list of n steps
pub record IsRange (n : ℕ) (range : Range) : Type 0 where
  pub rises : range.start ≤ range.middle
  pub still : range.middle ≤ range.end
  pub within : range.end ≤ n
