use Rattle.std.proofs.Common.{◌<◌, ◌∙◌, ap, length, List, ℕ, [], arith}
use Rattle.std.specs.Prelude.{slice_index_or}
use Rattle.std.proofs.lemmas.List.FromFn.{get_or-map-range_with_len}
use Rattle.sfc_tables.specs.Departures.{departures}
use Rattle.sfc_tables.specs.Tables.{Tabled}
use Rattle.sfc_tables.specs.Private.Blocks.{tabled}
use Rattle.sfc_tables.proofs.tables.Tables.departures.Goals as goal

pub returns : goal.returns
returns c =
    let s = c.args.step.0 in
    let tables : Tabled = tabled c.self.inside.initial.items c.self.inside.links c.self.inside.least_times.items c.self.inside.ranked.items c.self.inside.blocks in
    let same = ap (λ (t : Tabled). length t.initial) c.self.view_is in
    let lt : s < length tables.initial = omega (arith, same, c.requires) in
    c.of_group.ensures
    ∙ ap (λ (lists : List (List ℕ)). slice_index_or lists s []) c.self.invariant.places
    ∙ get_or-map-range_with_len (departures tables) 0 (length tables.initial) s s [] lt (omega arith)
    ∙ ap (λ (t : Tabled). departures t s) c.self.view_is
