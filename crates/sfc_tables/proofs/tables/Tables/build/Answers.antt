use Rattle.std.proofs.Common.{◌≡◌, ◌∙◌, ap, refl, sym, length, subst, List, arith}
use Rattle.std.specs.Prelude.{map}
use Rattle.std.proofs.lemmas.List.{length-map}
use Rattle.sfc_plant.specs.declared.chart.Chart.{Chart}
use Rattle.sfc_plant.specs.declared.chart.Step.{Step}
use Rattle.sfc_plant.specs.declared.chart.Transition.{Transition}
use Rattle.std.specs.List.{range_with_len}
use Rattle.sfc_tables.specs.LeastTimes.{least_time_of}
use Rattle.sfc_tables.specs.Places.{places_of}
use Rattle.sfc_tables.specs.Departures.{first_steps}
use Rattle.sfc_tables.specs.Ranks.{priorities_of, IsRankOrder}
use Rattle.sfc_tables.specs.Tables.{Tabled, sides_of, least_times_of, tables_of, IsTablesOf, AreTables}
use Rattle.sfc_tables.specs.Private.Blocks.{tabled}
use Rattle.sfc_tables.proofs.RankOrders.{ranked_is}
use Rattle.sfc_tables.proofs.Sound.{tables_sound}
use Rattle.sfc_tables.proofs.Departing.{ranked_within}
use Rattle.sfc_tables.proofs.tables.Tables.build.Goals as goal
use Rattle.sfc_tables.proofs.tables.Tables.build.Goals.{After-deref}

tables_are : (chart : Chart) (tables : Tabled) → IsTablesOf chart tables → tables ≡ tables_of chart
tables_are chart tables made =
    let ranked = ranked_is (priorities_of chart.transitions) tables.ranked made.ranked in
    rw (← made.associations, ← made.actions, ← ranked, ← made.least_times, ← made.sides, ← made.initial) refl

made_before : (c : After-deref)
    → IsTablesOf c.args.chart.now
    (tabled c.in_ok-initial.initial.items c.in_ok-links.links c.in_ok-least_times.least_times.items c.in_ok-ranked.ranked.items c.in_ok-blocks.blocks)
made_before c = record {
  initial = c.in_ok-initial.ensures ∙ ap (map (λ (step : Step). step.is_initial)) c.as_slice.ensures;
  sides = c.in_ok-links.ensures ∙ ap (map sides_of) c.as_slice-2.ensures;
  least_times = c.in_ok-least_times.ensures ∙ ap least_times_of c.as_slice-3.ensures;
  ranked = subst (λ (ts : List Transition). IsRankOrder (map (λ (t : Transition). t.priority) ts) c.in_ok-ranked.ranked.items)
      c.as_slice-4.ensures c.in_ok-ranked.ensures;
  actions = ap (λ blocks. blocks.actions) c.in_ok-blocks.ensures;
  associations = ap (λ blocks. blocks.associations) c.in_ok-blocks.ensures;
}

sound_before : (c : After-deref)
    → AreTables (tabled c.in_ok-initial.initial.items c.in_ok-links.links c.in_ok-least_times.least_times.items c.in_ok-ranked.ranked.items c.in_ok-blocks.blocks)
sound_before c =
    tables_sound c.requires.chart.0 c.args.chart.now c.requires.chart.1
    (tabled c.in_ok-initial.initial.items c.in_ok-links.links c.in_ok-least_times.least_times.items c.in_ok-ranked.ranked.items c.in_ok-blocks.blocks) (made_before c)

made : (c : goal.In_ok-departures)
    → IsTablesOf c.args.chart.now
    (tabled c.in_ok-initial.initial.items c.in_ok-links.links c.in_ok-least_times.least_times.items c.in_ok-ranked.ranked.items c.in_ok-blocks.blocks)
made c = record {
  initial = c.in_ok-initial.ensures ∙ ap (map (λ (step : Step). step.is_initial)) c.as_slice.ensures;
  sides = c.in_ok-links.ensures ∙ ap (map sides_of) c.as_slice-2.ensures;
  least_times = c.in_ok-least_times.ensures ∙ ap least_times_of c.as_slice-3.ensures;
  ranked = subst (λ (ts : List Transition). IsRankOrder (map (λ (t : Transition). t.priority) ts) c.in_ok-ranked.ranked.items)
      c.as_slice-4.ensures c.in_ok-ranked.ensures;
  actions = ap (λ blocks. blocks.actions) c.in_ok-blocks.ensures;
  associations = ap (λ blocks. blocks.associations) c.in_ok-blocks.ensures;
}

sound : (c : goal.In_ok-departures)
    → AreTables (tabled c.in_ok-initial.initial.items c.in_ok-links.links c.in_ok-least_times.least_times.items c.in_ok-ranked.ranked.items c.in_ok-blocks.blocks)
sound c =
    tables_sound c.requires.chart.0 c.args.chart.now c.requires.chart.1
    (tabled c.in_ok-initial.initial.items c.in_ok-links.links c.in_ok-least_times.least_times.items c.in_ok-ranked.ranked.items c.in_ok-blocks.blocks) (made c)

pub invariant_of-result : goal.invariant_of-result
invariant_of-result c = record {
  tables = sound c;
  same_times =
      ap length (c.in_ok-least_times.ensures ∙ ap least_times_of c.as_slice-3.ensures)
      ∙ length-map c.args.chart.now.transitions (λ (t : Transition). least_time_of t.condition)
      ∙ sym (ap length (c.in_ok-links.ensures ∙ ap (map sides_of) c.as_slice-2.ensures) ∙ length-map c.args.chart.now.transitions sides_of);
  steps =
      ap (λ blocks. blocks.steps) c.in_ok-blocks.ensures
      ∙ sym (ap length (c.in_ok-initial.ensures ∙ ap (map (λ (step : Step). step.is_initial)) c.as_slice.ensures)
      ∙ length-map c.args.chart.now.steps (λ (step : Step). step.is_initial));
  places =
      (let long : c.len.result ≡ length c.in_ok-initial.initial.items = omega arith in
      c.in_ok-departures.ensures
      ∙ (λ i. map (places_of (first_steps c.in_ok-links.links (c.deref.ensures.value i))) (range_with_len 0 (long i))));
}

pub list_departures-requires : goal.list_departures-requires
list_departures-requires c =
    record {
      within = rw c.deref.ensures.value
          (ranked_within
          (tabled c.in_ok-initial.initial.items c.in_ok-links.links c.in_ok-least_times.least_times.items c.in_ok-ranked.ranked.items c.in_ok-blocks.blocks) (sound_before c));
    }

pub returns-clause-relation : goal.returns-clause-relation
returns-clause-relation c = made c

pub returns-clause-tables : goal.returns-clause-tables
returns-clause-tables c = tables_are _ _ (made c)
