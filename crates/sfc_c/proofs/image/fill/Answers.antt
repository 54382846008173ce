use Rattle.std.proofs.Common.{◌≡◌, ◌<◌, ◌+◌, ◌∙◌, ◌++◌, ℕ, List, [], ◌∷◌, ap, arith, length, map, sym}
use Rattle.std.specs.List.{range_with_len, slice_set}
use Rattle.std.proofs.lemmas.Grind.{drop_more_same}
use Rattle.std.proofs.lemmas.List.{drop-set-lt, take_more_set}
use Rattle.std.proofs.lemmas.List.FromFn.{map-range_with_len_more}
use Rattle.sfc_events.specs.History.{History}
use Rattle.sfc_plant.specs.Plants.{PlantData}
use Rattle.sfc_replay.specs.sfc_core.Agreement.{plant_of}
use Rattle.sfc_c.specs.declared.image.VariableState.{VariableState}
use Rattle.sfc_c.specs.Readings.{HasStates, variable_state}
use Rattle.sfc_c.proofs.image.fill.Goals as goal

-- one variable more
one_more : (plant : PlantData) (h : History) (k : ℕ) (old new : List VariableState) (x : VariableState) → k < length new
    → x ≡ variable_state plant h k → HasStates plant h k old new → HasStates plant h (k + 1) old (slice_set new k x)
one_more plant h k old new x lt e has = record {
  states = take_more_set new k x lt ∙ ap (λ xs. xs ++ x ∷ []) has.states ∙ ap (λ y. map (variable_state plant h) (range_with_len 0 k) ++ y ∷ []) e
      ∙ sym (map-range_with_len_more (variable_state plant h) 0 k k (omega arith));
  others = drop-set-lt (k + 1) new k x (omega arith) ∙ drop_more_same new old k has.others;
}

pub loop-k-preserved : goal.loop-k-preserved
loop-k-preserved c h agrees =
    let lt : c.loop-k.k < length c.loop-k.into =
    omega (arith, c.loop-k-test.true, c.loop-k.auto.into, c.variables-k-end.ensures.count, c.requires) in
    one_more (plant_of c.args.resource.now) h c.loop-k.k c.args.into.now c.loop-k.into c.variable_state.result lt
    (c.variable_state.ensures h agrees) (c.loop-k.invariant h agrees)
