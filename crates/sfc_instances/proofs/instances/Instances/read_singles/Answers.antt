use Rattle.std.proofs.Common.{◌≡◌, ◌∙◌, ◌+◌, ◌<◌, ℕ, Bool, List, [], ◌∷◌, ◌++◌, ap, arith, get_or, length, map, slice_set, subst, sym, take}
use Rattle.std.proofs.lemmas.List.{map_more, take-map, take_more_set}
use Rattle.sfc_plant.specs.declared.task.Task.{Task}
use Rattle.sfc_plant.specs.Plants.{PlantData}
use Rattle.sfc_instance.specs.sfc_image.Changes.{Change}
use Rattle.sfc_instances.specs.Singles.{single_in, singles_in}
use Rattle.sfc_instances.proofs.instances.Instances.read_singles.Goals as goal

-- one task more
more_singles : (plant : PlantData) (changes : List Change) (tasks : List Task) (singles : List Bool) (k : ℕ) (task : Task) (b : Bool)
    → tasks ≡ plant.tasks → k < length tasks → k < length singles → task ≡ get_or tasks k task
    → b ≡ single_in plant changes (get_or tasks k task).single → take k singles ≡ take k (singles_in plant changes)
    → take (k + 1) (slice_set singles k b) ≡ take (k + 1) (singles_in plant changes)
more_singles plant changes tasks singles k task b e lt within is single before =
    let read = λ (x : Task). single_in plant changes x.single in
    let there : k < length plant.tasks = subst (λ (xs : List Task). k < length xs) e lt in
    take_more_set singles k b within
    ∙ ap (λ (xs : List Bool). xs ++ b ∷ []) (before ∙ take-map read k plant.tasks)
    ∙ ap (λ (x : Bool). map read (take k plant.tasks) ++ x ∷ []) (single ∙ ap (λ (xs : List Task). read (get_or xs k task)) e)
    ∙ sym (take-map read (k + 1) plant.tasks ∙ map_more read plant.tasks k task there)

pub loop-k-preserved : goal.loop-k-preserved
loop-k-preserved c =
    let within : c.loop-k.k < length c.loop-k.singles =
    omega (arith, c.loop-k-test.true, c.loop-k.auto.singles, c.requires.len, ap length c.tasks-tasks.ensures.value) in
    record {
      low = omega (arith, c.loop-k.invariant.low, c.tick.ensures);
      high = omega (arith, c.loop-k.invariant.high, c.tick.ensures);
      singles = λ state h.
          more_singles c.args.plant.now state.changes c.tasks-tasks.result.now c.loop-k.singles c.loop-k.k c.index-tasks-k.result
          c.single.result c.tasks-tasks.ensures.value c.loop-k-test.true within c.index-tasks-k.is
          (c.single.ensures c.args.plant.now state h) (c.loop-k.invariant.singles state h);
    }
