use Rattle.std.proofs.Common.{◌≡◌, ◌+◌, ◌≤◌, List, drop, ℤ}
use Rattle.sfc_plant.specs.Plants.{PlantData}
use Rattle.sfc_image.specs.Changes.{Change, trying}
use Rattle.sfc_image.specs.Agreement.{ImageAgrees, IsAsLarge, is_open}
use Rattle.sfc_instance.specs.Life.{Life}
use Rattle.sfc_instance.specs.Work.{actions_work}
use Rattle.sfc_instance.specs.Private.Acting.{IsAfter, Follows}
use Rattle.sfc_instance.proofs.placing.find_from.Given as goal

abbrev pub invariant-loop-action : goal.invariant-loop-action
invariant-loop-action l =
    let targets = l.acting.context.tables.now.actions in
    record {
      large : IsAsLarge l.fn.image l.image;
      «open» : is_open l.image ≡ is_open l.fn.image;
      agrees : (plant : PlantData) (life : Life) (t : ℤ) (committed tried : List Change) → IsAfter plant l.acting life t →
          ImageAgrees plant l.fn.image (trying committed tried) →
          Follows plant l.acting.context.instance life t committed targets l.from tried l.action l.image;
      from : l.first ≤ l.action;
      rises : l.fn.ticks.count ≤ l.ticks.count;
      ticks : l.ticks.count + actions_work l.acting.context.chart.now (drop l.action targets) + l.action
          ≤ l.fn.ticks.count + actions_work l.acting.context.chart.now (drop l.from targets) + l.from;
      high : l.from ≤ l.action;
    }
