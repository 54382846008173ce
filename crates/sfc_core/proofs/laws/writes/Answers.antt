use Rattle.std.proofs.Common.{◌∙◌, List, ap}
use Rattle.sfc_instances.specs.sfc_image.Changes.{Change}
use Rattle.sfc_instances.specs.sfc_image.Values.{stored_value}
use Rattle.sfc_instances.proofs.of_sfc_image.Happened.{store_is_latest}
use Rattle.sfc_core.specs.PlantState.{state_of}
use Rattle.sfc_core.proofs.Grows.{history_grows}
use Rattle.sfc_core.proofs.laws.writes.Goals as goal

pub returns-clause-stays : goal.returns-clause-stays
returns-clause-stays c plant later h = history_grows plant later h

pub returns-clause-latest : goal.returns-clause-latest
returns-clause-latest c plant later h id v t recent e all =
    ap (λ (xs : List Change). stored_value plant xs id.0) e ∙ store_is_latest plant recent (state_of plant h).changes id v all
