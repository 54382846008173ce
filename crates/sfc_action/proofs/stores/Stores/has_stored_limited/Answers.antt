use Rattle.std.proofs.Common.{ap, refl, ◌∙◌}
use Rattle.sfc_action.specs.Private.Rows.{StoreRow}
use Rattle.sfc_action.proofs.stores.Stores.has_stored_limited.Goals as goal

pub returns : goal.returns
returns c = c.get.ensures ∙ ap (λ (r : StoreRow). r.stored_limited) (c.words.ensures c.args.action refl)
