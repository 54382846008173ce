use Rattle.sfc_action.specs.ActionControl.{P1, P0, input, q, rises, falls}
use Rattle.std.proofs.Common.{◌∷◌}
use Rattle.sfc_action.proofs.Choices.{without_edges}
use Rattle.sfc_action.proofs.laws.final_scan.Goals as goal

pub returns : goal.returns
returns c tables a scan h no_rise no_fall =
    without_edges (q tables a h) (q tables a (scan ∷ h)) (rises (input tables a P1) (scan ∷ h)) (falls (input tables a P0) (scan ∷ h))
    no_rise no_fall
