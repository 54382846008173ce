use Rattle.std.proofs.Common.{◌≡◌}
use Rattle.sfc_replay.specs.sfc_image.Agreement.{IsAsLarge, is_open}
use Rattle.sfc_cover.proofs.stage.walk_actions.Given as goal

abbrev pub invariant-loop-number : goal.invariant-loop-number
invariant-loop-number l = record { large : IsAsLarge l.initial.image l.image; «open» : is_open l.image ≡ is_open l.initial.image }
