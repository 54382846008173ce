use Rattle.sfc_load.proofs.Soundness.{built_sound}
use Rattle.sfc_load.proofs.load.load_with_place.Goals as goal

pub assemble-requires-clause-sound : goal.assemble-requires-clause-sound
assemble-requires-clause-sound c = built_sound c.args.source.now _ c.in_ok-parts.ensures.loads.0 c.in_ok-parts.ensures.loads.1
