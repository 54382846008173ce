use Rattle.std.proofs.Common.{[]}
use Rattle.sfc_instances.proofs.of_sfc_image.Typed.{stored_typed, read_typed, forced_typed}
use Rattle.sfc_core.specs.PlantState.{state_of}
use Rattle.sfc_core.specs.Verdict.{after_all}
use Rattle.sfc_core.proofs.Typed.{all_typed}
use Rattle.sfc_core.proofs.laws.types.Goals as goal

pub returns-clause-stored : goal.returns-clause-stored
returns-clause-stored c plant events id sound range =
    stored_typed plant (state_of plant (after_all plant [] events)).changes id.0 sound.begins (all_typed plant sound events range).given

pub returns-clause-reads : goal.returns-clause-reads
returns-clause-reads c plant events id sound range =
    read_typed plant (state_of plant (after_all plant [] events)).changes id.0 sound.begins (all_typed plant sound events range).given

pub returns-clause-forced : goal.returns-clause-forced
returns-clause-forced c plant events id sound range =
    forced_typed plant (state_of plant (after_all plant [] events)).changes id.0 (all_typed plant sound events range).given
