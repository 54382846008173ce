use Rattle.sfc_image.proofs.Typed.{stored_typed, forced_typed, read_typed, environment_typed, left_typed_by}
use Rattle.sfc_image.proofs.laws.types.Goals as goal

pub returns-clause-stored : goal.returns-clause-stored
returns-clause-stored c plant changes i typed all = stored_typed plant changes i typed all

pub returns-clause-forced : goal.returns-clause-forced
returns-clause-forced c plant changes i all = forced_typed plant changes i all

pub returns-clause-reads : goal.returns-clause-reads
returns-clause-reads c plant changes i typed all = read_typed plant changes i typed all

pub returns-clause-environment : goal.returns-clause-environment
returns-clause-environment c plant changes p moment typed all times = environment_typed plant changes p moment typed all times

pub returns-clause-body : goal.returns-clause-body
returns-clause-body c plant p env gives = left_typed_by plant p env gives
