use Rattle.sfc_instances.proofs.Pasts.{bits_by, singles_by}
use Rattle.sfc_instances.proofs.laws.past_answers.Goals as goal

pub returns-clause-bits : goal.returns-clause-bits
returns-clause-bits c how plant task t state other sound e = bits_by plant task t sound how state other e

pub returns-clause-singles : goal.returns-clause-singles
returns-clause-singles c plant state other sound e = singles_by plant state other sound e
