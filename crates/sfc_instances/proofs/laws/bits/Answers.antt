use Rattle.sfc_instances.proofs.EndBits.{bit_says, no_bit_beyond}
use Rattle.sfc_instances.proofs.laws.bits.Goals as goal

pub returns-clause-instances : goal.returns-clause-instances
returns-clause-instances c how plant task t state k instance is = bit_says how plant task t state k instance is

pub returns-clause-others : goal.returns-clause-others
returns-clause-others c how plant task t state k le = no_bit_beyond how plant task t state k le
