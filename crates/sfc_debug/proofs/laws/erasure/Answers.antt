use Rattle.sfc_debug.proofs.Erasing.{same_answers, same_reads, all_answers}
use Rattle.sfc_debug.proofs.laws.erasure.Goals as goal

pub returns-clause-answer : goal.returns-clause-answer
returns-clause-answer c plant table h g command event r s same is in_h in_g instant =
    same_answers plant table h g command event r s same is in_h in_g instant

pub returns-clause-read : goal.returns-clause-read
returns-clause-read c plant table h g id r s same in_h in_g = same_reads plant table h g id r s same in_h in_g

pub returns-clause-answers : goal.returns-clause-answers
returns-clause-answers c plant table h accepted = all_answers plant table h accepted
