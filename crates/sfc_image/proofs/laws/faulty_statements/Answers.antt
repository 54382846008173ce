use Rattle.sfc_expr.specs.Effect.{effect}
use Rattle.sfc_image.specs.BodyFaults.{statements_done}
use Rattle.sfc_image.proofs.BodyFaults.{ends_before, ends_there, told_exactly}
use Rattle.sfc_image.proofs.laws.faulty_statements.Goals as goal

pub returns-clause-before : goal.returns-clause-before
returns-clause-before c = ends_before

pub returns-clause-there : goal.returns-clause-there
returns-clause-there c = ends_there

pub returns-clause-exactly : goal.returns-clause-exactly
returns-clause-exactly c body env = told_exactly (effect body env).result (statements_done body env)
