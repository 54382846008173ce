use Rattle.sfc_read_back.proofs.WrittenAgain.{checked_again}
use Rattle.sfc_read_back.proofs.laws.spelled_expression_checks.Goals as goal

pub returns : goal.returns
returns c = checked_again
