use Rattle.sfc_check.proofs.AnyCase.{found_same}
use Rattle.sfc_check.proofs.laws.names_in_any_case.Goals as goal

pub returns : goal.returns
returns c names one other ignores same = found_same names ignores one.name other.name same.name one.part other.part same.part
