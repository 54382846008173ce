use Rattle.sfc_judge.specs.Moments.{opening}
use Rattle.sfc_judge.proofs.Scripts.{as_script}
use Rattle.sfc_judge.proofs.laws.a_case_is_a_script.Goals as goal

pub returns : goal.returns
returns c steered lines = as_script steered opening lines
