use Rattle.sfc_image.proofs.Happened.{forces_left, values_left}
use Rattle.sfc_image.proofs.laws.undoing.Goals as goal

pub returns-clause-forces : goal.returns-clause-forces
returns-clause-forces c tried committed i all = forces_left tried committed i all

pub returns-clause-values : goal.returns-clause-values
returns-clause-values c plant tried committed i written turned = values_left plant tried committed i written turned
