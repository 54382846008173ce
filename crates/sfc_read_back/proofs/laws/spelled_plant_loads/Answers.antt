use Rattle.sfc_read_back.proofs.WrittenPlants.{loads_again}
use Rattle.sfc_read_back.proofs.laws.spelled_plant_loads.Goals as goal

pub returns : goal.returns
returns c = record { passes = λ tree e. (loads_again tree e).checks; equal = λ tree e. (loads_again tree e).built }
