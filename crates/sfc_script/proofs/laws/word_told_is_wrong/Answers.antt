use Rattle.sfc_script.proofs.ToldPlaces.{wrong_there}
use Rattle.sfc_script.proofs.laws.word_told_is_wrong.Goals as goal

pub returns : goal.returns
returns c = wrong_there
