use Rattle.sfc_image.proofs.Happened.{force_hides, release_shows}
use Rattle.sfc_image.proofs.laws.forces.Goals as goal

pub returns-clause-hides : goal.returns-clause-hides
returns-clause-hides c plant later earlier id v all = force_hides plant later earlier id v all

pub returns-clause-shows : goal.returns-clause-shows
returns-clause-shows c plant changes id = release_shows plant changes id
