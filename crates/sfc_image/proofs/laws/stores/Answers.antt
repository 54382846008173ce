use Rattle.sfc_image.proofs.Happened.{store_is_latest, reset_is_latest, never_written}
use Rattle.sfc_image.proofs.laws.stores.Goals as goal

pub returns-clause-latest : goal.returns-clause-latest
returns-clause-latest c plant later earlier id v all = store_is_latest plant later earlier id v all

pub returns-clause-reset : goal.returns-clause-reset
returns-clause-reset c plant later earlier p i local all = reset_is_latest plant later earlier p i local all

pub returns-clause-never : goal.returns-clause-never
returns-clause-never c plant changes i all = never_written plant changes i all
