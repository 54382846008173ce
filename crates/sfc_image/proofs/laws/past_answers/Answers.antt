use Rattle.sfc_image.proofs.Pasts.{value_by, read_by, release_by, environment_by}
use Rattle.sfc_image.proofs.laws.past_answers.Goals as goal

pub returns-clause-value : goal.returns-clause-value
returns-clause-value c plant changes other i lt e = value_by plant changes other e i lt

pub returns-clause-read : goal.returns-clause-read
returns-clause-read c plant changes other id e = read_by plant changes other e id

pub returns-clause-release : goal.returns-clause-release
returns-clause-release c plant changes other id e = release_by plant changes other e id

pub returns-clause-environment : goal.returns-clause-environment
returns-clause-environment c plant changes other p moment e = environment_by plant changes other p e moment
