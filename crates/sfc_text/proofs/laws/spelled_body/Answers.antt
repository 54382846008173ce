use Rattle.sfc_text.proofs.SpelledStatements.{body_derives}
use Rattle.sfc_text.proofs.laws.spelled_body.Goals as goal

pub returns : goal.returns
returns c = λ limits block rest h deep many. body_derives limits.operators block h limits.depth deep many rest
