use Rattle.sfc_dap.proofs.Hits.{another, go_at_once}
use Rattle.sfc_dap.proofs.laws.hit_and_go.Goals as goal

pub returns-clause-go : goal.returns-clause-go
returns-clause-go c plant table h g task raw alike running miss hit = go_at_once plant table h g task raw alike running miss hit

pub returns-clause-other : goal.returns-clause-other
returns-clause-other c plant table h g command raw alike miss missed = another plant table h g command raw alike miss missed
