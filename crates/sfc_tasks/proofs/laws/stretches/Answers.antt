use Rattle.sfc_tasks.proofs.Cutting.{cut, one_cut, one_each}
use Rattle.sfc_tasks.proofs.laws.stretches.Goals as goal

pub returns-clause-some : goal.returns-clause-some
returns-clause-some c k calls = let it = cut k calls in (it.since, (it.ended, it.are))

pub returns-clause-one : goal.returns-clause-one
returns-clause-one c k calls since other ended others a b = one_cut k calls since other ended others a b

pub returns-clause-scans : goal.returns-clause-scans
returns-clause-scans c k calls since ended h = one_each k calls since ended h
