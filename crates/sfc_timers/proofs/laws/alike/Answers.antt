use Rattle.sfc_timers.proofs.Alike as lemmas
use Rattle.sfc_timers.proofs.laws.alike.Goals as goal

pub returns : goal.returns
returns c a b e = lemmas.alike a b e
