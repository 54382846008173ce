use Rattle.std.proofs.Common.{◌++◌}
use Rattle.sfc_core.proofs.Pasts.{past_cut, value_by, force_by, life_by, waits_by, picked_by, overruns_by, verdict_cut}
use Rattle.sfc_core.proofs.laws.cut.Goals as goal

pub returns-clause-past : goal.returns-clause-past
returns-clause-past c plant h other later sound e = past_cut plant sound h other later e

pub returns-clause-value : goal.returns-clause-value
returns-clause-value c plant h other later id sound e lt =
    value_by plant sound (later ++ h) (later ++ other) (past_cut plant sound h other later e) id lt

pub returns-clause-force : goal.returns-clause-force
returns-clause-force c plant h other later id sound e lt =
    force_by plant sound (later ++ h) (later ++ other) (past_cut plant sound h other later e) id lt

pub returns-clause-life : goal.returns-clause-life
returns-clause-life c plant h other later p sound e lt =
    life_by plant sound (later ++ h) (later ++ other) (past_cut plant sound h other later e) p lt

pub returns-clause-waits : goal.returns-clause-waits
returns-clause-waits c plant h other later task t sound e lt =
    waits_by plant sound (later ++ h) (later ++ other) (past_cut plant sound h other later e) task t lt

pub returns-clause-picked : goal.returns-clause-picked
returns-clause-picked c plant h other later t sound e =
    picked_by plant sound (later ++ h) (later ++ other) (past_cut plant sound h other later e) t

pub returns-clause-overruns : goal.returns-clause-overruns
returns-clause-overruns c plant h other later task sound e lt =
    overruns_by plant sound (later ++ h) (later ++ other) (past_cut plant sound h other later e) task lt

pub returns-clause-verdict : goal.returns-clause-verdict
returns-clause-verdict c plant h other later event t sound e =
    verdict_cut plant sound event t (later ++ h) (later ++ other) (past_cut plant sound h other later e)
