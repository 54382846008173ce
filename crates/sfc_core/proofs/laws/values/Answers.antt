use Rattle.sfc_instances.proofs.of_sfc_image.Happened.{release_shows}
use Rattle.sfc_core.specs.PlantState.{state_of}
use Rattle.sfc_core.proofs.Shown.{given_reads, hidden_reads, forced_reads, other_reads, force_elsewhere, release_elsewhere}
use Rattle.sfc_core.proofs.laws.values.Goals as goal

pub returns-clause-given : goal.returns-clause-given
unfolding state_of
returns-clause-given c plant h id v t e = given_reads plant (state_of plant h).changes id v e

pub returns-clause-hidden : goal.returns-clause-hidden
unfolding state_of
returns-clause-hidden c plant h id v forced t e = hidden_reads plant (state_of plant h).changes id v forced e

pub returns-clause-forced : goal.returns-clause-forced
unfolding state_of
returns-clause-forced c plant h id v t = forced_reads plant (state_of plant h).changes id v

pub returns-clause-released : goal.returns-clause-released
unfolding state_of
returns-clause-released c plant h id t = release_shows plant (state_of plant h).changes id

pub returns-clause-others : goal.returns-clause-others
unfolding state_of
returns-clause-others c plant h id other v t ne = other_reads plant (state_of plant h).changes id v other ne

pub returns-clause-force_others : goal.returns-clause-force_others
unfolding state_of
returns-clause-force_others c plant h id other v t ne = force_elsewhere plant (state_of plant h).changes id v other ne

pub returns-clause-release_others : goal.returns-clause-release_others
unfolding state_of
returns-clause-release_others c plant h id other t ne = release_elsewhere plant (state_of plant h).changes id other ne
