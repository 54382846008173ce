use Rattle.sfc_debug.proofs.Pasts.{past_next}
use Rattle.sfc_debug.proofs.laws.next_past.Goals as goal

pub returns : goal.returns
returns c plant table h other command raw sound same =
    past_next plant sound table h other command raw same (c.past_answers.ensures.hits plant table h other command raw sound same)
