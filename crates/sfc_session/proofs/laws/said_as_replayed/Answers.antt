use Rattle.std.proofs.Common.{◌∙◌, sym}
use Rattle.sfc_session.specs.Sessions.{steered_in}
use Rattle.sfc_session.proofs.Saying.{replayed, written}
use Rattle.sfc_session.proofs.laws.said_as_replayed.Goals as goal

pub returns-clause-lines : goal.returns-clause-lines
returns-clause-lines c session h lines said = said.text ∙ sym (written (steered_in session) h said.accepted)

pub returns-clause-accepted : goal.returns-clause-accepted
returns-clause-accepted c session h lines said = replayed (steered_in session) h said.accepted
