use Rattle.std.proofs.Common.{sym, subst}
use Rattle.sfc_prompt.specs.Lines.{Said, as_said}
use Rattle.sfc_prompt.specs.Orders.{order_of}
use Rattle.sfc_prompt.specs.Prompts.{session_in}
use Rattle.sfc_session.specs.Sessions.{steered_in}
use Rattle.sfc_prompt.proofs.Ordering.{order_says}
use Rattle.sfc_prompt.proofs.Telling.{goes_obeyed}
use Rattle.sfc_prompt.proofs.Texts.{HasLine, has_line}
use Rattle.sfc_prompt.proofs.prompt.Prompt.obey.Goals as goal

pub returns-clause-puts : goal.returns-clause-puts
returns-clause-puts g c h lines said =
    let line : HasLine (as_said c.read_line-said.result) =
    subst (λ (s : Said). HasLine s) (sym c.read_line-said.ensures) (has_line c.args.line.now) in
    goes_obeyed (session_in c.args.self.now) (session_in c.obey_line.new.self) c.args.out.now.items c.obey_line.new.out.items h lines
    (order_of (steered_in (session_in c.args.self.now)) h (as_said c.read_line-said.result))
    (order_says (steered_in (session_in c.args.self.now)) h said.accepted (as_said c.read_line-said.result) line) (c.in_ok-obey_line.ensures.obeys h lines said)
