use Rattle.std.proofs.Common.{◌≡◌, ℕ, List, ◌++◌}
use Rattle.sfc_session.specs.declared.session.Session.{Session}
use Rattle.sfc_prompt.specs.Orders.{IsShown}
use Rattle.sfc_prompt.specs.Prompts.{session_in}
use Rattle.sfc_session.proofs.Given.{stays_same}
use Rattle.sfc_prompt.proofs.Telling.{on_ok}
use Rattle.sfc_prompt.proofs.prompt.Prompt.show.Goals as goal

pub returns-clause-shown : goal.returns-clause-shown
unfolding session_in
returns-clause-shown c h lines said =
    let old : Session = c.args.self.now.session in
    let before : List ℕ = c.args.out.now.items in
    let behind : List ℕ = c.append.new.out.items in
    let text : List ℕ = c.deref.result.now in
    on_ok c.append.result (behind ≡ before ++ text) (IsShown old old before behind h lines)
    (λ (is : behind ≡ before ++ text). (text, is, stays_same old h lines said)) c.append.ensures
