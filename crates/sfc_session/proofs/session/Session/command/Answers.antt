use Rattle.std.proofs.Common.{◌≡◌, ◌∙◌, sym, ap, subst}
use Rattle.sfc_output.specs.sfc_debug.declared.debugger.Debugger.{Debugger}
use Rattle.sfc_output.specs.sfc_debug.Agreement.{Agrees}
use Rattle.sfc_output.specs.sfc_debug.Steered.{steered_by}
use Rattle.sfc_output.specs.sfc_debug.Steered.{Steered}
use Rattle.sfc_output.specs.sfc_debug.Verdict.{history_by}
use Rattle.sfc_output.specs.Output.{Verdict, debugger_of}
use Rattle.sfc_session.specs.Sessions.{count_in, debugger_in, instant_in, rows_after, rows_in, steered_in}
use Rattle.sfc_session.proofs.Saying.{goes_on}
use Rattle.sfc_session.proofs.session.Session.command.Goals as goal

pub returns-clause-said : goal.returns-clause-said
unfolding debugger_in instant_in count_in rows_in
returns-clause-said c h lines said =
    let old = c.args.self.now in
    let new = c.keep_if.new.self in
    let debugger : debugger_in new ≡ c.obey-answer.new.self = c.in_ok-keep_if.ensures.debugger in
    let same : steered_in new ≡ steered_in old = ap steered_by debugger ∙ c.obey-answer.ensures.steered in
    let count : count_in new ≡ count_in old = c.in_ok-keep_if.ensures.count in
    let answer = c.obey-answer.ensures.answer h said.agrees in
    let agrees = subst (λ (d : Debugger). Agrees d ((debugger_of (steered_in old)).after h c.args.timed)) (sym debugger)
    (c.obey-answer.ensures.agrees h said.agrees) in
    let given : Verdict = c.obey-answer.result in
    let counts = subst (λ (v : Verdict). Agrees c.obey-answer.new.self (history_by v c.args.timed h)) (sym answer)
    (c.obey-answer.ensures.agrees h said.agrees) in
    let rows : rows_in new ≡ rows_after given (steered_in old) h c.args.timed (rows_in old) =
    c.in_ok-keep_if.ensures.rows h counts
    ∙ ap (λ (s : Steered). rows_after given s h c.args.timed (rows_in old)) c.obey-answer.ensures.steered in
    goes_on old new c.args.timed h lines said same count given answer agrees c.in_ok-keep_if.ensures.instant
    c.in_ok-keep_if.ensures.stays rows
