use Rattle.std.proofs.Common.{rules, ◌≡◌, ◌∙◌, sym, ap, subst, ℕ, ℤ, List, w64, SFits, to_z, of_z, to_z-of_z, take, length}
use Rattle.sfc_events.specs.declared.command.Command.TheVariants.{Scan}
use Rattle.sfc_output.specs.sfc_debug.Steered.{Steered}
use Rattle.sfc_output.specs.Output.{command_lines, debugger_of, text_of}
use Rattle.sfc_session.specs.Sessions.{steered_in}
use Rattle.sfc_session.specs.Trying.{IsTried}
use Rattle.sfc_session.proofs.Given.{tried_away, tried_in_turn}
use Rattle.sfc_session.proofs.Scans.{front}
use Rattle.sfc_session.proofs.scanning.try_scan.Goals as goal

pub returns-then-is_out_of_turn-clause-tried : goal.returns-then-is_out_of_turn-clause-tried
returns-then-is_out_of_turn-clause-tried c h lines said =
    let old = c.args.session.now in
    let st : Steered = steered_in old in
    let fits : SFits w64 c.args.raw = search rules in
    let at : ℤ = to_z w64 (of_z w64 c.args.raw) in
    let start : List ℕ = c.args.out.now.items in
    let taken = c.in_ok-answer.ensures.taken h lines said in
    let long : c.len-begin.result ≡ length start = search rules in
    let cut : c.truncate.new.self.items ≡ start =
    c.truncate.ensures.items ∙ ap (take c.len-begin.result) taken.written
    ∙ front c.len-begin.result start (command_lines (debugger_of st) (text_of st) h (Scan c.args.task, at)) long in
    subst (λ (raw : ℤ). IsTried old c.scan_then.new.session start c.truncate.new.self.items c.in_ok-answer.answer h lines
    (Scan c.args.task, raw)) (to_z-of_z fits)
    (tried_away old c.scan_then.new.session start c.scan_then.new.out.items c.truncate.new.self.items c.in_ok-answer.answer h lines
    (Scan c.args.task, at) (sym c.is_out_of_turn.ensures ∙ c.if-is_out_of_turn.true) cut taken)

pub returns-else-is_out_of_turn-clause-tried : goal.returns-else-is_out_of_turn-clause-tried
returns-else-is_out_of_turn-clause-tried c h lines said =
    let old = c.args.session.now in
    let fits : SFits w64 c.args.raw = search rules in
    let at : ℤ = to_z w64 (of_z w64 c.args.raw) in
    let start : List ℕ = c.args.out.now.items in
    subst (λ (raw : ℤ). IsTried old c.scan_then.new.session start c.scan_then.new.out.items c.in_ok-answer.answer h lines
    (Scan c.args.task, raw)) (to_z-of_z fits)
    (tried_in_turn old c.scan_then.new.session start c.scan_then.new.out.items c.in_ok-answer.answer h lines
    (Scan c.args.task, at) (sym c.is_out_of_turn.ensures ∙ c.if-is_out_of_turn.false) (c.in_ok-answer.ensures.taken h lines said))
