use Rattle.std.proofs.Common.{◌≡◌, ◌∙◌, subst, ℤ, List, ℕ, w64, SFits, to_z, of_z, to_z-of_z, rules}
use Rattle.std.specs.Prelude.{IfOk}
use Rattle.sfc_events.specs.declared.command.Command.TheVariants.{Scan}
use Rattle.sfc_output.specs.sfc_debug.Histories.{TimedCommand}
use Rattle.sfc_session.specs.Sessions.{IsTaken, script_after, script_in, steered_in, words_of}
use Rattle.sfc_session.proofs.Given.{given_by}
use Rattle.sfc_session.proofs.scanning.scan_then.Goals as goal

pub returns-clause-taken : goal.returns-clause-taken
returns-clause-taken c h lines said =
    let old = c.args.session.now in
    let new = c.command.new.self in
    let fits : SFits w64 c.args.raw = search rules in
    let timed : TimedCommand = (Scan c.args.task, to_z w64 (of_z w64 c.args.raw)) in
    let words : List ℕ = words_of (steered_in old) (Scan c.args.task) in
    let same : c.deref.result.now ≡ words = c.deref.ensures.value ∙ c.in_ok-words.ensures in
    subst (λ (raw : ℤ). IfOk c.command.result (λ told. IsTaken old new c.args.out.now.items c.command.new.out.items told h lines
    (Scan c.args.task, raw))) (to_z-of_z fits)
    (given_by old new c.args.out.now.items c.command.new.out.items h lines timed words c.command.result c.command.ensures.steered
    (c.command.ensures.answer h lines said) (c.command.ensures.written h lines said) (c.command.ensures.said h lines said)
    (subst (λ (w : List ℕ). IfOk c.command.result (λ told. script_in new ≡ script_after told (script_in old) timed.1 w)) same
    c.command.ensures.script))
