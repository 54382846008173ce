use Rattle.std.proofs.Common.{◌≡◌, ◌∙◌, subst, ℤ, List, ℕ, w64, SFits, to_z, of_z, to_z-of_z, rules}
use Rattle.std.specs.Prelude.{IfOk}
use Rattle.sfc_events.specs.declared.command.Command.TheVariants.{Single}
use Rattle.sfc_output.specs.sfc_debug.Histories.{TimedCommand}
use Rattle.sfc_session.specs.declared.session.Session.{Session}
use Rattle.sfc_session.specs.Sessions.{IsTaken, last_instant, script_after, script_in, steered_in, words_of}
use Rattle.sfc_session.proofs.Given.{given_by}
use Rattle.sfc_session.proofs.step.single.Goals as goal

pub returns-clause-taken : goal.returns-clause-taken
returns-clause-taken c h lines said =
    let old : Session = c.args.session.now in
    let new : Session = c.command.new.self in
    let before : List ℕ = c.args.out.now.items in
    let behind : List ℕ = c.command.new.out.items in
    let fits : SFits w64 c.args.micros = search rules in
    let fits_at : SFits w64 c.instant.result = search rules in
    let micros : ℤ = to_z w64 (of_z w64 c.args.micros) in
    let at : ℤ = to_z w64 (of_z w64 c.instant.result) in
    let last : at ≡ last_instant h = to_z-of_z fits_at ∙ c.instant.ensures.said h lines said in
    let timed : TimedCommand = (Single c.args.task micros, at) in
    let words : List ℕ = words_of (steered_in old) (Single c.args.task micros) in
    let same : c.deref.result.now ≡ words = c.deref.ensures.value ∙ c.in_ok-words.ensures in
    subst (λ (m : ℤ). IfOk c.command.result (λ told. IsTaken old new before behind told h lines (Single c.args.task m, last_instant h)))
    (to_z-of_z fits)
    (subst (λ (r : ℤ). IfOk c.command.result (λ told. IsTaken old new before behind told h lines (Single c.args.task micros, r))) last
    (given_by old new before behind h lines timed words c.command.result c.command.ensures.steered
    (c.command.ensures.answer h lines said) (c.command.ensures.written h lines said) (c.command.ensures.said h lines said)
    (subst (λ (w : List ℕ). IfOk c.command.result (λ told. script_in new ≡ script_after told (script_in old) timed.1 w)) same
    c.command.ensures.script)))
