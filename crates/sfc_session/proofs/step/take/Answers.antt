use Rattle.std.proofs.Common.{sym, subst, ℕ, ℤ, List, w64, SFits, to_z-of_z, rules}
use Rattle.std.specs.Prelude.{IfOk}
use Rattle.sfc_events.specs.declared.command.Command.TheVariants.{Single}
use Rattle.sfc_session.specs.declared.session.Session.{Session}
use Rattle.sfc_session.specs.declared.step.Step.{Step}
use Rattle.sfc_session.specs.Scanning.{step_after}
use Rattle.sfc_session.specs.Sessions.{IsTaken, last_instant, steered_in}
use Rattle.sfc_session.proofs.step.take.Goals as goal

pub returns-in-Single-clause-taken : goal.returns-in-Single-clause-taken
returns-in-Single-clause-taken c h lines said =
    let old : Session = c.args.session.now in
    let new : Session = c.single.new.session in
    let before : List ℕ = c.args.out.now.items in
    let behind : List ℕ = c.single.new.out.items in
    let fits : SFits w64 c.in-Single.micros = search rules in
    subst (λ (s : Step). IfOk c.single.result (λ told. IsTaken old new before behind told h lines (step_after (steered_in old) h s)))
    (sym c.in-Single.is)
    (subst (λ (m : ℤ). IfOk c.single.result (λ told. IsTaken old new before behind told h lines (Single c.in-Single.task m, last_instant h)))
    (to_z-of_z fits) (c.single.ensures.taken h lines said))
