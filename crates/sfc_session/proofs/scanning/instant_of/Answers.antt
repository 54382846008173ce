use Rattle.std.proofs.Common.{◌∙◌, sym, ap, ℤ, w64, SFits, to_z-of_z, rules}
use Rattle.sfc_output.specs.sfc_debug.Steered.{Steered}
use Rattle.sfc_output.specs.Output.{debugger_of}
use Rattle.sfc_session.specs.Scanning.{goes_on, raw_of}
use Rattle.sfc_session.specs.Sessions.{last_instant, steered_in}
use Rattle.sfc_session.proofs.scanning.instant_of.Goals as goal

pub returns-in-Some : goal.returns-in-Some
returns-in-Some c h lines said =
    let st : Steered = steered_in c.args.session.now in
    let run : ℤ = ((debugger_of st).state h).clock.instant in
    let fits : SFits w64 c.raw_of.result = search rules in
    let fits_next : SFits w64 c.in-Some.next = search rules in
    to_z-of_z fits ∙ c.raw_of.ensures h lines said ∙ ap (λ (n : ℤ). raw_of (last_instant h) run n) (to_z-of_z fits_next)
    ∙ ap (λ o. goes_on o (last_instant h) run) (sym c.in-Some.is)
