use Rattle.std.proofs.Common.{◌≡◌, List, [], ℕ, subst, sym}
use Rattle.std.proofs.lemmas.Result.{err_from_is_err_and}
use Rattle.sfc_replay.specs.sfc_debug.Steered.{Steered}
use Rattle.sfc_replay.specs.sfc_load.Accepted.{IsAccepted}
use Rattle.sfc_session.specs.declared.session.Session.{Session}
use Rattle.sfc_session.specs.Sessions.{HasSaid, script_in, steered_in}
use Rattle.sfc_tools.proofs.Untold.{untold}
use Rattle.sfc_tools.proofs.asking.open_prompt.Goals as goal

pub returns-in_err-debugger-clause-refused : goal.returns-in_err-debugger-clause-refused
returns-in_err-debugger-clause-refused c =
    let p = err_from_is_err_and c.from_residual.result c.from_residual.ensures.1 in
    rw (p.1, p.2) (untold c.args.chart.now c.in_err-debugger.field-0.0 c.in_err-debugger.ensures.refused)

pub returns-clause-opened : goal.returns-clause-opened
returns-clause-opened c =
    let text : List ℕ = c.args.chart.now in
    let same = sym c.new-2.ensures.session in
    let loaded : IsAccepted text (steered_in c.new.result).plant =
    subst (λ (steered : Steered). IsAccepted text steered.plant) (sym c.new.ensures.steered) c.in_ok-debugger.ensures.loaded in
    record {
      loaded = subst (λ (s : Session). IsAccepted text (steered_in s).plant) same loaded;
      said = subst (λ (s : Session). HasSaid s [] []) same
          (c.new.ensures.said c.in_ok-debugger.ensures.untold c.in_ok-debugger.ensures.table);
      script = subst (λ (s : Session). script_in s ≡ []) same c.new.ensures.script;
      course = c.new-2.ensures.course;
      last = c.new-2.ensures.last;
    }
