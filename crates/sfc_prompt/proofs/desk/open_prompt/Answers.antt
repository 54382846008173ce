use Rattle.std.proofs.Common.{◌≡◌, List, [], ℕ, Err, subst, sym, inl, inr}
use Rattle.std.proofs.lemmas.Result.{err_from_is_err_and}
use Rattle.sfc_asking.specs.sfc_debug.Steered.{Steered}
use Rattle.sfc_asking.specs.sfc_script.sfc_load.Accepted.{IsAccepted}
use Rattle.sfc_replay.specs.Acceptance.{Accepts}
use Rattle.sfc_session.specs.declared.session.Session.{Session}
use Rattle.sfc_session.specs.Sessions.{HasSaid, script_in, steered_in}
use Rattle.sfc_prompt.proofs.desk.open_prompt.Goals as goal

pub returns-in_err-text : goal.returns-in_err-text
returns-in_err-text g c =
    let p = err_from_is_err_and c.from_residual.result c.from_residual.ensures.1 in
    rw (p.1, p.2) (inl (c.in_err-text.ensures.faults, c.in_err-text.ensures.lost))

pub returns-in_err-debugger : goal.returns-in_err-debugger
returns-in_err-debugger g c =
    let p = err_from_is_err_and c.from_residual-in_err-debugger.result c.from_residual-in_err-debugger.ensures.1 in
    rw (p.1, p.2) (inr (
      c.in_ok-text.text.items,
      c.in_ok-text.ensures.taken,
      subst (λ (text : List ℕ). Accepts text (Err c.in_err-debugger.field-0.0)) c.deref.ensures.value c.in_err-debugger.ensures.refused,
    ))

pub returns : goal.returns
returns g c =
    let text : List ℕ = c.in_ok-text.text.items in
    let same = sym c.new-2.ensures.session in
    let loaded : IsAccepted text (steered_in c.new.result).plant =
    subst (λ (steered : Steered). IsAccepted text steered.plant) (sym c.new.ensures.steered)
    (rw c.deref.ensures.value at c.in_ok-debugger.ensures.loaded) in (
      text,
      c.in_ok-text.ensures.taken,
      record {
        loaded = subst (λ (s : Session). IsAccepted text (steered_in s).plant) same loaded;
        said = subst (λ (s : Session). HasSaid s [] []) same
            (c.new.ensures.said c.in_ok-debugger.ensures.untold c.in_ok-debugger.ensures.table);
        script = subst (λ (s : Session). script_in s ≡ []) same c.new.ensures.script;
        course = c.new-2.ensures.course;
        last = c.new-2.ensures.last;
      },
    )
