use Rattle.std.proofs.Common.{◌≡◌, ◌∙◌, sym, ap, subst, ℕ, ℤ, List, Option, Some, None, w64, SFits, to_z, of_z, to_z-of_z, rules}
use Rattle.std.specs.Prelude.{OnOk, unwrap_or}
use Rattle.sfc_base.specs.declared.ids.TaskId.{TaskId}
use Rattle.sfc_asking.specs.sfc_debug.Histories.{TimedCommand}
use Rattle.sfc_session.specs.declared.session.Session.{Session}
use Rattle.sfc_asking.specs.sfc_output.Output.{Verdict}
use Rattle.sfc_prompt.specs.Orders.{Hints, Obeys, Order, command_order, is_stopped}
use Rattle.sfc_session.specs.Sessions.{last_instant, steered_in}
use Rattle.sfc_session.proofs.Given.{given_at}
use Rattle.sfc_prompt.proofs.Telling.{on_ok}
use Rattle.sfc_prompt.proofs.spoken.give.Goals as goal

pub returns-in_ok-answer-in-Some : goal.returns-in_ok-answer-in-Some
returns-in_ok-answer-in-Some c h lines said =
    let old : Session = c.args.session.now in
    let new : Session = c.scan.new.session in
    let x : List ℕ = c.args.out.now.items in
    let y : List ℕ = c.scan.new.out.items in
    let z : List ℕ = c.append_hint.new.out.items in
    let v : Verdict = c.in_ok-answer-in-Some.answer in
    let order : Option TaskId → Order =
    λ o. command_order (steered_in old) h c.args.spoken.instant c.args.spoken.text.now c.args.command o in
    subst (λ (o : Option TaskId). OnOk c.append_hint.result (Obeys old new x z h lines (order o)))
    (sym c.in-Some.is ∙ c.free_scan.ensures)
    (on_ok c.append_hint.result (Hints (is_stopped v) y z) (Obeys old new x z h lines (order (Some c.in-Some.task)))
    (λ hints. (v, y, c.in_ok-answer-in-Some.ensures.taken h lines said, hints)) c.append_hint.ensures)

pub returns-in_ok-answer-in-None : goal.returns-in_ok-answer-in-None
returns-in_ok-answer-in-None c h lines said =
    let old : Session = c.args.session.now in
    let new : Session = c.command.new.self in
    let x : List ℕ = c.args.out.now.items in
    let y : List ℕ = c.command.new.out.items in
    let z : List ℕ = c.append_hint-in-None.new.out.items in
    let fits : SFits w64 c.instant_or_last-raw.result = search rules in
    let raw : ℤ = to_z w64 (of_z w64 c.instant_or_last-raw.result) in
    let at : ℤ = unwrap_or c.args.spoken.instant (last_instant h) in
    let same : raw ≡ at = to_z-of_z fits ∙ c.instant_or_last-raw.ensures h lines said in
    let timed : TimedCommand = (c.args.command, raw) in
    let done = c.in_ok-answer-in-None in
    let v : Verdict = done.answer in
    let order : Option TaskId → Order =
    λ o. command_order (steered_in old) h c.args.spoken.instant c.args.spoken.text.now c.args.command o in
    subst (λ (o : Option TaskId). OnOk c.append_hint-in-None.result (Obeys old new x z h lines (order o)))
    (sym c.in-None.is ∙ c.free_scan.ensures)
    (on_ok c.append_hint-in-None.result (Hints (is_stopped v) y z) (Obeys old new x z h lines (order None))
    (λ hints. (
      v,
      y,
      given_at old new x y h lines timed c.args.spoken.text.now v (c.args.command, at)
          (ap (λ (r : ℤ). (c.args.command, r)) same) c.command.ensures.steered
          (done.ensures.answer h lines said) (done.ensures.written h lines said) (done.ensures.said h lines said) done.ensures.script,
      hints,
    )) c.append_hint-in-None.ensures)
