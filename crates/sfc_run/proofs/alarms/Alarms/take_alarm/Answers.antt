use Rattle.std.proofs.Common.{◌∙◌, ◌++◌, Bool, List, ℕ, ap, append_assoc}
use Rattle.sfc_replay.specs.sfc_output.Output.{debugger_of}
use Rattle.sfc_run.specs.Alarms.{is_urgent, lost_text, told_text}
use Rattle.sfc_run.specs.Following.{is_level, steered_in}
use Rattle.sfc_run.specs.Losses.{losses_after, told_with}
use Rattle.sfc_run.proofs.Showing.{on_ok}
use Rattle.sfc_run.proofs.alarms.Alarms.take_alarm.Goals as goal

pub returns-clause-told : goal.returns-clause-told
returns-clause-told c h agrees =
    let row = c.args.row in
    let old = c.args.self.now in
    let new = c.follow-lost.new.self in
    let followed = c.follow-lost.ensures.follows h agrees in
    let lost : ℕ → List ℕ = λ n. lost_text (told_with old.losses n row.t (is_urgent row)) in
    let told : Bool → List ℕ =
    λ due. told_text (is_level new) due (steered_in new) ((debugger_of (steered_in new)).state followed.0) row in
    on_ok c.append_alarm.result (λ e. (
      followed.0,
      lost c.follow-lost.result ++ told c.is_due-is_due.result,
      e ∙ ap (λ (t : List ℕ). t ++ told c.is_due-is_due.result) c.in_ok-append_losses.ensures.text
          ∙ append_assoc c.args.out.now.items (lost c.follow-lost.result) (told c.is_due-is_due.result),
      record {
        follows = followed.1;
        overruns = c.is_due-is_due.ensures.told;
        losses = c.in_ok-append_losses.ensures.losses
            ∙ ap (λ (n : ℕ). losses_after old.losses n row.t (is_urgent row)) c.follow-lost.ensures.lost;
        told = λ i. lost (c.follow-lost.ensures.lost i) ++ told (c.is_due-is_due.ensures.due i);
      },
    ))
    (c.append_alarm.ensures followed.0 followed.1.agrees)
