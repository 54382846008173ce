use Rattle.std.proofs.Common.{◌≡◌, ◌∙◌, ◌++◌, List, ℕ, ap, append_assoc}
use Rattle.sfc_events.specs.declared.command.Answer.{Answer}
use Rattle.sfc_control.specs.sfc_debug.Steered.{steered_by}
use Rattle.sfc_run.specs.Losses.{known_text}
use Rattle.sfc_run.specs.Screens.{changes_text, of_each}
use Rattle.sfc_run.proofs.Showing.{on_ok}
use Rattle.sfc_run.proofs.screen.append_again.Goals as goal

pub returns-clause-shown : goal.returns-clause-shown
returns-clause-shown c h behind alike one two =
    let panel = c.args.panel.now in
    let st = steered_by c.args.between.1.now in
    let text : Answer → List ℕ = λ answer. changes_text panel st h behind answer in
    let changed : c.deref.result.now ≡ text of_each =
    c.deref.ensures.value ∙ c.in_ok-append_changed.ensures h behind alike one two
    ∙ ap (λ (t : List ℕ). t ++ text c.of_each.result) c.new-shown.ensures.items ∙ ap text c.of_each.ensures in
    on_ok c.append.result
    (λ e. e ∙ (λ i. c.in_ok-append_known.ensures i ++ changed i) ∙ append_assoc c.args.out.now.items (known_text c.args.count) (text of_each))
    c.append.ensures
