use Rattle.std.proofs.Common.{◌∙◌, ap, Bool, List, length}
use Rattle.sfc_flags.specs.Flags.{flag}
use Rattle.sfc_panel.proofs.picture.shot_of.Goals as goal

pub returns : goal.returns
returns c changes state shows =
    let active = c.in_ok-active.ensures in
    let cleared = c.in_ok-cleared.ensures in
    let executed = c.in_ok-executed.ensures in
    record {
      steps = ap length active ∙ c.active_flags.ensures.len;
      active = λ s lt. ap (λ (fs : List Bool). flag fs s) active ∙ c.active_flags.ensures.each changes state s lt shows;
      transitions = ap length cleared ∙ c.cleared_flags.ensures.len;
      cleared = λ tr lt. ap (λ (fs : List Bool). flag fs tr) cleared ∙ c.cleared_flags.ensures.each changes state tr lt shows;
      actions = ap length executed ∙ c.executed_flags.ensures.len;
      executed = λ a lt. ap (λ (fs : List Bool). flag fs a) executed ∙ c.executed_flags.ensures.each changes state a lt shows;
    }
