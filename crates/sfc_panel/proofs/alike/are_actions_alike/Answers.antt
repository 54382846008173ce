use Rattle.std.proofs.Common.{◌≡◌, ℕ, ◌<◌, length, subst}
use Rattle.sfc_flags.specs.Flags.{flag}
use Rattle.sfc_output.specs.sfc_instance.Answers.{is_action_executed}
use Rattle.sfc_output.specs.sfc_instance.Views.{tables_in}
use Rattle.sfc_output.specs.sfc_tables.Tables.{Tabled}
use Rattle.sfc_panel.proofs.Sets.{alike_where}
use Rattle.sfc_panel.proofs.alike.are_actions_alike.Goals as goal

pub returns : goal.returns
returns c same earlier later old new shows told =
    alike_where c.executed_flags.result.now c.executed_flags-2.result.now (length (tables_in c.args.before.now).actions)
    (is_action_executed (tables_in c.args.before.now) old) (is_action_executed (tables_in c.args.before.now) new) c.is_same.result
    c.executed_flags.ensures.len
    (subst (λ (t : Tabled). length c.executed_flags-2.result.now ≡ length t.actions) same c.executed_flags-2.ensures.len)
    (λ s lt. c.executed_flags.ensures.each earlier old s lt shows)
    (subst (λ (t : Tabled). (s : ℕ) → s < length t.actions → flag c.executed_flags-2.result.now s ≡ is_action_executed t new s) same
    (λ s lt. c.executed_flags-2.ensures.each later new s lt told))
    c.is_same.ensures
