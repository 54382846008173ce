use Rattle.std.proofs.Common.{◌≡◌, ℕ, ◌<◌, length, subst}
use Rattle.sfc_flags.specs.Flags.{flag}
use Rattle.sfc_output.specs.sfc_instance.Answers.{is_transition_cleared}
use Rattle.sfc_output.specs.sfc_instance.Views.{tables_in}
use Rattle.sfc_output.specs.sfc_tables.Tables.{Tabled}
use Rattle.sfc_panel.proofs.Sets.{alike_where}
use Rattle.sfc_panel.proofs.alike.are_transitions_alike.Goals as goal

pub returns : goal.returns
returns c same earlier later old new shows told =
    alike_where c.cleared_flags.result.now c.cleared_flags-2.result.now (length (tables_in c.args.before.now).sides)
    (is_transition_cleared (tables_in c.args.before.now) old) (is_transition_cleared (tables_in c.args.before.now) new) c.is_same.result
    c.cleared_flags.ensures.len
    (subst (λ (t : Tabled). length c.cleared_flags-2.result.now ≡ length t.sides) same c.cleared_flags-2.ensures.len)
    (λ s lt. c.cleared_flags.ensures.each earlier old s lt shows)
    (subst (λ (t : Tabled). (s : ℕ) → s < length t.sides → flag c.cleared_flags-2.result.now s ≡ is_transition_cleared t new s) same
    (λ s lt. c.cleared_flags-2.ensures.each later new s lt told))
    c.is_same.ensures
