use Rattle.std.proofs.Common.{ℕ, ap, slice_get, ◌∙◌}
use Rattle.sfc_replay.specs.sfc_instance.Views.{tables_in}
use Rattle.sfc_svg.specs.Marking.{body_mark, is_executed}
use Rattle.sfc_svg.proofs.Ranges.{kept_more}
use Rattle.sfc_svg.proofs.marking.bodies_of.Goals as goal

pub loop-number-preserved : goal.loop-number-preserved
loop-number-preserved c changes state shows =
    let tables = tables_in c.args.view.now in
    let n = c.loop-number.number in
    kept_more (λ (a : ℕ). body_mark (is_executed tables state a) (slice_get tables.actions a)) n _ _ _
    (c.loop-number.invariant changes state shows)
    (c.body_of-body.ensures ∙ ap (λ executed. body_mark executed c.target_of.result) (c.is_executed.ensures changes state shows)
    ∙ ap (body_mark (is_executed tables state n)) c.target_of.ensures)
    c.in_ok-push_some.ensures
