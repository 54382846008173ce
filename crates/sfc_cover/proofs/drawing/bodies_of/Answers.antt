use Rattle.std.proofs.Common.{ℕ, ap, slice_get, ◌∙◌}
use Rattle.sfc_cover.specs.Unreached.{action_mark, body_mark}
use Rattle.sfc_cover.proofs.Ranges.{kept_more}
use Rattle.sfc_cover.proofs.drawing.bodies_of.Goals as goal

pub loop-number-preserved : goal.loop-number-preserved
loop-number-preserved c =
    let tables = c.args.tables.now in
    let reach = c.args.reach.now in
    let n = c.loop-number.number in
    kept_more (λ (a : ℕ). body_mark (action_mark reach a) (slice_get tables.actions a)) n _ _ _ c.loop-number.invariant
    (c.body_mark-body.ensures ∙ ap (λ mark. body_mark mark c.target_of.result) c.action_mark.ensures
    ∙ ap (body_mark (action_mark reach n)) c.target_of.ensures)
    c.in_ok-push_body.ensures
