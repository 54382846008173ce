use Rattle.std.proofs.Common.{ℕ}
use Rattle.sfc_cover.specs.Unreached.{unnoted, wanted_marks}
use Rattle.sfc_cover.proofs.Ranges.{told_more}
use Rattle.sfc_cover.proofs.drawing.all_marks.Goals as goal

pub loop-number-preserved : goal.loop-number-preserved
loop-number-preserved c =
    told_more unnoted (λ (n : ℕ). wanted_marks c.args.plant.now c.args.reaches.now c.args.wanted (record { 0 = n })) c.loop-number.number _ _ _
    c.loop-number.invariant c.in_ok-more.ensures c.in_ok-push_marked.ensures
