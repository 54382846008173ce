use Rattle.std.proofs.Common.{arith}
use Rattle.sfc_tables.proofs.Parts.{shown_next, appended_within}
use Rattle.sfc_tables.proofs.links.Links.build.Goals as goal

pub loop-transition-preserved : goal.loop-transition-preserved
loop-transition-preserved c =
    let steps = c.loop-transition.steps.items in
    let ranges = c.loop-transition.ranges.items in
    let t = c.transition-item.result in
    let within = c.loop-transition.invariant.within in
    rw (c.in_ok-push.ensures.items, c.in_ok-range.ensures.steps, c.in_ok-range.ensures.range) record {
      shown =
          shown_next steps ranges c.args.transitions.now c.loop-transition.transition-index t
          (omega arith) c.transition-item.is within c.loop-transition.invariant.shown;
      within = appended_within steps t.preceding t.following ranges within;
    }
