use Rattle.std.proofs.Common.{arith}
use Rattle.sfc_layout.proofs.DrawingLemmas.{more_drawn}
use Rattle.sfc_layout.proofs.finish.draw_links.Goals as goal

pub loop-number-preserved : goal.loop-number-preserved
loop-number-preserved c = record {
  len = omega (arith, c.in_ok-push.ensures.len, c.push.new.self.ok);
  drawn = more_drawn _ _ _ _ _ _ _ _ c.loop-number-test.true c.requires c.loop-number.invariant.len c.in_ok-push.ensures.items
      c.drawn.ensures c.loop-number.invariant.drawn;
}
