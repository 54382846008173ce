use Rattle.std.proofs.Common.{arith, ap, length, ◌∙◌}
use Rattle.std.proofs.lemmas.List.{length-set}
use Rattle.sfc_evolve.proofs.Tested.{set_more}
use Rattle.sfc_evolve.proofs.proposing.set_places.Goals as goal

pub loop-place-preserved : goal.loop-place-preserved
loop-place-preserved c =
    let was = c.loop-place.invariant in
    record {
      rest = set_more c.args.places.now c.loop-place.place-index c.loop-place.flags c.set.new.self _ c.loop-place-test.true
          c.set.ensures was.rest;
      len = ap length c.set.ensures ∙ length-set _ _ _ ∙ was.len;
      ticks = (omega (arith, was.ticks.0), omega (arith, was.ticks.1));
    }
