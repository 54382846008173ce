use Rattle.std.proofs.Common.{rules, ◌+◌, ◌<◌, arith, length, slice_set, sym, subst}
use Rattle.sfc_image.specs.declared.slot.Slot.{Slot}
use Rattle.sfc_image.specs.Private.Keeping.{AreBegun}
use Rattle.sfc_image.proofs.Tracked.{begun_more}
use Rattle.sfc_image.proofs.closing.begin_all.Goals as goal

pub loop-k-preserved : goal.loop-k-preserved
loop-k-preserved c =
    let first = c.args.first in
    let k = c.loop-k.k in
    let slots = c.loop-k.slots in
    let old = c.args.slots.now in
    let fits : first + k < length slots = omega (arith, c.requires) in
    record {
      begun =
          subst (λ (y : Slot). AreBegun first (k + 1) old (slice_set slots (first + k) y)) (sym c.begun.ensures)
          (begun_more first k old slots fits c.loop-k.invariant.begun);
      ticks = search rules;
    }
