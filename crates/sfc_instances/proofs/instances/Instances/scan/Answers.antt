use Rattle.std.proofs.Common.{◌≡◌, ◌∙◌, ◌<◌, add-one, arith, ap, get_or, length, List, subst, sym}
use Rattle.sfc_plant.specs.declared.instance.Instance.{Instance}
use Rattle.sfc_instance.specs.declared.scan_end.ScanEnd.TheVariants.{Ran, Faulted, Skipped}
use Rattle.sfc_instances.proofs.TaskScans.{follows_passed, follows_scanned, bits_below, bits_still, work_scanned, work_passed}
use Rattle.sfc_instances.proofs.instances.Instances.scan.Goals as goal
use Rattle.sfc_instances.proofs.instances.Instances.scan.Goals.{then-instances-k, else-instances-k}

pub loop-k-preserved : goal.loop-k-preserved
loop-k-preserved c =
    let plant = c.args.plant.now in
    let task = c.args.task in
    let k = c.loop-k.k in
    let instance : Instance = c.index-instances-k.result in
    let invariant = c.loop-k.invariant in
    let lt : k < length plant.instances =
    subst (λ (xs : List Instance). k < length xs) c.instances-instances.ensures.value c.loop-k-test.true in
    let is : instance ≡ get_or plant.instances k instance =
    c.index-instances-k.is ∙ ap (λ (xs : List Instance). get_or xs k instance) c.instances-instances.ensures.value in
    let own = ap (λ (x : Instance). x.task.0) c.index-instances-k.is in
    elim c.if-instances-k.branch [
      | then-instances-k w ↦
          let e : instance.task.0 ≡ task.0 = own ∙ w.if-instances-k.true in
          let scan_end = w.scan_program-scan_end.result in
          let bits = w.add.new.self in
          rw (w.self-is, w.ticks-is, w.bits-is, add-one) (record {
            sizes = w.scan_program-scan_end.ensures.sizes;
            ran = bits_below k Ran scan_end c.loop-k.bits.ran.bits bits.ran.bits invariant.ran w.add.ensures.ran;
            faulted = bits_below k Faulted scan_end c.loop-k.bits.faulted.bits bits.faulted.bits invariant.faulted w.add.ensures.faulted;
            skipped = bits_below k Skipped scan_end c.loop-k.bits.skipped.bits bits.skipped.bits invariant.skipped w.add.ensures.skipped;
            low = omega (arith, invariant.low, w.scan_program-scan_end.ensures.ticks.0);
            high =
                work_scanned plant task k instance lt is _ c.loop-k.ticks.count w.scan_program-scan_end.new.ticks.count e
                w.scan_program-scan_end.ensures.ticks.1 invariant.high;
            follows = λ state h.
                follows_scanned plant task _ k instance lt is state c.loop-k.self w.scan_program-scan_end.new.self c.loop-k.bits bits
                scan_end e w.scan_program-scan_end.ensures.scan_end w.scan_program-scan_end.ensures.agrees w.add.ensures.ran
                w.add.ensures.faulted w.add.ensures.skipped (invariant.follows state h);
          })
      | else-instances-k w ↦
          let other = λ (e : instance.task.0 ≡ task.0). w.if-instances-k.false (sym own ∙ e) in
          rw (w.self-is, w.ticks-is, w.bits-is, add-one) (record {
            sizes = invariant.sizes;
            ran = bits_still k c.loop-k.bits.ran.bits invariant.ran;
            faulted = bits_still k c.loop-k.bits.faulted.bits invariant.faulted;
            skipped = bits_still k c.loop-k.bits.skipped.bits invariant.skipped;
            low = invariant.low;
            high = work_passed plant task k instance lt is _ c.loop-k.ticks.count invariant.high;
            follows = λ state h.
                follows_passed plant task _ k instance lt is state c.loop-k.self c.loop-k.bits other (invariant.follows state h);
          })
    ]
