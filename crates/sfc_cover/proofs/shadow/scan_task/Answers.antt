use Rattle.std.proofs.Common.{◌≡◌, ◌∙◌, ◌<◌, add-one, ap, get_or, length, List, subst, sym}
use Rattle.sfc_plant.specs.declared.instance.Instance.{Instance}
use Rattle.sfc_cover.proofs.TaskScans.{follows_passed, follows_scanned}
use Rattle.sfc_cover.proofs.shadow.scan_task.Goals as goal
use Rattle.sfc_cover.proofs.shadow.scan_task.Goals.{then-all-k, else-all-k}

pub loop-k-preserved : goal.loop-k-preserved
loop-k-preserved c =
    let plant = c.args.plant.now in
    let task = c.args.task in
    let k = c.loop-k.k in
    let instance : Instance = c.index-all-k.result in
    let invariant = c.loop-k.invariant in
    let lt : k < length plant.instances =
    subst (λ (xs : List Instance). k < length xs) c.instances-all.ensures.value c.loop-k-test.true in
    let is : instance ≡ get_or plant.instances k instance =
    c.index-all-k.is ∙ ap (λ (xs : List Instance). get_or xs k instance) c.instances-all.ensures.value in
    let own = ap (λ (x : Instance). x.task.0) c.index-all-k.is in
    elim c.if-all-k.branch [
      | then-all-k w ↦
          let e : instance.task.0 ≡ task.0 = own ∙ w.if-all-k.true in
          rw (w.instances-is, w.watch-is, add-one) (record {
            sizes = w.scan_instance.ensures.sizes;
            watch = w.scan_instance.ensures.watch;
            follows = λ state h.
                follows_scanned plant task _ k instance lt is state c.loop-k.instances w.scan_instance.new.instances e
                w.scan_instance.ensures.agrees (invariant.follows state h);
          })
      | else-all-k w ↦
          let other = λ (e : instance.task.0 ≡ task.0). w.if-all-k.false (sym own ∙ e) in
          rw (w.instances-is, w.watch-is, add-one) (record {
            sizes = invariant.sizes;
            watch = invariant.watch;
            follows = λ state h. follows_passed plant task _ k instance lt is state c.loop-k.instances other (invariant.follows state h);
          })
    ]
