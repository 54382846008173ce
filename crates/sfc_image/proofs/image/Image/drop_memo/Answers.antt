use Rattle.std.proofs.Common.{◌<◌, arith, length, refl}
use Rattle.sfc_image.specs.declared.output_memo.OutputMemo.{OutputMemo}
use Rattle.sfc_image.specs.Agreement.{ImageAgrees}
use Rattle.sfc_image.proofs.OutputMemos.{memo_dropped}
use Rattle.sfc_image.proofs.image.Image.drop_memo.Goals as goal

pub returns-clause-agrees : goal.returns-clause-agrees
unfolding ImageAgrees
returns-clause-agrees c plant changes h =
    let image = c.args.self.now in
    let p = c.args.instance in
    let lt : p.0 < length image.memos.items = omega (arith, c.requires, image.sized) in
    let made : OutputMemo = record { q = c.index_mut.result.now.q; generation = 0 } in
    record {
      slots = h.slots;
      memos = memo_dropped plant image.slots.items image.memos.items image.generation p made lt refl h.memos;
    }
