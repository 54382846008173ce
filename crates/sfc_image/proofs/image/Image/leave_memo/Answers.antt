use Rattle.std.proofs.Common.{◌<◌, ◌∙◌, ap, arith, length, subst, sym}
use Rattle.sfc_flags.specs.Flags.{flag}
use Rattle.sfc_image.specs.declared.output_memo.OutputMemo.{OutputMemo}
use Rattle.sfc_image.specs.Private.OutputMemos.{HasQ}
use Rattle.sfc_image.specs.Agreement.{ImageAgrees}
use Rattle.sfc_image.proofs.OutputMemos.{memo_read, memo_set}
use Rattle.sfc_image.proofs.image.Image.leave_memo.Goals as goal

pub returns-then-count-clause-agrees : goal.returns-then-count-clause-agrees
unfolding ImageAgrees
returns-then-count-clause-agrees c plant changes h all =
    let image = c.args.self.now in
    let p = c.args.instance in
    let lt : p.0 < length image.memos.items = omega (arith, c.requires, image.sized) in
    let read = memo_read image.memos.items p.0 c.index_mut-memo.result.now lt c.index_mut-memo.ensures.value in
    let long = ap (λ (g : OutputMemo). length g.q) (sym read) ∙ sym c.count.ensures ∙ c.if-count.true ∙ c.count-then-generation-lt18446744073709551615.ensures in
    let made : OutputMemo = record { q = c.index_mut-memo.result.now.q; generation = image.generation } in
    record {
      slots = h.slots;
      memos =
          memo_set plant image.slots.items image.memos.items image.generation p made lt (omega arith) (omega (arith, c.if-generation-lt18446744073709551615.true))
          (λ now a.
          subst (λ (g : OutputMemo). HasQ plant p image.slots.items a (flag g.q a)) (sym read) (all long a)) h.memos;
    }
